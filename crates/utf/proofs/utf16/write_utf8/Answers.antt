-- `write_utf8` writes the whole text: what is written, with what is left behind it, is the text at every turn.
use Rattle.std.proofs.Common.{◌≡◌, ◌++◌, [], ◌∷◌, ◌<◌, List, ℕ, arith}
use Rattle.utf.specs.Unicode.{utf8, is_utf16, scalars16, units_of, to_utf8}
use Rattle.utf.specs.Utf16At.{NextScalar}
use Rattle.utf.specs.ScalarLaws.{scalar_lt, utf8_one}
use Rattle.utf.proofs.Writing.{writing_room, writing_more, writing_done}
use Rattle.utf.proofs.utf16.write_utf8.Goals as goal

-- an ASCII value in front of the rest is one byte
ascii : (rest behind : List ℕ) (v : ℕ) → NextScalar rest v behind → v < 0x80 → to_utf8 rest ≡ (v ∷ []) ++ to_utf8 behind
ascii rest behind v n h = rw (utf8_one v h) at n.bytes

pub bounds-out-at : goal.bounds-out-at
bounds-out-at c = omega (arith, writing_room is_utf16 to_utf8 _ _ _ _ _ c.loop-value.invariant (c.in-Some.value ∷ []) c.in-Some.behind.now (ascii _ _ _ c.in-Some.ensures c.if-value-lt128.true))

pub put_scalar-at-requires : goal.put_scalar-at-requires
put_scalar-at-requires c =
    let n = c.in-Some.ensures in
    (writing_room is_utf16 to_utf8 _ _ _ _ _ c.loop-value.invariant _ _ n.bytes, scalar_lt _ n.scalar)

pub loop-value-preserved-then-value-lt128 : goal.loop-value-preserved-then-value-lt128
loop-value-preserved-then-value-lt128 c =
    let n = c.in-Some.ensures in
    writing_more is_utf16 to_utf8 _ _ _ _ _ c.loop-value.invariant (c.in-Some.value ∷ []) _ (ascii _ _ _ n c.if-value-lt128.true) n.good

pub loop-value-preserved : goal.loop-value-preserved
loop-value-preserved c =
    let n = c.in-Some.ensures in
    let e = c.put_scalar-at.ensures in
    rw (e.value, e.out_after) (writing_more is_utf16 to_utf8 _ _ _ _ _ c.loop-value.invariant _ _ n.bytes n.good)

pub returns : goal.returns
unfolding to_utf8 utf8 scalars16 units_of
returns c = (writing_done is_utf16 to_utf8 _ _ _ _ _ c.loop-value.invariant (rw c.in_default.ensures)).1
