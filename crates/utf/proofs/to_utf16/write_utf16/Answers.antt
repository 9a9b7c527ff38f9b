-- `write_utf16` writes the whole text: what is written, with what is left behind it, is the text at every turn.
use Rattle.std.proofs.Common.{List, ℕ, true, refl}
use Rattle.utf.specs.Unicode.{to_utf16}
use Rattle.utf.specs.ToUtf16Walk.{text_next, text_none}
use Rattle.utf.proofs.Writing.{writing_room, writing_more, writing_done}
use Rattle.utf.proofs.to_utf16.write_utf16.Goals as goal

pub put_units-at-requires : goal.put_units-at-requires
put_units-at-requires c =
    let n = c.in-Some.ensures in
    (writing_room (λ (s : List ℕ). true) to_utf16 _ _ _ _ _ c.loop-value.invariant _ _ (text_next _ _ _ n.value), n.small)

pub loop-value-preserved : goal.loop-value-preserved
loop-value-preserved c =
    let e = c.put_units-at.ensures in
    rw (e.value, e.out_after) (writing_more (λ (s : List ℕ). true) to_utf16 _ _ _ _ _ c.loop-value.invariant _ _ (text_next _ _ _ c.in-Some.ensures.value) refl)

pub returns-clause-value : goal.returns-clause-value
returns-clause-value c = (writing_done (λ (s : List ℕ). true) to_utf16 _ _ _ _ _ c.loop-value.invariant (text_none _ c.in_default.ensures)).0

pub returns-clause-out_after : goal.returns-clause-out_after
returns-clause-out_after c = (writing_done (λ (s : List ℕ). true) to_utf16 _ _ _ _ _ c.loop-value.invariant (text_none _ c.in_default.ensures)).1
