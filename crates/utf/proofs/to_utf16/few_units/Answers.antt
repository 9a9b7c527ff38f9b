-- `few_units` adds up what each byte tells: what is counted and what is left make the whole. Twice 64 fits a byte.
use Rattle.std.proofs.Common.{◌≡◌, ◌+◌, ◌<◌, ℕ, List, arith, length, get_or, drop, drop_of_length-le}
use Rattle.utf.specs.ToUtf16.{units_from, units_in}
use Rattle.utf.specs.ToUtf16Walk.{units_le}
use Rattle.utf.specs.Left.{left_at}
use Rattle.utf.proofs.to_utf16.few_units.Goals as goal

-- the byte at i, and what is left after it
at_byte : (s : List ℕ) (i : ℕ) → i < length s → units_in (drop i s) ≡ units_from (get_or s i 0) + units_in (drop (i + 1) s)
unfolding units_in
at_byte s i h = rw (left_at s i h)

pub overflow_add-count : goal.overflow_add-count
overflow_add-count c =
    let s = c.args.part.now in
    omega (arith, c.units_from-count.ensures, at_byte s c.loop-byte.byte-index c.loop-byte-test.true, units_le s)

pub loop-byte-preserved : goal.loop-byte-preserved
loop-byte-preserved c = omega (arith, c.units_from-count.ensures, at_byte c.args.part.now c.loop-byte.byte-index c.loop-byte-test.true)

pub returns : goal.returns
unfolding units_in
returns c =
    let e = rw (drop_of_length-le c.args.part.now c.loop-byte-test.false) at c.loop-byte.invariant in
    omega (arith, e)
