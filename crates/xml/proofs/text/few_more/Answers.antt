-- `few_more` adds up what each byte takes more. Four times 32 fits a byte.
use Rattle.std.proofs.Common.{ℕ, List, ◌≡◌, ◌+◌, ◌<◌, length, get_or, drop, arith, drop_of_length-le}
use Rattle.utf.specs.Left.{left_at}
use Rattle.xml.specs.Text.{more_for, more_in}
use Rattle.xml.specs.TextLaws.{more_most}
use Rattle.xml.proofs.text.few_more.Goals as goal

-- the byte at a place, and what is left after it
at_byte : (s : List ℕ) (i : ℕ) → i < length s → more_in (drop i s) ≡ more_for (get_or s i 0) + more_in (drop (i + 1) s)
unfolding more_in
at_byte s i h = rw (left_at s i h)

pub overflow_add-more : goal.overflow_add-more
overflow_add-more c =
    let s = c.args.part.now in
    omega (arith, c.more_for-more.ensures, at_byte s c.loop-b.b-index (omega arith), more_most s, c.requires)

pub loop-b-preserved : goal.loop-b-preserved
loop-b-preserved c =
    let s = c.args.part.now in
    omega (arith, c.more_for-more.ensures, at_byte s c.loop-b.b-index (omega arith))

pub returns : goal.returns
unfolding more_in
returns c =
    let s = c.args.part.now in
    let e : c.loop-b.more + 0 ≡ more_in s = rw (drop_of_length-le s {i = c.loop-b.b-index} (omega arith)) at c.loop-b.invariant in
    omega arith
