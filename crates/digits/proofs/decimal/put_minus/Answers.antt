-- `put_minus` stores the minus and writes the digits where both were counted to fit, and nothing where not.
use mathlib.Core.Path.{sym, ◌∙◌}
use Prim.Native.Nat.{◌+◌, ◌≤◌}
use native.Mathlib.Omega.{arith}
use borrow.Author.Tests.{leb-true}
use lib.ListN.{length, length-set}
use Rattle.digits.specs.Digits.{minus}
use Rattle.digits.specs.DigitsLaws.{length_minus, decimal_counted}
use Rattle.digits.specs.PutLaws.{put_fits, put_unfit, written_cons, written_length}
use Rattle.digits.proofs.decimal.put_minus.Goals as goal
use Rattle.digits.proofs.decimal.put_minus.Lts as lts
use Rattle.digits.proofs.decimal.put_minus.Reads as reads
use Rattle.digits.proofs.decimal.put_minus.Tie as tie

-- the room of a minus and the digits
room : (c : lts.Then1 tie.the-claims reads.Pre reads.Post tie.handed_clauses) → c.args.at + (1 + c.decimal_length-places.result) ≤ length c.args.out.now
room c = leb-true _ _ (sym c.fits.ensures ∙ c.if-fits.true)

pub bounds-out-at : goal.bounds-out-at
bounds-out-at c = omega (arith, room c)

pub overflow_add-at : goal.overflow_add-at
overflow_add-at c = omega (arith, room c.before)

pub write_digits-requires : goal.write_digits-requires
write_digits-requires c = rw length-set (omega (arith, room c.before))

pub shape_of-out-then-fits : goal.shape_of-out-then-fits
shape_of-out-then-fits c = written_length c.write_digits.ensures ∙ simp length-set

pub returns-then-fits : goal.returns-then-fits
unfolding minus
returns-then-fits c =
    let d = c.decimal_length-places.ensures.value in
    let a = c.args in
    let both = put_fits (1 + c.decimal_length-places.result) (omega (arith, d, length_minus a.n))
    (written_cons _ _ 45 (rw (decimal_counted _ a.n d) at c.write_digits.ensures))
    (sym c.fits.ensures ∙ c.if-fits.true) in record { value = both.0; out_after = both.1 }

pub returns : goal.returns
returns c =
    let d = c.decimal_length-places.ensures.value in
    let both = put_unfit _ _ _ (1 + c.decimal_length-places.result) (omega (arith, d, length_minus c.args.n))
    (sym c.fits.ensures ∙ c.if-fits.false) in record { value = both.0; out_after = both.1 }
