-- `write_numeral` writes a space, then the number or the day and time.
use mathlib.Core.Path.{sym, ap, ◌∙◌}
use native.Mathlib.Omega.{arith}
use lib.ListN.{length, length-set}
use Rattle.digits.specs.PutLaws.{written_nil, length_put}
use Rattle.digits.specs.StampLaws.{length_stamp}
use Rattle.std.specs.Prelude.{Some}
use mathlib.Core.Path.{◌≡◌}
use borrow.Author.Rules.{rules}
use Rattle.line.specs.declared.piece.Numeral.TheVariants.{Number, Integer as Signed, Stamp}
use Rattle.line.specs.Line.{spaced}
use Rattle.line.specs.Piece.{numeral_of}
use Rattle.line.proofs.Spaced.{spaced_written}
use Rattle.line.proofs.piece.write_numeral.Goals as goal

pub bounds-out-at : goal.bounds-out-at
unfolding numeral_of spaced
bounds-out-at c =
    let e : c.args.number ≡ Some (Number c.in-Some-Number.n) = search rules in
    omega (arith, rw e at c.requires)

pub bounds-out-at-in-Some-Integer : goal.bounds-out-at-in-Some-Integer
unfolding numeral_of spaced
bounds-out-at-in-Some-Integer c =
    let e : c.args.number ≡ Some (Signed c.in-Some-Integer.integer) = search rules in
    omega (arith, rw e at c.requires)

pub bounds-out-at-in-Some-Stamp : goal.bounds-out-at-in-Some-Stamp
unfolding numeral_of spaced
bounds-out-at-in-Some-Stamp c =
    let e : c.args.number ≡ Some (Stamp c.in-Some-Stamp.time) = search rules in
    omega (arith, rw e at c.requires)

pub returns-in-None : goal.returns-in-None
unfolding numeral_of
returns-in-None c = rw c.in-None.is (written_nil _ _)

pub shape_of-out-in-Some-Number : goal.shape_of-out-in-Some-Number
shape_of-out-in-Some-Number c = ap length c.put_decimal.ensures.out_after ∙ length_put _ _ _ ∙ simp length-set

pub returns-in-Some-Number : goal.returns-in-Some-Number
unfolding numeral_of
returns-in-Some-Number c =
    let e : c.args.number ≡ Some (Number c.in-Some-Number.n) = search rules in
    rw e
    (spaced_written _ _ _ _ _ (rw e at c.requires)
    c.put_decimal.ensures.out_after c.decimal_length.ensures.value)

pub shape_of-out-in-Some-Integer : goal.shape_of-out-in-Some-Integer
shape_of-out-in-Some-Integer c = ap length c.put_signed.ensures.out_after ∙ length_put _ _ _ ∙ simp length-set

pub returns-in-Some-Integer : goal.returns-in-Some-Integer
unfolding numeral_of
returns-in-Some-Integer c =
    let e : c.args.number ≡ Some (Signed c.in-Some-Integer.integer) = search rules in
    rw e
    (spaced_written _ _ _ _ _ (rw e at c.requires)
    c.put_signed.ensures.out_after c.signed_length.ensures.value)

pub shape_of-out-in-Some-Stamp : goal.shape_of-out-in-Some-Stamp
shape_of-out-in-Some-Stamp c = ap length c.put_stamp.ensures.out_after ∙ length_put _ _ _ ∙ simp length-set

pub returns-in-Some-Stamp : goal.returns-in-Some-Stamp
unfolding numeral_of
returns-in-Some-Stamp c =
    let e : c.args.number ≡ Some (Stamp c.in-Some-Stamp.time) = search rules in
    rw e
    (spaced_written _ _ _ _ _ (rw e at c.requires)
    c.put_stamp.ensures.out_after (sym (length_stamp _)))
