-- `put_stamp` writes the day, then the time of day, where both fit, and nothing where not.
use mathlib.Core.Path.{sym, ◌∙◌}
use Prim.Native.Nat.{◌+◌, ◌≤◌}
use native.Mathlib.Omega.{arith}
use borrow.Author.Tests.{leb-true}
use lib.ListN.{length}
use Rattle.digits.specs.PutLaws.{put_fits, put_unfit, written_append, written_length}
use Rattle.digits.specs.Stamp.{stamp}
use Rattle.digits.specs.StampLaws.{length_three, length_stamp}
use Rattle.digits.proofs.stamp.put_stamp.Goals as goal
use Rattle.digits.proofs.stamp.put_stamp.Lts as lts
use Rattle.digits.proofs.stamp.put_stamp.Reads as reads
use Rattle.digits.proofs.stamp.put_stamp.Tie as tie

room : (c : lts.Then1 tie.the-claims reads.Pre reads.Post tie.handed_clauses) → c.args.at + 20 ≤ length c.args.out.now
room c = leb-true _ _ (sym c.fits.ensures ∙ c.if-fits.true)

pub write_three-clock_at-requires : goal.write_three-clock_at-requires
write_three-clock_at-requires c = omega (arith, room c.before)

pub write_three-end-requires : goal.write_three-end-requires
write_three-end-requires c =
    let w = c.write_three-clock_at.ensures in
    omega (arith, room c.before.before.before.before.before, rw length_three at w.place, written_length w)

pub returns-then-fits : goal.returns-then-fits
unfolding stamp
returns-then-fits c =
    let both = put_fits 20 (sym (length_stamp c.args.time))
    (written_append c.write_three-clock_at.ensures c.write_three-end.ensures)
    (sym c.fits.ensures ∙ c.if-fits.true) in record { value = both.0; out_after = both.1 }

pub returns : goal.returns
returns c = let both = put_unfit _ _ _ 20 (sym (length_stamp c.args.time)) (sym c.fits.ensures ∙ c.if-fits.false) in record { value = both.0; out_after = both.1 }
