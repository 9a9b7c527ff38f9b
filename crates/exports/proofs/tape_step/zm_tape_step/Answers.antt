-- `zm_tape_step` hands on the step as numbers.
use mathlib.Core.Path.{sym, ◌∙◌}
use Prim.Native.Nat.{ℕ}
use native.Mathlib.Omega.{arith}
use Rattle.number.specs.BeLaws.{Bytes, bytes_of_law}
use Rattle.tape.specs.SaidLaws.{said_item}
use Rattle.exports.specs.TapeStep.{next_number, value_number, start_number, bytes_number}
use borrow.Author.Rules.{rules}
use Rattle.exports.proofs.tape_step.zm_tape_step.Goals as goal
use Rattle.exports.proofs.tape_step.zm_tape_step.Lts as lts
use Rattle.exports.proofs.tape_step.zm_tape_step.Reads as reads
use Rattle.exports.proofs.tape_step.zm_tape_step.Tie as tie

-- what is lent as a tape is bytes
tape-bytes : (x : lts.After-shared_slice_known tie.the-claims reads.Pre reads.Post tie.handed_clauses) → Bytes x.args.tape.now
tape-bytes x = bytes_of_law x.args.tape.now (λ (i : ℕ). omega (arith, x.shared_slice_known-1.given i))

pub returns-in-None : goal.returns-in-None
unfolding next_number value_number start_number bytes_number
returns-in-None c =
    let e = sym (said_item _ _ c.step.ensures) ∙ c.in-None.is in
    (record { value = rw e; value_after = rw e; start_after = rw e; length_after = rw e; bytes = (tape-bytes c.before.before.before, search rules) })

pub returns-in-Some : goal.returns-in-Some
unfolding next_number value_number start_number bytes_number
returns-in-Some c =
    let e = sym (said_item _ _ c.step.ensures) ∙ c.in-Some.is in
    (record { value = rw e; value_after = rw e c.event_number.ensures; start_after = rw e; length_after = rw e; bytes = (tape-bytes c.before.before.before.before, search rules) })
