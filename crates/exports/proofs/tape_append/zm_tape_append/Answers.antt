-- `zm_tape_append` hands on what is appended, as a number, and the tape as it is.
use mathlib.Core.Path.{◌≡◌, ap, sym, ◌∙◌}
use borrow.Author.Rules.{rules}
use Rattle.exports.specs.TapeAppend.{meaning_for, chosen_meaning, held_number, append_number, appended_tape}
use Rattle.std.specs.Prelude.{Option, Some, None}
use Rattle.event.specs.declared.Event.{Event}
use Rattle.exports.proofs.tape_append.zm_tape_append.Goals as goal
use Rattle.exports.proofs.tape_append.zm_tape_append.Lts as lts
use Rattle.exports.proofs.tape_append.zm_tape_append.Reads as reads
use Rattle.exports.proofs.tape_append.zm_tape_append.Tie as tie

-- the event that was chosen means what the numbers mean
meant : (c : lts.After-event_for tie.the-claims reads.Pre reads.Post tie.handed_clauses) (x : Option Event) → c.event_for.result ≡ x → meaning_for c.args.kind c.args.value c.args.bytes.now ≡ chosen_meaning x c.args.bytes.now
meant c x e =
    let s = c.args.bytes.now in
    sym (c.event_for.ensures s) ∙ ap (λ y. chosen_meaning y s) e

pub returns-in_default : goal.returns-in_default
unfolding chosen_meaning append_number appended_tape
returns-in_default c =
    let e = meant c.before.before None c.in_default.is in
    (record { value = rw e; tape_after = rw e; lent = search rules })

pub returns : goal.returns
unfolding chosen_meaning append_number appended_tape
returns c =
    let e = meant c.before.before.before.before.before.before.before (Some c.in-Some.event) c.in-Some.is in
    (record { value = rw e (c.held_number.ensures ∙ ap held_number c.append.ensures.result_value); tape_after = rw e c.append.ensures.tape_after; lent = search rules })
