-- `append`: text is checked first; what is appended is stepped to again, since the event is in range.
use mathlib.Core.Path.{sym, ◌∙◌}
use borrow.Author.Rules.{rules}
use borrow.Author.Tests.{not-true, not-false}
use Rattle.event.specs.Meaning.{meaning_of}
use Rattle.tape.specs.Append.{said}
use Rattle.tape.proofs.AppendLaws.{put_bad, put_event, put_reads}
use Rattle.tape.specs.Code.{InRange}
use Rattle.tape.proofs.Range.{in_range_law}
use Rattle.tape.proofs.append.append.Goals as goal
use Rattle.tape.proofs.append.append.Lts as lts
use Rattle.tape.proofs.append.append.Reads as reads
use Rattle.tape.proofs.append.append.Tie as tie

-- what the event means is in range
range : (c : lts.After-shared_slice_known tie.the-claims reads.Pre reads.Post tie.handed_clauses) → let a = c.args in InRange (meaning_of a.event a.bytes.now)
range c =
    let a = c.args in
    in_range_law a.event a.bytes.now _ c.well_formed.1.1.0 (search rules)

pub returns-then-is_bad : goal.returns-then-is_bad
unfolding said
returns-then-is_bad c =
    let u = not-true _ (sym c.is_bad.ensures ∙ c.if-is_bad.true) in
    let both = put_reads c.args.tape.now c.args.held (meaning_of c.args.event c.args.bytes.now) (range c.before.before.before) (put_bad c.args.tape.now c.args.held (meaning_of c.args.event c.args.bytes.now) u) in record { result_value = both.0; tape_after = both.1.0; in_range = both.1.1.0; reads_back = both.1.1.1 }

pub returns : goal.returns
returns c =
    let u = not-false _ (sym c.is_bad.ensures ∙ c.if-is_bad.false) in
    let both = put_reads c.args.tape.now c.args.held (meaning_of c.args.event c.args.bytes.now) (range c.before.before.before.before.before.before.before) (put_event c.args.tape.now c.args.held (meaning_of c.args.event c.args.bytes.now) u (c.append.ensures.result_value, c.append.ensures.tape_after)) in record { result_value = both.0; tape_after = both.1.0; in_range = both.1.1.0; reads_back = both.1.1.1 }
