-- What the computed cases unfold, by one name: `unfolding computed` opens all of it. A definition that a case goes through is added here.
use Rattle.layout.specs.Computed as layout
use Rattle.reader.specs.Calls
use Rattle.reader.specs.Machine
use Rattle.reader.specs.Meanings
use Rattle.reader.specs.Next
use Rattle.reader.specs.Request
use Rattle.reader.specs.State

unfoldable pub computed : Unit {0}
unfolding layout.computed
    Calls.calls Calls.left_by Calls.after Calls.runs Calls.answer_of
    Machine.enter Machine.arrive Machine.follow Machine.step_of
    Meanings.bytes_asked Meanings.meaning_at Meanings.told Meanings.answers
    Next.laid_out Next.begin Next.with_refs Next.go_on Next.next_of
    Request.asked_under Request.asked_by Request.asked_of Request.length_said Request.scratch_after Request.part_said
    State.open_of State.innermost State.member_of State.advanced State.passed State.entered State.closed
computed = tt
