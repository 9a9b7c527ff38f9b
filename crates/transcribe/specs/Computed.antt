-- What the computed cases unfold, by one name: `unfolding computed` opens all of it. A definition that a case goes through is added here.
use Rattle.reader.specs.Computed as reader
use Rattle.tape.specs.Computed as tape
use Rattle.transcribe.specs.Note
use Rattle.transcribe.specs.Run

unfoldable pub computed : Unit {0}
unfolding reader.computed tape.computed
    Note.from_tape Note.put_note Note.text_note Note.note_of
    Run.by_noted Run.by_note Run.by_said Run.run_of Run.transcript_of
computed = tt
