-- Through the promise of `transcribe`: of any file it leaves what the reader's answers mean, in order, and ends as the next answer says. Whatever
-- is proved of a transcript (`held_bytes`, `behind_held`, the laws `at-..`) is so said of what the code leaves.
use borrow.Fn.Kinds.{Dens, ended_of, res_t}
use contract.Lifetimes.{Lfts}
use denote.Triple.Clauses.{AtExit}
use Rattle.reader.specs.State.{fresh_reader}
use Rattle.transcribe.specs.Run.{run}
use Rattle.transcribe.specs.Said.{end_said}
use Rattle.transcribe.specs.TranscriptLaws.{Transcribed, transcript_told}
use Rattle.transcribe.proofs.transcribe.Kinds as kinds
use Rattle.transcribe.proofs.transcribe.Reads as reads

-- the budget, the file, the scratch and the tape are those that it is lent, the run is what it answers and leaves
pub transcribe_told : (κs : Lfts 3) (a : Dens κs kinds.ps) (x : (res_t kinds.r κs).Denot) (e : AtExit (ended_of 3 kinds.ps kinds.r) κs)
    → reads.Post κs a x e
    → Transcribed a.1.1.1.0 a.0.now a.1.0.now a.1.1.0.now 0 fresh_reader (run (end_said x.ending) x.held e.1.1.0.now e.1.0.now)
transcribe_told κs a x e p = rw p.0 (transcript_told a.1.1.1.0 a.0.now p.1 a.1.0.now a.1.1.0.now)
