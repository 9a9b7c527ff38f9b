-- Through the promise of `transcribe`: how it ends on a written file, and what it leaves on the tape, whatever is lent to it.
use borrow.Fn.Kinds.{Dens, ended_of, res_t}
use contract.Lifetimes.{Lfts}
use denote.Triple.Clauses.{AtExit}
use lib.ListN.{length}
use mathlib.Core.List.{List}
use Rattle.event.specs.Meaning.{Meaning}
use Rattle.transcribe.specs.Run.{run}
use Rattle.transcribe.specs.Said.{end_said}
use Rattle.transcribe.proofs.transcribe.Kinds as kinds
use Rattle.transcribe.proofs.transcribe.Reads as reads
use Rattle.written_claims.proofs.Good.{Good}
use Rattle.written_claims.specs.Outcome.{outcome_of, ComesTo}

pub transcribe_ends : (κs : Lfts 3) (a : Dens κs kinds.ps) (x : (res_t kinds.r κs).Denot) (e : AtExit (ended_of 3 kinds.ps kinds.r) κs)
    → reads.Post κs a x e → (ms : List Meaning) (g : Good a.0.now ms)
    → ComesTo (outcome_of a.1.1.1.0 (length a.1.0.now) (length a.1.1.0.now) 0 g.put) a.1.1.0.now (run (end_said x.ending) x.held e.1.1.0.now e.1.0.now)
transcribe_ends κs a x e p ms g = rw p.0 (g.ends_back a.1.1.1.0 a.1.0.now a.1.1.0.now)
