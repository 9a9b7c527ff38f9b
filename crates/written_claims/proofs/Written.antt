-- Through the promises: where `write_file` answers with a length, so many bytes of the output are a file of which all that is claimed holds; and where
-- `transcribe` is given that file and room enough, it leaves the events on its tape, lengths filled in.
use Rattle.std.specs.Prelude.{Ok}
use mathlib.Core.List.{List, map}
use mathlib.Core.Logic.{◌↔◌}
use mathlib.Core.Path.{◌≡◌, sym, ap, ◌∙◌}
use Prim.Native.Nat.{ℕ}
use native.Mathlib.Nat.{zero-add}
use native.Mathlib.Omega.{arith}
use borrow.Fn.Kinds.{Dens, ended_of, res_t}
use contract.Lifetimes.{Lfts}
use denote.Triple.Clauses.{AtExit}
use lib.ListN.{length, take, drop}
use lib.Seq.{sets, sets-eq, take_at, drop_at}
use Rattle.event.specs.Meaning.{Meaning}
use Rattle.event.specs.Unmeasured.{unmeasured}
use Rattle.tape.specs.Events.{meanings_in}
use Rattle.transcribe.specs.Run.{run, ended}
use Rattle.transcribe.specs.Said.{end_said}
use Rattle.transcribe.proofs.transcribe.Kinds as transcribe-kinds
use Rattle.transcribe.proofs.transcribe.Reads as transcribe-reads
use Rattle.written.specs.File.{file_for}
use Rattle.writer.specs.Write.{written_said}
use Rattle.writer.proofs.write_file.Kinds as write-file-kinds
use Rattle.writer.proofs.write_file.Reads as write-file-reads
use Rattle.written_claims.specs.Accepted.{Accepted}
use Rattle.written_claims.specs.Filled.{filled}
use Rattle.written_claims.proofs.Good.{Good, good}
use Rattle.written_claims.specs.Outcome.{Enough, Holds}
use Rattle.written_claims.proofs.Same.{same_file}
use Rattle.written_claims.specs.Writes.{Writes, accepts}

-- the front of an output is the file of a tape's events, and nothing behind it has changed
pub record FileIn (tape before after : List ℕ) (k : ℕ) : Type 0 where
  pub accepted : Accepted (meanings_in tape)
  pub front : take k after ≡ file_for (meanings_in tape)
  pub behind : drop k after ≡ drop k before
  pub good : Good (take k after) (meanings_in tape)

pub file_in : (tape : List ℕ) (words : ℕ) (before after : List ℕ) (k : ℕ) → Writes tape words before k → after ≡ sets before 0 (file_for (meanings_in tape)) → FileIn tape before after k
file_in tape words before after k w e =
    let f = file_for (meanings_in tape) in
    let s = e ∙ rw zero-add at (sets-eq f before 0 (omega (arith, w.within, w.is))) in
    let t : take k after ≡ f = rw s (take_at f (drop (length f) before) k (sym w.is)) in
    let d : drop k after ≡ drop k before = rw s (drop_at f (drop (length f) before) k (sym w.is)) ∙ ap (λ (n : ℕ). drop n before) (sym w.is) in
    record { accepted = w.accepted; front = t; behind = d; good = rw t (good (meanings_in tape) w.accepted) }

-- what `write_file` answers and leaves
pub write_file_good : (κs : Lfts 3) (a : Dens κs write-file-kinds.ps) (x : (res_t write-file-kinds.r κs).Denot) (e : AtExit (ended_of 3 write-file-kinds.ps write-file-kinds.r) κs)
    → write-file-reads.Post κs a x e → (k : ℕ) → x ≡ Ok k → FileIn a.0.now a.1.1.0.now e.1.1.0.now k
unfolding written_said
write_file_good κs a x e p k l =
    let w = accepts a.0.now (length a.1.0.now) a.1.1.0.now k p.1.1.1 (sym p.0 ∙ ap written_said l) in
    file_in a.0.now (length a.1.0.now) a.1.1.0.now e.1.1.0.now k w (p.1.0 ∙ w.output)

-- THE SAME RECORD, THE SAME BYTES, of what two calls leave: the two files are equal exactly when the events of the two tapes are, given lengths dropped
pub write_file_same :
    (κs : Lfts 3) (a : Dens κs write-file-kinds.ps) (x : (res_t write-file-kinds.r κs).Denot) (e : AtExit (ended_of 3 write-file-kinds.ps write-file-kinds.r) κs)
    (λs : Lfts 3) (b : Dens λs write-file-kinds.ps) (y : (res_t write-file-kinds.r λs).Denot) (f : AtExit (ended_of 3 write-file-kinds.ps write-file-kinds.r) λs)
    → write-file-reads.Post κs a x e → write-file-reads.Post λs b y f → (k l : ℕ) → x ≡ Ok k → y ≡ Ok l
    → (take k e.1.1.0.now ≡ take l f.1.1.0.now) ↔ (map unmeasured (meanings_in a.0.now) ≡ map unmeasured (meanings_in b.0.now))
write_file_same κs a x e λs b y f p q k l u v =
    let g = write_file_good κs a x e p k u in
    let h = write_file_good λs b y f q l v in
    rw (g.front, h.front) (same_file (meanings_in a.0.now) (meanings_in b.0.now) g.accepted h.accepted)

-- what `transcribe` answers and leaves is what the definition says
pub transcribe_back : (κs : Lfts 3) (a : Dens κs transcribe-kinds.ps) (x : (res_t transcribe-kinds.r κs).Denot) (e : AtExit (ended_of 3 transcribe-kinds.ps transcribe-kinds.r) κs)
    → transcribe-reads.Post κs a x e → (ms : List Meaning) → Good a.0.now ms
    → Enough ms a.1.1.1.0 (length a.1.0.now) (length a.1.1.0.now)
    → Holds ended (filled ms) a.1.1.0.now (run (end_said x.ending) x.held e.1.1.0.now e.1.0.now)
transcribe_back κs a x e p ms g room = rw p.0 (g.whole_back a.1.1.1.0 a.1.0.now a.1.1.0.now room)
