-- Through the promises: two calls of `write_file` with tapes that differ in given lengths alone, and with as many words and as much room.
use mathlib.Core.Path.{◌≡◌}
use borrow.Fn.Kinds.{Dens, ended_of, res_t}
use contract.Lifetimes.{Lfts}
use denote.Triple.Clauses.{AtExit}
use lib.ListN.{length}
use Rattle.writer.specs.Write.{written_said}
use Rattle.writer.proofs.write_file.Kinds as write-file-kinds
use Rattle.writer.proofs.write_file.Reads as write-file-reads
use Rattle.written_claims.specs.Lengths.{LengthsApart, Answers}
use Rattle.written_claims.proofs.LengthsLaws.{lengths_apart}

pub write_file_lengths :
    (κs : Lfts 3) (a : Dens κs write-file-kinds.ps) (x : (res_t write-file-kinds.r κs).Denot) (e : AtExit (ended_of 3 write-file-kinds.ps write-file-kinds.r) κs)
    (λs : Lfts 3) (b : Dens λs write-file-kinds.ps) (y : (res_t write-file-kinds.r λs).Denot) (f : AtExit (ended_of 3 write-file-kinds.ps write-file-kinds.r) λs)
    → write-file-reads.Post κs a x e → write-file-reads.Post λs b y f
    → length a.1.0.now ≡ length b.1.0.now → length a.1.1.0.now ≡ length b.1.1.0.now
    → (d : LengthsApart a.0.now b.0.now) → Answers d (written_said x) (written_said y)
write_file_lengths κs a x e λs b y f p q words room d =
    rw (p.0, q.0, ← words, ← room) (lengths_apart p.1.1.1 q.1.1.1 d (length a.1.0.now) (length a.1.1.0.now))
