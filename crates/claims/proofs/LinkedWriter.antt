-- Through the promise of `zm_write`: where it answers 0, so many bytes of the output as it says are a file of which all that is claimed holds.
use mathlib.Core.List.{List}
use mathlib.Core.Path.{◌≡◌, sym, ◌∙◌}
use Prim.Native.Nat.{ℕ}
use borrow.Fn.Kinds.{Dens, ended_of, res_t}
use contract.Lifetimes.{Lfts}
use denote.Triple.Clauses.{AtExit}
use lib.ListN.{length}
use Rattle.exports.proofs.write.zm_write.Kinds as zm-write-kinds
use Rattle.exports.proofs.write.zm_write.Reads as zm-write-reads
use Rattle.exports.specs.Write.{write_code, write_value}
use Rattle.exports.specs.WriteLaws.{write_from, write_again, write_told}
use Rattle.writer.specs.Write.{long, write_of}
use Rattle.written_claims.proofs.Written.{FileIn, file_in}
use Rattle.written_claims.specs.Writes.{accepts}

-- code 0 is a file: no refusal has that number
file_code : (t : List ℕ) (words room : ℕ) → write_code (write_of t words room) ≡ 0 → write_of t words room ≡ long (write_value (write_of t words room))
unfolding write_from
file_code t words room e = sym (rw e at (write_again (write_of t words room) (write_told t words room)))

-- the file of the tape's events, as long as `value` says
pub zm_write_good : (κs : Lfts 6) (a : Dens κs zm-write-kinds.ps) (x : (res_t zm-write-kinds.r κs).Denot) (e : AtExit (ended_of 6 zm-write-kinds.ps zm-write-kinds.r) κs)
    → zm-write-reads.Post κs a x e → x ≡ 0 → FileIn a.0.now a.1.1.0.now e.1.1.0.now e.1.1.1.0.now
zm_write_good κs a x e p code =
    let t = a.0.now in
    let words = length a.1.0.now in
    let out = a.1.1.0.now in
    let good = p.1.1.1.1.1.1 in
    let k = write_value (write_of t words (length out)) in
    let w = accepts t words out k good (file_code t words (length out) (sym p.0 ∙ code)) in
    rw p.1.0 (file_in t words out e.1.1.0.now k w (p.1.1.1.1.0 ∙ w.output))
