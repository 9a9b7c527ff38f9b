-- The text request through the promises of `text_length` and `text_part`.
use mathlib.Core.List.{List}
use mathlib.Core.Path.{◌≡◌, sym, ◌∙◌}
use Prim.Native.Nat.{ℕ}
use borrow.Fn.Kinds.{Dens, ended_of, res_t}
use contract.Lifetimes.{Lfts}
use denote.Triple.Clauses.{AtExit}
use Rattle.reader.proofs.request.text_length.Kinds as text-length-kinds
use Rattle.reader.proofs.request.text_length.Reads as text-length-reads
use Rattle.reader.proofs.request.text_part.Kinds as text-part-kinds
use Rattle.reader.proofs.request.text_part.Reads as text-part-reads
use Rattle.reader.specs.Request.{asked_of, length_said, scratch_after, part_said}
use Rattle.reader.specs.Said.{text_said}
use Rattle.reader.specs.declared.answer.Record.{Record}
use Rattle.reader.specs.declared.request.TextLength.{TextLength}

-- THE FIRST CALL: `text_length` may return x, lent a slice of these bytes and a scratch, asked for this record; and what it leaves in the scratch
pub record LengthAsked (file scratch : List ℕ) (q : Record) (x : TextLength) (left : List ℕ) : Type 1 where
  pub lifetimes : Lfts 2
  pub arguments : Dens lifetimes text-length-kinds.ps
  pub bytes : arguments.0.now ≡ file
  pub lent : arguments.1.0.now ≡ scratch
  pub asked : arguments.1.1.0 ≡ q
  pub exit : AtExit (ended_of 2 text-length-kinds.ps text-length-kinds.r) lifetimes
  pub leaves : exit.1.0.now ≡ left
  pub meets : text-length-reads.Post lifetimes arguments x exit

-- THE SECOND CALL: `text_part` may return a slice of these bytes
pub record PartAsked (file scratch : List ℕ) (q : Record) (content : List ℕ) : Type 1 where
  pub lifetimes : Lfts 1
  pub arguments : Dens lifetimes text-part-kinds.ps
  pub bytes : arguments.0.now ≡ file
  pub lent : arguments.1.0.now ≡ scratch
  pub asked : arguments.1.1.0 ≡ q
  pub result : (res_t text-part-kinds.r lifetimes).Denot
  pub is : result.now ≡ content
  pub exit : AtExit (ended_of 1 text-part-kinds.ps text-part-kinds.r) lifetimes
  pub meets : text-part-reads.Post lifetimes arguments result exit

module _ (file scratch : List ℕ) (q : Record) where
  pub length_asked : (x : TextLength) (left : List ℕ) → LengthAsked file scratch q x left
      → (text_said x ≡ length_said file scratch q.offset (asked_of file q)) × (left ≡ scratch_after file scratch (asked_of file q))
  length_asked x left m = rw (← m.bytes, ← m.lent, ← m.asked, ← m.leaves) (m.meets.0, m.meets.1)

  pub part_asked : (content : List ℕ) → PartAsked file scratch q content → content ≡ part_said file scratch (asked_of file q)
  part_asked content p = rw (← p.bytes, ← p.lent, ← p.asked) (sym p.is ∙ p.meets)
