-- Calls through the promises of `fresh_reader` and `next`: what the code returns, call after call on one file, is what the definition `calls` says.
use mathlib.Core.Option.{some}
use mathlib.Core.List.{List, [], ◌∷◌, map}
use mathlib.Core.Path.{◌≡◌, refl, sym, ap, ap₂, ◌∙◌}
use Prim.Native.Nat.{ℕ, zero, suc}
use native.Mathlib.Omega.{arith}
use borrow.Fn.Kinds.{Dens, ended_of}
use contract.Lifetimes.{Lfts}
use denote.Triple.Clauses.{AtExit}
use lib.ListN.{length, get_elem?}
use Rattle.reader.proofs.state.Reader.fresh_reader.Kinds as fresh-reader-kinds
use Rattle.reader.proofs.state.Reader.fresh_reader.Reads as fresh-reader-reads
use Rattle.reader.proofs.state.Reader.next.Kinds as next-kinds
use Rattle.reader.proofs.state.Reader.next.Reads as next-reads
use Rattle.reader.specs.Calls.{calls, answers_of, after}
use Rattle.reader.specs.Machine.{Said, Step}
use Rattle.reader.specs.Next.{next_of}
use Rattle.reader.specs.Said.{said, step_said}
use Rattle.reader.specs.State.{fresh_reader}
use Rattle.reader.specs.declared.answer.Stepped.{Stepped}
use Rattle.reader.specs.declared.state.Reader.{Reader}

-- `fresh_reader` may return this: its generated contract holds
pub record Fresh (r : Reader) : Type 1 where
  pub lifetimes : Lfts 0
  pub arguments : Dens lifetimes fresh-reader-kinds.ps
  pub exit : AtExit (ended_of 0 fresh-reader-kinds.ps fresh-reader-kinds.r) lifetimes
  pub meets : fresh-reader-reads.Post lifetimes arguments r exit

-- A CALL: `next` may return s, called with this reader and lent a slice of these bytes
pub record Returned (file : List ℕ) (r : Reader) (s : Stepped) : Type 1 where
  pub lifetimes : Lfts 1
  pub arguments : Dens lifetimes next-kinds.ps
  pub reader : arguments.0 ≡ r
  pub bytes : arguments.1.0.now ≡ file
  pub exit : AtExit (ended_of 1 next-kinds.ps next-kinds.r) lifetimes
  pub meets : next-reads.Post lifetimes arguments s exit

-- calls one after the other, each with the reader that the one before returned
abbrev pub Calls : List ℕ → Reader → List Stepped → Type 1
Calls file r [] = Unit {1}
Calls file r (s ∷ ss) = Returned file r s × Calls file s.reader ss

-- the readers that they are made with, in order: the first, and what each of them returned
abbrev pub readers_of : Reader → List Stepped → List Reader
readers_of r ss = r ∷ map (λ (s : Stepped). s.reader) ss

-- a fresh reader is the definition's, and a call is one of the definition
pub fresh_is : (r : Reader) → Fresh r → r ≡ fresh_reader
fresh_is r f = f.meets

module _ (file : List ℕ) where
  pub returned : (r : Reader) (s : Stepped) → Returned file r s → step_said s ≡ next_of file r
  returned r s t = rw (← t.reader, ← t.bytes) t.meets

  returned_state : (r : Reader) (s : Stepped) → Returned file r s → (next_of file r).state ≡ s.reader
  unfolding step_said
  returned_state r s t = ap (λ (x : Step). x.state) (sym (returned r s t))

  -- so the list of calls is the definition's, whatever reader is the first
  pub calls_said : (r : Reader) (ss : List Stepped) → Calls file r ss → map step_said ss ≡ calls (length ss) file r
  unfolding calls
  calls_said r [] c = refl
  calls_said r (s ∷ ss) c =
      let more : map step_said ss ≡ calls (length ss) file (next_of file r).state = rw (returned_state r s c.0) (calls_said s.reader ss c.1) in
      ap₂ (λ (x : Step) (l : List Step). x ∷ l) (returned r s c.0) more

  -- and so are the answers
  pub answers_said : (r : Reader) (ss : List Stepped) → Calls file r ss → map (λ (s : Stepped). said s.answer) ss ≡ answers_of (calls (length ss) file r)
  unfolding step_said
  answers_said r ss c = each ss ∙ ap answers_of (calls_said r ss c)
    where
      each : (l : List Stepped) → map (λ (s : Stepped). said s.answer) l ≡ answers_of (map step_said l)
      each [] = refl
      each (s ∷ l) = ap (λ (x : List Said). said s.answer ∷ x) (each l)

  -- the reader that the call after n others is made with, and what that call returns
  pub reader_at : (first : Reader) (ss : List Stepped) → Calls file first ss → (n : ℕ) (r : Reader) → get_elem? (readers_of first ss) n ≡ some r → r ≡ after n file first
  unfolding after
  reader_at first ss c zero r e = cc
  reader_at first [] c (suc n) r e = let z : ◌≡◌ {A = ℕ} 0 1 = cc in absurd (omega arith)
  reader_at first (s ∷ ss) c (suc n) r e = rw (returned_state first s c.0) (reader_at s.reader ss c.1 n r e)

  pub return_at : (first : Reader) (ss : List Stepped) → Calls file first ss → (n : ℕ) (s : Stepped) → get_elem? ss n ≡ some s → step_said s ≡ next_of file (after n file first)
  unfolding after
  return_at first [] c n s e = let z : ◌≡◌ {A = ℕ} 0 1 = cc in absurd (omega arith)
  return_at first (x ∷ ss) c zero s e = let q : x ≡ s = cc in rw (← q) (returned first x c.0)
  return_at first (x ∷ ss) c (suc n) s e = rw (returned_state first x c.0) (return_at x.reader ss c.1 n s e)
