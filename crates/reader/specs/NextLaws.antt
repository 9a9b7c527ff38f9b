-- What a call answers, case by case: the order of R21 (docs/FORMAT.md).
use Rattle.std.specs.Prelude.{Bool, ◌&&◌, ℕ, ◌≤◌, ◌<◌, ltb, length, Some}
use Rattle.std.proofs.Math.Bool.{true, false, cond, not}
use mathlib.Core.List.{List, []}
use Rattle.std.proofs.Math.Path.{◌≡◌, refl}
use Rattle.std.proofs.Common.{ap, ◌∙◌, arith}
use borrow.Author.Tests.{lt-ltb, le-ltb, eq-eqb, ne_eqb}
use Rattle.std.proofs.Math.Dec.{eqb}
use Rattle.number.specs.Among.{among, among_not}
use Rattle.number.specs.Width.{width_of}
use Rattle.layout.specs.Layout.{due_of, source_of}
use Rattle.layout.specs.LookLaws.{LookedRight}
use Rattle.layout.specs.Looked.{Looked, barred, missing, faulty, scalar, container, with_place}
use Rattle.layout.specs.Refusals.{Faults, file_refusals, file_refusal, not_file_17}
use Rattle.layout.specs.Trailer.{keeps, trailer_of, trailer_in}
use Rattle.layout.specs.declared.layout.Layout.{Layout}
use Rattle.reader.specs.Machine.{Step, ended, step, refuse, wrong_file, arrive, follow, step_of}
use Rattle.reader.specs.Next.{too_long, begin, with_refs, go_on, next_of}
use Rattle.reader.specs.State.{max_open, max_length, innermost}
use Rattle.reader.specs.declared.state.Reader.{Reader}

-- the answer of a test that holds, and of one that doesn't
yes : {A : Type 0} {b : Bool} (x y : A) → b ≡ true → cond b x y ≡ x
yes x y e = rw e

no : {A : Type 0} {b : Bool} (x y : A) → b ≡ false → cond b x y ≡ y
no x y e = rw e

-- what is looked up and refused ends the reader, with that place; what isn't in the file is 17
module _ (file : List ℕ) (l : Layout) (r : Reader) (object : ℕ) where
  module _ (number : ℕ) (values : List ℕ) (place : ℕ) (listed : among file_refusals number ≡ true) where
    same : (m : ℕ) (v : List ℕ) (o : ℕ) → faulty m v o ≡ faulty number values place → refuse m v o ≡ refuse number values place
    same m v o e =
        let p : m ≡ number = cc in
        let q : v ≡ values = cc in
        let s : o ≡ place = cc in
        rw (p, q, s)

    pub arrive_refused : (x : Looked) → with_place r.place x ≡ faulty number values place → arrive r object x ≡ refuse number values place
    unfolding with_place arrive
    arrive_refused (barred m v) e = same m v r.place e
    arrive_refused missing e = let z : number ≡ 17 = cc in absurd (among_not file_refusals number 17 listed not_file_17 z)
    arrive_refused (faulty m v o) e = same m v o e
    arrive_refused (scalar f o) e = let z : ◌≡◌ {A = ℕ} 0 1 = cc in absurd (omega arith)
    arrive_refused (container s k o) e = let z : ◌≡◌ {A = ℕ} 0 1 = cc in absurd (omega arith)

  never_17 : {P : Type 0} (m : ℕ) (v : List ℕ) (o : ℕ) → Faults m → faulty m v o ≡ faulty 17 [] 0 → P
  never_17 m v o h e = let z : m ≡ 17 = cc in absurd (among_not file_refusals m 17 (file_refusal m h) not_file_17 z)

  pub arrive_missing : (x : Looked) → LookedRight file l object x → with_place r.place x ≡ faulty 17 [] 0 → arrive r object x ≡ wrong_file r
  unfolding with_place arrive
  arrive_missing (barred m v) h e = never_17 m v r.place h e
  arrive_missing missing h e = refl
  arrive_missing (faulty m v o) h e = never_17 m v o h e
  arrive_missing (scalar f o) h e = let z : ◌≡◌ {A = ℕ} 0 1 = cc in absurd (omega arith)
  arrive_missing (container s k o) h e = let z : ◌≡◌ {A = ℕ} 0 1 = cc in absurd (omega arith)

module _ (file : List ℕ) (r : Reader) where
  -- nothing is open: ended, whatever is lent
  pub next_ended : r.fresh ≡ false → r.depth ≡ 0 → next_of file r ≡ step r ended
  unfolding next_of
  next_ended f e = yes _ _ (ap (λ (b : Bool). not b && eqb r.depth 0) f ∙ eq-eqb _ _ e)

  -- a fresh reader
  pub next_begin : r.fresh ≡ true → next_of file r ≡ begin file r (trailer_in file)
  unfolding next_of trailer_in begin
  next_begin f = no _ _ (ap (λ (b : Bool). not b && eqb r.depth 0) f) ∙ go (ltb max_length (length file)) _
    where
      go : (b : Bool) (x : Step) → cond b (too_long r) (cond r.fresh (begin file r (trailer_of file)) x) ≡ begin file r (cond b (keeps 1 [] 0) (trailer_of file))
      go true x = refl
      go false x = yes _ _ f

  module _ (old : r.fresh ≡ false) (some : r.depth ≡ 0 → ⊥) where
    open_not_ended : not r.fresh && eqb r.depth 0 ≡ false
    open_not_ended = ap (λ (b : Bool). not b && eqb r.depth 0) old ∙ ne_eqb _ _ some

    -- a reader with an open container
    pub next_long : max_length < length file → next_of file r ≡ too_long r
    unfolding next_of
    next_long s = no _ _ open_not_ended ∙ yes _ _ (lt-ltb _ _ s)

    module _ (short : length file ≤ max_length) where
      pub next_other : (r.length ≡ length file → ⊥) → next_of file r ≡ wrong_file r
      unfolding next_of
      next_other e = no _ _ open_not_ended ∙ no _ _ (le-ltb _ _ short) ∙ no _ _ old ∙ yes _ _ (ap not (ne_eqb _ _ e))

      pub next_many : r.length ≡ length file → max_open < r.depth → next_of file r ≡ wrong_file r
      unfolding next_of
      next_many e h = no _ _ open_not_ended ∙ no _ _ (le-ltb _ _ short) ∙ no _ _ old ∙ no _ _ (ap not (eq-eqb _ _ e)) ∙ yes _ _ (lt-ltb _ _ h)

      pub next_on : r.length ≡ length file → r.depth ≤ max_open → next_of file r ≡ go_on file r (width_of r.offsets) (width_of r.refs)
      unfolding next_of
      next_on e h = no _ _ open_not_ended ∙ no _ _ (le-ltb _ _ short) ∙ no _ _ old ∙ no _ _ (ap not (eq-eqb _ _ e)) ∙ no _ _ (le-ltb _ _ h)

      -- and what is due in the innermost container decides
      pub next_due : r.length ≡ length file → r.depth ≤ max_open → (l : Layout) → width_of r.offsets ≡ Some l.offsets → width_of r.refs ≡ Some l.refs → r.count ≡ l.count → r.table ≡ l.table → next_of file r ≡ follow (source_of file l) r (due_of file l (innermost r))
      unfolding go_on with_refs step_of source_of
      next_due e h l o w n t = next_on e h ∙ rw (o, w, n, t)
