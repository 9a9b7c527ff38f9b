-- Which room is short first, and at which event. With room enough for all events a reading puts all of them and ends with the file.
use mathlib.Core.Option.{none, some}
use Rattle.std.specs.Prelude.{Bool, true, false, List, [], ◌∷◌, ◌≡◌, refl, ℕ, zero, suc, ◌+◌, ◌≤◌, ◌<◌, leb, length, take}
use Rattle.std.proofs.Common.{ap, sym, ◌∙◌, add_assoc, add-zero, arith, leb-true, leb-false}
use Rattle.std.proofs.Math.Nat.{max-le, le-max_left, le-max_right}
use Rattle.std.proofs.Math.ListN.{get_elem?, length-append}
use Rattle.event.specs.Meaning.{Meaning, array, dictionary, close, boolean, bytes, date, integer, real, text, uid}
use Rattle.tape.specs.Code.{bytes_for}
use Rattle.tape.specs.Events.{tape_of}
use Rattle.transcribe.specs.Run.{End, ended, stopped, refused}
use Rattle.transcribe.specs.TranscriptLaws.{Put, meanings_of}
use Rattle.written_claims.specs.Filled.{filled}
use Rattle.written_claims.specs.HandsOut.{scratch_for}
use Rattle.written_claims.specs.Outcome.{scratch_needed, Outcome, outcome, put_first, outcome_of}

-- filling lengths in changes no text
pub needed_same : (ms : List Meaning) → scratch_needed (filled ms) ≡ scratch_needed ms
unfolding scratch_needed scratch_for filled
needed_same [] = refl
needed_same (array v ∷ ms) = rw (needed_same ms)
needed_same (dictionary v ∷ ms) = rw (needed_same ms)
needed_same (close ∷ ms) = rw (needed_same ms)
needed_same (boolean b ∷ ms) = rw (needed_same ms)
needed_same (bytes s ∷ ms) = rw (needed_same ms)
needed_same (date b ∷ ms) = rw (needed_same ms)
needed_same (integer z ∷ ms) = rw (needed_same ms)
needed_same (real b ∷ ms) = rw (needed_same ms)
needed_same (text s ∷ ms) = rw (needed_same ms)
needed_same (uid n ∷ ms) = rw (needed_same ms)

-- how many bytes events have on a tape
abbrev pub bytes_of : List Put → ℕ
bytes_of ps = length (tape_of (meanings_of ps))

module _ (budget scratch tape held : ℕ) (ps : List Put) where
  -- there is room for these events behind the bytes held
  abbrev pub HasRoom : List Put → Type 0
  HasRoom qs = (scratch_needed (meanings_of qs) ≤ scratch) × (held + bytes_of qs ≤ tape)

  -- the budget reaches event i, and those before it have room
  pub record Reaches (i : ℕ) (p : Put) : Type 0 where
    pub within : i < budget
    pub is : get_elem? ps i ≡ some p
    pub room : HasRoom (take i ps)

  -- WHICH IS SHORT FIRST: none of them; the budget, with room for so many events; the scratch, at event i; the tape, at event i, whose text fits
  pub data Shortage (x : Outcome) : Type 0 where
    whole : length ps < budget → HasRoom ps → x ≡ outcome ended ps → Shortage x
    no_budget : budget ≤ length ps → HasRoom (take budget ps) → x ≡ outcome stopped (take budget ps) → Shortage x
    no_scratch : (i : ℕ) (p : Put) → Reaches i p → scratch < scratch_for p.meaning → x ≡ outcome (refused 16 [] p.offset) (take i ps) → Shortage x
    no_tape : (i : ℕ) (p : Put) → Reaches i p → scratch_for p.meaning ≤ scratch → tape < held + bytes_of (take i ps) + length (bytes_for p.meaning)
        → x ≡ outcome (refused 27 [] (held + bytes_of (take i ps))) (take i ps) → Shortage x

module _ (scratch tape held : ℕ) (p : Put) (ps : List Put) (fits : scratch_for p.meaning ≤ scratch) where
  own : ℕ
  own = length (bytes_for p.meaning)

  -- one event more, for which there is room
  sum : (qs : List Put) → held + bytes_of (p ∷ qs) ≡ held + own + bytes_of qs
  unfolding tape_of own
  sum qs = rw length-append (sym (add_assoc held (length (bytes_for p.meaning)) (bytes_of qs)))

  room_more : (budget : ℕ) (qs : List Put) → HasRoom budget scratch tape (held + own) ps qs → HasRoom (suc budget) scratch tape held (p ∷ ps) (p ∷ qs)
  unfolding scratch_needed
  room_more budget qs r = (max-le fits r.0, rw (sum qs) r.1)

  reaches_more : (budget i : ℕ) (q : Put) → Reaches budget scratch tape (held + own) ps i q → Reaches (suc budget) scratch tape held (p ∷ ps) (suc i) q
  reaches_more budget i q r = record { within = omega (arith, r.within); is = r.is; room = room_more budget (take i ps) r.room }

  shortage_more : (budget : ℕ) (x : Outcome) → Shortage budget scratch tape (held + own) ps x → Shortage (suc budget) scratch tape held (p ∷ ps) (put_first p x)
  unfolding put_first
  shortage_more budget x (whole b r e) = whole (omega arith) (room_more budget ps r) (rw e)
  shortage_more budget x (no_budget b r e) = no_budget (omega arith) (room_more budget (take budget ps) r) (rw e)
  shortage_more budget x (no_scratch i q r s e) = no_scratch (suc i) q (reaches_more budget i q r) s (rw e)
  shortage_more budget x (no_tape i q r s t e) = no_tape (suc i) q (reaches_more budget i q r) s (rw (sum (take i ps)) t) (rw (e, sum (take i ps)))

-- so it is with every outcome
pub shortage : (budget scratch tape held : ℕ) (ps : List Put) → held ≤ tape → Shortage budget scratch tape held ps (outcome_of budget scratch tape held ps)
unfolding outcome_of own tape_of scratch_needed
shortage zero scratch tape held ps h = no_budget (omega arith) (omega arith, omega arith) refl
shortage (suc budget) scratch tape held [] h = whole (omega arith) (omega arith, omega arith) refl
shortage (suc budget) scratch tape held (p ∷ ps) h = go (leb (scratch_for p.meaning) scratch) refl (leb (held + length (bytes_for p.meaning)) tape) refl (shortage budget scratch tape (held + length (bytes_for p.meaning)) ps)
  where
    here : Reaches (suc budget) scratch tape held (p ∷ ps) 0 p
    here = record { within = omega arith; is = refl; room = (omega arith, omega arith) }

    go : (b : Bool) → leb (scratch_for p.meaning) scratch ≡ b → (c : Bool) → leb (held + length (bytes_for p.meaning)) tape ≡ c
        → (held + length (bytes_for p.meaning) ≤ tape → Shortage budget scratch tape (held + length (bytes_for p.meaning)) ps (outcome_of budget scratch tape (held + length (bytes_for p.meaning)) ps))
        → Shortage (suc budget) scratch tape held (p ∷ ps) (outcome_of (suc budget) scratch tape held (p ∷ ps))
    go false f c g ih = no_scratch 0 p here (leb-false _ _ f) (rw f)
    go true f false g ih =
        let long : tape < held + length (bytes_for p.meaning) = leb-false _ _ g in
        no_tape 0 p here (leb-true _ _ f) (omega arith) (rw (f, g, add-zero))
    go true f true g ih = rw (f, g) (shortage_more scratch tape held p ps (leb-true _ _ f) budget _ (ih (leb-true _ _ g)))

-- each event's text and bytes are among those of all
text_in : (ps : List Put) (i : ℕ) (p : Put) → get_elem? ps i ≡ some p → scratch_for p.meaning ≤ scratch_needed (meanings_of ps)
unfolding scratch_needed
text_in [] i p e = let z : ◌≡◌ {A = ℕ} 0 1 = cc in absurd (omega arith)
text_in (q ∷ ps) zero p e = let s : q ≡ p = cc in rw (← s) (le-max_left (scratch_for q.meaning) (scratch_needed (meanings_of ps)))
text_in (q ∷ ps) (suc i) p e = omega (arith, text_in ps i p e, le-max_right (scratch_for q.meaning) (scratch_needed (meanings_of ps)))

bytes_in_law : (ps : List Put) (i : ℕ) (p : Put) → get_elem? ps i ≡ some p → bytes_of (take i ps) + length (bytes_for p.meaning) ≤ bytes_of ps
unfolding tape_of
bytes_in_law [] i p e = let z : ◌≡◌ {A = ℕ} 0 1 = cc in absurd (omega arith)
bytes_in_law (q ∷ ps) zero p e = let s : q ≡ p = cc in rw (← s, length-append) (omega arith)
bytes_in_law (q ∷ ps) (suc i) p e = simp length-append (omega (arith, bytes_in_law ps i p e))

module _ {budget scratch tape held : ℕ} {ps : List Put} {x : Outcome} (f : Shortage budget scratch tape held ps x) where
  -- what is put has room
  pub put_room : held + bytes_of x.puts ≤ tape
  put_room = go f
    where
      go : Shortage budget scratch tape held ps x → held + bytes_of x.puts ≤ tape
      go (whole b r e) = rw e r.1
      go (no_budget b r e) = rw e r.1
      go (no_scratch i p r s e) = rw e r.room.1
      go (no_tape i p r s t e) = rw e r.room.1

  other : {A : Type 0} {e : End} {qs : List Put} → x.ending ≡ ended → x ≡ outcome e qs → (e ≡ ended → ⊥) → A
  other a b n = absurd (n (ap (λ (y : Outcome). y.ending) (sym b) ∙ a))

  -- it ends with the file only where all three are enough,
  pub ended_enough : x.ending ≡ ended → (length ps < budget) × HasRoom budget scratch tape held ps ps
  ended_enough a = go f
    where
      go : Shortage budget scratch tape held ps x → (length ps < budget) × HasRoom budget scratch tape held ps ps
      go (whole b r e) = (b, r)
      go (no_budget b r e) = other a e (λ c. let z : ◌≡◌ {A = ℕ} 0 1 = cc in omega arith)
      go (no_scratch i p r s e) = other a e (λ c. let z : ◌≡◌ {A = ℕ} 0 1 = cc in omega arith)
      go (no_tape i p r s t e) = other a e (λ c. let z : ◌≡◌ {A = ℕ} 0 1 = cc in omega arith)

  -- and there it does
  pub enough_ended : length ps < budget → HasRoom budget scratch tape held ps ps → x ≡ outcome ended ps
  enough_ended h k = go f
    where
      go : Shortage budget scratch tape held ps x → x ≡ outcome ended ps
      go (whole b r e) = e
      go (no_budget b r e) = absurd (omega arith)
      go (no_scratch i p r s e) = absurd (omega (arith, text_in ps i p r.is, k.0))
      go (no_tape i p r s t e) = absurd (omega (arith, bytes_in_law ps i p r.is, k.1))

  -- too small a budget alone: it is used up; too little scratch alone: 16 at the first text that is too long for it; too little tape alone: 27 at the
  -- first event that doesn't fit
  pub less_budget : budget ≤ length ps → HasRoom budget scratch tape held ps ps → x ≡ outcome stopped (take budget ps)
  less_budget h k = go f
    where
      go : Shortage budget scratch tape held ps x → x ≡ outcome stopped (take budget ps)
      go (whole b r e) = absurd (omega arith)
      go (no_budget b r e) = e
      go (no_scratch i p r s e) = absurd (omega (arith, text_in ps i p r.is, k.0))
      go (no_tape i p r s t e) = absurd (omega (arith, bytes_in_law ps i p r.is, k.1))

  pub less_scratch : length ps < budget → scratch < scratch_needed (meanings_of ps) → held + bytes_of ps ≤ tape
      → (i : ℕ) × (p : Put) × Reaches budget scratch tape held ps i p × (scratch < scratch_for p.meaning) × (x ≡ outcome (refused 16 [] p.offset) (take i ps))
  less_scratch h s t = go f
    where
      go : Shortage budget scratch tape held ps x → (i : ℕ) × (p : Put) × Reaches budget scratch tape held ps i p × (scratch < scratch_for p.meaning) × (x ≡ outcome (refused 16 [] p.offset) (take i ps))
      go (whole b r e) = absurd (omega (arith, r.0))
      go (no_budget b r e) = absurd (omega arith)
      go (no_scratch i p r l e) = (i, p, r, l, e)
      go (no_tape i p r l m e) = absurd (omega (arith, bytes_in_law ps i p r.is))

  pub less_tape : length ps < budget → scratch_needed (meanings_of ps) ≤ scratch → tape < held + bytes_of ps
      → (i : ℕ) × (p : Put) × Reaches budget scratch tape held ps i p × (tape < held + bytes_of (take i ps) + length (bytes_for p.meaning))
      × (x ≡ outcome (refused 27 [] (held + bytes_of (take i ps))) (take i ps))
  less_tape h s t = go f
    where
      go : Shortage budget scratch tape held ps x → (i : ℕ) × (p : Put) × Reaches budget scratch tape held ps i p × (tape < held + bytes_of (take i ps) + length (bytes_for p.meaning))
          × (x ≡ outcome (refused 27 [] (held + bytes_of (take i ps))) (take i ps))
      go (whole b r e) = absurd (omega (arith, r.1))
      go (no_budget b r e) = absurd (omega arith)
      go (no_scratch i p r l e) = absurd (omega (arith, text_in ps i p r.is))
      go (no_tape i p r l m e) = (i, p, r, m, e)
