-- So it is of every file, with any tape and any budget: what stands on the tape, and which answer is given, are an outcome of the budget.
use Rattle.std.specs.Prelude.{Bool, true, false, List, [], ◌∷◌, ◌≡◌, refl, ℕ, zero, suc, ◌+◌, ◌≤◌, leb}
use Rattle.std.proofs.Math.Path.{sym}
use Rattle.std.proofs.Common.{◌∙◌, add-zero, arith, leb-true, leb-false}
use Rattle.std.proofs.Math.ListN.{length, length-append}
use Rattle.std.proofs.lemmas.List.Edits.{sets}
use Rattle.std.proofs.Math.Seq.{length-sets}
use Rattle.utf.proofs.Writing.{sets_append}
use Rattle.tape.specs.Append.{fits}
use Rattle.tape.specs.Code.{bytes_for}
use Rattle.tape.specs.Events.{tape_of}
use Rattle.plainly.specs.Plain.{Last, Put, reach_of, put_all, say_onto, last_of}
use Rattle.plainly.specs.Says.{Stated, End, done, refused, file_says}
use Rattle.plain_claims.specs.Budget.{first_bytes, last_for, Holds, Outcome, all, spent, full}

module _ (e : Stated) (es : List Stated) (held : ℕ) (tape : List ℕ) where
  abbrev now : List ℕ
  now = bytes_for e.meaning

  longer : (n : ℕ) → length (first_bytes (suc n) (e ∷ es)) ≡ length now + length (first_bytes n es)
  unfolding tape_of
  longer n = length-append now (first_bytes n es)

  -- what holds behind the first event holds
  holds_more : (n : ℕ) (last : Last) (p : Put) → Holds (held + length now) (sets tape held now) es n last p → Holds held tape (e ∷ es) (suc n) last p
  unfolding tape_of
  holds_more n last p h =
      let s : length (sets tape held now) ≡ length tape = length-sets tape held now in
      record {
        fit = omega (arith, h.fit, longer n);
        is = (h.is.0, omega (arith, h.is.1, longer n), h.is.2 ∙ sym (sets_append now (first_bytes n es) tape held));
      }

  outcome_more : (budget : ℕ) (end : End) (p : Put) → Outcome budget (held + length now) (sets tape held now) (record { events = es; ending = end }) p → Outcome (suc budget) held tape (record { events = e ∷ es; ending = end }) p
  outcome_more budget end p (all h k) = all (omega arith) (holds_more (length es) _ p k)
  outcome_more budget end p (spent h k) = spent (omega arith) (holds_more budget _ p k)
  outcome_more budget end p (full n a b c k) =
      let s : length (sets tape held now) ≡ length tape = length-sets tape held now in
      full (suc n) (omega arith) (omega arith) (omega (arith, c, longer (suc n))) (holds_more n _ p k)

outcome_put : (end : End) (es : List Stated) (budget held : ℕ) (tape : List ℕ) → held ≤ length tape → Outcome budget held tape (record { events = es; ending = end }) (put_all end budget held tape es)
unfolding put_all reach_of last_of last_for tape_of fits
outcome_put (done place) [] budget held tape h = all (omega arith) (record { fit = omega arith; is = (refl, sym (add-zero held), refl) })
outcome_put (refused number values place) [] budget held tape h = all (omega arith) (record { fit = omega arith; is = (refl, sym (add-zero held), refl) })
outcome_put end (e ∷ es) zero held tape h = spent (omega arith) (record { fit = omega arith; is = (refl, sym (add-zero held), refl) })
outcome_put end (e ∷ es) (suc budget) held tape h =
    go (leb (held + length (bytes_for e.meaning)) (length tape)) refl
    (λ k. outcome_put end es budget (held + length (bytes_for e.meaning)) (sets tape held (bytes_for e.meaning)) k)
  where
    after : Put
    after = put_all end budget (held + length (bytes_for e.meaning)) (sets tape held (bytes_for e.meaning)) es

    go : (b : Bool) → leb (held + length (bytes_for e.meaning)) (length tape) ≡ b
        → (held + length (bytes_for e.meaning) ≤ length (sets tape held (bytes_for e.meaning)) → Outcome budget (held + length (bytes_for e.meaning)) (sets tape held (bytes_for e.meaning)) (record { events = es; ending = end }) after)
        → Outcome (suc budget) held tape (record { events = e ∷ es; ending = end }) (put_all end (suc budget) held tape (e ∷ es))
    go true f ih = rw f (outcome_more e es held tape budget end after (ih (rw length-sets (leb-true (held + length (bytes_for e.meaning)) (length tape) f))))
    go false f ih =
        rw f (full 0 (omega arith) (omega arith) (omega (arith, leb-false (held + length (bytes_for e.meaning)) (length tape) f, longer e es held tape 0)) (record { fit = omega arith; is = (refl, sym (add-zero held), refl) }))

-- so of every file, with any tape and any budget
pub outcome : (budget : ℕ) (file tape : List ℕ) → Outcome budget 0 tape (file_says file) (say_onto budget 0 tape (file_says file))
unfolding say_onto
outcome budget file tape = outcome_put (file_says file).ending (file_says file).events budget 0 tape (omega arith)
