-- After a refusal a reader that came from a fresh one has no more to hand out on that file: it has ended, or is fresh and refuses again.
use Rattle.std.specs.Prelude.{List, ◌⊎◌, ◌≡◌, ℕ, zero, suc, ◌+◌}
use Rattle.std.proofs.Common.{inl, inr, sym, ap, subst, ◌∙◌, add-one}
use Rattle.reader.specs.Calls.{runs, answer_of}
use Rattle.reader.specs.CallsLaws.{runs_none, runs_more}
use Rattle.reader.specs.Machine.{ended, refused}
use Rattle.reader.specs.Next.{next_of}
use Rattle.reader.specs.State.{fresh_reader, ended_reader}
use Rattle.reader.specs.declared.state.Reader.{Reader}
use Rattle.claims.specs.Ended.{Done, done_ended, done_answers}
use Rattle.claims.specs.Fair.{Refusing, fair}

fresh_stays : (file : List ℕ) → (next_of file fresh_reader).state ≡ fresh_reader → (m : ℕ) → runs file m ≡ fresh_reader
fresh_stays file e zero = runs_none file
fresh_stays file e (suc m) = runs_more file m ∙ ap (λ (r : Reader). (next_of file r).state) (fresh_stays file e m) ∙ e

-- after a refusal every answer is ended, or every answer is that refusal
pub refusal_last : (file : List ℕ) (n number : ℕ) (values : List ℕ) (place : ℕ) → answer_of file n ≡ refused number values place
    → ((m : ℕ) → answer_of file (n + 1 + m) ≡ ended) ⊎ ((m : ℕ) → answer_of file m ≡ refused number values place)
unfolding answer_of
refusal_last file n number values place a =
    let h : Refusing file (runs file n) (runs file (suc n)) number = rw a at (fair file n) in
    go h.settled
  where
    go : (runs file (suc n) ≡ ended_reader) ⊎ ((runs file n ≡ fresh_reader) × (runs file (suc n) ≡ fresh_reader))
        → ((m : ℕ) → answer_of file (n + 1 + m) ≡ ended) ⊎ ((m : ℕ) → answer_of file m ≡ refused number values place)
    go (inl e) = inl (λ m. rw add-one (done_answers file (suc n) (subst Done (sym e) done_ended) m))
    go (inr (f, g)) =
        inr (λ m. ap (λ (r : Reader). (next_of file r).answer) (fresh_stays file (ap (λ (r : Reader). (next_of file r).state) (sym f) ∙ sym (runs_more file n) ∙ g) m ∙ sym f) ∙ a)
