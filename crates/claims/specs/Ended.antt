-- An ended reader stays ended, whatever file is lent. Of any state, forged ones too.
use Rattle.std.specs.Prelude.{false, ◌≡◌, ℕ, zero, suc, ◌+◌}
use mathlib.Core.List.{List, [], ◌∷◌}
use Rattle.std.proofs.Math.Path.{refl, ap}
use Rattle.std.proofs.Common.{◌∙◌, add-zero, add-suc}
use Rattle.reader.specs.Calls.{runs, answer_of}
use Rattle.reader.specs.CallsLaws.{runs_more}
use Rattle.reader.specs.Machine.{ended, Step, step}
use Rattle.reader.specs.Next.{next_of}
use Rattle.reader.specs.NextLaws.{next_ended}
use Rattle.reader.specs.State.{ended_reader}
use Rattle.reader.specs.declared.state.Reader.{Reader}

-- a state that isn't fresh and has nothing open
pub record Done (r : Reader) : Type 0 where
  pub old : r.fresh ≡ false
  pub none : r.depth ≡ 0

-- the state after a call on each of some files, in turn
unfoldable pub calls_on : List (List ℕ) → Reader → Reader
calls_on [] r = r
calls_on (file ∷ files) r = calls_on files (next_of file r).state

module _ (r : Reader) (d : Done r) where
  pub done_next : (file : List ℕ) → next_of file r ≡ step r ended
  done_next file = next_ended file r d.old d.none

  pub done_stays : (files : List (List ℕ)) → calls_on files r ≡ r
  unfolding calls_on
  done_stays [] = refl
  done_stays (file ∷ files) = rw (done_next file) (done_stays files)

  -- with nothing open any more the answer is Ended, for ever (docs/FORMAT.md, R19)
  pub ended_for_ever : (files : List (List ℕ)) (file : List ℕ) → next_of file (calls_on files r) ≡ step r ended
  ended_for_ever files file = rw (done_stays files) (done_next file)

pub done_ended : Done ended_reader
done_ended = record { old = refl; none = refl }

-- over calls of a fresh reader on one file
module _ (file : List ℕ) (n : ℕ) where
  pub done_runs : Done (runs file n) → (m : ℕ) → runs file (n + m) ≡ runs file n
  done_runs d zero = rw add-zero
  done_runs d (suc m) =
      ap (λ (k : ℕ). runs file k) (add-suc n m) ∙ runs_more file (n + m) ∙ ap (λ (r : Reader). (next_of file r).state) (done_runs d m) ∙ ap (λ (s : Step). s.state) (done_next (runs file n) d file)

  pub done_answers : Done (runs file n) → (m : ℕ) → answer_of file (n + m) ≡ ended
  unfolding answer_of
  done_answers d m = ap (λ (r : Reader). (next_of file r).answer) (done_runs d m) ∙ ap (λ (s : Step). s.answer) (done_next (runs file n) d file)
