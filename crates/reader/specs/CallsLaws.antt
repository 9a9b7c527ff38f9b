-- Laws of call after call: how many, the n-th of them, one more, and calls behind calls.
use Rattle.std.proofs.Math.Option.{some}
use mathlib.Core.List.{List, [], ◌∷◌, ◌++◌, map-append}
use Rattle.std.specs.Prelude.{◌≡◌, length}
use Rattle.std.proofs.Math.Path.{refl, ap}
use Prim.Native.Nat.{ℕ, zero, suc, ◌+◌, ◌<◌}
use Rattle.std.proofs.Math.Nat.{zero-add, suc-add}
use Rattle.std.proofs.Math.Numerals.{add-one}
use Rattle.std.proofs.Common.{arith}
use Rattle.std.proofs.Math.ListN.{get_elem?}
use Rattle.reader.specs.Calls.{calls, answers_of, after, runs}
use Rattle.reader.specs.Machine.{Step}
use Rattle.reader.specs.Meanings.{told, answers}
use Rattle.reader.specs.Next.{next_of}
use Rattle.reader.specs.State.{fresh_reader}
use Rattle.reader.specs.declared.state.Reader.{Reader}

module _ (file : List ℕ) where
  pub length_calls : (n : ℕ) (r : Reader) → length (calls n file r) ≡ n
  unfolding calls
  length_calls zero r = refl
  length_calls (suc n) r = ap suc (length_calls n (next_of file r).state)

  -- calls behind calls
  pub after_append : (n m : ℕ) (r : Reader) → after (n + m) file r ≡ after m file (after n file r)
  unfolding after
  after_append zero m r = rw zero-add
  after_append (suc n) m r = rw suc-add (after_append n m (next_of file r).state)

  pub calls_append : (n m : ℕ) (r : Reader) → calls (n + m) file r ≡ calls n file r ++ calls m file (after n file r)
  unfolding after
  calls_append zero m r = rw zero-add
  calls_append (suc n) m r = rw suc-add (ap (λ (ss : List Step). next_of file r ∷ ss) (calls_append n m (next_of file r).state))

  -- one call more
  pub after_more : (n : ℕ) (r : Reader) → after (suc n) file r ≡ (next_of file (after n file r)).state
  unfolding after
  after_more zero r = refl
  after_more (suc n) r = after_more n (next_of file r).state

  pub calls_more : (n : ℕ) (r : Reader) → calls (suc n) file r ≡ calls n file r ++ (next_of file (after n file r) ∷ [])
  unfolding after
  calls_more zero r = refl
  calls_more (suc n) r = ap (λ (ss : List Step). next_of file r ∷ ss) (calls_more n (next_of file r).state)

  -- the call that i calls went before
  pub call_at : (i n : ℕ) (r : Reader) → i < n → get_elem? (calls n file r) i ≡ some (next_of file (after i file r))
  unfolding after
  call_at i zero r h = absurd (omega arith)
  call_at zero (suc n) r h = refl
  call_at (suc i) (suc n) r h = call_at i n (next_of file r).state (omega arith)

  -- with what the answers mean
  pub answers_append : (n m : ℕ) (r : Reader) → answers (n + m) file r ≡ answers n file r ++ answers m file (after n file r)
  unfolding answers
  answers_append n m r =
      rw (calls_append n m r, map-append (λ (s : Step). s.answer) (calls n file r) (calls m file (after n file r)))
      (map-append (told file) (answers_of (calls n file r)) (answers_of (calls m file (after n file r))))

  pub answers_more : (n : ℕ) (r : Reader) → answers (suc n) file r ≡ answers n file r ++ (told file (next_of file (after n file r)).answer ∷ [])
  unfolding answers
  answers_more n r = rw add-one at (answers_append n 1 r)

  -- the same of a fresh reader
  pub runs_none : runs file 0 ≡ fresh_reader
  unfolding runs
  runs_none = refl

  pub runs_more : (n : ℕ) → runs file (suc n) ≡ (next_of file (runs file n)).state
  unfolding runs
  runs_more n = after_more n fresh_reader
