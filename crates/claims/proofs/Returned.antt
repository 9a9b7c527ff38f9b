-- From the definition to the code: what `next` returns, call after call on one file, is what `runs` and `answer_of` say. So what is claimed of these is
-- claimed of the code: of the readers and the answers that it returns, by their numbers (docs/FORMAT.md, N).
use mathlib.Core.Option.{some}
use mathlib.Core.Bool.{true}
use mathlib.Core.List.{List, [], ◌∷◌}
use mathlib.Core.Logic.{◌⊎◌, inl, inr, ◌↔◌}
use mathlib.Core.Path.{◌≡◌, refl, sym, ap, ◌∙◌}
use Prim.Native.Nat.{ℕ, zero, suc, ◌+◌, ◌-◌, ◌^◌, ◌≤◌, ◌<◌}
use native.Mathlib.Omega.{arith}
use lib.ListN.{length, get_elem?}
use Rattle.event.specs.Date.{is_date}
use Rattle.event.specs.declared.Event.TheVariants.{Date}
use Rattle.layout.specs.Trailer.{eight_at}
use Rattle.reader.proofs.Calls.{Fresh, Calls, readers_of, fresh_is, reader_at, return_at}
use Rattle.reader.specs.Calls.{after, runs, answer_of}
use Rattle.reader.specs.CallsLaws.{runs_more}
use Rattle.reader.specs.Machine.{Step, Origin, event, event_at, ended, refused}
use Rattle.reader.specs.Next.{next_of}
use Rattle.reader.specs.Said.{said, step_said}
use Rattle.reader.specs.State.{max_open}
use Rattle.reader.specs.declared.answer.Record.{Record}
use Rattle.reader.specs.declared.answer.Stepped.{Stepped}
use Rattle.reader.specs.declared.state.Reader.{Reader}
use Rattle.claims.specs.Answers.{never_wrong_file, never_deep}
use Rattle.claims.specs.Dates.{answer_date}
use Rattle.claims.specs.Depth.{Nested, nested}
use Rattle.claims.specs.Ends.{Final, ends_by}
use Rattle.claims.specs.Last.{refusal_last}
use Rattle.claims.specs.Open.{Reached}
use Rattle.claims.specs.Origin.{Comes, comes_from}
use Rattle.claims.specs.Reached.{reached}
use Rattle.claims.specs.Recursion.{Recursive, recursion_exactly}

there : (ss : List Stepped) (n : ℕ) → n < length ss → (s : Stepped) × (get_elem? ss n ≡ some s)
there [] n h = absurd (omega arith)
there (s ∷ ss) zero h = (s, refl)
there (s ∷ ss) (suc n) h = there ss n (omega arith)

-- calls of a fresh reader, all on slices of the same bytes
module _ (file : List ℕ) (first : Reader) (made : Fresh first) (ss : List Stepped) (calls : Calls file first ss) where
  -- the call that n calls went before is made with the state of the definition,
  pub returns_reader : (n : ℕ) (r : Reader) → get_elem? (readers_of first ss) n ≡ some r → r ≡ runs file n
  unfolding runs
  returns_reader n r at = reader_at file first ss calls n r at ∙ ap (after n file) (fresh_is first made)

  -- which is one that a fresh reader comes to by calls on this file,
  pub returns_reached : (n : ℕ) (r : Reader) → get_elem? (readers_of first ss) n ≡ some r → Reached file r
  returns_reached n r at = rw (returns_reader n r at) (reached file n)

  -- and returns the next state and the answer of the definition
  pub returns : (n : ℕ) (s : Stepped) → get_elem? ss n ≡ some s → (s.reader ≡ runs file (suc n)) × (said s.answer ≡ answer_of file n)
  unfolding runs answer_of step_said
  returns n s at =
      let f : next_of file (after n file first) ≡ next_of file (runs file n) = ap (λ (r : Reader). next_of file (after n file r)) (fresh_is first made) in
      let e : step_said s ≡ next_of file (runs file n) = return_at file first ss calls n s at ∙ f in
      (ap (λ (x : Step). x.state) e ∙ sym (runs_more file n), ap (λ (x : Step). x.answer) e)

  -- it comes to an end: among so many calls one hands nothing out
  pub returns_ends : (length file + 2) ^ (max_open + 1) < length ss
      → (n : ℕ) × (n ≤ (length file + 2) ^ (max_open + 1)) × (s : Stepped) × (get_elem? ss n ≡ some s) × Final (said s.answer)
  returns_ends long =
      let e = ends_by file in
      let (s, at) = there ss e.calls (omega (arith, e.soon)) in
      (e.calls, e.soon, s, at, rw (returns e.calls s at).1 e.ends)

  module _ (n : ℕ) (s : Stepped) (at : get_elem? ss n ≡ some s) where
    answers : said s.answer ≡ answer_of file n
    answers = (returns n s at).1

    -- the containers that are open afterwards
    pub returns_nested : 0 < s.reader.depth → Nested file s.reader
    returns_nested h =
        let e = (returns n s at).0 in
        rw e (nested file (suc n) (rw e at h))

    -- 14 exactly where the reference that is due in the reader of the call names an open container
    pub returns_recursion : (r : Reader) → get_elem? (readers_of first ss) n ≡ some r → (place : ℕ) → (said s.answer ≡ refused 14 [] place) ↔ Recursive file r place
    returns_recursion r given place = rw (answers, returns_reader n r given) (recursion_exactly file n place)

    -- never 15 on a file that has at most as many objects as containers may be open
    pub returns_deep : eight_at file 8 ≤ max_open → (values : List ℕ) (place : ℕ) → said s.answer ≡ refused 15 values place → ⊥
    returns_deep small values place e = never_deep file small n values place (sym answers ∙ e)

    -- never 17
    pub returns_wrong_file : (values : List ℕ) (place : ℕ) → said s.answer ≡ refused 17 values place → ⊥
    returns_wrong_file values place e = never_wrong_file file n values place (sym answers ∙ e)

    -- a record that is handed out holds the number that was due in the reader of the call, and that number's entry of the table
    pub returns_origin : (r : Reader) → get_elem? (readers_of first ss) n ≡ some r → (q : Record) → said s.answer ≡ event q → Comes file r q
    returns_origin r given q e = rw (returns_reader n r given) (comes_from file n q (sym answers ∙ e))

    -- a date that is handed out is one
    pub returns_date : (b : ℕ) (o : Origin) → said s.answer ≡ event_at (Date b) o → is_date b ≡ true
    returns_date b o e = answer_date file n b o (sym answers ∙ e)

    -- after a refusal every call answers Ended, or all calls, those before too, answer that refusal
    pub returns_refusal : (number : ℕ) (values : List ℕ) (place : ℕ) → said s.answer ≡ refused number values place
        → ((m : ℕ) (t : Stepped) → n < m → get_elem? ss m ≡ some t → said t.answer ≡ ended) ⊎ ((m : ℕ) (t : Stepped) → get_elem? ss m ≡ some t → said t.answer ≡ refused number values place)
    returns_refusal number values place e = go (refusal_last file n number values place (sym answers ∙ e))
      where
        go : ((m : ℕ) → answer_of file (n + 1 + m) ≡ ended) ⊎ ((m : ℕ) → answer_of file m ≡ refused number values place)
            → ((m : ℕ) (t : Stepped) → n < m → get_elem? ss m ≡ some t → said t.answer ≡ ended) ⊎ ((m : ℕ) (t : Stepped) → get_elem? ss m ≡ some t → said t.answer ≡ refused number values place)
        go (inl h) = inl (λ m t later there. (returns m t there).1 ∙ after_it m later)
          where
            after_it : (m : ℕ) → n < m → answer_of file m ≡ ended
            after_it m later =
                let k : n + 1 + (m - (n + 1)) ≡ m = omega arith in
                rw k at (h (m - (n + 1)))
        go (inr h) = inr (λ m t there. (returns m t there).1 ∙ h m)
