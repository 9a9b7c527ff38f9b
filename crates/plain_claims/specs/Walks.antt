-- Calls on one file from a state on that hand out some events, and the state behind them.
use Rattle.std.specs.Prelude.{List, [], ◌∷◌, ◌++◌, map, ◌≡◌, refl, ℕ, suc, length}
use Rattle.std.proofs.Common.{sym, ap, subst, ◌∙◌}
use Rattle.reader.specs.Calls.{calls, answers_of}
use Rattle.reader.specs.Machine as machine
use Rattle.reader.specs.Machine.{Said}
use Rattle.reader.specs.Meanings.{meaning_at}
use Rattle.reader.specs.Next.{next_of}
use Rattle.reader.specs.declared.state.Reader.{Reader}
use Rattle.plainly.specs.Says.{Stated, End, Says, done, says, on, followed}
use Rattle.plainly.specs.Says as said

-- an answer of the reader: an event with what it means and where it comes from, the end, or a refusal
pub data Heard : Type 0 where
  event : Stated → Heard
  ended : Heard
  refused : ℕ → List ℕ → ℕ → Heard

unfoldable pub heard : List ℕ → Said → Heard
heard file (machine.event r) = event (record { meaning = meaning_at file r.event r.offset; number = r.number; offset = r.offset })
heard file machine.ended = ended
heard file (machine.refused number values place) = refused number values place

-- the first n answers of a reader on a file
unfoldable pub heard_from : ℕ → List ℕ → Reader → List Heard
unfolding calls
heard_from n file r = map (heard file) (answers_of (calls n file r))

-- the calls from a state on hand out these events, and leave that state
abbrev pub Walks : List ℕ → Reader → List Stated → Reader → Type 0
Walks file r [] s = r ≡ s
Walks file r (e ∷ es) s = (heard file (next_of file r).answer ≡ event e) × Walks file (next_of file r).state es s

walks_more : (file : List ℕ) (es fs : List Stated) (r s t : Reader) → Walks file r es s → Walks file s fs t → Walks file r (es ++ fs) t
walks_more file [] fs r s t h k = subst (λ (q : Reader). Walks file q fs t) (sym h) k
walks_more file (e ∷ es) fs r s t h k = (h.0, walks_more file es fs (next_of file r).state s t h.1 k)

-- so they are the first answers, and what the state behind them answers comes next
pub walks_answers : (file : List ℕ) (es : List Stated) (r s : Reader) → Walks file r es s → heard_from (suc (length es)) file r ≡ map event es ++ (heard file (next_of file s).answer ∷ [])
unfolding heard_from
walks_answers file [] r s h = ap (λ (q : Reader). heard file (next_of file q).answer ∷ []) h
walks_answers file (e ∷ es) r s h =
    ap (λ (t : Heard). t ∷ heard_from (suc (length es)) file (next_of file r).state) h.0
    ∙ ap (λ (l : List Heard). event e ∷ l) (walks_answers file es (next_of file r).state s h.1)

-- the state behind them: where all is said, the one that is due for the place sought last; else one that refuses
abbrev pub Finishes : List ℕ → (ℕ → Reader) → Reader → End → Type 0
Finishes file after s (done place) = s ≡ after place
Finishes file after s (said.refused number values place) = (next_of file s).answer ≡ machine.refused number values place

-- the calls from a state on say this
pub record Tells (file : List ℕ) (r : Reader) (after : ℕ → Reader) (x : Says) : Type 0 where
  pub state : Reader
  pub walks : Walks file r x.events state
  pub finishes : Finishes file after state x.ending

-- one thing after another
pub tells_followed : (file : List ℕ) (r : Reader) (mid after : ℕ → Reader) (x : Says) (more : ℕ → Says)
    → Tells file r mid x → ((p : ℕ) → Tells file (mid p) after (more p)) → Tells file r after (followed x more)
unfolding followed on
tells_followed file r mid after x more w f = go x.events x.ending w.walks w.finishes
  where
    go : (es : List Stated) (e : End) → Walks file r es w.state → Finishes file mid w.state e → Tells file r after (on es e more)
    go es (done place) h k =
        let n : Tells file (mid place) after (more place) = f place in
        record {
          state = n.state;
          walks = walks_more file es (more place).events r (mid place) n.state (subst (λ (s : Reader). Walks file r es s) k h) n.walks;
          finishes = n.finishes;
        }
    go es (said.refused number values place) h k = record { state = w.state; walks = h; finishes = k }

-- a refusal at once
pub tells_refused : (file : List ℕ) (r : Reader) (after : ℕ → Reader) (number : ℕ) (values : List ℕ) (place : ℕ)
    → (next_of file r).answer ≡ machine.refused number values place → Tells file r after (says [] (said.refused number values place))
tells_refused file r after number values place h = record { state = r; walks = refl; finishes = h }

-- one event
pub tells_one : (file : List ℕ) (r s : Reader) (after : ℕ → Reader) (e : Stated) (place : ℕ)
    → heard file (next_of file r).answer ≡ event e → (next_of file r).state ≡ s → s ≡ after place → Tells file r after (says (e ∷ []) (done place))
tells_one file r s after e place h k n = record { state = s; walks = (h, k); finishes = n }
