-- The walk over the words: what it meets, and that marking on the way doesn't change it.
use Rattle.std.specs.Prelude.{◌≡◌, ℕ, ◌+◌, ◌*◌, ◌^◌, ◌<◌, ◌≤◌, List, [], ◌∷◌, length, slice_index, slice_index_or, refl}
use Rattle.std.proofs.Common.{sym, ◌∙◌, arith}
use Rattle.std.proofs.Math.Path.{ap}
use Rattle.writer.specs.Marks.{Path, new_words, new_next, marked, Marked}
use Rattle.writer.specs.MarksLaws.{new_length, new_other, next_by}

-- it reads the columns before NUM alone
pub path_other : (rs v w : List ℕ) (n stop pair side i : ℕ) → ((j : ℕ) → j < n * 4 → slice_index v j ≡ slice_index w j) → Path w n stop pair side i rs → Path v n stop pair side i rs
path_other [] v w n stop pair side i f p = p
path_other (x ∷ rs) v w n stop pair side i f (a, b, c, d, e, g, p) =
    let q = f (n + n + (i + pair)) (omega arith) in
    (a, b, c, d ∙ sym (f (n + (i + side)) (omega arith)), e, rw q g, rw q (path_other rs v w n stop pair side (slice_index w (n + n + (i + pair))) f p))

pub path_done : (rs w : List ℕ) (n stop pair side i : ℕ) → stop ≤ i → Path w n stop pair side i rs → rs ≡ []
path_done [] w n stop pair side i h p = refl
path_done (x ∷ rs) w n stop pair side i h p = absurd (omega (arith, p.0))

pub path_unique : (rs qs w : List ℕ) (n stop pair side i : ℕ) → Path w n stop pair side i rs → Path w n stop pair side i qs → rs ≡ qs
path_unique [] qs w n stop pair side i p q = sym (path_done qs w n stop pair side i p q)
path_unique (x ∷ rs) [] w n stop pair side i p q = absurd (omega (arith, p.0))
path_unique (x ∷ rs) (y ∷ qs) w n stop pair side i (_, _, _, d, _, _, p) (_, _, _, e, _, _, q) =
    rw (d, e, path_unique rs qs w n stop pair side (slice_index w (n + n + (i + pair))) p q)

-- what the loop keeps: the rest of the walk, numbers for it, and that to mark the rest is to mark all from the start
pub record Walk (w₀ : List ℕ) (n first stop pair side next : ℕ) (w : List ℕ) (i k : ℕ) : Type 0 where
  pub left : List ℕ
  pub way : Path w n stop pair side i left
  pub long : length w ≡ n * 8
  pub few : k + length left < 2 ^ 32
  pub rest : (qs : List ℕ) → Path w₀ n stop pair side first qs → marked w n k left ≡ marked w₀ n next qs

pub walk_start : {w : List ℕ} {n first stop pair side next : ℕ} (rs : List ℕ) → length w ≡ n * 8 → Path w n stop pair side first rs → next + length rs < 2 ^ 32 → Walk w n first stop pair side next w first next
walk_start {w} {n} {first} {stop} {pair} {side} {next} rs l p f =
    record {
      left = rs;
      way = p;
      long = l;
      few = f;
      rest = λ qs q. ap (marked w n next) (path_unique rs qs w n stop pair side first p q);
    }

module _ {w₀ : List ℕ} {n first stop pair side next : ℕ} {w : List ℕ} {i k : ℕ} (o : Walk w₀ n first stop pair side next w i k) where
  pub walk_done : stop ≤ i → (qs : List ℕ) → Path w₀ n stop pair side first qs → (w ≡ (marked w₀ n next qs).words) × (k ≡ (marked w₀ n next qs).next)
  unfolding marked
  walk_done h qs q =
      let e : marked w n k [] ≡ marked w₀ n next qs = rw (path_done o.left w n stop pair side i h o.way) at (o.rest qs q) in
      (ap (λ (m : Marked). m.words) e, ap (λ (m : Marked). m.next) e)

  module _ (h : i < stop) where
    -- what is known of the words that a turn reads
    pub record Turn : Type 0 where
      pub after : List ℕ
      pub left_is : o.left ≡ slice_index w (n + (i + side)) ∷ after
      pub paired : i + pair < n
      pub sided : i + side < n
      pub under : slice_index_or w (n + (i + side)) 0 < n
      pub further : i < slice_index w (n + n + (i + pair))
      pub way : Path w n stop pair side (slice_index w (n + n + (i + pair))) after

    pub walk_turn : Turn
    walk_turn = go o.left refl o.way
      where
        go : (rs : List ℕ) → o.left ≡ rs → Path w n stop pair side i rs → Turn
        go [] e p = absurd (omega arith)
        go (x ∷ rs) e (_, b, c, d, u, g, p) =
            record { after = rs; left_is = e ∙ ap (λ (y : ℕ). y ∷ rs) d; paired = b; sided = c; under = rw (← d) u; further = g; way = p }

    -- a turn: member x is marked, and the walk goes on at j
    module _ {x : ℕ} {v : List ℕ} {m j : ℕ} (ex : x ≡ slice_index w (n + (i + side))) (ev : v ≡ new_words w (n * 4 + x) k) (em : m ≡ new_next w (n * 4 + x) k) (ej : j ≡ slice_index v (n + n + (i + pair))) where
      kept : (a : ℕ) → a < n * 4 → slice_index v a ≡ slice_index w a
      kept a l = rw ev (new_other w (n * 4 + x) k a (λ e. omega arith))

      goes : j ≡ slice_index w (n + n + (i + pair))
      goes = ej ∙ kept (n + n + (i + pair)) (omega (arith, walk_turn.paired))

      pub walk_less : i < j
      walk_less = omega (arith, goes, walk_turn.further)

      pub walk_further : Walk w₀ n first stop pair side next v j m
      unfolding marked
      walk_further =
          let t = walk_turn in
          let e : o.left ≡ x ∷ t.after = rw ex t.left_is in
          record {
            left = t.after;
            way = rw goes (path_other t.after v w n stop pair side (slice_index w (n + n + (i + pair))) kept t.way);
            long = ap length ev ∙ new_length w (n * 4 + x) k ∙ o.long;
            few = omega (arith, o.few, ap length e, next_by w (n * 4 + x) k, em);
            rest = λ qs q. rw (ev, em) (rw e at (o.rest qs q));
          }
