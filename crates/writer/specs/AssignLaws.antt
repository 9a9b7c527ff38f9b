-- One event of the numbering pass, and its start.
use Rattle.std.specs.Prelude.{◌≡◌, ℕ, suc, ◌+◌, ◌-◌, ◌*◌, ◌^◌, ◌<◌, ◌≤◌, List, [], ◌∷◌, map, length, drop, slice_index, slice_index_or, refl}
use Rattle.std.proofs.Math.Path.{ap}
use Rattle.std.proofs.Common.{◌∙◌, add-one, arith, length-append}
use Rattle.std.proofs.Math.Nat.{add-zero}
use Rattle.std.proofs.lemmas.List.{length-map}
use Rattle.event.specs.Format.{max_open}
use Rattle.written.specs.Graph.{Kind, arr, dic, Piece, scalar, start, end, Name, same, kids, evens, odds, laid}
use Rattle.written.specs.Nub.{has, nub_onto, nub_onto_append, nub_onto_keeps}
use Rattle.written.proofs.RepLaws.{Among, among_evens, among_odds, kids_told, event_in_law, rep_le}
use Rattle.written.specs.Shape.{skip, next_at, name_of}
use Rattle.written.proofs.ShapeLaws.{next_scalar, next_start, next_end, along, along_length, in_pairs, pairs_length, closed_at, root_is}
use Rattle.written.specs.Weigh.{event_names, rep_of}
use Rattle.writer.specs.ClearLaws.{length_cleared, cleared_in, cleared_below}
use Rattle.writer.specs.Columns.{Indexed, cleared}
use Rattle.writer.specs.ColumnsLaws.{indexed_kept}
use Rattle.writer.specs.IndexedLaws.{path_members, path_keys, path_values}
use Rattle.writer.specs.KeptLaws.{kept_root, kept_scalar, kept_end, kept_start, kept_few}
use Rattle.writer.specs.Marks.{Path, new_words, new_next, marked, num_in, kept_at, Numbered}
use Rattle.writer.specs.NumberedLaws.{Shown, shown_numbered, numbered_shown, shown_more}
use Rattle.writer.specs.Ready.{pieces_in, Ready}
use Rattle.writer.specs.ReadyLaws.{kind_at, ready_count, ready_small, start_lt, start_le, piece_at, kind_arr, kind_dic}

-- what `assign_each` asks, and what it answers
abbrev pub Asks : List ℕ → ℕ → ℕ → ℕ → ℕ → ℕ → ℕ → Type 0
Asks w n first stop pair side k = (length w ≡ n * 8) × ((rs : List ℕ) × Path w n stop pair side first rs × (k + length rs < 2 ^ 32))

abbrev pub Answers : List ℕ → ℕ → ℕ → ℕ → ℕ → ℕ → ℕ → List ℕ → ℕ → Type 0
Answers w n first stop pair side k v m = (rs : List ℕ) → Path w n stop pair side first rs → (v ≡ (marked w n k rs).words) × (m ≡ (marked w n k rs).next)

module _ {t : List ℕ} {n : ℕ} (o : Ready t n) where
  -- one walk
  asks : (w : List ℕ) (first stop pair side k : ℕ) (kept xs : List Name) → Shown t w n kept k → Path w n stop pair side first (map (rep_of (pieces_in t)) xs) → length kept ≤ n → length xs < n
      → Asks w n first stop pair side k
  asks w first stop pair side k kept xs s p l m =
      (s.indexed.long, (map (rep_of (pieces_in t)) xs, p, omega (arith, length-map xs (rep_of (pieces_in t)), s.count, ready_small o)))

  answers : (w : List ℕ) (first stop pair side k : ℕ) (kept xs : List Name) (v : List ℕ) (m : ℕ) → Shown t w n kept k → Path w n stop pair side first (map (rep_of (pieces_in t)) xs)
      → Among (event_names 0 (pieces_in t)) xs → Answers w n first stop pair side k v m → Shown t v n (nub_onto same kept xs) m
  answers w first stop pair side k kept xs v m s p a f =
      let q = f (map (rep_of (pieces_in t)) xs) p in
      shown_more o w v k m kept xs a s q.0 q.1

-- what is known before an event
pub record Coming (t w : List ℕ) (n e k next : ℕ) : Type 0 where
  pub ready : Ready t n
  pub within : e < n
  pub indexed : Indexed t w n
  pub numbered : Numbered t w n e k
  pub next_word : next ≡ slice_index w (n + n + e)

module _ {t w : List ℕ} {n e k next : ℕ} (o : Coming t w n e k next) where
  abbrev es : List Piece
  es = pieces_in t

  -- the events behind it
  abbrev r : List Piece
  r = drop (suc e) (pieces_in t)

  shown : Shown t w n (kept_at es e) k
  shown = numbered_shown t w n e k o.indexed o.numbered

  next_is : next ≡ next_at es e
  next_is = o.next_word ∙ o.indexed.nexts e (omega arith) o.within

  -- a scalar or an end names nothing
  pub event_alone : next ≤ e + 1 → Indexed t w n × Numbered t w n (suc e) k
  event_alone g = let a = piece_at o.ready e o.within in shown_numbered t w n (suc e) k (kept_at es e) (go a.0 a.1) shown
    where
      go : (p : Piece) → drop e es ≡ p ∷ r → kept_at es (suc e) ≡ kept_at es e
      go (scalar b) d = kept_scalar es e b r d
      go end d = kept_end es e r d
      go (start c) d = absurd (omega (arith, next_is, next_start es e c r d, (closed_at max_open es o.ready.shaped e c r d).2))

  -- a container
  module _ (g : e + 1 < next) where
    begun : (c : Kind) × (drop e es ≡ start c ∷ r)
    begun = let a = piece_at o.ready e o.within in go a.0 a.1
      where
        go : (p : Piece) → drop e es ≡ p ∷ r → (c : Kind) × (drop e es ≡ start c ∷ r)
        go (scalar b) d = absurd (omega (arith, next_is, next_scalar es e b r d))
        go end d = absurd (omega (arith, next_is, next_end es e r d))
        go (start c) d = (c, d)

    abbrev ms : List Name
    ms = kids 0 (suc e) r

    stop_is : next - 1 ≡ e + skip 0 r
    stop_is = omega (arith, next_is, next_start es e begun.0 r begun.1)

    stop_lt : e + skip 0 r < n
    stop_lt = omega (arith, (closed_at max_open es o.ready.shaped e begun.0 r begun.1).0, ready_count o.ready)

    told : Among (event_names 0 es) ms
    told = kids_told es e begun.0 r begun.1

    kept_le : length (kept_at es e) ≤ n
    kept_le = omega (arith, kept_few es e, ready_count o.ready)

    module _ {at : ℕ} (z : at ≡ slice_index w e) where
      pub kind_within : at < length t
      kind_within = omega (arith, z, o.indexed.off e o.within, start_lt o.ready e o.within, start_le o.ready (suc e) o.within)

      kind_is : slice_index_or t at 0 ≡ kind_at t e
      kind_is = ap (λ (i : ℕ). slice_index t i) (z ∙ o.indexed.off e o.within)

      -- an array
      module _ (a : slice_index_or t at 0 < 0x0c) where
        begins : drop e es ≡ start arr ∷ r
        begins = let b = begun in rw (kind_arr o.ready e b.0 r b.1 (omega (arith, kind_is))) at b.1

        members : Path w n (next - 1) 0 0 (e + 1) (map (rep_of es) ms)
        members = rw (stop_is, add-one) (path_members o.ready w o.indexed e arr r begins)

        pub array_asks : Asks w n (e + 1) (next - 1) 0 0 k
        array_asks =
            let l = along_length es (e + skip 0 r) (suc e) ms (along max_open es o.ready.shaped e arr r begins) in
            asks o.ready w (e + 1) (next - 1) 0 0 k (kept_at es e) ms shown members kept_le (omega (arith, l, stop_lt))

        pub array_done : (v : List ℕ) (m : ℕ) → Answers w n (e + 1) (next - 1) 0 0 k v m → Indexed t v n × Numbered t v n (suc e) m
        unfolding laid
        array_done v m f =
            shown_numbered t v n (suc e) m (nub_onto same (kept_at es e) ms) (kept_start es e arr r begins)
            (answers o.ready w (e + 1) (next - 1) 0 0 k (kept_at es e) ms v m shown members told f)

      -- a dictionary: its keys, then its values
      module _ (a : 0x0c ≤ slice_index t at) where
        begins_pairs : drop e es ≡ start dic ∷ r
        begins_pairs = let b = begun in rw (kind_dic o.ready e b.0 r b.1 (omega (arith, kind_is))) at b.1

        few : (length (evens ms) < n) × (length (odds ms) < n)
        few =
            let l = pairs_length es (e + skip 0 r) (suc e) (evens ms) (odds ms) (in_pairs max_open es o.ready.shaped e r begins_pairs) in
            (omega (arith, l.0, stop_lt), omega (arith, l.0, l.1, stop_lt))

        keys : Path w n (next - 1) 1 0 (e + 1) (map (rep_of es) (evens ms))
        keys = rw (stop_is, add-one) (path_keys o.ready w o.indexed e r begins_pairs)

        pub keys_asks : Asks w n (e + 1) (next - 1) 1 0 k
        keys_asks = asks o.ready w (e + 1) (next - 1) 1 0 k (kept_at es e) (evens ms) shown keys kept_le few.0

        -- what has a number once the keys do
        abbrev between : List Name
        between = nub_onto same (kept_at es e) (evens ms)

        all : kept_at es (suc e) ≡ nub_onto same between (odds ms)
        unfolding laid
        all = kept_start es e dic r begins_pairs ∙ nub_onto_append same (kept_at es e) (evens ms) (odds ms)

        between_le : length between ≤ n
        between_le =
            let p = nub_onto_keeps same between (odds ms) in
            omega (arith, ap length (all ∙ p.1), length-append between p.0, kept_few es (suc e), ready_count o.ready)

        module _ {u : List ℕ} {j : ℕ} (f : Answers w n (e + 1) (next - 1) 1 0 k u j) where
          keyed : Shown t u n between j
          keyed = answers o.ready w (e + 1) (next - 1) 1 0 k (kept_at es e) (evens ms) u j shown keys (among_evens (event_names 0 es) ms told) f

          values : Path u n (next - 1) 1 1 (e + 1) (map (rep_of es) (odds ms))
          values = rw (stop_is, add-one) (path_values o.ready u keyed.indexed e r begins_pairs)

          pub values_asks : Asks u n (e + 1) (next - 1) 1 1 j
          values_asks = asks o.ready u (e + 1) (next - 1) 1 1 j between (odds ms) keyed values between_le few.1

          pub values_done : (v : List ℕ) (m : ℕ) → Answers u n (e + 1) (next - 1) 1 1 j v m → Indexed t v n × Numbered t v n (suc e) m
          values_done v m h =
              shown_numbered t v n (suc e) m (nub_onto same between (odds ms)) all
              (answers o.ready u (e + 1) (next - 1) 1 1 j between (odds ms) v m keyed values (among_odds (event_names 0 es) ms told) h)

-- before the events: all numbers cleared, and the root's given
module _ {t : List ℕ} {n : ℕ} (o : Ready t n) where
  pub some_events : 0 < n
  some_events =
      let (p, r, q, _, _) = root_is max_open (pieces_in t) o.shaped in
      omega (arith, ap length q, ready_count o)

  none_shown : (w : List ℕ) → Indexed t w n → Shown t (cleared w (n * 4) (n * 5)) n [] 0
  unfolding num_in has
  none_shown w x =
      record {
        indexed = indexed_kept o x (cleared w (n * 4) (n * 5)) (length_cleared w (n * 4) (n * 5)) (cleared_below w (n * 4) (n * 5));
        told = tt;
        column = λ i l. cleared_in w (n * 4) (n * 5) (n * 4 + i) (omega arith) (omega arith) (omega (arith, x.long));
        count = refl;
      }

  pub root_done : (w : List ℕ) → Indexed t w n → (u v : List ℕ) (m : ℕ) → u ≡ cleared w (n * 4) (n * 5) → v ≡ new_words u (n * 4) 0 → m ≡ new_next u (n * 4) 0 → Indexed t v n × Numbered t v n 0 m
  unfolding marked
  root_done w x u v m eu ev em =
      let es = pieces_in t in
      let (p, r, q, _, d) = root_is max_open es o.shaped in
      let z : rep_of es (name_of 0 p) ≡ 0 = omega (arith, rep_le es 0 p r q) in
      shown_numbered t v n 0 m (nub_onto same [] (name_of 0 p ∷ [])) (kept_root es ∙ ap (nub_onto same []) d)
      (shown_more o (cleared w (n * 4) (n * 5)) v 0 m [] (name_of 0 p ∷ []) (event_in_law es 0 p r q, tt) (none_shown w x) (rw (z, add-zero, ← eu) ev) (rw (z, add-zero, ← eu) em))
