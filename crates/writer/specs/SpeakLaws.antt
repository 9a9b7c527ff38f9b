-- Writing objects one after the other, each where it is first spoken of.
use Rattle.std.specs.Prelude.{◌≡◌, ℕ, suc, ◌+◌, ◌*◌, ◌<◌, ◌≤◌, Bool, true, false, cond, List, [], ◌∷◌, ◌++◌, map, length, drop, slice_index, slice_index_or, slice_set}
use Rattle.std.proofs.lemmas.Bool.{false≢true}
use Rattle.std.proofs.Common.{append-nil, append_assoc, sym, ◌∙◌, arith, get_or-set_same, get_or-set_other}
use Rattle.std.proofs.Math.Path.{refl, ap}
use Rattle.std.proofs.Math.ListN.{length-append}
use Rattle.std.proofs.lemmas.List.Edits.{sets}
use Rattle.utf.proofs.Writing.{sets_append}
use Rattle.written.proofs.CountLaws.{out_laid}
use Rattle.written.proofs.EmissionLaws.{written_numbered}
use Rattle.written.specs.Encoding.{object_bytes, list, pairs, scalar_bytes}
use Rattle.written.proofs.FileLaws.{order_few}
use Rattle.written.specs.File.{flat, ahead, bytes_at, ref_size, table_at}
use Rattle.written.proofs.FlatLaws.{flat_append, ahead_kept, ahead_new, front_le}
use Rattle.written.specs.Graph.{Scalar, Kind, arr, dic, Piece, scalar, start, end, Name, val, box, same, order, number, kids, evens, odds, laid, names, object_of, body_of, meant, spoken, emission}
use Rattle.written.proofs.NameLaws.{In, in_here, in_there, in_left, in_right, same_sound, same_refl}
use Rattle.written.proofs.NumberLaws.{number_lt, number_one, kid_named, from_order}
use Rattle.written.specs.Nub.{has, has_append, nub, nub_has, nub_onto, nub_onto_keeps, nub_onto_append}
use Rattle.written.proofs.RepLaws.{among_append, names_told, root_told, rep_lt}
use Rattle.written.specs.Shape.{whole}
use Rattle.written.specs.Upto.{spoken_upto}
use Rattle.written.proofs.UptoLaws.{spoken_split, spoken_all, spoken_scalar, spoken_arr, spoken_dic, spoken_end, box_new}
use Rattle.written.specs.Weigh.{event_names, rep_of}
use Rattle.writer.specs.ColumnsLaws.{indexed_set}
use Rattle.writer.specs.Marks.{Path}
use Rattle.writer.specs.NumberedLaws.{among_in}
use Rattle.writer.specs.Ready.{pieces_in}
use Rattle.writer.specs.ReadyLaws.{ready_count}
use Rattle.writer.specs.Speak.{written_at, place_in, end_of, Stand, Grown, Single, Named, Refs}

-- what has a number has a first event
pub order_told : (es : List Piece) (x : Name) → In x (order es) → rep_of es x < length es
order_told es x h =
    rep_lt es x (among_in (event_names 0 es) x (kids 0 0 es ++ names 0 es) (among_append (event_names 0 es) (kids 0 0 es) (names 0 es) (root_told es) (names_told 0 es)) (from_order es x h))

module _ (es : List Piece) (kept : List Name) (x : Name) where
  -- a new object stands behind the others
  place_new : has same x kept ≡ false → place_in es (kept ++ (x ∷ [])) x ≡ end_of es kept
  unfolding place_in end_of has
  place_new h = rw (has_append same x kept (x ∷ []), h, same_refl x, ahead_new (bytes_at es) x kept [] h)

  -- and they stay where they are
  place_other : (y : Name) → same y x ≡ false → place_in es (kept ++ (x ∷ [])) y ≡ place_in es kept y
  unfolding place_in has
  place_other y d = rw (has_append same y kept (x ∷ []), d) (go (has same y kept) refl)
    where
      go : (b : Bool) → has same y kept ≡ b → cond (cond b true false) (8 + ahead (bytes_at es) y (kept ++ (x ∷ []))) 0 ≡ cond b (8 + ahead (bytes_at es) y kept) 0
      go true e = rw (ahead_kept (bytes_at es) y kept (x ∷ []) e).0
      go false e = refl

  said_new : flat (bytes_at es) (kept ++ (x ∷ [])) ≡ flat (bytes_at es) kept ++ bytes_at es x
  unfolding flat
  said_new = flat_append (bytes_at es) kept (x ∷ []) ∙ rw (append-nil (bytes_at es x))

  pub end_new : end_of es (kept ++ (x ∷ [])) ≡ end_of es kept + length (bytes_at es x)
  unfolding end_of
  end_new = rw (said_new, length-append (flat (bytes_at es) kept) (bytes_at es x)) (omega arith)

-- a place is not 0
pub placed_in : (es : List Piece) (kept : List Name) (x : Name) → 0 < place_in es kept x → has same x kept ≡ true
unfolding place_in
placed_in es kept x h = go (has same x kept) h
  where
    go : (b : Bool) → 0 < cond b (8 + ahead (bytes_at es) x kept) 0 → b ≡ true
    go true h = refl
    go false h = absurd (omega arith)

pub placed_out : (es : List Piece) (kept : List Name) (x : Name) → place_in es kept x ≤ 0 → has same x kept ≡ false
unfolding place_in
placed_out es kept x h = go (has same x kept) h
  where
    go : (b : Bool) → cond b (8 + ahead (bytes_at es) x kept) 0 ≤ 0 → b ≡ false
    go true h = absurd (omega arith)
    go false h = refl

-- what is to come lies behind
pub end_le : (es : List Piece) (kept xs : List Name) → end_of es kept ≤ end_of es (nub_onto same kept xs)
unfolding end_of
end_le es kept xs =
    let p = nub_onto_keeps same kept xs in
    rw (p.1, flat_append (bytes_at es) kept p.0, length-append) (omega arith)

module _ {t : List ℕ} {n : ℕ} {kept : List Name} {pos : ℕ} where
  -- AT of an object is a word
  pub place_inside : {w : List ℕ} → Stand t w n kept pos → (x : Name) → In x (order (pieces_in t)) → n * 5 + number (pieces_in t) x < length w
  place_inside o x h = omega (arith, o.indexed.long, number_lt (pieces_in t) x h, order_few (pieces_in t), ready_count o.ready)

  -- a new object gets its place
  pub stand_new :
      {w : List ℕ} → Stand t w n kept pos → (x : Name) → In x (order (pieces_in t)) → has same x kept ≡ false →
      Stand t (slice_set w (n * 5 + number (pieces_in t) x) pos) n (kept ++ (x ∷ [])) (pos + length (bytes_at (pieces_in t) x))
  stand_new {w} o x h new = record {
    ready = o.ready;
    indexed = indexed_set o.ready o.indexed at pos (omega arith);
    numbers = λ y i. get_or-set_other w at (n * 4 + rep_of es y) pos 0 (λ e. absurd (omega (arith, order_told es y i, few))) ∙ o.numbers y i;
    placed = λ y i. shown y i (same y x) refl;
    here = sym (end_new es kept x ∙ rw (← o.here));
  }
    where
      es : List Piece
      es = pieces_in t

      at : ℕ
      at = n * 5 + number (pieces_in t) x

      few : length (pieces_in t) ≡ n
      few = ready_count o.ready

      shown : (y : Name) → In y (order (pieces_in t)) → (b : Bool) → same y x ≡ b → slice_index (slice_set w at pos) (n * 5 + number (pieces_in t) y) ≡ place_in (pieces_in t) (kept ++ (x ∷ [])) y
      shown y i true e = rw (same_sound y x e) (get_or-set_same w at pos 0 (place_inside o x h) ∙ o.here ∙ sym (place_new (pieces_in t) kept x new))
      shown y i false e =
          let d : number (pieces_in t) y ≡ number (pieces_in t) x → ⊥ = λ q. absurd (false≢true (sym e ∙ rw (number_one (pieces_in t) y x i h q) (same_refl x))) in
          get_or-set_other w at (n * 5 + number (pieces_in t) y) pos 0 (λ q. d (omega arith)) ∙ o.placed y i ∙ sym (place_other (pieces_in t) kept x y e)

  pub grown_new :
      {w : List ℕ} → Stand t w n kept pos → (out : List ℕ) (x : Name) → In x (order (pieces_in t)) → has same x kept ≡ false →
      Grown t n kept out pos (kept ++ (x ∷ [])) (slice_set w (n * 5 + number (pieces_in t) x) pos) (sets out pos (bytes_at (pieces_in t) x)) (pos + length (bytes_at (pieces_in t) x))
  grown_new o out x h new = record { stand = stand_new o x h new; bytes = bytes_at (pieces_in t) x; gained = said_new (pieces_in t) kept x; written = refl }

  pub grown_none : {w : List ℕ} → Stand t w n kept pos → (out : List ℕ) → Grown t n kept out pos kept w out pos
  grown_none o out = record { stand = o; bytes = []; gained = sym (append-nil (flat (bytes_at (pieces_in t)) kept)); written = refl }

  -- and then others
  pub grown_join : {out : List ℕ} {mid more : List Name} {w v a b : List ℕ} {i j : ℕ} → pos ≡ end_of (pieces_in t) kept → Grown t n kept out pos mid w a i → Grown t n mid a i more v b j → Grown t n kept out pos more v b j
  unfolding end_of
  grown_join {out} {i = i} here g f = record {
    stand = f.stand;
    bytes = g.bytes ++ f.bytes;
    gained = f.gained ∙ rw g.gained (append_assoc (flat (bytes_at (pieces_in t)) kept) g.bytes f.bytes);
    written = f.written ∙ rw (g.written, at) (sym (sets_append g.bytes f.bytes out pos));
  }
    where
      at : i ≡ pos + length g.bytes
      at = g.stand.here ∙ rw (g.gained, length-append (flat (bytes_at (pieces_in t)) kept) g.bytes, here) (omega arith)

module _ {t w out : List ℕ} {n e pos : ℕ} {kept : List Name} {s : Scalar} (o : Single t w out n e pos kept s) where
  -- a scalar that is written already
  pub single_seen : 0 < slice_index w (n * 5 + number (pieces_in t) (val s)) → Grown t n kept out pos (nub_onto same kept (val s ∷ [])) w out pos
  unfolding nub_onto
  single_seen h =
      let i : has same (val s) kept ≡ true = placed_in (pieces_in t) kept (val s) (rw (o.stand.placed (val s) o.named) at h) in
      rw i (grown_none o.stand out)

  -- and one that isn't
  module _ (h : slice_index_or w (n * 5 + number (pieces_in t) (val s)) 0 ≤ 0) where
    single_out : has same (val s) kept ≡ false
    single_out = placed_out (pieces_in t) kept (val s) (rw (o.stand.placed (val s) o.named) at h)

    pub single_new :
        Grown t n kept out pos (nub_onto same kept (val s ∷ [])) (slice_set w (n * 5 + number (pieces_in t) (val s)) pos) (sets out pos (bytes_at (pieces_in t) (val s)))
        (pos + length (bytes_at (pieces_in t) (val s)))
    unfolding nub_onto
    single_new = rw single_out (grown_new o.stand out (val s) o.named single_out)

    pub single_room : pos + length (bytes_at (pieces_in t) (val s)) ≤ length out
    unfolding nub_onto
    single_room = omega (arith, rw single_out at o.room.fits, end_new (pieces_in t) kept (val s), o.stand.here)

-- a container's bytes
module _ (es : List Piece) (e : ℕ) (r : List Piece) where
  pub array_bytes : drop e es ≡ start arr ∷ r → bytes_at es (box e) ≡ object_bytes (ref_size es) (list (map (number es) (kids 0 (suc e) r)))
  unfolding bytes_at object_of body_of
  array_bytes h = rw h

  pub dictionary_bytes : drop e es ≡ start dic ∷ r → bytes_at es (box e) ≡ object_bytes (ref_size es) (pairs (map (number es) (evens (kids 0 (suc e) r))) (map (number es) (odds (kids 0 (suc e) r))))
  unfolding bytes_at object_of body_of
  dictionary_bytes h = rw h

pub scalar_bytes_law : (es : List Piece) (s : Scalar) → bytes_at es (val s) ≡ scalar_bytes (meant s)
unfolding bytes_at object_of object_bytes
scalar_bytes_law es s = refl

-- a walk over names is one over their numbers
pub refs_are : {t w : List ℕ} {n : ℕ} {kept : List Name} {pos : ℕ} → Stand t w n kept pos → (stop pair side : ℕ) (xs : List Name) (i : ℕ) → Named (pieces_in t) xs →
    Path w n stop pair side i (map (rep_of (pieces_in t)) xs) → Refs w n stop pair side i (map (number (pieces_in t)) xs)
refs_are o stop pair side [] i h p = p
refs_are {w = w} {n = n} o stop pair side (x ∷ xs) i h (a, b, c, d, l, m, p) =
    let q = refs_are o stop pair side xs (slice_index w (n + n + (i + pair))) (λ y j. h y (in_there y x xs j)) p in
    (a, b, c, rw (← d) l, rw (← d) (o.numbers x (h x (in_here x xs))), m, q)

-- the members of a container have numbers
pub members_named : (es : List Piece) (e : ℕ) (k : Kind) (r : List Piece) → drop e es ≡ start k ∷ r → Named es (kids 0 (suc e) r)
members_named es e k r h x i = kid_named es e k r x h i

pub keys_named : (es : List Piece) (e : ℕ) (r : List Piece) → drop e es ≡ start dic ∷ r → Named es (evens (kids 0 (suc e) r)) × Named es (odds (kids 0 (suc e) r))
unfolding laid
keys_named es e r h =
    let ms = kids 0 (suc e) r in
    ((λ x i. kid_named es e dic r x h (out_laid x dic ms (in_left x (evens ms) (odds ms) i))), (λ x i. kid_named es e dic r x h (out_laid x dic ms (in_right x (evens ms) (odds ms) i))))

-- what the events up to e speak is in front of what all do
pub spoken_fits : (es : List Piece) (e : ℕ) → end_of es (written_at es e) ≤ table_at es
unfolding end_of written_at table_at
spoken_fits es e = let p = spoken_split es e in omega (arith, front_le es (spoken_upto e 0 es) p.0 p.1)

pub spoken_whole : (es : List Piece) → written_at es (length es) ≡ emission es
unfolding written_at emission
spoken_whole es = ap (nub same) (spoken_all 0 es)

-- one event more
spoken_onto : (es : List Piece) (e : ℕ) (xs : List Name) → spoken_upto (suc e) 0 es ≡ spoken_upto e 0 es ++ xs → written_at es (suc e) ≡ nub_onto same (written_at es e) xs
unfolding written_at nub
spoken_onto es e xs h = ap (nub same) h ∙ nub_onto_append same [] (spoken_upto e 0 es) xs

pub at_scalar : (es : List Piece) (e : ℕ) (s : Scalar) (r : List Piece) → drop e es ≡ scalar s ∷ r → written_at es (suc e) ≡ nub_onto same (written_at es e) (val s ∷ [])
at_scalar es e s r h = spoken_onto es e (val s ∷ []) (spoken_scalar es e s r h)

pub at_end : (es : List Piece) (e : ℕ) (r : List Piece) → drop e es ≡ end ∷ r → written_at es (suc e) ≡ written_at es e
unfolding written_at
at_end es e r h = ap (nub same) (spoken_end es e r h)

module _ (top : ℕ) (es : List Piece) (sound : whole top es ≡ true) (e : ℕ) (r : List Piece) where
  pub container_new : (k : Kind) → drop e es ≡ start k ∷ r → has same (box e) (written_at es e) ≡ false
  unfolding written_at
  container_new k h = nub_has same same_sound (box e) (spoken_upto e 0 es) ∙ box_new top es sound e

  pub at_array : drop e es ≡ start arr ∷ r → written_at es (suc e) ≡ written_at es e ++ (box e ∷ [])
  unfolding nub_onto
  at_array h = spoken_onto es e (box e ∷ []) (spoken_arr es e r h) ∙ rw (container_new arr h)

  pub at_dictionary : drop e es ≡ start dic ∷ r → written_at es (suc e) ≡ nub_onto same (written_at es e ++ (box e ∷ [])) (evens (kids 0 (suc e) r))
  unfolding nub_onto
  at_dictionary h =
      let ks = evens (kids 0 (suc e) r) in
      spoken_onto es e (box e ∷ ks) (spoken_dic es e r h) ∙ ap (λ (b : Bool). nub_onto same (cond b (written_at es e) (written_at es e ++ (box e ∷ []))) ks) (container_new dic h)

  -- what is spoken has a number
  pub said_named : (x : Name) → In x (written_at es (suc e)) → In x (order es)
  unfolding written_at emission
  said_named x h =
      let p = spoken_split es (suc e) in
      written_numbered top es x sound (nub_has same same_sound x (spoken 0 es) ∙ rw p.1 (in_left x (spoken_upto (suc e) 0 es) p.0 (sym (nub_has same same_sound x (spoken_upto (suc e) 0 es)) ∙ h)))

  pub scalar_named : (s : Scalar) → drop e es ≡ scalar s ∷ r → In (val s) (order es)
  unfolding written_at
  scalar_named s h = said_named (val s) (nub_has same same_sound (val s) (spoken_upto (suc e) 0 es) ∙ rw (spoken_scalar es e s r h) (in_right (val s) (spoken_upto e 0 es) (val s ∷ []) (in_here (val s) [])))

  pub container_named : (k : Kind) → drop e es ≡ start k ∷ r → In (box e) (order es)
  container_named arr h = said_named (box e) (rw (at_array h) (in_right (box e) (written_at es e) (box e ∷ []) (in_here (box e) [])))
  container_named dic h =
      let p = nub_onto_keeps same (written_at es e ++ (box e ∷ [])) (evens (kids 0 (suc e) r)) in
      said_named (box e) (rw (at_dictionary h, p.1) (in_left (box e) (written_at es e ++ (box e ∷ [])) p.0 (in_right (box e) (written_at es e) (box e ∷ []) (in_here (box e) []))))
