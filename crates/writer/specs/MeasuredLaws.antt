-- An event is measured: the walk over a container's members, and what is set in the columns NEXT and LEN.
use Rattle.std.specs.Prelude.{◌≡◌, ℕ, suc, ◌+◌, ◌*◌, ◌/◌, ◌^◌, ◌<◌, ◌≤◌, Bool, true, false, List, ◌∷◌, length, drop, set, ◌==◌, ◌≢◌, slice_index, slice_index_or, slice_set, None, Some}
use Rattle.std.proofs.lemmas.Bool.{false≢true, eqb-false}
use mathlib.Core.List.{head-eq_of_cons-eq, tail-eq_of_cons-eq}
use Rattle.std.proofs.Math.Path.{refl, sym, ap}
use Rattle.std.proofs.Common.{◌∙◌, zero-add, arith, eq-eqb, ne_eqb, eqb-true, length-set}
use Rattle.std.proofs.Math.Seq.{get_or-set_same, get_or-set_other}
use Rattle.event.specs.Format.{max_open}
use Rattle.event.specs.Meaning.{Meaning}
use Rattle.tape.specs.Events.{start_at}
use Rattle.encode.specs.Size.{head_size, size_at}
use Rattle.encode.specs.SizeLaws.{length_head, size_scalar}
use Rattle.encode.specs.declared.size.Size.{Size}
use Rattle.written.specs.Encoding.{scalar_bytes}
use Rattle.written.specs.Graph.{Scalar, Kind, arr, dic, Piece, scalar, start, end, val, kids, meant}
use Rattle.written.proofs.NameLaws.{scalar_start, end_start}
use Rattle.written.specs.Scalar.{units_for}
use Rattle.written.specs.Shape.{skip, next_at, is_end}
use Rattle.written.proofs.ShapeLaws.{next_scalar, next_start, next_end, along, along_length, along_step, along_more, along_over, closed_at, stop_next, root_is}
use Rattle.written.specs.Weigh.{rep_of, counted, weight_of, members_of}
use Rattle.writer.specs.Columns.{alone_in, Measured}
use Rattle.writer.specs.Measure.{Weighs, Passed}
use Rattle.writer.specs.MeasureLaws.{units_le, long_is}
use Rattle.writer.specs.Ready.{pieces_in, Ready}
use Rattle.writer.specs.ReadyLaws.{piece_at, scalar_at, drop_piece, ready_count, kind_at, array_at, dictionary_at}

-- from e on
since : (P : ℕ → Type 0) (e : ℕ) → P e → ((i : ℕ) → e < i → P i) → (i : ℕ) → e ≤ i → P i
since P e p f i h = go (i == e) refl
  where
    go : (b : Bool) → (i == e) ≡ b → P i
    go true q = rw (eqb-true i e q) p
    go false q = let d = eqb-false i e q in f i (omega arith)

module _ {t : List ℕ} {n : ℕ} (o : Ready t n) where
  -- the first event is no end
  first_open : (e : ℕ) (r : List Piece) → drop e (pieces_in t) ≡ end ∷ r → 0 ≢ e
  first_open e r d z =
      let (p, q, f, g, _) = root_is max_open (pieces_in t) o.shaped in
      let k : p ≡ end = head-eq_of_cons-eq (sym f ∙ (rw (← z) at d)) in
      false≢true (sym g ∙ ap is_end k)

  -- what an event adds, by the event
  weighs : (e : ℕ) (p : Piece) (r : List Piece) {bytes members : ℕ} → drop e (pieces_in t) ≡ p ∷ r → bytes ≡ weight_of (pieces_in t) e p r → members ≡ members_of e p r → Weighs t e bytes members
  weighs e p r d f g q s h = let k = sym d ∙ h in rw (← head-eq_of_cons-eq k, ← tail-eq_of_cons-eq k) (f, g)

  -- a container's head, whose length the kind tells
  counted_is : (e : ℕ) (k : Kind) (r : List Piece) → drop e (pieces_in t) ≡ start k ∷ r → (len head : ℕ)
      → (kind_at t e < 0x0c → head ≡ len) → (0x0c ≤ kind_at t e → head ≡ len / 2) → head ≡ counted k len
  unfolding counted
  counted_is e arr r d len head a b = a (array_at o e r d).1
  counted_is e dic r d len head a b = b (dictionary_at o e r d).0

  pub start_weighs : (e : ℕ) (k : Kind) (r : List Piece) → drop e (pieces_in t) ≡ start k ∷ r → (len head : ℕ) → len ≡ length (kids 0 (suc e) r)
      → (kind_at t e < 0x0c → head ≡ len) × (0x0c ≤ kind_at t e → head ≡ len / 2) → Weighs t e (head_size head) len
  unfolding members_of weight_of
  start_weighs e k r d len head g (a, b) =
      let f : head_size head ≡ head_size (counted k (length (kids 0 (suc e) r))) = ap head_size (counted_is e k r d len head a b ∙ ap (counted k) g) in
      weighs e (start k) r d (f ∙ sym (length_head 0 (counted k (length (kids 0 (suc e) r))))) g

  -- what NEXT tells before an event is measured
  module _ {w : List ℕ} {e : ℕ} (h : e < n) (m : Measured t w n (suc e)) where
    abbrev rest : List Piece
    rest = drop (suc e) (pieces_in t)

    told : (p : Piece) → drop e (pieces_in t) ≡ p ∷ rest → slice_index w (n + n + e) ≡ alone_in e (p ∷ rest)
    told p d = m.alone e (omega arith) ∙ ap (alone_in e) d

    pub alone_scalar : slice_index_or w (n + n + e) 0 ≡ e + 1 → (s : Scalar) × (r : List Piece) × (drop e (pieces_in t) ≡ scalar s ∷ r)
    unfolding alone_in
    alone_scalar q = let (p, d) = piece_at o e h in go p d (told p d)
      where
        go : (p : Piece) → drop e (pieces_in t) ≡ p ∷ rest → slice_index w (n + n + e) ≡ alone_in e (p ∷ rest)
            → (s : Scalar) × (r : List Piece) × (drop e (pieces_in t) ≡ scalar s ∷ r)
        go (scalar s) d f = (s, rest, d)
        go (start k) d f = absurd (omega arith)
        go end d f = absurd (omega arith)

    pub alone_start : slice_index_or w (n + n + e) 0 ≡ e → (k : Kind) × (r : List Piece) × (drop e (pieces_in t) ≡ start k ∷ r)
    unfolding alone_in
    alone_start q = let (p, d) = piece_at o e h in go p d (told p d)
      where
        go : (p : Piece) → drop e (pieces_in t) ≡ p ∷ rest → slice_index w (n + n + e) ≡ alone_in e (p ∷ rest)
            → (k : Kind) × (r : List Piece) × (drop e (pieces_in t) ≡ start k ∷ r)
        go (scalar s) d f = absurd (omega arith)
        go (start k) d f = (k, rest, d)
        go end d f = absurd (first_open e rest d (sym f ∙ q))

    alone_end : (slice_index w (n + n + e) ≢ e + 1) → (slice_index w (n + n + e) ≢ e) → drop e (pieces_in t) ≡ end ∷ rest
    unfolding alone_in
    alone_end a b = let (p, d) = piece_at o e h in go p d (told p d)
      where
        go : (p : Piece) → drop e (pieces_in t) ≡ p ∷ rest → slice_index w (n + n + e) ≡ alone_in e (p ∷ rest) → drop e (pieces_in t) ≡ end ∷ rest
        go (scalar s) d f = absurd (a (omega arith))
        go (start k) d f = absurd (b f)
        go end d f = d

    -- an event more stands in the columns
    measured_more : (v : List ℕ) → length v ≡ length w → ((j : ℕ) → (j ≢ n + n + e) → (j ≢ n * 3 + e) → slice_index v j ≡ slice_index w j)
        → slice_index v (n + n + e) ≡ next_at (pieces_in t) e
        → ((k : Kind) (r : List Piece) → drop e (pieces_in t) ≡ start k ∷ r → slice_index v (n * 3 + e) ≡ length (kids 0 (suc e) r))
        → ((s : Scalar) (r : List Piece) → drop e (pieces_in t) ≡ scalar s ∷ r → rep_of (pieces_in t) (val s) ≡ e → slice_index v (n * 3 + e) ≡ units_for (meant s))
        → Measured t v n e
    measured_more v l other next len units =
        record {
          long = l ∙ m.long;
          off = λ i a. other i (omega arith) (omega arith) ∙ m.off i a;
          rep = λ i p r a d. other (n + i) (omega arith) (omega arith) ∙ m.rep i p r a d;
          alone = λ i a. other (n + n + i) (omega arith) (omega arith) ∙ m.alone i (omega arith);
          nexts = since (λ (i : ℕ). i < n → slice_index v (n + n + i) ≡ next_at (pieces_in t) i) e (λ a. next) (λ i b a. other (n + n + i) (omega arith) (omega arith) ∙ m.nexts i b a);
          members = λ i k r b d. since (λ (i : ℕ). drop i (pieces_in t) ≡ start k ∷ r → slice_index v (n * 3 + i) ≡ length (kids 0 (suc i) r)) e (len k r)
              (λ i b d. let a = drop_piece o i (start k) r d in other (n * 3 + i) (omega arith) (omega arith) ∙ m.members i k r b d) i b d;
          units = λ i s r b d. since (λ (i : ℕ). drop i (pieces_in t) ≡ scalar s ∷ r → rep_of (pieces_in t) (val s) ≡ i → slice_index v (n * 3 + i) ≡ units_for (meant s)) e (units s r)
              (λ i b d q. let a = drop_piece o i (scalar s) r d in other (n * 3 + i) (omega arith) (omega arith) ∙ m.units i s r b d q) i b d;
        }

    -- an end, or a scalar that isn't the first with its bytes, changes nothing
    pub end_measured : (slice_index w (n + n + e) ≢ e + 1) → (slice_index w (n + n + e) ≢ e) → Measured t w n e × Weighs t e 0 0
    unfolding weight_of members_of alone_in
    end_measured a b =
        let d = alone_end a b in (
          measured_more w refl (λ j x y. refl) (told end d ∙ sym (next_end (pieces_in t) e rest d))
              (λ k r f. let z : end ≡ start k = head-eq_of_cons-eq (sym d ∙ f) in absurd (end_start z))
              (λ s r f g. let z : end ≡ scalar s = head-eq_of_cons-eq (sym d ∙ f) in let y : ◌≡◌ {A = ℕ} 0 1 = cc in absurd (omega arith)),
          weighs e end rest d refl refl,
        )

    module _ (s : Scalar) (r : List Piece) (d : drop e (pieces_in t) ≡ scalar s ∷ r) where
      one : (k : Scalar) (q : List Piece) → drop e (pieces_in t) ≡ scalar k ∷ q → k ≡ s
      one k q f = let z : scalar k ≡ scalar s = head-eq_of_cons-eq (sym f ∙ d) in cc

      rep_is : slice_index_or w (n + e) 0 ≡ rep_of (pieces_in t) (val s)
      rep_is = m.rep e (scalar s) r h d

      next_is : slice_index_or w (n + n + e) 0 ≡ next_at (pieces_in t) e
      unfolding alone_in
      next_is = m.alone e (omega arith) ∙ rw d (sym (next_scalar (pieces_in t) e s r d))

      no_start : (k : Kind) (q : List Piece) → drop e (pieces_in t) ≢ start k ∷ q
      no_start k q f = let z : scalar s ≡ start k = head-eq_of_cons-eq (sym d ∙ f) in scalar_start z

      pub other_measured : (slice_index w (n + e) ≢ e) → Measured t w n e × Weighs t e 0 0
      unfolding weight_of members_of
      other_measured a = (
        measured_more w refl (λ j x y. refl) next_is (λ k q f. absurd (no_start k q f))
            (λ k q f g. absurd (a (rep_is ∙ ap (λ (x : Scalar). rep_of (pieces_in t) (val x)) (sym (one k q f)) ∙ g))),
        weighs e (scalar s) r d (rw (ne_eqb (rep_of (pieces_in t) (val s)) e (λ z. a (rep_is ∙ z)))) refl,
      )

      -- the first with its bytes is sized
      sized : (k : Meaning) × (size_at t (slice_index w e) ≡ Some (record { bytes = length (scalar_bytes k); units = units_for k })) × (meant s ≡ k)
      sized =
          let (k, a) = scalar_at o e s r d in
          (k, ap (size_at t) (m.off e h) ∙ size_scalar t (start_at t e) (start_at t (suc e)) k o.bytes a.here.reads a.lone, a.means)

      pub always_sized : None ≡ size_at t (slice_index w e) → ⊥
      always_sized f =
          let (k, g, means) = sized in
          let y = f ∙ g in
          let z : ◌≡◌ {A = ℕ} 0 1 = cc in
          omega arith

      size_is : (size : Size) → Some size ≡ size_at t (slice_index w e) → (size.bytes ≡ length (scalar_bytes (meant s))) × (size.units ≡ units_for (meant s))
      size_is size f =
          let (k, g, means) = sized in
          let y = f ∙ g in
          let z : size ≡ record { bytes = length (scalar_bytes k); units = units_for k } = cc in
          rw means (ap (λ (x : Size). x.bytes) z, ap (λ (x : Size). x.units) z)

      pub units_small : (size : Size) → Some size ≡ size_at t (slice_index w e) → size.units < 2 ^ 32
      units_small size f =
          let (k, a) = scalar_at o e s r d in
          let g : size.units ≡ units_for k = rw a.means at (size_is size f).1 in
          omega (arith, g, units_le k a.here.held.1, long_is o e k a.here, a.here.within, o.short)

      pub first_measured : slice_index_or w (n + e) 0 ≡ e → (size : Size) → Some size ≡ size_at t (slice_index w e) → Measured t (slice_set w (n * 3 + e) size.units) n e × Weighs t e size.bytes 0
      unfolding weight_of members_of
      first_measured a size f =
          let u = size.units in
          let z = size_is size f in (
            measured_more (slice_set w (n * 3 + e) u) (length-set w (n * 3 + e) u) (λ j x y. get_or-set_other w (n * 3 + e) j u 0 y)
                (get_or-set_other w (n * 3 + e) (n + n + e) u 0 (omega arith) ∙ next_is)
                (λ k q f. absurd (no_start k q f))
                (λ k q f g. get_or-set_same w (n * 3 + e) u 0 (omega (arith, m.long)) ∙ z.1 ∙ ap (λ (x : Scalar). units_for (meant x)) (sym (one k q f))),
            weighs e (scalar s) r d (rw (eq-eqb (rep_of (pieces_in t) (val s)) e (sym rep_is ∙ a)) z.0) refl,
          )

    module _ (k : Kind) (r : List Piece) (d : drop e (pieces_in t) ≡ start k ∷ r) where
      pub start_columns : (next len : ℕ) → next ≡ next_at (pieces_in t) e → len ≡ length (kids 0 (suc e) r) → Measured t (slice_set (slice_set w (n + n + e) next) (n * 3 + e) len) n e
      start_columns next len f g =
          let x = set w (n + n + e) next in
          measured_more (slice_set x (n * 3 + e) len) (simp length-set) (λ j y z. get_or-set_other x (n * 3 + e) j len 0 z ∙ get_or-set_other w (n + n + e) j next 0 y)
          (get_or-set_other x (n * 3 + e) (n + n + e) len 0 (omega arith) ∙ get_or-set_same w (n + n + e) next 0 (omega (arith, m.long)) ∙ f)
          (λ j q z.
          let y : r ≡ q = tail-eq_of_cons-eq (sym d ∙ z) in
          get_or-set_same x (n * 3 + e) len 0 (rw length-set (omega (arith, m.long))) ∙ rw (← y) g)
          (λ s q z. let y : scalar s ≡ start k = head-eq_of_cons-eq (sym z ∙ d) in absurd (scalar_start y))

  -- the walk from member to member
  pub passed_none : (e : ℕ) (k : Kind) (r : List Piece) → drop e (pieces_in t) ≡ start k ∷ r → Passed t e (suc e) 0
  passed_none e k r d =
      record { kind = k; behind = r; here = d; left = kids 0 (suc e) r; way = along max_open (pieces_in t) o.shaped e k r d; within = omega arith; count = zero-add _ }

  module _ {e i members : ℕ} (p : Passed t e i members) where
    abbrev es : List Piece
    es = pieces_in t

    abbrev stop : ℕ
    stop = e + skip 0 p.behind

    stop_lt : stop < n
    stop_lt = rw (← ready_count o) (closed_at max_open es o.shaped e p.kind p.behind p.here).0

    pub passed_lt : i < n
    passed_lt = omega (arith, stop_lt, along_length es stop i p.left p.way)

    pub passed_few : members < n
    passed_few = omega (arith, stop_lt, p.count, along_length es stop (suc e) (kids 0 (suc e) p.behind) (along max_open es o.shaped e p.kind p.behind p.here))

    module _ {w : List ℕ} (m : Measured t w n (suc e)) where
      next_word : slice_index_or w (n + n + i) 0 ≡ next_at es i
      next_word = m.nexts i p.within passed_lt

      pub passed_more : 0 < slice_index w (n + n + i) → (i < slice_index w (n + n + i)) × Passed t e (slice_index w (n + n + i)) (members + 1)
      passed_more h =
          let lt = along_more es stop i p.left p.way (stop_next max_open es o.shaped e p.kind p.behind p.here) (rw next_word at h) in
          let s = along_step es stop i p.left p.way lt in
          rw next_word (
            s.above,
            record {
              kind = p.kind;
              behind = p.behind;
              here = p.here;
              left = s.others;
              way = s.more;
              within = omega (arith, p.within, s.above);
              count = omega (arith, p.count, ap length s.are);
            },
          )

      pub passed_all : slice_index_or w (n + n + i) 0 ≡ 0 → (i + 1 ≡ next_at es e) × (members ≡ length (kids 0 (suc e) p.behind))
      passed_all h =
          let z = along_over es stop i p.left p.way (sym next_word ∙ h) in
          (omega (arith, z.0, next_start es e p.kind p.behind p.here), omega (arith, p.count, ap length z.1))
