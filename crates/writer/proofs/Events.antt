-- Event by event: what each writes, and what is written when all are passed.
use Rattle.std.proofs.Common.{◌≡◌, ℕ, zero, suc, ◌+◌, ◌-◌, ◌*◌, ◌<◌, ◌≤◌, true, List, [], ◌∷◌, length, get_or, drop, refl, ap, ◌∙◌, suc-add, zero-add, add-one, arith}
use lib.Seq.{sets, length-sets}
use Rattle.event.specs.Format.{max_open}
use Rattle.written.specs.File.{flat, bytes_at, body}
use Rattle.written.proofs.FileLaws.{order_few}
use Rattle.written.specs.Graph.{Scalar, Kind, Piece, scalar, start, end, Name, val, same, number, emission}
use Rattle.written.proofs.NameLaws.{In, in_here, in_left, in_right, same_sound}
use Rattle.written.specs.Nub.{has, nub, nub_onto, nub_has}
use Rattle.written.proofs.NumberLaws.{number_lt}
use Rattle.written.proofs.RepLaws.{rep_same}
use Rattle.written.specs.Shape.{skip, next_at}
use Rattle.written.proofs.ShapeLaws.{next_scalar, next_start, next_end, closed_at}
use Rattle.written.specs.Upto.{spoken_upto}
use Rattle.written.proofs.UptoLaws.{spoken_more, spoken_scalar}
use Rattle.written.specs.Weigh.{rep_of}
use Rattle.writer.specs.ClearLaws.{length_cleared, cleared_in, cleared_below}
use Rattle.writer.specs.Columns.{Indexed, cleared}
use Rattle.writer.specs.ColumnsLaws.{indexed_kept}
use Rattle.writer.specs.Marks.{Numbered}
use Rattle.writer.specs.NumberedLaws.{numbered_is}
use Rattle.writer.specs.Ready.{Ready, pieces_in}
use Rattle.writer.specs.ReadyLaws.{ready_count, piece_at}
use Rattle.writer.specs.Speak.{written_at, said_at, place_in, Placed, end_of, Stand, Grown, Spoke, Single, Unsaid, Told}
use Rattle.writer.specs.SpeakLaws.{order_told, grown_none, grown_join, spoken_fits, spoken_whole, at_scalar, at_end, scalar_named}

module _ {t w out : List ℕ} {n e width pos : ℕ} (o : Told t w out n e width pos) {next : ℕ} (is : next ≡ get_or w (n + n + e) 0) where
  next_is : next ≡ next_at (pieces_in t) e
  next_is = is ∙ o.stand.indexed.nexts e (omega arith) o.within

  here : (p : Piece) × (drop e (pieces_in t) ≡ p ∷ drop (suc e) (pieces_in t))
  here = piece_at o.stand.ready e o.within

  far : (k : Kind) (r : List Piece) → drop e (pieces_in t) ≡ start k ∷ r → (next ≡ suc e + skip 0 r) × (0 < skip 0 r)
  far k r d = (next_is ∙ next_start (pieces_in t) e k r d, omega (arith, (closed_at max_open (pieces_in t) o.stand.ready.shaped e k r d).2))

  -- NEXT tells what the event is
  pub is_scalar_law : next ≡ e + 1 → (s : Scalar) × (drop e (pieces_in t) ≡ scalar s ∷ drop (suc e) (pieces_in t))
  is_scalar_law h = go here.0 here.1
    where
      go : (p : Piece) → drop e (pieces_in t) ≡ p ∷ drop (suc e) (pieces_in t) → (s : Scalar) × (drop e (pieces_in t) ≡ scalar s ∷ drop (suc e) (pieces_in t))
      go (scalar s) d = (s, d)
      go (start k) d = absurd (omega (arith, (far k _ d).0, (far k _ d).1))
      go end d = absurd (omega (arith, next_is, next_end (pieces_in t) e _ d))

  pub is_end_law : next ≡ 0 → drop e (pieces_in t) ≡ end ∷ drop (suc e) (pieces_in t)
  is_end_law h = go here.0 here.1
    where
      go : (p : Piece) → drop e (pieces_in t) ≡ p ∷ drop (suc e) (pieces_in t) → drop e (pieces_in t) ≡ end ∷ drop (suc e) (pieces_in t)
      go (scalar s) d = absurd (omega (arith, next_is, next_scalar (pieces_in t) e s _ d))
      go (start k) d = absurd (omega (arith, (far k _ d).0))
      go end d = d

  pub is_start : (next ≡ e + 1 → ⊥) → (next ≡ 0 → ⊥) → (k : Kind) × (r : List Piece) × (drop e (pieces_in t) ≡ start k ∷ r) × (next - 1 ≡ e + skip 0 r)
  is_start h g = go here.0 here.1
    where
      go : (p : Piece) → drop e (pieces_in t) ≡ p ∷ drop (suc e) (pieces_in t) → (k : Kind) × (r : List Piece) × (drop e (pieces_in t) ≡ start k ∷ r) × (next - 1 ≡ e + skip 0 r)
      go (scalar s) d = absurd (h (omega (arith, next_is, next_scalar (pieces_in t) e s _ d)))
      go (start k) d = (k, drop (suc e) (pieces_in t), d, omega (arith, (far k _ d).0))
      go end d = absurd (g (next_is ∙ next_end (pieces_in t) e _ d))

-- what is spoken before an event is spoken before every later one
spoken_kept : {t : List ℕ} {n : ℕ} → Ready t n → (x : Name) (j k : ℕ) → k + j ≤ n → In x (spoken_upto j 0 (pieces_in t)) → In x (spoken_upto (k + j) 0 (pieces_in t))
spoken_kept ready x j zero l h = rw zero-add h
spoken_kept {t} ready x j (suc k) l h =
    let (p, d) = piece_at ready (k + j) (omega arith) in
    rw (suc-add k j, spoken_more (pieces_in t) (k + j) p _ d) (in_left x (spoken_upto (k + j) 0 (pieces_in t)) _ (spoken_kept ready x j k (omega arith) h))

module _ {t w out : List ℕ} {n e width pos : ℕ} (o : Told t w out n e width pos) (r : List Piece) where
  pub scalar_single : (s : Scalar) → drop e (pieces_in t) ≡ scalar s ∷ r → Single t w out n e pos (said_at t e) s
  scalar_single s d =
      let le = rw (at_scalar (pieces_in t) e s r d) at (spoken_fits (pieces_in t) (suc e)) in
      record {
        stand = o.stand;
        behind = r;
        stands = d;
        named = scalar_named max_open (pieces_in t) o.stand.ready.shaped e r s d;
        room = record { fits = omega (arith, le, o.fits); small = omega (arith, le, o.small) };
      }

  pub scalar_grown : (s : Scalar) → drop e (pieces_in t) ≡ scalar s ∷ r → {v a : List ℕ} {j : ℕ} → Grown t n (said_at t e) out pos (nub_onto same (said_at t e) (val s ∷ [])) v a j → Spoke t n e out pos v a j
  scalar_grown s d g = rw (at_scalar (pieces_in t) e s r d) g

  -- a scalar that an earlier event is equal to is written
  pub again_grown : (s : Scalar) → drop e (pieces_in t) ≡ scalar s ∷ r → {first : ℕ} → first ≡ get_or w (n + e) 0 → first < e → Spoke t n e out pos w out pos
  unfolding written_at nub_onto
  again_grown s d {first} is h =
      let es = pieces_in t in
      let rep = is ∙ o.stand.indexed.rep e (scalar s) r o.within d in
      let (q, there) = rep_same es e s r d in
      let spoke : In (val s) (spoken_upto (suc first) 0 es) = rw (spoken_scalar es first s q (rw rep there)) (in_right (val s) (spoken_upto first 0 es) (val s ∷ []) (in_here (val s) [])) in
      let gap : e - suc first + suc first ≡ e = omega arith in
      let kept : In (val s) (spoken_upto e 0 es) = rw gap at (spoken_kept o.stand.ready (val s) (suc first) (e - suc first) (omega (arith, o.within)) spoke) in
      let i : has same (val s) (said_at t e) ≡ true = nub_has same same_sound (val s) (spoken_upto e 0 es) ∙ kept in
      scalar_grown s d (rw i (grown_none o.stand out))

  pub end_grown : drop e (pieces_in t) ≡ end ∷ r → Spoke t n e out pos w out pos
  end_grown d = rw (at_end (pieces_in t) e r d) (grown_none o.stand out)

-- before the first event nothing is written
none_said : (es : List Piece) → flat (bytes_at es) (written_at es 0) ≡ []
unfolding written_at spoken_upto nub nub_onto flat
none_said es = refl

none_end : (es : List Piece) → 8 ≡ end_of es (written_at es 0)
unfolding end_of
none_end es = rw (none_said es)

-- the words are cleared
none_stand : (t w : List ℕ) (n k : ℕ) → Ready t n → Indexed t w n → Numbered t w n n k → Stand t (cleared w (n * 5) (n * 6)) n (said_at t 0) 8
unfolding written_at spoken_upto nub nub_onto end_of flat place_in has
none_stand t w n k ready i m =
    let es = pieces_in t in
    let v = cleared w (n * 5) (n * 6) in
    let few = ready_count ready in
    record {
      ready = ready;
      indexed = indexed_kept ready i v (length_cleared w (n * 5) (n * 6)) (λ j l. cleared_below w (n * 5) (n * 6) j (omega arith));
      numbers = λ x h. cleared_below w (n * 5) (n * 6) (n * 4 + rep_of es x) (omega (arith, order_told es x h)) ∙ numbered_is ready w k m x h;
      placed = λ x h. cleared_in w (n * 5) (n * 6) (n * 5 + number es x) (omega arith) (omega (arith, number_lt es x h, order_few es)) (omega (arith, i.long));
      here = refl;
    }

-- the events before e are written
pub record Passed (t : List ℕ) (n : ℕ) (out₀ w out : List ℕ) (pos e : ℕ) : Type 0 where
  pub upto : e ≤ n
  pub grown : Grown t n (said_at t 0) out₀ 8 (said_at t e) w out pos

pub passed_none : {t w out : List ℕ} {n width : ℕ} → Unsaid t w out n width → Passed t n out (cleared w (n * 5) (n * 6)) out 8 0
passed_none {t} {w} {out} {n} o = record { upto = omega arith; grown = grown_none (none_stand t w n o.count o.ready o.indexed o.numbered) out }

module _ {t : List ℕ} {n : ℕ} {out₀ w out : List ℕ} {pos e : ℕ} (o : Passed t n out₀ w out pos e) where
  pub passed_length : length out ≡ length out₀
  passed_length = rw o.grown.written (length-sets out₀ 8 o.grown.bytes)

  pub passed_told : {w₀ : List ℕ} {width : ℕ} → Unsaid t w₀ out₀ n width → e < n → Told t w out n e width pos
  passed_told u h = record { stand = o.grown.stand; within = h; wide = u.wide; fits = omega (arith, passed_length, u.fits); small = u.small }

  pub passed_more : {v a : List ℕ} {j : ℕ} → e < n → Spoke t n e out pos v a j → Passed t n out₀ v a j (e + 1)
  passed_more h g = record { upto = omega arith; grown = rw add-one (grown_join (none_end (pieces_in t)) o.grown g) }

  pub passed_all : n ≤ e → (out ≡ sets out₀ 8 (body (pieces_in t))) × Placed t w n (emission (pieces_in t))
  unfolding body
  passed_all h =
      let q : e ≡ length (pieces_in t) = omega (arith, o.upto, ready_count o.grown.stand.ready) in
      let f = ap (said_at t) q ∙ spoken_whole (pieces_in t) in
      let b : flat (bytes_at (pieces_in t)) (emission (pieces_in t)) ≡ o.grown.bytes = rw (f, none_said (pieces_in t)) at o.grown.gained in
      (rw b o.grown.written, rw f at o.grown.stand.placed)
