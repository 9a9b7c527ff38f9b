-- Scalars of events that a tape can have mean what they were made from, and can be written.
use Rattle.std.specs.Prelude.{Bool, true, false, cond, List, [], ◌∷◌, map, ◌⊎◌, ◌≡◌, refl, ℕ, zero, suc, ◌+◌, ◌≤◌, length}
use Rattle.std.proofs.Common.{true≢false, append-nil, inl, inr, ap}
use Rattle.std.proofs.lemmas.Bool.{false≢true}
use Rattle.event.specs.Format.{max_open, max_length}
use Rattle.event.specs.Meaning.{Meaning, array, dictionary, close, boolean, bytes, date, integer, real, text, uid}
use Rattle.tape.specs.Code.{bytes_for, OnTape}
use Rattle.tape.proofs.CodeLaws.{reads_back}
use Rattle.tape.proofs.EventsLaws.{AllOnTape}
use Rattle.tape.specs.Item.{event, read_at}
use Rattle.written.proofs.CountLaws.{out_laid}
use Rattle.written.specs.File.{file_of}
use Rattle.written.specs.Graph.{Scalar, Piece, scalar, start, end, piece_of, Name, val, box, same, kids, laid, names, order, meaning_in, meant}
use Rattle.written.proofs.NameLaws.{In, in_append, same_sound}
use Rattle.written.specs.Nub.{has}
use Rattle.written.proofs.NumberLaws.{from_order}
use Rattle.written.specs.Scalar.{IsScalar}
use Rattle.written.specs.Shape.{whole}

-- bytes on the tape are those of what they mean, a scalar
abbrev pub Writable : Scalar → Type 0
Writable s = IsScalar (meant s) × OnTape (meant s) × (bytes_for (meant s) ≡ s)

pub meant_is : (m : Meaning) → OnTape m → meant (bytes_for m) ≡ m
unfolding meant meaning_in
meant_is m h = let e : read_at (bytes_for m) 0 ≡ event m (0 + length (bytes_for m)) = rw append-nil at (reads_back [] m [] h) in rw e

writable : (m : Meaning) → IsScalar m → OnTape m → Writable (bytes_for m)
writable m i h = rw (meant_is m h) (i, h, refl)

-- all scalars can be written
abbrev Writables : List Piece → Type 0
Writables [] = Unit {0}
Writables (scalar s ∷ es) = Writable s × Writables es
Writables (start k ∷ es) = Writables es
Writables (end ∷ es) = Writables es

all_writable : (ms : List Meaning) → AllOnTape ms → Writables (map piece_of ms)
unfolding piece_of
all_writable [] h = tt
all_writable (array g ∷ ms) h = all_writable ms h.1
all_writable (dictionary g ∷ ms) h = all_writable ms h.1
all_writable (close ∷ ms) h = all_writable ms h.1
all_writable (boolean b ∷ ms) h = (writable (boolean b) tt h.0, all_writable ms h.1)
all_writable (bytes s ∷ ms) h = (writable (bytes s) tt h.0, all_writable ms h.1)
all_writable (date b ∷ ms) h = (writable (date b) tt h.0, all_writable ms h.1)
all_writable (integer z ∷ ms) h = (writable (integer z) tt h.0, all_writable ms h.1)
all_writable (real b ∷ ms) h = (writable (real b) tt h.0, all_writable ms h.1)
all_writable (text s ∷ ms) h = (writable (text s) tt h.0, all_writable ms h.1)
all_writable (uid n ∷ ms) h = (writable (uid n) tt h.0, all_writable ms h.1)

in_cons : (x y : Name) (l : List Name) → In x (y ∷ l) → (x ≡ y) ⊎ In x l
unfolding has
in_cons x y l h = go (same x y) refl h
  where
    go : (b : Bool) → same x y ≡ b → cond b true (has same x l) ≡ true → (x ≡ y) ⊎ In x l
    go true e i = inl (same_sound x y e)
    go false e i = inr i

abbrev bytes_in : Name → Scalar
bytes_in (val s) = s
bytes_in (box p) = []

abbrev pub is_val : Name → Bool
is_val (val s) = true
is_val (box p) = false

abbrev pub box_in : Name → ℕ
box_in (val s) = 0
box_in (box p) = p

kids_writable : (es : List Piece) (d n : ℕ) (s : Scalar) → Writables es → In (val s) (kids d n es) → Writable s
unfolding kids has
kids_writable [] d n s a h = absurd (false≢true h)
kids_writable (scalar t ∷ es) zero n s a h = go (in_cons (val s) (val t) (kids 0 (suc n) es) h) (λ i. kids_writable es 0 (suc n) s a.1 i)
  where
    go : (val s ≡ val t) ⊎ In (val s) (kids 0 (suc n) es) → (In (val s) (kids 0 (suc n) es) → Writable s) → Writable s
    go (inl e) ih = let q : s ≡ t = ap bytes_in e in rw q a.0
    go (inr i) ih = ih i
kids_writable (scalar t ∷ es) (suc d) n s a h = kids_writable es (suc d) (suc n) s a.1 h
kids_writable (start k ∷ es) zero n s a h = go (in_cons (val s) (box n) (kids 1 (suc n) es) h) (λ i. kids_writable es 1 (suc n) s a i)
  where
    go : (val s ≡ box n) ⊎ In (val s) (kids 1 (suc n) es) → (In (val s) (kids 1 (suc n) es) → Writable s) → Writable s
    go (inl e) ih = absurd (true≢false (ap is_val e))
    go (inr i) ih = ih i
kids_writable (start k ∷ es) (suc d) n s a h = kids_writable es (suc (suc d)) (suc n) s a h
kids_writable (end ∷ es) zero n s a h = absurd (false≢true h)
kids_writable (end ∷ es) (suc d) n s a h = kids_writable es d (suc n) s a h

names_writable : (es : List Piece) (n : ℕ) (s : Scalar) → Writables es → In (val s) (names n es) → Writable s
unfolding names has
names_writable [] n s a h = absurd (false≢true h)
names_writable (scalar t ∷ es) n s a h = names_writable es (suc n) s a.1 h
names_writable (start k ∷ es) n s a h = go (in_append (val s) (laid k (kids 0 (suc n) es)) (names (suc n) es) h) (λ i. names_writable es (suc n) s a i)
  where
    go : In (val s) (laid k (kids 0 (suc n) es)) ⊎ In (val s) (names (suc n) es) → (In (val s) (names (suc n) es) → Writable s) → Writable s
    go (inl i) ih = kids_writable es 0 (suc n) s a (out_laid (val s) k (kids 0 (suc n) es) i)
    go (inr i) ih = ih i
names_writable (end ∷ es) n s a h = names_writable es (suc n) s a h

order_writable : (es : List Piece) → Writables es → (s : Scalar) → In (val s) (order es) → Writable s
order_writable es a s h = go (in_append (val s) (kids 0 0 es) (names 0 es) (from_order es (val s) h))
  where
    go : In (val s) (kids 0 0 es) ⊎ In (val s) (names 0 es) → Writable s
    go (inl i) = kids_writable es 0 0 s a i
    go (inr i) = names_writable es 0 s a i

-- every scalar that is numbered can be written
pub scalars_writable : (ms : List Meaning) → AllOnTape ms → (s : Scalar) → In (val s) (order (map piece_of ms)) → Writable s
scalars_writable ms h s i = order_writable (map piece_of ms) (all_writable ms h) s i

-- pieces that are one value, whose scalars can be written, and whose file is not too long
pub record Sound (es : List Piece) : Type 0 where
  pub one : whole max_open es ≡ true
  pub short : length (file_of es) ≤ max_length
  pub scalars : (s : Scalar) → In (val s) (order es) → Writable s
