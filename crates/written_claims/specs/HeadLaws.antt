-- An object's head: its marker decides, and its length is read again.
use Rattle.std.specs.Prelude.{Bool, true, false, List, [], ◌∷◌, ◌++◌, ◌≡◌, refl, ℕ, suc, ◌+◌, ◌-◌, ◌*◌, ◌^◌, ◌≤◌, ◌<◌, ltb, length, get_or}
use Rattle.std.proofs.Common.{ap, ◌∙◌, arith, le-leb, ne_eqb, ltb-true, length-append}
use Rattle.std.proofs.Math.Nat.{add-sub_cancel_left}
use Rattle.number.specs.Be.{be, bytes_of}
use Rattle.number.specs.BeLaws.{length_bytes_of}
use Rattle.number.specs.Size.{size_of}
use Rattle.number.specs.SizeLaws.{Sized, one, two, four, eight, sized, fits_itself}
use Rattle.number.specs.declared.width.Width.{Width}
use Rattle.number.specs.Part.{part}
use Rattle.object.specs.Content.{trailer_at, length_width, extent_at, is_length_byte, has_length, head_at, ends_before, measured, content_at}
use Rattle.object.specs.Kind.{kind_of}
use Rattle.object.specs.Object.{Found, fixed_at, by_kind, object_at}
use Rattle.object.specs.ObjectLaws.{object_inside, fixed_inside}
use Rattle.object.specs.declared.content.Content.TheVariants.{Fits}
use Rattle.object.specs.declared.content.Extent.{Extent}
use Rattle.object.specs.declared.kind.Kind.{Kind}
use Rattle.written_claims.specs.Stands.{Stands, Whole, stands_front, stands_back, stands_byte, stands_number}
use Rattle.written.specs.Encoding.{size_marker, number_bytes, nibble_of, head_bytes}

-- the marker of a size tells the size to a reader of lengths
marker_width : {w : ℕ} → Sized w → length_width (size_marker w) ≡ w
unfolding length_width size_marker
marker_width one = refl
marker_width two = refl
marker_width four = refl
marker_width eight = refl

-- the marker that stands below T decides
pub marker_decides : (file : List ℕ) (refs : Width) (at marker : ℕ) (s : List ℕ) → Whole file at (marker ∷ s) → object_at file refs at ≡ by_kind file refs at (kind_of marker)
marker_decides file refs at marker s wh = object_inside file refs at (omega (arith, wh.ends)) ∙ rw (stands_byte file at marker s wh.stands)

-- a scalar of fixed size that stands whole before T is read from its bytes
pub fixed_reads : (file : List ℕ) (at w : ℕ) (read : List ℕ → Found) (marker : ℕ) (s : List ℕ) → length s ≡ w → Whole file at (marker ∷ s)
    → fixed_at file at w read ≡ read (part file (at + 1) w)
fixed_reads file at w read marker s h wh = fixed_inside file at w read (omega (arith, wh.ends, h))

-- a nibble has four bits
pub nibble_lt : (n : ℕ) → nibble_of n < 16
unfolding nibble_of
nibble_lt n = go (ltb n 15) refl
  where
    go : (b : Bool) → ltb n 15 ≡ b → nibble_of n < 16
    go true e = rw e (omega (arith, ltb-true n 15 e))
    go false e = rw e (omega arith)

-- the kind of sixteen markers that differ in their nibble, at a head's
pub kind_nibble : (base : ℕ) (k : ℕ → Kind) → ((m : ℕ) → base ≤ m → m < base + 16 → kind_of m ≡ k (m - base)) → (n : ℕ) → kind_of (base + nibble_of n) ≡ k (nibble_of n)
kind_nibble base k all n = all (base + nibble_of n) (omega arith) (omega (arith, nibble_lt n)) ∙ rw add-sub_cancel_left

-- the content of n elements behind a head
abbrev pub behind : ℕ → ℕ → ℕ → Extent
behind at base n = record { start = at + length (head_bytes base n); count = n }

extent_is : (file : List ℕ) (at base n : ℕ) → n < 2 ^ 64 → Stands file at (head_bytes base n) → extent_at file at (nibble_of n) ≡ behind at base n
unfolding extent_at head_bytes nibble_of number_bytes
extent_is file at base n small st = go (ltb n 15) refl
  where
    go : (b : Bool) → ltb n 15 ≡ b → extent_at file at (nibble_of n) ≡ behind at base n
    go true e = rw (e, ne_eqb n 15 (let l : n < 15 = ltb-true n 15 e in omega arith))
    go false e =
        let w = size_of n in
        let s : Stands file at ((base + 15) ∷ size_marker w ∷ bytes_of w n) = rw e at st in
        let m : Stands file (at + 1) (size_marker w ∷ bytes_of w n) = stands_back file at ((base + 15) ∷ []) (size_marker w ∷ bytes_of w n) s in
        let d : Stands file (at + 2) (bytes_of w n) = stands_back file at ((base + 15) ∷ size_marker w ∷ []) (bytes_of w n) s in
        let g : get_or file (at + 1) 0 ≡ size_marker w = stands_byte file (at + 1) (size_marker w) (bytes_of w n) m in
        let v : be (part file (at + 2) w) ≡ n = stands_number file (at + 2) w n (fits_itself n small) d in
        rw (e, g, marker_width (sized n), v, length_bytes_of w n) (ap (λ (x : ℕ). record { start = x; count = n }) (let a : at + 2 + w ≡ at + suc (suc w) = omega arith in a))

-- and stands where it should
marker_is : {w : ℕ} → Sized w → is_length_byte (size_marker w) ≡ true
unfolding is_length_byte size_marker
marker_is one = refl
marker_is two = refl
marker_is four = refl
marker_is eight = refl

length_is : (file : List ℕ) (at base n : ℕ) → Stands file at (head_bytes base n) → has_length file at (nibble_of n) ≡ true
unfolding has_length head_bytes nibble_of number_bytes
length_is file at base n st = go (ltb n 15) refl
  where
    go : (b : Bool) → ltb n 15 ≡ b → has_length file at (nibble_of n) ≡ true
    go true e = rw (e, ne_eqb n 15 (let l : n < 15 = ltb-true n 15 e in omega arith))
    go false e =
        let w = size_of n in
        let s : Stands file at ((base + 15) ∷ size_marker w ∷ bytes_of w n) = rw e at st in
        let m : Stands file (at + 1) (size_marker w ∷ bytes_of w n) = stands_back file at ((base + 15) ∷ []) (size_marker w ∷ bytes_of w n) s in
        rw (e, stands_byte file (at + 1) (size_marker w) (bytes_of w n) m) (marker_is (sized n))

head_is : (file : List ℕ) (at base n : ℕ) → n < 2 ^ 64 → Stands file at (head_bytes base n) → head_at file at (nibble_of n) ≡ Fits (behind at base n)
unfolding head_at
head_is file at base n small st = rw (length_is file at base n st) (ap Fits (extent_is file at base n small st))

-- a head of n in front of bytes, n elements of so many bytes each at least, that end at or before T
pub record Headed (file : List ℕ) (at base n each : ℕ) (s : List ℕ) : Type 0 where
  -- the marker decides
  pub inside : at < trailer_at file
  pub marker : get_or file at 0 ≡ base + nibble_of n
  pub decides : (refs : Width) → object_at file refs at ≡ by_kind file refs at (kind_of (base + nibble_of n))
  -- the length is n, and there is room for the elements
  pub extent : extent_at file at (nibble_of n) ≡ behind at base n
  pub head : head_at file at (nibble_of n) ≡ Fits (behind at base n)
  pub content : content_at file at (nibble_of n) each ≡ Fits (behind at base n)
  -- where the bytes stand
  pub body : Stands file (at + length (head_bytes base n)) s

pub headed : (file : List ℕ) (at base n each : ℕ) (s : List ℕ) → n < 2 ^ 64 → n * each ≤ length s
    → Whole file at (head_bytes base n ++ s) → Headed file at base n each s
unfolding head_bytes measured content_at ends_before
headed file at base n each s small long wh =
    let front : Stands file at (head_bytes base n) = stands_front file at (head_bytes base n) s wh.stands in
    let e = extent_is file at base n small front in
    let l : at + (length (head_bytes base n) + length s) ≤ trailer_at file = rw length-append at wh.ends in
    let i : at < trailer_at file = omega arith in
    let d : head_at file at (nibble_of n) ≡ Fits (behind at base n) = head_is file at base n small front in
    record {
      inside = i;
      marker = stands_byte file at (base + nibble_of n) _ front;
      decides = λ refs. marker_decides file refs at (base + nibble_of n) _ wh;
      extent = e;
      head = d;
      content = rw (d, measured, le-leb (at + length (head_bytes base n) + n * each) (trailer_at file) (omega arith));
      body = stands_back file at (head_bytes base n) s wh.stands;
    }
