-- Units counted by bytes, and the text of UTF-8 one scalar value at a time.
use Rattle.std.specs.Prelude.{Bool, true, false, cond, ◌≡◌, refl, List, [], ◌∷◌, ◌++◌, ℕ, zero, suc, ◌+◌, ◌-◌, ◌*◌, ◌/◌, ◌%◌, ◌≤◌, ◌<◌, ltb, eqb, length, take, drop}
use Rattle.std.proofs.Common.{sym, ap, ◌∙◌, add_assoc, zero-add, lit≤, length-append, drop_of_length-le, lt-ltb, le-ltb, get_or-take, length-take-le, inl, inr}
use Rattle.std.proofs.Math.Decide.{dec_lt}
use Rattle.std.proofs.lemmas.Bool.Decides.{eqb_tells}
use native.Mathlib.Omega.{arith}
use Rattle.std.proofs.Math.ListN.{get_or, length-drop}
use Rattle.utf.specs.Left.{left_at}
use Rattle.utf.specs.Unicode.{utf8_of, utf8, utf16_of, utf16, is_utf8, scalars_from, scalars8, unit_bytes, to_utf16}
use Rattle.utf.specs.ToUtf16.{units_from, units_in}
use Rattle.utf.specs.ScalarLaws.{utf8_one, utf8_two, utf8_three, utf8_four, utf16_one, utf16_two}
use Rattle.utf.specs.Utf8Bits.{followers, first_bits, first_one, first_two, first_three, first_four, scalars_first, scalars_one, scalars_last, scalars_next, utf8_again}

-- the value of two, three or four bytes from i on
abbrev pub value2 : List ℕ → ℕ → ℕ
value2 s i = (get_or s i 0 - 0xC0) * 0x40 + (get_or s (i + 1) 0 - 0x80)

abbrev pub value3 : List ℕ → ℕ → ℕ
value3 s i = ((get_or s i 0 - 0xE0) * 0x40 + (get_or s (i + 1) 0 - 0x80)) * 0x40 + (get_or s (i + 2) 0 - 0x80)

abbrev pub value4 : List ℕ → ℕ → ℕ
value4 s i = (((get_or s i 0 - 0xF0) * 0x40 + (get_or s (i + 1) 0 - 0x80)) * 0x40 + (get_or s (i + 2) 0 - 0x80)) * 0x40 + (get_or s (i + 3) 0 - 0x80)

-- the value of so many bytes from i on
unfoldable pub value_at : List ℕ → ℕ → ℕ → ℕ
value_at s i n = cond (eqb n 2) (value2 s i) (cond (eqb n 3) (value3 s i) (cond (eqb n 4) (value4 s i) (get_or s i 0)))

-- Counting.

from_ascii : (b : ℕ) → b < 0x80 → units_from b ≡ 1
unfolding units_from
from_ascii b h = rw (lt-ltb b 0x80 h)

from_later : (b : ℕ) → 0x80 ≤ b → b < 0xC0 → units_from b ≡ 0
unfolding units_from
from_later b h g = rw (le-ltb b 0x80 h, lt-ltb b 0xC0 g)

from_first : (b : ℕ) → 0xC0 ≤ b → b < 0xF0 → units_from b ≡ 1
unfolding units_from
from_first b h g = rw (le-ltb b 0x80 (omega arith), le-ltb b 0xC0 h, lt-ltb b 0xF0 g)

from_four : (b : ℕ) → 0xF0 ≤ b → units_from b ≡ 2
unfolding units_from
from_four b h = rw (le-ltb b 0x80 (omega arith), le-ltb b 0xC0 (omega arith), le-ltb b 0xF0 h)

-- no byte adds more than two
pub from_le : (b : ℕ) → units_from b ≤ 2
unfolding units_from
from_le b = go (ltb b 0x80) (ltb b 0xC0) (ltb b 0xF0)
  where
    go : (x y z : Bool) → cond x 1 (cond y 0 (cond z 1 2)) ≤ 2
    go true y z = lit≤ tt
    go false true z = lit≤ tt
    go false false true = lit≤ tt
    go false false false = lit≤ tt

pub units_le : (s : List ℕ) → units_in s ≤ length s * 2
unfolding units_in
units_le [] = lit≤ tt
units_le (b ∷ s) = omega (arith, from_le b, units_le s)

-- a scalar value's bytes add as many units as it has, and no more than there are bytes
units_of : (v : ℕ) → (units_in (utf8_of v) ≡ length (utf16_of v)) × (length (utf16_of v) ≤ length (utf8_of v))
unfolding units_in
units_of v =
    elim (dec_lt v 0x80) [
      | yes p ↦ rw (utf8_one v p, utf16_one v (omega arith), from_ascii v p) (refl, omega arith)
      | no p ↦
          let l : 0x80 ≤ v = omega arith in
          elim (dec_lt v 0x800) [
            | yes q ↦ rw (utf8_two v l q, utf16_one v (omega arith), from_first (0xC0 + v / 0x40) (omega arith) (omega arith), from_later (0x80 + v % 0x40) (omega arith) (omega arith)) (refl, omega arith)
            | no q ↦
                let m : 0x800 ≤ v = omega arith in
                let last : units_from (0x80 + v % 0x40) ≡ 0 = from_later _ (omega arith) (omega arith) in
                let third : units_from (0x80 + v / 0x40 % 0x40) ≡ 0 = from_later _ (omega arith) (omega arith) in
                elim (dec_lt v 0x10000) [
                  | yes r ↦ rw (utf8_three v m r, utf16_one v r, from_first (0xE0 + v / 0x1000) (omega arith) (omega arith), third, last) (refl, omega arith)
                  | no r ↦
                      let n : 0x10000 ≤ v = omega arith in
                      rw (utf8_four v n, utf16_two v n, from_four (0xF0 + v / 0x40000) (omega arith), from_later (0x80 + v / 0x1000 % 0x40) (omega arith) (omega arith), third, last) (refl, omega arith)
                ]
          ]
    ]

-- what bytes in front add
pub units_append : (s t : List ℕ) → units_in (s ++ t) ≡ units_in s + units_in t
unfolding units_in
units_append [] t = sym (zero-add (units_in t))
units_append (b ∷ s) t = rw (units_append s t, add_assoc)

units_all : (vs : List ℕ) → (units_in (utf8 vs) ≡ length (utf16 vs)) × (length (utf16 vs) ≤ length (utf8 vs))
unfolding units_in utf8 utf16
units_all [] = (refl, omega arith)
units_all (v ∷ vs) =
    let o = units_of v in
    let i = units_all vs in
    rw (units_append, length-append (utf16_of v) (utf16 vs), length-append (utf8_of v) (utf8 vs)) (omega arith, omega arith)

-- the bytes of a text tell how many units it has, which are no more than its bytes
pub counted : (s : List ℕ) → is_utf8 s ≡ true → (units_in s ≡ length (utf16 (scalars8 s))) × (units_in s ≤ length s)
counted s h =
    let e : utf8 (scalars8 s) ≡ s = utf8_again s h in
    let a = units_all (scalars8 s) in
    let f : units_in s ≡ length (utf16 (scalars8 s)) = rw e at a.0 in
    (f, rw f (rw e at a.1))

-- each unit has two bytes
pub length_unit_bytes : (us : List ℕ) → length (unit_bytes us) ≡ length us * 2
unfolding unit_bytes
length_unit_bytes [] = refl
length_unit_bytes (u ∷ us) = omega (arith, length_unit_bytes us)

pub length_utf16 : (s : List ℕ) → length (to_utf16 s) ≡ length (utf16 (scalars8 s)) * 2
unfolding to_utf16
length_utf16 s = length_unit_bytes (utf16 (scalars8 s))

-- One scalar value after another.

unit_bytes_append : (us ws : List ℕ) → unit_bytes (us ++ ws) ≡ unit_bytes us ++ unit_bytes ws
unfolding unit_bytes
unit_bytes_append [] ws = refl
unit_bytes_append (u ∷ us) ws = ap (λ (l : List ℕ). (u / 256) ∷ (u % 256) ∷ l) (unit_bytes_append us ws)

-- Any bytes, a sequence at a time.

-- too few bytes for what is still to come
too_few : (k v : ℕ) (s : List ℕ) → length s < k → scalars_from k v s ≡ []
unfolding scalars_from
too_few k v [] h = refl
too_few zero v (b ∷ s) h = absurd (omega arith)
too_few (suc zero) v (b ∷ s) h = absurd (omega arith)
too_few (suc (suc k)) v (b ∷ s) h = scalars_next k v b s ∙ too_few (suc k) (v * 0x40 + (b - 0x80)) s (omega arith)

-- the sequence of n bytes at i, where they are all there, and where they are not
pub record Sequence (s : List ℕ) (i n : ℕ) : Type 0 where
  pub some : 1 ≤ n
  pub whole : i + n ≤ length s → scalars8 (drop i s) ≡ value_at s i n ∷ scalars8 (drop (i + n) s)
  pub cut : length s < i + n → scalars8 (drop i s) ≡ []

module _ (s : List ℕ) (i : ℕ) (more : i < length s) where
  next : (k : ℕ) → i + k < length s → drop (i + k) s ≡ get_or s (i + k) 0 ∷ drop (i + (k + 1)) s
  next k h =
      let e : i + k + 1 ≡ i + (k + 1) = omega arith in
      rw e at (left_at s (i + k) h)

  cut_of : 0x80 ≤ get_or s i 0 → length s < i + (followers (get_or s i 0) + 1) → scalars8 (drop i s) ≡ []
  unfolding scalars8
  cut_of l h = rw (left_at s i more) (scalars_first 0 (get_or s i 0) _ l ∙ too_few _ _ _ (omega (arith, length-drop (i + 1) s)))

  one_at : get_or s i 0 < 0x80 → scalars8 (drop i s) ≡ get_or s i 0 ∷ scalars8 (drop (i + 1) s)
  unfolding scalars8
  one_at h = rw (left_at s i more) (scalars_one 0 (get_or s i 0) _ h)

  module _ (l : 0x80 ≤ get_or s i 0) where
    first_at : scalars8 (drop i s) ≡ scalars_from (followers (get_or s i 0)) (first_bits (get_or s i 0)) (drop (i + 1) s)
    unfolding scalars8
    first_at = rw (left_at s i more) (scalars_first 0 (get_or s i 0) _ l)

    two_at : get_or s i 0 < 0xE0 → i + 2 ≤ length s → scalars8 (drop i s) ≡ value2 s i ∷ scalars8 (drop (i + 2) s)
    unfolding scalars8
    two_at h g =
        let f = first_two (get_or s i 0) l h in
        first_at ∙ rw (← f.0, f.1, next 1 (omega arith)) (scalars_last _ _ _)

    three_at : 0xE0 ≤ get_or s i 0 → get_or s i 0 < 0xF0 → i + 3 ≤ length s → scalars8 (drop i s) ≡ value3 s i ∷ scalars8 (drop (i + 3) s)
    unfolding scalars8
    three_at m h g =
        let f = first_three (get_or s i 0) m h in
        first_at ∙ rw (← f.0, f.1, next 1 (omega arith), next 2 (omega arith)) (scalars_next 0 _ _ _ ∙ scalars_last _ _ _)

    four_at_law : 0xF0 ≤ get_or s i 0 → i + 4 ≤ length s → scalars8 (drop i s) ≡ value4 s i ∷ scalars8 (drop (i + 4) s)
    unfolding scalars8
    four_at_law m g =
        let f = first_four (get_or s i 0) m in
        first_at ∙ rw (← f.0, f.1, next 1 (omega arith), next 2 (omega arith), next 3 (omega arith)) (scalars_next 1 _ _ _ ∙ scalars_next 0 _ _ _ ∙ scalars_last _ _ _)

  pub sequence : Sequence s i (followers (get_or s i 0) + 1)
  unfolding value_at
  sequence =
      let b = get_or s i 0 in
      elim (dec_lt b 0x80) [
        | yes p ↦ rw (← (first_one b p).0) (record { some = omega arith; whole = λ h. one_at p; cut = λ h. absurd (omega arith) })
        | no p ↦
            let l : 0x80 ≤ b = omega arith in
            record {
              some = omega arith;
              whole =
                  elim (dec_lt b 0xE0) [
                    | yes q ↦ rw (← (first_two b l q).0) (two_at l q)
                    | no q ↦
                        let m : 0xE0 ≤ b = omega arith in
                        elim (dec_lt b 0xF0) [
                          | yes r ↦ rw (← (first_three b m r).0) (three_at l m r)
                          | no r ↦ rw (← (first_four b (omega arith)).0) (four_at_law l (omega arith))
                        ]
                  ];
              cut = cut_of l;
            }
      ]

-- the value of the sequence in front, and what is left behind it
pub record NextValue (s : List ℕ) (v : ℕ) (rest : List ℕ) : Type 0 where
  pub value : scalars8 s ≡ v ∷ scalars8 rest
  pub shorter : length rest < length s
  pub small : v < 0x500000

-- a value in front: its units, and those of what is left
module _ (a b : List ℕ) (v : ℕ) (e : scalars8 a ≡ v ∷ scalars8 b) where
  pub text_next : to_utf16 a ≡ unit_bytes (utf16_of v) ++ to_utf16 b
  unfolding to_utf16 utf16
  text_next = rw e (unit_bytes_append (utf16_of v) (utf16 (scalars8 b)))

  pub units_next : length (utf16 (scalars8 a)) ≡ length (utf16_of v) + length (utf16 (scalars8 b))
  unfolding utf16
  units_next = rw e (length-append (utf16_of v) (utf16 (scalars8 b)))

-- none: nothing
module _ (a : List ℕ) (e : scalars8 a ≡ []) where
  pub text_none : to_utf16 a ≡ []
  unfolding to_utf16 utf16 unit_bytes
  text_none = rw e

  pub units_none : length (utf16 (scalars8 a)) ≡ 0
  unfolding utf16
  units_none = rw e

-- no bytes are left
pub past_end : (s : List ℕ) (i : ℕ) → length s ≤ i → scalars8 (drop i s) ≡ []
unfolding scalars8 scalars_from
past_end s i h = rw (drop_of_length-le s {i = i} h)

-- No byte gives more than one unit: only a sequence of several bytes has two.

pub units_most : (v : ℕ) → length (utf16_of v) ≤ 2
units_most v =
    elim (dec_lt v 0x10000) [
      | yes p ↦ rw (utf16_one v p) (omega arith)
      | no p ↦ rw (utf16_two v (omega arith)) (omega arith)
    ]

-- inside a sequence one byte is read already
abbrev already : ℕ → ℕ
already zero = 0
already (suc k) = 1

already_le : (k : ℕ) → already k ≤ 1
already_le zero = omega arith
already_le (suc k) = omega arith

units_left : (k v : ℕ) (s : List ℕ) → length (utf16 (scalars_from k v s)) ≤ length s + already k
unfolding scalars_from utf16
units_left k v [] = omega arith
units_left zero v (b ∷ s) =
    elim (dec_lt b 0x80) [
      | yes p ↦ rw (scalars_one v b s p) (omega (arith, length-append (utf16_of b) (utf16 (scalars_from 0 0 s)), ap length (utf16_one b (omega arith)), units_left 0 0 s))
      | no p ↦ rw (scalars_first v b s (omega arith)) (omega (arith, units_left (followers b) (first_bits b) s, already_le (followers b)))
    ]
units_left (suc zero) v (b ∷ s) =
    let w : ℕ = v * 0x40 + (b - 0x80) in
    omega (arith, length-append (utf16_of w) (utf16 (scalars_from 0 0 s)), units_most w, units_left 0 0 s)
units_left (suc (suc k)) v (b ∷ s) = rw (scalars_next k v b s) (omega (arith, units_left (suc k) (v * 0x40 + (b - 0x80)) s))

pub units_few : (s : List ℕ) → length (utf16 (scalars8 s)) ≤ length s
unfolding scalars8
units_few s = omega (arith, units_left 0 0 s)

-- The sequence in front.

-- its bytes tell its value
value_take : (s : List ℕ) (n : ℕ) → 0 < n → value_at (take n s) 0 n ≡ value_at s 0 n
unfolding value_at
value_take s n h =
    elim (eqb_tells n 2) [
      | inl e ↦ rw e.1 (rw (get_or-take 2 s 0 0 (omega arith), get_or-take 2 s 1 0 (omega arith)))
      | inr p ↦
          elim (eqb_tells n 3) [
            | inl e ↦ rw e.1 (rw (get_or-take 3 s 0 0 (omega arith), get_or-take 3 s 1 0 (omega arith), get_or-take 3 s 2 0 (omega arith)))
            | inr q ↦
                elim (eqb_tells n 4) [
                  | inl e ↦ rw e.1 (rw (get_or-take 4 s 0 0 (omega arith), get_or-take 4 s 1 0 (omega arith), get_or-take 4 s 2 0 (omega arith), get_or-take 4 s 3 0 (omega arith)))
                  | inr r ↦ rw (p.0, q.0, r.0) (get_or-take n s 0 0 h)
                ]
          ]
    ]

-- no bytes have no value
pub no_value : (s : List ℕ) → length s < 1 → scalars8 s ≡ []
no_value s h = past_end s 0 (omega arith)

-- the sequence of a first byte, by how many bytes it has: all are there, or not
module _ (s : List ℕ) (more : 0 < length s) (n : ℕ) (e : n ≡ followers (get_or s 0 0) + 1) where
  front : Sequence s 0 n
  front = rw e (sequence s 0 more)

  pub next_whole : n ≤ length s → (v : ℕ) → v ≡ value_at (take n s) 0 (length (take n s)) → v < 0x500000 → NextValue s v (drop n s)
  next_whole h v q b =
      let size : length (take n s) ≡ n = length-take-le n s h in
      let is : v ≡ value_at s 0 n = rw size at q ∙ value_take s n front.some in
      record { value = rw is (rw zero-add at (front.whole (omega arith))); shorter = omega (arith, front.some, length-drop n s); small = b }

  pub next_cut : length s < n → scalars8 s ≡ []
  next_cut h = front.cut (omega arith)
