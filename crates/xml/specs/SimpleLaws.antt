-- Simple text is its own XML; parts of it; and that sums over eight bytes at once tell that they are simple.
use Rattle.std.specs.Prelude.{Bool, true, false, ◌&&◌, List, [], ◌∷◌, ◌++◌, ◌≡◌, refl, ℕ, zero, suc, ◌+◌, ◌-◌, ◌*◌, ◌/◌, ◌%◌, ◌^◌, ◌≤◌, ◌<◌, ltb, leb, eqb, length, take, drop, get_or}
use Rattle.std.proofs.Math.Bool.{and_assoc}
use Rattle.std.proofs.lemmas.Bool.{false≢true}
use Rattle.std.proofs.Common.{sym, ap, ◌∙◌, mul-one, mul_assoc, pow-suc, ltb-true, lt-ltb, le-leb, eqb-true, ne_eqb, length-append, length-drop, take-add, take_all, length-take-le}
use native.Mathlib.Omega.{arith}
use Rattle.std.proofs.Math.Arith.{digits_div, digits_mod}
use Rattle.std.specs.Int.Bits.{bit_and}
use Rattle.std.proofs.lemmas.Nat.{and_block}
use Rattle.std.proofs.lemmas.Nat.Bits.{and_high}
use Rattle.utf.specs.Bounds.{Below}
use Rattle.utf.specs.Plain.{little_of, tops_of}
use Rattle.utf.specs.PlainLaws.{tops_cons}
use Rattle.utf.specs.Tests.{and_left, and_right}
use Rattle.xml.specs.Simple.{is_simple, all_simple, Covers}
use Rattle.xml.specs.Text.{is_clear, is_ordinary, all_clear, barred_in}
use Rattle.xml.specs.TextLaws.{ordinary_escape, clear_passes}
use Rattle.xml.specs.Xml.{escape}

-- ---- simple text is its own XML, and no character of it is barred

pub simple_escape : (s : List ℕ) → all_simple s ≡ true → escape s ≡ s
unfolding all_simple is_simple escape
simple_escape [] h = refl
simple_escape (b ∷ s) h =
    let p = and_left (is_simple b) (all_simple s) h in
    rw (ordinary_escape b (and_right (leb 0x20 b && ltb b 0x80) (is_ordinary b) p)) (ap (λ (t : List ℕ). b ∷ t) (simple_escape s (and_right (is_simple b) (all_simple s) h)))

simple_clear : (b : ℕ) → is_simple b ≡ true → is_clear b ≡ true
unfolding is_simple is_clear
simple_clear b h =
    let p = and_left (leb 0x20 b && ltb b 0x80) (is_ordinary b) h in
    let low : b < 0x80 = ltb-true b 0x80 (and_right (leb 0x20 b) (ltb b 0x80) p) in
    rw (and_left (leb 0x20 b) (ltb b 0x80) p, ne_eqb b 0xEF (λ e. omega (arith, low, e)))

all_clear_law : (s : List ℕ) → all_simple s ≡ true → all_clear s ≡ true
unfolding all_simple all_clear
all_clear_law [] h = refl
all_clear_law (b ∷ s) h = rw (simple_clear b (and_left (is_simple b) (all_simple s) h)) (all_clear_law s (and_right (is_simple b) (all_simple s) h))

pub simple_passes : (s : List ℕ) → all_simple s ≡ true → barred_in s ≡ false
simple_passes s h = clear_passes s (all_clear_law s h)

-- ---- parts

pub simple_append : (s t : List ℕ) → all_simple (s ++ t) ≡ (all_simple s && all_simple t)
unfolding all_simple
simple_append [] t = refl
simple_append (b ∷ s) t = ap (λ (r : Bool). is_simple b && r) (simple_append s t) ∙ sym (and_assoc (is_simple b) (all_simple s) (all_simple t))

-- what is simple up to a place, and from that place or an earlier one on
pub simple_over : (k i : ℕ) (s : List ℕ) → k ≤ i → all_simple (take i s) ≡ true → all_simple (drop k s) ≡ true → all_simple s ≡ true
unfolding all_simple
simple_over zero i s h p q = q
simple_over (suc k) zero s h p q = absurd (omega arith)
simple_over (suc k) (suc i) [] h p q = refl
simple_over (suc k) (suc i) (b ∷ s) h p q =
    rw (and_left (is_simple b) (all_simple (take i s)) p) (simple_over k i s (omega arith) (and_right (is_simple b) (all_simple (take i s)) p) q)

-- a part more
pub simple_more : (n i : ℕ) (s : List ℕ) → all_simple (take i s) ≡ true → all_simple (take n (drop i s)) ≡ true → all_simple (take (i + n) s) ≡ true
simple_more n i s p q = ap all_simple (take-add i n s) ∙ simple_append (take i s) (take n (drop i s)) ∙ rw (p, q)

-- ---- eight bytes at once

-- so many bytes of one value, as a number
unfoldable fill_of : ℕ → ℕ → ℕ
fill_of k zero = 0
fill_of k (suc n) = fill_of k n * 256 + k

-- the top bits of bytes, once k is added to each
abbrev raised : ℕ → List ℕ → ℕ
raised k t = bit_and (little_of t + fill_of k (length t)) (tops_of (length t))

top_is : (v : ℕ) → v < 256 → bit_and v 0x80 ≡ v / 128 * 128
top_is v h = and_high v 1 7 ∙ (let e : v / 128 % 2 * 128 ≡ v / 128 * 128 = omega arith in e)

raised_cons : (k b : ℕ) (t : List ℕ) → b + k < 256 → raised k (b ∷ t) ≡ raised k t * 256 + (b + k) / 128 * 128
unfolding little_of fill_of tops_of
raised_cons k b t h =
    let e : little_of t * 256 + b + (fill_of k (length t) * 256 + k) ≡ (little_of t + fill_of k (length t)) * 256 + (b + k) = omega arith in
    rw e (and_block 8 (little_of t + fill_of k (length t)) (tops_of (length t)) (b + k) 0x80 h (omega arith)) ∙ ap (λ (v : ℕ). raised k t * 256 + v) (top_is (b + k) h)

-- the same number has the same digits
both_digits : (m n u v : ℕ) → u < 256 → v < 256 → m * 256 + u ≡ n * 256 + v → (m ≡ n) × (u ≡ v)
both_digits m n u v h k e =
    (sym (digits_div m h) ∙ ap (λ (x : ℕ). x / 256) e ∙ digits_div n k, sym (digits_mod m h) ∙ ap (λ (x : ℕ). x % 256) e ∙ digits_mod n k)

one_simple : (b : ℕ) → 0x20 ≤ b → b < 0x80 → (b ≡ 38 → ⊥) → (b ≡ 60 → ⊥) → (b ≡ 62 → ⊥) → is_simple b ≡ true
unfolding is_simple is_ordinary
one_simple b l h e f g = rw (le-leb 0x20 b l, lt-ltb b 0x80 h, ne_eqb b 38 e, ne_eqb b 60 f, ne_eqb b 62 g)

raised_simple :
    (t : List ℕ) → Below 256 t → bit_and (little_of t) (tops_of (length t)) ≡ 0 → raised 0x60 t ≡ tops_of (length t) →
    raised 0x5A t ≡ raised 0x59 t → raised 0x44 t ≡ raised 0x41 t → all_simple t ≡ true
unfolding all_simple tops_of
raised_simple [] b e f g h = refl
raised_simple (b ∷ t) bs e f g h =
    let e1 : bit_and (little_of t) (tops_of (length t)) * 256 + b / 128 * 128 ≡ 0 = ap (λ (v : ℕ). bit_and (little_of t) (tops_of (length t)) * 256 + v) (sym (top_is b bs.0)) ∙ sym (tops_cons b t bs.0) ∙ e in
    let low : b < 0x80 = omega (arith, e1) in
    let f1 : raised 0x60 t * 256 + (b + 0x60) / 128 * 128 ≡ tops_of (length t) * 256 + 0x80 = sym (raised_cons 0x60 b t (omega (arith, low))) ∙ f in
    let g1 : raised 0x5A t * 256 + (b + 0x5A) / 128 * 128 ≡ raised 0x59 t * 256 + (b + 0x59) / 128 * 128 = sym (raised_cons 0x5A b t (omega (arith, low))) ∙ g ∙ raised_cons 0x59 b t (omega (arith, low)) in
    let h1 : raised 0x44 t * 256 + (b + 0x44) / 128 * 128 ≡ raised 0x41 t * 256 + (b + 0x41) / 128 * 128 = sym (raised_cons 0x44 b t (omega (arith, low))) ∙ h ∙ raised_cons 0x41 b t (omega (arith, low)) in
    let f2 = both_digits (raised 0x60 t) (tops_of (length t)) _ _ (omega (arith, low)) (omega arith) f1 in
    let g2 = both_digits (raised 0x5A t) (raised 0x59 t) _ _ (omega (arith, low)) (omega (arith, low)) g1 in
    let h2 = both_digits (raised 0x44 t) (raised 0x41 t) _ _ (omega (arith, low)) (omega (arith, low)) h1 in
    let s : is_simple b ≡ true = one_simple b (omega (arith, f2.1, low)) low (λ z. omega (arith, g2.1, z)) (λ z. omega (arith, h2.1, z)) (λ z. omega (arith, h2.1, z)) in
    rw s (raised_simple t bs.1 (omega (arith, e1)) f2.0 g2.0 h2.0)

-- ---- bytes as one number

little_append : (a s : List ℕ) → little_of (a ++ s) ≡ little_of a + little_of s * 256 ^ length a
unfolding little_of
little_append [] s = rw mul-one (omega arith)
little_append (b ∷ a) s =
    let e : little_of s * 256 ^ suc (length a) ≡ little_of s * 256 ^ length a * 256 = rw pow-suc (sym (mul_assoc (little_of s) (256 ^ length a) 256)) in
    rw (little_append a s, e) (omega arith)

pub below_drop : (i : ℕ) (s : List ℕ) → Below 256 s → Below 256 (drop i s)
below_drop zero s b = b
below_drop (suc i) [] b = b
below_drop (suc i) (x ∷ s) b = below_drop i s b.1

pub below_take : (n : ℕ) (s : List ℕ) → Below 256 s → Below 256 (take n s)
below_take zero s b = tt
below_take (suc n) [] b = tt
below_take (suc n) (x ∷ s) b = (b.0, below_take n s b.1)

below_append : (s t : List ℕ) → Below 256 s → Below 256 t → Below 256 (s ++ t)
below_append [] t b c = c
below_append (x ∷ s) t b c = (b.0, below_append s t b.1 c)

-- ---- fewer than eight bytes

pub cover_none : (s : List ℕ) → length s ≡ 0 → Covers s 0x2020_2020_2020_2020
unfolding little_of all_simple
cover_none [] h = record {
  eight = 0x20 ∷ 0x20 ∷ 0x20 ∷ 0x20 ∷ 0x20 ∷ 0x20 ∷ 0x20 ∷ 0x20 ∷ [];
  long = refl;
  bytes = (omega arith, (omega arith, (omega arith, (omega arith, (omega arith, (omega arith, (omega arith, (omega arith, tt))))))));
  number = refl;
  tells = λ e. refl;
}
cover_none (b ∷ s) h = absurd (omega (arith, h))

-- three bytes and spaces
module _ (a b c : ℕ) where
  abbrev three : List ℕ
  three = a ∷ b ∷ c ∷ 0x20 ∷ 0x20 ∷ 0x20 ∷ 0x20 ∷ 0x20 ∷ []

  three_bytes : a < 256 → b < 256 → c < 256 → Below 256 three
  three_bytes h i j = (h, (i, (j, (omega arith, (omega arith, (omega arith, (omega arith, (omega arith, tt))))))))

  three_number : little_of three ≡ a + b * 0x100 + c * 0x1_0000 + 0x2020_2020_2000_0000
  unfolding little_of
  three_number = omega arith

  three_first : all_simple three ≡ true → (is_simple a ≡ true) × (is_simple b ≡ true) × (is_simple c ≡ true)
  unfolding all_simple
  three_first e =
      let f = and_right (is_simple a) _ e in
      let g = and_right (is_simple b) _ f in
      (and_left (is_simple a) _ e, and_left (is_simple b) _ f, and_left (is_simple c) _ g)

pub cover_few : (s : List ℕ) → (length s ≡ 0 → ⊥) → length s < 4 → Below 256 s → Covers s (get_or s 0 0 + get_or s (length s / 2) 0 * 0x100 + get_or s (length s - 1) 0 * 0x1_0000 + 0x2020_2020_2000_0000)
unfolding all_simple
cover_few [] n h d = absurd (n refl)
cover_few (a ∷ []) n h d = record {
  eight = three a a a;
  long = refl;
  bytes = three_bytes a a a d.0 d.0 d.0;
  number = three_number a a a;
  tells = λ e. rw (three_first a a a e).0;
}
cover_few (a ∷ b ∷ []) n h d = record {
  eight = three a b b;
  long = refl;
  bytes = three_bytes a b b d.0 d.1.0 d.1.0;
  number = three_number a b b;
  tells = λ e. let f = three_first a b b e in rw (f.0, f.1);
}
cover_few (a ∷ b ∷ c ∷ []) n h d = record {
  eight = three a b c;
  long = refl;
  bytes = three_bytes a b c d.0 d.1.0 d.1.1.0;
  number = three_number a b c;
  tells = λ e. let f = three_first a b c e in rw (f.0, f.1, f.2);
}
cover_few (a ∷ b ∷ c ∷ e ∷ s) n h d = absurd (omega (arith, h))

pub cover_fours :
    (s : List ℕ) → 4 ≤ length s → length s < 8 → Below 256 s → (x y : ℕ) → x ≡ little_of (take 4 (drop 0 s)) → y ≡ little_of (take 4 (drop (length s - 4) s)) →
    Covers s (x + y * 0x1_0000_0000)
cover_fours s l h d x y e f = record {
  eight = take 4 s ++ back;
  long = length-append (take 4 s) back ∙ rw (front_four, back_four);
  bytes = below_append (take 4 s) back (below_take 4 s d) (below_take 4 (drop k s) (below_drop k s d));
  number = rw front_four at (little_append (take 4 s) back) ∙ rw (e, f);
  tells = λ g.
      let p : (all_simple (take 4 s) && all_simple back) ≡ true = sym (simple_append (take 4 s) back) ∙ g in
      simple_over k 4 s (omega (arith, h)) (and_left (all_simple (take 4 s)) (all_simple back) p) (rw (take_all 4 (drop k s) (rw length-drop (omega (arith, l)))) at (and_right (all_simple (take 4 s)) (all_simple back) p));
}
  where
    k : ℕ
    k = length s - 4

    back : List ℕ
    back = take 4 (drop (length s - 4) s)

    front_four : length (take 4 s) ≡ 4
    front_four = length-take-le 4 s l

    back_four : length (take 4 (drop (length s - 4) s)) ≡ 4
    back_four = length-take-le 4 (drop (length s - 4) s) (rw length-drop (omega (arith, l)))

-- ---- what the sums tell

abbrev tops : ℕ → ℕ
tops x = bit_and x 0x8080_8080_8080_8080

pub eight_tested :
    (x : ℕ) (t : List ℕ) → length t ≡ 8 → Below 256 t → little_of t ≡ x →
    (((eqb (tops x) 0 && eqb (tops (x + 0x6060_6060_6060_6060)) 0x8080_8080_8080_8080) &&
    eqb (tops (x + 0x5A5A_5A5A_5A5A_5A5A)) (tops (x + 0x5959_5959_5959_5959))) &&
    eqb (tops (x + 0x4444_4444_4444_4444)) (tops (x + 0x4141_4141_4141_4141))) ≡ true →
    all_simple t ≡ true
unfolding fill_of tops_of
eight_tested x t n d e f = go (eqb (tops x) 0) (eqb (tops (x + 0x6060_6060_6060_6060)) 0x8080_8080_8080_8080) (eqb (tops (x + 0x5A5A_5A5A_5A5A_5A5A)) (tops (x + 0x5959_5959_5959_5959))) (eqb (tops (x + 0x4444_4444_4444_4444)) (tops (x + 0x4141_4141_4141_4141))) refl refl refl refl f
  where
    go :
        (p q r s : Bool) → eqb (tops x) 0 ≡ p → eqb (tops (x + 0x6060_6060_6060_6060)) 0x8080_8080_8080_8080 ≡ q →
        eqb (tops (x + 0x5A5A_5A5A_5A5A_5A5A)) (tops (x + 0x5959_5959_5959_5959)) ≡ r →
        eqb (tops (x + 0x4444_4444_4444_4444)) (tops (x + 0x4141_4141_4141_4141)) ≡ s → (((p && q) && r) && s) ≡ true → all_simple t ≡ true
    go false q r s a b c g h = absurd (false≢true h)
    go true false r s a b c g h = absurd (false≢true h)
    go true true false s a b c g h = absurd (false≢true h)
    go true true true false a b c g h = absurd (false≢true h)
    go true true true true a b c g h =
        raised_simple t d (rw (n, e) (eqb-true (tops x) 0 a)) (rw (n, e) (eqb-true (tops (x + 0x6060_6060_6060_6060)) 0x8080_8080_8080_8080 b)) (rw (n, e) (eqb-true (tops (x + 0x5A5A_5A5A_5A5A_5A5A)) (tops (x + 0x5959_5959_5959_5959)) c)) (rw (n, e) (eqb-true (tops (x + 0x4444_4444_4444_4444)) (tops (x + 0x4141_4141_4141_4141)) g))
