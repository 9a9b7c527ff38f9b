-- How far a run of ASCII goes, what stands behind it, and that the top bits of bytes tell where it ends.
use Rattle.std.specs.Prelude.{Bool, true, false, ◌&&◌, ◌≡◌, refl, List, [], ◌∷◌, ◌++◌, ℕ, zero, suc, ◌+◌, ◌*◌, ◌/◌, ◌%◌, ◌-◌, ◌^◌, ◌≤◌, ◌<◌, ltb, eqb, length, take, drop, get_or}
use Rattle.std.proofs.Common.{sym, ◌∙◌, zero-add, mul-one, mul_assoc, pow-suc, length-drop, take-add, drop-drop, length-take-le, ltb-true, ltb-false, lt-ltb, le-ltb, eq-eqb, ne_eqb}
use Rattle.std.proofs.Math.Decide.{dec_lt}
use native.Mathlib.Omega.{arith}
use Rattle.std.specs.Int.Bits.{bit_and, and_block}
use Rattle.std.proofs.lemmas.Nat.Bits.{and_high}
use Rattle.std.specs.Int.Count.{count_trailing_zeros}
use Rattle.std.proofs.Math.Dec.{eqb-suc-suc}
use Rattle.utf.specs.Unicode.{is_ascii, is_utf8}
use Rattle.utf.specs.Bounds.{Below}
use Rattle.utf.specs.Left.{left_at}
use Rattle.utf.specs.Utf8Laws.{ascii_cons, ascii_first}
use Rattle.utf.specs.Plain.{ascii_run, InRun, little_of, tops_of}

-- a byte in front: the run is one longer, or there is none
run_more : (b : ℕ) (s : List ℕ) → b < 0x80 → ascii_run (b ∷ s) ≡ suc (ascii_run s)
unfolding ascii_run
run_more b s h = rw (lt-ltb b 0x80 h)

run_none : (b : ℕ) (s : List ℕ) → 0x80 ≤ b → ascii_run (b ∷ s) ≡ 0
unfolding ascii_run
run_none b s h = rw (le-ltb b 0x80 h)

-- the run at the start lies within the bytes
pub run_le : (s : List ℕ) → ascii_run s ≤ length s
unfolding ascii_run
run_le [] = omega arith
run_le (b ∷ s) =
    elim (dec_lt b 0x80) [
      | yes p ↦ omega (arith, run_more b s p, run_le s)
      | no p ↦ omega (arith, run_none b s (let h : 0x80 ≤ b = omega arith in h))
    ]

-- it is all of them where all are ASCII
pub run_ascii : (s : List ℕ) → eqb (ascii_run s) (length s) ≡ is_ascii s
unfolding ascii_run is_ascii
run_ascii [] = refl
run_ascii (b ∷ s) = go (ltb b 0x80) refl (run_ascii s)
  where
    go : (t : Bool) → ltb b 0x80 ≡ t → eqb (ascii_run s) (length s) ≡ is_ascii s → eqb (ascii_run (b ∷ s)) (length (b ∷ s)) ≡ is_ascii (b ∷ s)
    go true e h = rw (e, ascii_run) (eqb-suc-suc (ascii_run s) (length s) ∙ h)
    go false e h = rw (e, ascii_run) (ne_eqb 0 (suc (length s)) (omega arith))

-- ASCII at the start is in the run
pub run_plain : (n : ℕ) (s : List ℕ) → n ≤ length s → is_ascii (take n s) ≡ true → n ≤ ascii_run s
run_plain zero s l e = omega arith
run_plain (suc n) [] l e = absurd (omega arith)
run_plain (suc n) (b ∷ s) l e =
    let k = ascii_cons b (take n s) e in
    omega (arith, run_more b s k.0, run_plain n s (omega arith) k.1)

-- the run of the first bytes is no longer
pub run_take : (n : ℕ) (s : List ℕ) → ascii_run (take n s) ≤ ascii_run s
unfolding ascii_run
run_take zero s = omega arith
run_take (suc n) [] = omega arith
run_take (suc n) (b ∷ s) =
    elim (dec_lt b 0x80) [
      | yes p ↦ omega (arith, run_more b s p, run_more b (take n s) p, run_take n s)
      | no p ↦ omega (arith, run_none b (take n s) (let h : 0x80 ≤ b = omega arith in h))
    ]

-- within the run what is left of it goes on, and so does text
within : (n : ℕ) (s : List ℕ) → n ≤ ascii_run s → (ascii_run s ≡ n + ascii_run (drop n s)) × (is_utf8 (drop n s) ≡ is_utf8 s)
unfolding ascii_run
within zero s h = (omega arith, refl)
within (suc n) [] h = absurd (omega arith)
within (suc n) (b ∷ s) h =
    elim (dec_lt b 0x80) [
      | yes p ↦
          let e : ascii_run (b ∷ s) ≡ suc (ascii_run s) = run_more b s p in
          let ih = within n s (omega arith) in
          (omega (arith, e, ih.0), ih.1 ∙ sym (ascii_first b s p))
      | no p ↦ absurd (omega (arith, run_none b s (let h : 0x80 ≤ b = omega arith in h)))
    ]

module _ (s : List ℕ) (from i : ℕ) (r : InRun s from i) where
  rest : (ascii_run (drop from s) ≡ i - from + ascii_run (drop i s)) × (is_utf8 (drop i s) ≡ is_utf8 (drop from s))
  rest =
      let sum : from + (i - from) ≡ i = omega (arith, r.0) in
      rw (drop-drop (i - from) from s, sum) at (within (i - from) (drop from s) (omega (arith, r.0, r.1)))

  -- the place where the run ends is the same from here
  pub run_on : i + ascii_run (drop i s) ≡ from + ascii_run (drop from s)
  run_on = omega (arith, rest.0, r.0)

  pub run_text : is_utf8 (drop i s) ≡ is_utf8 (drop from s)
  run_text = rest.1

  -- places in the run from here are in the run
  pub run_far : (j : ℕ) → InRun s i j → InRun s from j
  run_far j q = (omega (arith, r.0, q.0), omega (arith, run_on, q.1))

-- a place in a run is no further than the end of the bytes
pub run_inside : (s : List ℕ) (from i : ℕ) → from ≤ length s → InRun s from i → i ≤ length s
run_inside s from i h r =
    let l : ascii_run (drop from s) ≤ length s - from = rw length-drop at (run_le (drop from s)) in
    omega (arith, r.1)

-- bytes at the end that are ASCII: the run of a place among them goes to the end
pub run_end : (s : List ℕ) (k n i : ℕ) → k + n ≡ length s → is_ascii (take n (drop k s)) ≡ true → k ≤ i → i ≤ length s → i + ascii_run (drop i s) ≡ length s
run_end s k n i l e h g =
    let size : length (drop k s) ≡ n = length-drop k s ∙ (let z : length s - k ≡ n = omega arith in z) in
    let all : n ≤ ascii_run (drop k s) = run_plain n (drop k s) (omega arith) e in
    let upto : ascii_run (drop k s) ≤ length (drop k s) = run_le (drop k s) in
    omega (arith, run_on s k i (h, omega arith))

-- a place before the end, whose byte is ASCII, has a run
pub run_first : (s : List ℕ) (i : ℕ) → i < length s → get_or s i 0 < 0x80 → 0 < ascii_run (drop i s)
run_first s i h g = rw (left_at s i h) (omega (arith, run_more (get_or s i 0) (drop (i + 1) s) g))

-- the top bit of a byte
top_clear : (b : ℕ) → b < 0x80 → bit_and b 0x80 ≡ 0
top_clear b h = and_high b 1 7 ∙ (let e : b / 128 % 2 * 128 ≡ 0 = omega arith in e)

top_set : (b : ℕ) → 0x80 ≤ b → b < 256 → bit_and b 0x80 ≡ 0x80
top_set b l h = and_high b 1 7 ∙ (let e : b / 128 % 2 * 128 ≡ 0x80 = omega arith in e)

-- a byte in front has its own top bit below those of the others
module _ (b : ℕ) (s : List ℕ) (h : b < 256) where
  pub tops_cons : bit_and (little_of (b ∷ s)) (tops_of (length (b ∷ s))) ≡ bit_and (little_of s) (tops_of (length s)) * 256 + bit_and b 0x80
  unfolding little_of tops_of
  tops_cons = and_block 8 (little_of s) (tops_of (length s)) b 0x80 h (omega arith)

-- no top bit is set just where all bytes are ASCII
pub tops_ascii : (s : List ℕ) → Below 256 s → eqb (bit_and (little_of s) (tops_of (length s))) 0 ≡ is_ascii s
unfolding little_of tops_of is_ascii
tops_ascii [] h = refl
tops_ascii (b ∷ s) h = go (ltb b 0x80) refl (tops_ascii s h.1)
  where
    m : ℕ
    m = bit_and (little_of s) (tops_of (length s))

    go : (t : Bool) → ltb b 0x80 ≡ t → eqb m 0 ≡ is_ascii s → eqb (bit_and (little_of (b ∷ s)) (tops_of (length (b ∷ s)))) 0 ≡ (ltb b 0x80 && is_ascii s)
    go true e ih = rw (tops_cons b s h.0, e, top_clear b (ltb-true b 0x80 e)) (times m ∙ ih)
      where
        times : (n : ℕ) → eqb (n * 256 + 0) 0 ≡ eqb n 0
        times zero = refl
        times (suc n) = ne_eqb (suc n * 256 + 0) 0 (omega arith) ∙ sym (ne_eqb (suc n) 0 (omega arith))
    go false e ih =
        let l : 0x80 ≤ b = ltb-false b 0x80 e in
        rw (tops_cons b s h.0, e, top_set b l h.0) (ne_eqb (m * 256 + 0x80) 0 (omega arith))

-- zeros below an even number, and below an odd one
tz_even : (k n : ℕ) → count_trailing_zeros (suc k) (n * 2) ≡ suc (count_trailing_zeros k n)
unfolding count_trailing_zeros
tz_even k n =
    let m : n * 2 % 2 ≡ 0 = omega arith in
    let d : n * 2 / 2 ≡ n = omega arith in
    rw (m, d)

tz_odd : (k n : ℕ) → count_trailing_zeros (suc k) (n * 2 + 1) ≡ 0
unfolding count_trailing_zeros
tz_odd k n =
    let m : (n * 2 + 1) % 2 ≡ 1 = omega arith in
    rw m

tz_shift : (j k n : ℕ) → count_trailing_zeros (j + k) (n * 2 ^ j) ≡ j + count_trailing_zeros k n
tz_shift zero k n = rw (zero-add k, mul-one n) (omega arith)
tz_shift (suc j) k n =
    let a : suc j + k ≡ suc (j + k) = omega arith in
    let b : n * 2 ^ suc j ≡ n * 2 ^ j * 2 = rw pow-suc (sym (mul_assoc n (2 ^ j) 2)) in
    rw (a, b, tz_even, tz_shift j k n) (omega arith)

-- the lowest top bit that is set is that of the first byte behind the run
pub tops_run : (s : List ℕ) → Below 256 s → count_trailing_zeros (length s * 8) (bit_and (little_of s) (tops_of (length s))) / 8 ≡ ascii_run s
unfolding ascii_run count_trailing_zeros
tops_run [] h = refl
tops_run (b ∷ s) h =
    let m = bit_and (little_of s) (tops_of (length s)) in
    let k = length s * 8 in
    elim (dec_lt b 0x80) [
      | yes p ↦
          let wide : suc (length s) * 8 ≡ 8 + k = omega arith in
          let zeros : count_trailing_zeros (8 + k) (m * 256) ≡ 8 + count_trailing_zeros k m = tz_shift 8 k m in
          let number : m * 256 + 0 ≡ m * 256 = omega arith in
          rw (tops_cons b s h.0, top_clear b p, number, wide, zeros, run_more b s p) (omega (arith, tops_run s h.1))
      | no p ↦
          let l : 0x80 ≤ b = omega arith in
          let wide : suc (length s) * 8 ≡ 7 + suc k = omega arith in
          let number : m * 256 + 0x80 ≡ (m * 2 + 1) * 128 = omega arith in
          let zeros : count_trailing_zeros (7 + suc k) ((m * 2 + 1) * 128) ≡ 7 + count_trailing_zeros (suc k) (m * 2 + 1) = tz_shift 7 (suc k) (m * 2 + 1) in
          rw (tops_cons b s h.0, top_set b l h.0, number, wide, zeros, tz_odd k m, run_none b s l)
    ]

-- Eight bytes at a place.

below_drop : (i : ℕ) (s : List ℕ) → Below 256 s → Below 256 (drop i s)
below_drop zero s b = b
below_drop (suc i) [] b = b
below_drop (suc i) (x ∷ s) b = below_drop i s b.1

below_take : (n : ℕ) (s : List ℕ) → Below 256 s → Below 256 (take n s)
below_take zero s b = tt
below_take (suc n) [] b = tt
below_take (suc n) (x ∷ s) b = (b.0, below_take n s b.1)

run_some : (n : ℕ) (s : List ℕ) → 0 < ascii_run s → 0 < ascii_run (take (suc n) s)
unfolding ascii_run
run_some n [] h = absurd (omega arith)
run_some n (b ∷ s) h =
    elim (dec_lt b 0x80) [
      | yes p ↦ omega (arith, run_more b (take n s) p)
      | no p ↦ absurd (omega (arith, run_none b s (let l : 0x80 ≤ b = omega arith in l)))
    ]

module _ (s : List ℕ) (i : ℕ) (b : Below 256 s) (h : i + 8 ≤ length s) where
  bytes : Below 256 (take 8 (drop i s))
  bytes = below_take 8 (drop i s) (below_drop i s b)

  size : length (take 8 (drop i s)) ≡ 8
  size = length-take-le 8 (drop i s) (rw length-drop (omega arith))

  -- the lowest of their top bits stands where the run ends, or goes on
  pub eight_run : 0 < ascii_run (drop i s) → let n = count_trailing_zeros 64 (bit_and (little_of (take 8 (drop i s))) (tops_of 8)) / 8 in (0 < n) × (n ≤ ascii_run (drop i s))
  eight_run p =
      let e : count_trailing_zeros 64 (bit_and (little_of (take 8 (drop i s))) (tops_of 8)) / 8 ≡ ascii_run (take 8 (drop i s)) = rw size at (tops_run (take 8 (drop i s)) bytes) in
      rw e (run_some 7 (drop i s) p, run_take 8 (drop i s))

  -- none is set: the run goes on behind them
  pub eight_plain : bit_and (little_of (take 8 (drop i s))) (tops_of 8) ≡ 0 → is_ascii (take 8 (drop i s)) ≡ true
  eight_plain z = sym (rw size at (tops_ascii (take 8 (drop i s)) bytes)) ∙ eq-eqb _ 0 z

-- The number of bytes behind others.

little_append : (a s : List ℕ) → little_of (a ++ s) ≡ little_of a + little_of s * 256 ^ length a
unfolding little_of
little_append [] s = rw mul-one (omega arith)
little_append (b ∷ a) s =
    let e : little_of s * 256 ^ suc (length a) ≡ little_of s * 256 ^ length a * 256 = rw pow-suc (sym (mul_assoc (little_of s) (256 ^ length a) 256)) in
    rw (little_append a s, e) (omega arith)

module _ (s : List ℕ) (i : ℕ) where
  pub little_parts : (m n : ℕ) → i + m ≤ length s → little_of (take (m + n) (drop i s)) ≡ little_of (take m (drop i s)) + little_of (take n (drop (i + m) s)) * 256 ^ m
  little_parts m n h =
      let size : length (take m (drop i s)) ≡ m = length-take-le m (drop i s) (rw length-drop (omega arith)) in
      rw (take-add m n (drop i s), drop-drop m i s) (rw size at (little_append (take m (drop i s)) (take n (drop (i + m) s))))

  pub little_two : i + 2 ≤ length s → little_of (take 2 (drop i s)) ≡ get_or s i 0 + get_or s (i + 1) 0 * 0x100
  unfolding little_of
  little_two h =
      let e : i + 1 + 1 ≡ i + 2 = omega arith in
      rw (left_at s i (omega arith), left_at s (i + 1) (omega arith)) (omega arith)
