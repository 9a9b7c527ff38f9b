-- Bytes that are the same, and what the hash is made of.
use Rattle.std.specs.Prelude.{◌≡◌, ℕ, zero, suc, ◌+◌, ◌-◌, ◌*◌, ◌/◌, ◌%◌, ◌^◌, ◌<◌, ◌≤◌, Bool, true, false, List, [], length, take, drop, ◌≢◌, nat_lt, slice_index, slice_index_or, refl}
use Rattle.std.specs.Bool.{Decides}
use Rattle.std.specs.Int.{rotate_left, from_le_bytes}
use Rattle.std.specs.Int.Bits.{bit_or, and_zero_l, and_zero_r}
use Rattle.std.specs.Simd.{first_chunks}
use Rattle.std.proofs.lemmas.List.{drop-drop}
use Rattle.std.proofs.lemmas.Nat.{or_disjoint, and_block}
use Rattle.std.proofs.Common.{ap, sym, ◌∙◌, add_assoc, get_or-take, get_or-drop, add-zero, zero-add, mod-lt, mul-le-mul, div-lt_iff_lt-mul, mul-lt-mul_of_pos_right, mul_comm, arith, lit<, w64, ltb-true, ltb-false, ext_get_or}
use Rattle.written.specs.Graph.{same_bytes}
use Rattle.written.proofs.NameLaws.{bytes_sound, bytes_refl}
use Rattle.writer.specs.Alike.{four_at, turned_of, mixed_of}

-- bytes that aren't the same
pub bytes_other : (s t : List ℕ) → (s ≢ t) → same_bytes s t ≡ false
bytes_other s t h = go (same_bytes s t) refl
  where
    go : (b : Bool) → same_bytes s t ≡ b → same_bytes s t ≡ false
    go true e = absurd (h (bytes_sound s t e))
    go false e = e

-- the test says whether they are
pub bytes_decide : (s t : List ℕ) → Decides (same_bytes s t) (s ≡ t)
bytes_decide s t = (bytes_sound s t, λ e. rw e (bytes_refl t))

-- no bit is lost
apart : (a b : ℕ) → b < 32 → bit_or (a * 32) b ≡ a * 32 + b
apart a b f =
    let e = and_block 5 a 0 0 b (lit< tt) f in
    or_disjoint (a * 32) b (simp (add-zero, zero-add, and_zero_r, and_zero_l) at e)

pub turned_is : (h : ℕ) → h < 2 ^ 64 → rotate_left w64 h 5 ≡ turned_of h
unfolding turned_of
turned_is h f =
    let e : h * 32 % 2 ^ 64 ≡ h % 0x0800_0000_0000_0000 * 32 = omega arith in
    rw e (apart (h % 0x0800_0000_0000_0000) (h / 0x0800_0000_0000_0000) (omega arith))

-- and it fits
turn_fits : (q r : ℕ) → q < 32 → r < 0x0800_0000_0000_0000 → r * 32 + q < 2 ^ 64
turn_fits q r f g = omega arith

pub turned_fits : (h : ℕ) → h < 2 ^ 64 → turned_of h < 2 ^ 64
unfolding turned_of
turned_fits h f = turn_fits (h / 0x0800_0000_0000_0000) (h % 0x0800_0000_0000_0000) ((div-lt_iff_lt-mul (lit< tt)).1 f) (mod-lt h (lit< tt))

-- eight bytes as two numbers of four
halves : (a b : ℕ) → a < 2 ^ 32 → ((a + b * 2 ^ 32) % 2 ^ 32 ≡ a) × ((a + b * 2 ^ 32) / 2 ^ 32 ≡ b)
halves a b f = (omega arith, omega arith)

pub low_half : (s : List ℕ) → ((i : ℕ) → slice_index s i < 256) → from_le_bytes w64 s % 2 ^ 32 ≡ four_at s 0
low_half s f = omega (arith, f 0, f 1, f 2, f 3, f 4, f 5, f 6, f 7)

pub high_half : (s : List ℕ) → ((i : ℕ) → slice_index s i < 256) → from_le_bytes w64 s / 2 ^ 32 ≡ four_at s 4
high_half s f = omega (arith, f 0, f 1, f 2, f 3, f 4, f 5, f 6, f 7)

-- eight bytes by themselves are mixed in as where they stand
mixed_at : (h : ℕ) (x s : List ℕ) (p : ℕ) → ((i : ℕ) → i < 8 → slice_index x i ≡ slice_index s (p + i)) → mixed_of h x 0 ≡ mixed_of h s p
unfolding mixed_of
mixed_at h x s p f =
    let at : (k : ℕ) → k + 3 < 8 → four_at x k ≡ four_at s (p + k) = λ k g.
    rw (f k (omega arith), f (k + 1) (omega arith), f (k + 2) (omega arith), f (k + 3) g, ← add_assoc p k 1, ← add_assoc p k 2, ← add_assoc p k 3) refl in
    rw (at 0 (lit< tt), at 4 (lit< tt), add-zero) refl

-- the bytes of a block
block_of : (s : List ℕ) (m k : ℕ) → k < m → slice_index_or (first_chunks 8 m s) k [] ≡ take 8 (drop (k * 8) s)
block_of s zero k h = absurd (omega arith)
block_of s (suc m) zero h = refl
block_of s (suc m) (suc k) h =
    let e : suc k * 8 ≡ 8 + k * 8 = omega arith in
    rw e (block_of (drop 8 s) m k (omega arith) ∙ ap (λ (l : List ℕ). take 8 l) (drop-drop (k * 8) 8 s))

-- bytes with the same first k and the same last k, where there are no more
pub same_ends : (s t : List ℕ) (k : ℕ) → length s ≡ length t → k ≤ length s → length s ≤ k + k → take k s ≡ take k t → drop (length s - k) s ≡ drop (length t - k) t → s ≡ t
same_ends s t k n few many first last = ext_get_or 0 s t n at
  where
    p : ℕ
    p = length s - k

    behind : drop p s ≡ drop p t
    behind = last ∙ ap (λ (m : ℕ). drop (m - k) t) (sym n)

    at : (j : ℕ) → j < length s → slice_index s j ≡ slice_index t j
    at j l = go (nat_lt j k) refl
      where
        go : (x : Bool) → nat_lt j k ≡ x → slice_index s j ≡ slice_index t j
        go true q =
            let f : j < k = ltb-true j k q in
            sym (get_or-take k s j 0 f) ∙ ap (λ (c : List ℕ). slice_index c j) first ∙ get_or-take k t j 0 f
        go false q =
            let f : k ≤ j = ltb-false j k q in
            let h : p + (j - p) ≡ j = omega arith in
            let there : (x : List ℕ) → slice_index (drop p x) (j - p) ≡ slice_index x j = λ x. get_or-drop p x (j - p) 0 ∙ ap (λ (i : ℕ). slice_index x i) h in
            sym (there s) ∙ ap (λ (c : List ℕ). slice_index c (j - p)) behind ∙ there t

-- a block of the first e bytes
pub mixed_block : (h : ℕ) (s : List ℕ) (e m k : ℕ) → k < m → m * 8 ≤ e → mixed_of h (slice_index_or (first_chunks 8 m (take e s)) k []) 0 ≡ mixed_of h s (k * 8)
mixed_block h s e m k f g =
    rw (block_of (take e s) m k f) (mixed_at h (take 8 (drop (k * 8) (take e s))) s (k * 8)
    (λ i l. get_or-take 8 (drop (k * 8) (take e s)) i 0 l ∙ get_or-drop (k * 8) (take e s) i 0 ∙ get_or-take e s (k * 8 + i) 0 (omega arith)))

pub mixed_last : (h : ℕ) (s : List ℕ) (p : ℕ) → mixed_of h (drop p s) 0 ≡ mixed_of h s p
mixed_last h s p = mixed_at h (drop p s) s p (λ i l. get_or-drop p s i 0)

pub times_fits : (a b : ℕ) → a < 2 ^ 32 → b ≤ 2 ^ 32 → a * b < 2 ^ 64
times_fits a b f g = omega (arith, mul-le-mul {n₁ = a} {m₁ = b} {n₂ = 0xffff_ffff} {m₂ = 0x1_0000_0000} (omega arith) g)

pub bucket_lt : (hash m : ℕ) → hash < 2 ^ 32 → 0 < m → hash * m / 0x1_0000_0000 < m
bucket_lt hash m f g =
    let h : hash * m < m * 0x1_0000_0000 = rw (mul_comm m 0x1_0000_0000) (mul-lt-mul_of_pos_right f g) in
    (div-lt_iff_lt-mul (lit< tt)).1 h
