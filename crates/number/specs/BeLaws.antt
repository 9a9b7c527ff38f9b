-- Laws of big-endian numbers, over every width.
use Rattle.std.specs.Prelude.{◌≡◌, refl, List, [], ◌∷◌, ◌++◌, ℕ, zero, suc, ◌+◌, ◌*◌, ◌/◌, ◌%◌, ◌^◌, ◌≤◌, ◌<◌, length, get_or}
use Rattle.std.proofs.Common.{sym, ap, ◌∙◌, append_assoc, append-nil, add-one, mul_assoc, mul_comm, add-mul, add-zero, add-suc, suc-add, zero-add, pow-suc, div-lt_iff_lt-mul, lt_of_lt_of_le, arith, lit<, length-append}
use Rattle.std.proofs.Math.Nat.{pow-le-pow_right}
use Rattle.std.proofs.Math.Arith.{digits_lt}
use Rattle.number.specs.Be.{be, onto, bytes_of}

-- every element of a list is a byte
abbrev pub Bytes : List ℕ → Type 0
Bytes [] = Unit {0}
Bytes (b ∷ bs) = (b < 256) × Bytes bs

pub onto_append : (n : ℕ) (s t : List ℕ) → onto n (s ++ t) ≡ onto (onto n s) t
unfolding onto
onto_append n [] t = refl
onto_append n (b ∷ bs) t = onto_append (n * 256 + b) bs t

-- a byte more at the end is a digit more
pub be_snoc : (s : List ℕ) (b : ℕ) → be (s ++ (b ∷ [])) ≡ be s * 256 + b
unfolding be onto
be_snoc s b = onto_append 0 s (b ∷ [])

-- digits below a power stay below the next one
pub digit_lt : (k : ℕ) {n b : ℕ} → n < 256 ^ k → b < 256 → n * 256 + b < 256 ^ suc k
digit_lt k h g = rw pow-suc (digits_lt h g)

onto_lt : (s : List ℕ) (n k : ℕ) → Bytes s → n < 256 ^ k → onto n s < 256 ^ (k + length s)
unfolding onto
onto_lt [] n k b h = rw add-zero h
onto_lt (x ∷ xs) n k b h = rw (add-suc k (length xs), ← suc-add k (length xs)) (onto_lt xs (n * 256 + x) (suc k) b.1 (digit_lt k h b.0))

-- bytes make a number below 256 ^ w
pub be_lt : (s : List ℕ) → Bytes s → be s < 256 ^ length s
unfolding be
be_lt s b = rw zero-add at (onto_lt s 0 0 b (omega arith))

-- and below 2 ^ 64 where they are at most eight
pub be_fits : (s : List ℕ) → Bytes s → length s ≤ 8 → be s < 2 ^ 64
be_fits s b le = lt_of_lt_of_le (be_lt s b) (pow-le-pow_right {n = 256} (lit< tt) le)

pub length_bytes_of : (w n : ℕ) → length (bytes_of w n) ≡ w
unfolding bytes_of
length_bytes_of zero n = refl
length_bytes_of (suc w) n = simp (length-append, length_bytes_of w (n / 256), add-one)

-- what is written is read again, below 256 ^ w
pub be_bytes_of : (w n : ℕ) → n < 256 ^ w → be (bytes_of w n) ≡ n
unfolding be onto bytes_of
be_bytes_of zero n h = omega arith
be_bytes_of (suc w) n h =
    let lt : n / 256 < 256 ^ w = (div-lt_iff_lt-mul (lit< tt)).1 (rw pow-suc at h) in
    be_snoc (bytes_of w (n / 256)) (n % 256) ∙ rw (be_bytes_of w (n / 256) lt) (omega arith)

-- the bytes of a list are digits below 256, from what is known of each
pub bytes_of_law : (s : List ℕ) → ((i : ℕ) → get_or s i 0 < 256) → Bytes s
bytes_of_law [] h = tt
bytes_of_law (b ∷ bs) h = (h 0, bytes_of_law bs (λ i. h (suc i)))

pub bytes_append : (s t : List ℕ) → Bytes s → Bytes t → Bytes (s ++ t)
bytes_append [] t p q = q
bytes_append (b ∷ bs) t p q = (p.0, bytes_append bs t p.1 q)

-- what is written are bytes
pub bytes_of_bytes : (w n : ℕ) → Bytes (bytes_of w n)
unfolding bytes_of
bytes_of_bytes zero n = tt
bytes_of_bytes (suc w) n = bytes_append (bytes_of w (n / 256)) (n % 256 ∷ []) (bytes_of_bytes w (n / 256)) ((omega arith), tt)

-- a part of what stands above the digits that are asked for is not seen
pub bytes_of_low : (w k m n : ℕ) → bytes_of w (m * 256 ^ (w + k) + n) ≡ bytes_of w n
unfolding bytes_of
bytes_of_low zero k m n = refl
bytes_of_low (suc w) k m n =
    let p = m * 256 ^ (w + k) in
    let e : m * 256 ^ (suc w + k) ≡ p * 256 = rw (suc-add w k, pow-suc) (sym (mul_assoc m (256 ^ (w + k)) 256)) in
    let q : (m * 256 ^ (suc w + k) + n) / 256 ≡ p + n / 256 = omega arith in
    let r : (m * 256 ^ (suc w + k) + n) % 256 ≡ n % 256 = omega arith in
    rw (q, r, bytes_of_low w k m (n / 256))

-- a number above another: the digits of both
pub bytes_of_add : (v w m n : ℕ) → n < 256 ^ w → bytes_of (v + w) (m * 256 ^ w + n) ≡ bytes_of v m ++ bytes_of w n
unfolding bytes_of
bytes_of_add v zero m n h = rw (add-zero, append-nil) (ap (bytes_of v) (let e : m * 1 + n ≡ m = omega arith in e))
bytes_of_add v (suc w) m n h =
    let p = m * 256 ^ w in
    let e : m * 256 ^ suc w ≡ p * 256 = rw pow-suc (sym (mul_assoc m (256 ^ w) 256)) in
    let q : (m * 256 ^ suc w + n) / 256 ≡ p + n / 256 = omega arith in
    let r : (m * 256 ^ suc w + n) % 256 ≡ n % 256 = omega arith in
    let lt : n / 256 < 256 ^ w = (div-lt_iff_lt-mul (lit< tt)).1 (rw pow-suc at h) in
    rw (add-suc v w, bytes_of) (rw (q, r, bytes_of_add v w m (n / 256) lt) (append_assoc (bytes_of v m) (bytes_of w (n / 256)) (n % 256 ∷ [])))

-- a number in front stands above all digits that follow
pub onto_is : (n : ℕ) (s : List ℕ) → onto n s ≡ n * 256 ^ length s + be s
unfolding be onto
onto_is n [] = omega arith
onto_is n (b ∷ bs) =
    let p = 256 ^ length bs in
    let h : onto (n * 256 + b) bs ≡ (n * 256 + b) * p + be bs = onto_is (n * 256 + b) bs in
    let g : onto (0 * 256 + b) bs ≡ (0 * 256 + b) * p + be bs = onto_is (0 * 256 + b) bs in
    let e : (n * 256 + b) * p ≡ n * (p * 256) + b * p = add-mul (n * 256) b p ∙ ap (λ (x : ℕ). x + b * p) (mul_assoc n 256 p ∙ ap (λ (x : ℕ). n * x) (mul_comm 256 p)) in
    rw pow-suc (omega (arith, h, g, e))

pub be_cons : (b : ℕ) (bs : List ℕ) → be (b ∷ bs) ≡ b * 256 ^ length bs + be bs
unfolding be onto
be_cons b bs = rw zero-add (onto_is b bs)

-- what is read is written again
pub bytes_of_be : (s : List ℕ) → Bytes s → bytes_of (length s) (be s) ≡ s
unfolding bytes_of
bytes_of_be [] b = refl
bytes_of_be (x ∷ xs) b =
    let e : bytes_of (1 + length xs) (x * 256 ^ length xs + be xs) ≡ bytes_of 1 x ++ bytes_of (length xs) (be xs) = bytes_of_add 1 (length xs) x (be xs) (be_lt xs b.1) in
    let o : 1 + length xs ≡ suc (length xs) = omega arith in
    let d : x % 256 ≡ x = omega arith in
    rw be_cons (simp (o, bytes_of_be xs b.1, d) at e)

-- a number of 16 bytes is its two halves
pub be_halves : (s t : List ℕ) → be (s ++ t) ≡ be s * 256 ^ length t + be t
unfolding be
be_halves s t = onto_append 0 s t ∙ onto_is (onto 0 s) t
