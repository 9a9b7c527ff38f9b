-- What a turn of the writing loop does.
use mathlib.Core.Path.{◌≡◌, sym}
use mathlib.Core.List.{List, [], ◌∷◌, ◌++◌, append_assoc, append-nil}
use Prim.Native.Nat.{ℕ, zero, suc, ◌+◌, ◌-◌, ◌*◌, ◌/◌, ◌%◌, ◌^◌, ◌≤◌, ◌<◌}
use native.Mathlib.Numerals.{sub-one}
use native.Mathlib.Omega.{arith}
use lib.ListN.{length, set, drop, take, length-drop, length-append, drop_of_length-le}
use lib.Seq.{set_split, drop_at, take_at, take_all, length-take-le}
use borrow.Rule.Slice.PartMut.{put_mid}
use Rattle.number.specs.BeLaws.{length_bytes_of, bytes_of_add}
use Rattle.number.specs.Be.{bytes_of}

-- the low byte goes last; what was written stands behind it
pub turn : (l : List ℕ) (k n : ℕ) → 0 < k → k ≤ length l → bytes_of (k - 1) (n / 256) ++ drop (k - 1) (set l (k - 1) (n % 256)) ≡ bytes_of k n ++ drop k l
unfolding bytes_of
turn l zero n h g = absurd (omega arith)
turn l (suc k) n h g =
    let d : drop k (set l k (n % 256)) ≡ n % 256 ∷ drop (suc k) l =
    rw (set_split l k (n % 256), drop_at (take k l) (n % 256 ∷ drop (suc k) l) k (length-take-le k l (omega arith))) in
    simp (sub-one, d, append_assoc)

-- the halves are put one behind the other: high into all but the last eight places, low into those
pub put_halves : (l x y : List ℕ) (h n : ℕ) → 8 < length l → n < 2 ^ 64 →
    x ≡ bytes_of (length (take (length l - 8) l)) h →
    y ≡ bytes_of (length (take (length (x ++ drop (length l - 8) l) - (length l - 8)) (drop (length l - 8) (x ++ drop (length l - 8) l)))) n →
    put_mid (length l - 8) (length (x ++ drop (length l - 8) l) - (length l - 8)) (x ++ drop (length l - 8) l) y ≡ bytes_of (length l) (h * 2 ^ 64 + n)
put_halves l x y h n lt fits p q =
    let k = length l - 8 in
    let d = drop k l in
    let p' : x ≡ bytes_of k h = rw (length-take-le k l (omega arith)) at p in
    let lx : length x ≡ k = rw p' (length_bytes_of k h) in
    let ld : length d ≡ 8 = rw length-drop (omega arith) in
    let e : length (x ++ d) - k ≡ 8 = rw length-append (omega arith) in
    let q' : y ≡ bytes_of 8 n = simp (e, drop_at x d k lx, take_all 8 d (omega arith), ld) at q in
    let z : drop 8 d ≡ [] = drop_of_length-le d {i = 8} (omega arith) in
    let w : length l ≡ k + 8 = omega arith in
    let r : x ++ y ≡ bytes_of (k + 8) (h * 2 ^ 64 + n) = rw (p', q') (sym (bytes_of_add k 8 h n fits)) in
    simp (e, take_at x d k lx, drop_at x d k lx, z, append-nil) (rw w r)
