-- Numbers of one width, one after the other: references, and the entries of the offset table.
use Rattle.std.specs.Prelude.{List, [], ◌∷◌, ◌≡◌, ℕ, zero, suc, ◌+◌, ◌*◌, ◌^◌, ◌≤◌, ◌<◌, length, get_or, Some}
use Rattle.std.proofs.Common.{suc-mul, zero-mul, add-zero, arith, le-leb}
use Rattle.number.specs.Be.{bytes_of}
use Rattle.number.specs.BeLaws.{length_bytes_of}
use Rattle.number.specs.Width.{bytes_in}
use Rattle.number.specs.WidthLaws.{bytes_in_pos}
use Rattle.number.specs.declared.width.Width.{Width}
use Rattle.utf.specs.Bounds.{Below}
use Rattle.layout.specs.Layout.{number_at}
use Rattle.written_claims.specs.Stands.{Stands, stands_front, stands_back, stands_inside, stands_number}
use Rattle.written.specs.Encoding.{numbers_bytes}

pub below_at : (k : ℕ) (ns : List ℕ) (i : ℕ) → Below k ns → i < length ns → get_or ns i 0 < k
below_at k [] i b h = absurd (omega arith)
below_at k (n ∷ ns) zero b h = b.0
below_at k (n ∷ ns) (suc i) b h = below_at k ns i b.1 (omega arith)

-- each stands behind those before it
pub numbers_stand : (file : List ℕ) (w at : ℕ) (ns : List ℕ) (i : ℕ) → i < length ns → Stands file at (numbers_bytes w ns) → Stands file (at + i * w) (bytes_of w (get_or ns i 0))
unfolding numbers_bytes
numbers_stand file w at [] i h st = absurd (omega arith)
numbers_stand file w at (n ∷ ns) zero h st = rw (zero-mul, add-zero) (stands_front file at (bytes_of w n) (numbers_bytes w ns) st)
numbers_stand file w at (n ∷ ns) (suc i) h st =
    let b : Stands file (at + w) (numbers_bytes w ns) = rw length_bytes_of at (stands_back file at (bytes_of w n) (numbers_bytes w ns) st) in
    let e : at + w + i * w ≡ at + suc i * w = rw suc-mul (omega arith) in
    rw e at (numbers_stand file w (at + w) ns i (omega arith) b)

-- and is read there
pub numbers_read : (file : List ℕ) (w : Width) (at : ℕ) (ns : List ℕ) (i : ℕ) → Below (256 ^ bytes_in w) ns → i < length ns
    → Stands file at (numbers_bytes (bytes_in w) ns) → number_at file w (at + i * bytes_in w) ≡ Some (get_or ns i 0)
unfolding number_at
numbers_read file w at ns i b h st =
    let k = bytes_in w in
    let n = get_or ns i 0 in
    let s : Stands file (at + i * k) (bytes_of k n) = numbers_stand file k at ns i h st in
    let l : length (bytes_of k n) ≡ k = length_bytes_of k n in
    let pos : 0 < k = bytes_in_pos w in
    let inside : at + i * k + k ≤ length file = rw l at (stands_inside file (at + i * k) (bytes_of k n) (rw l pos) s) in
    rw (le-leb (at + i * k + k) (length file) inside, stands_number file (at + i * k) k n (below_at (256 ^ k) ns i b h) s)
