-- The index by which the first event with the same bytes is found: 2 * n buckets from word n * 4 on, then for each event two words. A word
-- holds an event plus 1, or 0. No law opens how bucket and sides are made of the bytes: any numbers below 2 * n and 2 would do.
use Rattle.std.specs.Prelude.{◌≡◌, ℕ, zero, suc, ◌+◌, ◌-◌, ◌*◌, ◌/◌, ◌%◌, ◌^◌, ◌<◌, ◌≤◌, cond, List, ◌∷◌, length, drop, nat_lt, slice_index}
use Rattle.written.specs.Graph.{Piece, scalar, Scalar, val}
use Rattle.written.specs.Shape.{name_of}
use Rattle.written.specs.Weigh.{rep_of}
use Rattle.writer.specs.Alike.{hash_of}
use Rattle.writer.specs.Ready.{pieces_in}

unfoldable pub bucket_of : ℕ → ℕ → ℕ
bucket_of hash n = hash * (n + n) / 0x1_0000_0000

abbrev pub bit_of : ℕ → ℕ → ℕ
bit_of x i = x / 2 ^ i % 2

-- left or right, so many events down: the bits of the hash, then those of the bytes, zeros behind them
unfoldable pub side_of : List ℕ → ℕ → ℕ → ℕ
side_of s hash steps = cond (nat_lt steps 32) (bit_of hash steps) (cond (nat_lt ((steps - 32) / 8) (length s)) (bit_of (slice_index s ((steps - 32) / 8)) ((steps - 32) % 8)) 0)

-- the word that a search looks at after so many events
unfoldable pub slot_at : List ℕ → ℕ → ℕ → (ℕ → ℕ) → ℕ → ℕ
slot_at w n top side zero = top
slot_at w n top side (suc k) = n * 6 + (slice_index w (slot_at w n top side k) - 1) + (slice_index w (slot_at w n top side k) - 1) + side k

-- what it finds there
abbrev pub met_at : List ℕ → ℕ → ℕ → (ℕ → ℕ) → ℕ → ℕ
met_at w n top side k = slice_index w (slot_at w n top side k)

-- the way of a search, by the bytes
abbrev pub top_of : ℕ → List ℕ → ℕ
top_of n s = n * 4 + bucket_of (hash_of s) n

abbrev pub sides_of : List ℕ → ℕ → ℕ
sides_of s = side_of s (hash_of s)

-- a search comes to an event, and to no empty word before
pub record Meets (w : List ℕ) (n top : ℕ) (side : ℕ → ℕ) (i : ℕ) : Type 0 where
  pub steps : ℕ
  pub there : met_at w n top side steps ≡ suc i
  pub some : (j : ℕ) → j < steps → 0 < met_at w n top side j

-- the index has those events before e that are the first with their bytes, and no others; below an event stand later ones
pub record Index (t w : List ℕ) (n e : ℕ) : Type 0 where
  pub before : (q : ℕ) → n * 4 ≤ q → q < n * 8 → slice_index w q ≤ e
  pub later : (i b : ℕ) → i < n → b < 2 → 0 < slice_index w (n * 6 + i + i + b) → suc i < slice_index w (n * 6 + i + i + b)
  pub first : (q i : ℕ) (p : Piece) (r : List Piece) → n * 4 ≤ q → q < n * 8 → slice_index w q ≡ suc i → drop i (pieces_in t) ≡ p ∷ r → rep_of (pieces_in t) (name_of i p) ≡ i
  pub met : (i : ℕ) (s : Scalar) (r : List Piece) → i < e → drop i (pieces_in t) ≡ scalar s ∷ r → rep_of (pieces_in t) (val s) ≡ i → Meets w n (top_of n s) (sides_of s) i
