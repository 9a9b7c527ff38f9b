-- Runs of ASCII: how long the one at the start is, a place within a run, and eight bytes as one number.
use Rattle.std.specs.Prelude.{cond, List, [], ◌∷◌, ℕ, zero, suc, ◌≡◌, ◌+◌, ◌*◌, ◌≤◌, ltb, drop}

-- how many bytes at the start are ASCII
unfoldable pub ascii_run : List ℕ → ℕ
ascii_run [] = 0
ascii_run (b ∷ s) = cond (ltb b 0x80) (suc (ascii_run s)) 0

-- a place within the run of ASCII that begins at another, or at its end
abbrev pub InRun : List ℕ → ℕ → ℕ → Type 0
InRun s from i = (from ≤ i) × (i ≤ from + ascii_run (drop from s))

-- the number of bytes, the first one lowest
unfoldable pub little_of : List ℕ → ℕ
little_of [] = 0
little_of (b ∷ s) = little_of s * 256 + b

-- the top bits of so many bytes
unfoldable pub tops_of : ℕ → ℕ
tops_of zero = 0
tops_of (suc n) = tops_of n * 256 + 0x80

-- what is left behind a part of the run of ASCII at the start, or behind all of it
abbrev pub BehindRun : List ℕ → List ℕ → Type 0
BehindRun s rest = (n : ℕ) × (n ≤ ascii_run s) × (rest ≡ drop n s)
