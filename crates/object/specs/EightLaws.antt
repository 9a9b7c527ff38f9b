-- A number of fewer than eight bytes, had from the eight that are read at its place.
use Rattle.std.specs.Prelude.{List, ◌≡◌, ℕ, ◌+◌, ◌-◌, ◌*◌, ◌/◌, ◌^◌, ◌≤◌, length, take, drop}
use Rattle.std.proofs.Common.{arith, take-take}
use Rattle.number.specs.Be.{be}
use Rattle.number.specs.BeLaws.{Bytes}
use Rattle.number.specs.Part.{part}
use Rattle.number.specs.PartLaws.{be_shifted}

-- the rest behind it is dropped
pub shifted : (s : List ℕ) (at w : ℕ) → Bytes s → w ≤ 8 → at + 8 ≤ length s → be (take 8 (take (at + 8 - at) (drop at s))) / 2 ^ (64 - 8 * w) ≡ be (part s at w)
shifted s at w b few inside =
    let q : at + 8 - at ≡ 8 = omega arith in
    rw (q, take-take 8 8 (drop at s) (omega arith)) (be_shifted s at w b few inside)
