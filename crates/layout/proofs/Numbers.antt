-- Numbers of a width that stand in a file.
use Rattle.std.specs.Prelude.{None, Option, Some}
use Prim.Native.Nat.{ℕ, zero, suc, ◌+◌, ◌-◌, ◌*◌, ◌/◌, ◌^◌, ◌≤◌, ◌<◌}
use mathlib.Core.List.{List}
use mathlib.Core.Path.{◌≡◌, sym, ◌∙◌}
use native.Mathlib.Nat.{mul-le-mul_left, le-div_iff_mul-le, div-lt_iff_lt-mul, div-le_self}
use native.Mathlib.Omega.{arith}
use lib.ListN.{length, take, drop}
use Rattle.number.specs.Be.{be}
use Rattle.number.specs.Read.{number_of}
use Rattle.number.specs.Part.{part}
use Rattle.number.specs.PartLaws.{number_part}

module _ (s : List ℕ) (at n : ℕ) (some : 0 < n) (few : n ≤ 8) (inside : at + n ≤ length s) (r : Option ℕ) (read : r ≡ number_of (take (at + n - at) (drop at s))) where
  -- what is read of such bytes is their number
  pub is_number : (v : ℕ) → r ≡ Some v → v ≡ be (part s at n)
  is_number v e = let z : Some v ≡ Some (be (part s at n)) = sym e ∙ read ∙ number_part s at n inside some few in cc

  -- and never nothing
  pub not_none : r ≡ None → ⊥
  not_none e =
      let z : None ≡ Some (be (part s at n)) = sym e ∙ read ∙ number_part s at n inside some few in
      let q : ◌≡◌ {A = ℕ} 0 1 = cc in
      omega arith

-- an object's number, and a place among references, times a width fit
pub scaled : (n w : ℕ) → n < 2 ^ 32 → w ≤ 8 → n * w < 2 ^ 36
scaled n w h g = omega (arith, mul-le-mul_left n g)

pub placed : (n w : ℕ) → n < 2 ^ 33 → w ≤ 8 → n * w < 2 ^ 37
placed n w h g = omega (arith, mul-le-mul_left n g)

-- a bit times a number
pub bit_times : (b n : ℕ) → b < 2 → b * n ≤ n
bit_times zero n h = omega arith
bit_times (suc zero) n h = omega arith
bit_times (suc (suc b)) n h = absurd (omega arith)

-- a table of so many entries, from an offset on, ends at or before T: by a quotient, and by the product
module _ (table count w top : ℕ) (pos : 0 < w) (le : table ≤ top) where
  pub table_in : count ≤ (top - table) / w → table + count * w ≤ top
  table_in h = omega (arith, (le-div_iff_mul-le {x = count} {y = top - table} pos).0 h)

  pub table_past : (top - table) / w < count → top < table + count * w
  table_past h = omega (arith, (div-lt_iff_lt-mul {x = top - table} {y = count} pos).0 h)

  pub count_le : count ≤ (top - table) / w → count ≤ top
  count_le h = omega (arith, div-le_self (top - table) w)
