-- A magnitude's whole part, as the code works it out from the bits without the sign.
use Rattle.std.specs.Prelude.{ℕ, zero, suc, ◌+◌, ◌*◌, ◌/◌, ◌%◌, ◌^◌, eqb}
use Rattle.calendar.specs.declared.floor.Split.{Split}

-- a magnitude in units of 2 ^ -1074, by the exponent's field and the digits
unfoldable pub units_at : ℕ → ℕ → ℕ
units_at zero t = t
units_at (suc x) t = (2 ^ 52 + t) * 2 ^ x

unfoldable pub split_of : ℕ → Split
split_of low =
    let a = units_at (low / 2 ^ 52) (low % 2 ^ 52) in
    record { whole = a / 2 ^ 1074; exact = eqb (a % 2 ^ 1074) 0 }
