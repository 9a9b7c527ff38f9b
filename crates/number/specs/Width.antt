-- The widths of offsets and references. docs/FORMAT.md, rule R3.
use Rattle.std.specs.Prelude.{cond, ℕ, eqb, None, Option, Some}
use Rattle.number.specs.declared.width.Width.{Width}
use Rattle.number.specs.declared.width.Width.TheVariants.{One, Two, Three, Four, Eight}

unfoldable pub bytes_in : Width → ℕ
bytes_in One = 1
bytes_in Two = 2
bytes_in Three = 3
bytes_in Four = 4
bytes_in Eight = 8

unfoldable pub width_of : ℕ → Option Width
width_of n =
    cond (eqb n 1) (Some One)
    (cond (eqb n 2) (Some Two)
    (cond (eqb n 3) (Some Three)
    (cond (eqb n 4) (Some Four)
    (cond (eqb n 8) (Some Eight)
    None))))
