-- What the computed cases unfold, by one name: `unfolding computed` opens all of it. A definition that a case goes through is added here.
use Rattle.std.specs.Float.Ieee
use Rattle.number.specs.Computed as number
use Rattle.event.specs.Date
use Rattle.event.specs.Format
use Rattle.event.specs.Meaning
use Rattle.event.specs.Real

unfoldable pub computed : Unit {0}
unfolding number.computed
    Ieee.nan_bits Ieee.is_nan Ieee.of_bits Ieee.to_bits
    Date.is_date
    Format.magic
    Meaning.meaning_of Meaning.value_of
    Real.real_of Real.float_bits
computed = tt
