-- What computed numbers and days and times unfold, by one name.
use Rattle.digits.specs.Digits
use Rattle.digits.specs.Stamp

unfoldable pub computed : Unit {0}
unfolding Digits.places_of Digits.digits_of Digits.decimal Digits.minus Digits.signed
    Stamp.field Stamp.three Stamp.stamp
computed = tt
