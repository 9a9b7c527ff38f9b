-- What the computed cases unfold, by one name: `unfolding computed` opens all of it. A definition that a case goes through is added here.
use Rattle.number.specs.Be
use Rattle.number.specs.Signed
use Rattle.number.specs.Size
use Rattle.number.specs.Width

unfoldable pub computed : Unit {0}
unfolding Be.be Be.onto Be.bytes_of
    Signed.signed_of Signed.bits_of
    Size.needed Size.rounded Size.size_of
    Width.width_of Width.bytes_in
computed = tt
