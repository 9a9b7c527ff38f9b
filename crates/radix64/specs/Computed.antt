-- What computed base 64 unfolds, by one name.
use Rattle.radix64.specs.Base64

unfoldable pub computed : Unit {0}
unfolding Base64.alphabet Base64.letter_of Base64.base64 Base64.six_of Base64.three Base64.unbase64
computed = tt
