-- Events without given lengths: two that differ in a given length alone are the same.
use Rattle.std.specs.Prelude.{None}
use Rattle.event.specs.Meaning.{Meaning, array, dictionary, close, boolean, bytes, date, integer, real, text, uid}

unfoldable pub unmeasured : Meaning → Meaning
unmeasured (array n) = array None
unmeasured (dictionary n) = dictionary None
unmeasured close = close
unmeasured (boolean b) = boolean b
unmeasured (bytes s) = bytes s
unmeasured (date b) = date b
unmeasured (integer z) = integer z
unmeasured (real b) = real b
unmeasured (text s) = text s
unmeasured (uid n) = uid n
