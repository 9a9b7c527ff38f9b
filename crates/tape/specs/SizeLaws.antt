-- How many bytes an event has on the tape, as the code counts them.
use Rattle.std.specs.Prelude.{Bool, true, false, List, ◌∷◌, ◌++◌, ◌≡◌, refl, ℕ, suc, ◌+◌, length, None, Option, Some}
use Rattle.std.proofs.Common.{ap, sym, arith, length-append}
use Rattle.event.specs.Meaning.{boolean, dictionary}
use Rattle.number.specs.Be.{bytes_of}
use Rattle.number.specs.BeLaws.{length_bytes_of}
use Rattle.tape.specs.Code.{bytes_for}
use Rattle.tape.specs.Kinds.{start_bytes}
use Rattle.tape.specs.Seven.{seven}

pub boolean_size : (b : Bool) → 1 ≡ length (bytes_for (boolean b))
unfolding bytes_for
boolean_size true = refl
boolean_size false = refl

pub eight_size : (kind b : ℕ) → 9 ≡ length (kind ∷ bytes_of 8 b)
eight_size kind b = sym (ap suc (length_bytes_of 8 b))

pub dictionary_size : (n : Option ℕ) → length (start_bytes 0x0A n) ≡ length (bytes_for (dictionary n))
unfolding start_bytes bytes_for
dictionary_size (Some n) = refl
dictionary_size None = refl

pub number_size : (kind n : ℕ) → 1 + length (seven n) ≡ length (kind ∷ seven n)
number_size kind n = omega arith

pub bytes_size : (kind : ℕ) (s : List ℕ) → 1 + length (seven (length s)) + length s ≡ length (kind ∷ (seven (length s) ++ s))
bytes_size kind s = omega (arith, length-append (seven (length s)) s)
