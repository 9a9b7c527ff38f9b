-- `put_integer`: by the sign, the number or -1 less it.
use mathlib.Core.List.{◌∷◌}
use mathlib.Core.Path.{◌≡◌, ap, ◌∙◌}
use borrow.Author.Rules.{rules}
use mir.Facts.{to_z-of_z}
use mir.Syntax.{w64}
use mir.Val.{SFits}
use Rattle.event.specs.Meaning.{integer, value_of}
use Rattle.number.specs.Signed.{magnitude_of}
use Rattle.tape.specs.Code.{bytes_for}
use Rattle.tape.specs.Kinds.{sign_kind}
use Rattle.tape.specs.KindsLaws.{sign_bytes}
use Rattle.tape.specs.Seven.{seven}
use Rattle.tape.proofs.append.put_integer.Goals as goal

pub returns-in-Unsigned : goal.returns-in-Unsigned
unfolding value_of bytes_for
returns-in-Unsigned c = rw c.in-Unsigned.is c.put_number.ensures

pub returns-in-Signed : goal.returns-in-Signed
unfolding value_of
returns-in-Signed c =
    let z = c.in-Signed.z in
    let f : SFits w64 z = search rules in
    let k : c.sign_kind.result ≡ sign_kind z = c.sign_kind.ensures ∙ ap sign_kind (to_z-of_z f) in
    let m : c.magnitude.result ≡ magnitude_of z = c.magnitude.ensures ∙ ap magnitude_of (to_z-of_z f) in
    let q : c.sign_kind.result ∷ seven c.magnitude.result ≡ bytes_for (integer z) = rw (k, m) (sign_bytes z) in
    rw c.in-Signed.is (rw q at c.put_number-in-Signed.ensures)
