-- `lacks_integer`: by the sign, the number or -1 less it.
use mathlib.Core.List.{◌∷◌}
use mathlib.Core.Path.{◌≡◌, ap, ◌∙◌}
use Prim.Native.Nat.{ℕ, ◌+◌}
use lib.Dec.{ltb}
use lib.ListN.{length}
use mir.Facts.{to_z-of_z}
use mir.Syntax.{w64}
use mir.Val.{SFits}
use Rattle.event.specs.Meaning.{integer, value_of}
use Rattle.number.specs.Signed.{magnitude_of}
use Rattle.tape.specs.Code.{bytes_for}
use Rattle.tape.specs.Kinds.{sign_kind}
use Rattle.tape.specs.KindsLaws.{sign_bytes}
use Rattle.tape.specs.Seven.{seven}
use Rattle.tape.specs.SizeLaws.{number_size}
use borrow.Author.Rules.{rules}
use Rattle.tape.proofs.room.lacks_integer.Goals as goal

pub returns-in-Signed : goal.returns-in-Signed
unfolding value_of
returns-in-Signed c =
    let a = c.args in
    let z = c.in-Signed.z in
    let f : SFits w64 z = search rules in
    let m : c.magnitude.result ≡ magnitude_of z = c.magnitude.ensures ∙ ap magnitude_of (to_z-of_z f) in
    let q : sign_kind z ∷ seven c.magnitude.result ≡ bytes_for (integer z) = rw m (sign_bytes z) in
    rw c.in-Signed.is (c.lacks_number.ensures ∙ ap (λ (k : ℕ). ltb a.end (a.at + k)) (number_size (sign_kind z) _ ∙ ap length q))

pub returns-in-Unsigned : goal.returns-in-Unsigned
unfolding value_of bytes_for
returns-in-Unsigned c =
    let a = c.args in
    rw c.in-Unsigned.is (c.lacks_number-in-Unsigned.ensures ∙ ap (λ (k : ℕ). ltb a.end (a.at + k)) (number_size 0x03 _))
