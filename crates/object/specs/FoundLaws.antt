-- Two answers of `object_at` that say the same are the same.
use Rattle.std.specs.Prelude.{◌≡◌, refl}
use Rattle.std.proofs.Common.{sym, ap, ◌∙◌}
use Rattle.object.specs.Found.{found_of}
use Rattle.object.specs.Object.{Found, outside, refused, refused_by, scalar, bytes, utf8, utf16, array, dictionary}
use Rattle.object.specs.RefusalLaws.{refusal_from, refusal_again}
use Rattle.object.specs.declared.read.Object.TheVariants as object
use Rattle.object.specs.declared.read.Object.{Object}

-- the answer that says what is found
object_from : Found → Object
object_from outside = object.Outside
object_from (refused n vs) = object.Refused (refusal_from n vs)
object_from (scalar e) = object.Scalar e
object_from (bytes start n) = object.Data (record { start = start; length = n })
object_from (utf8 start n) = object.Utf8 (record { start = start; length = n })
object_from (utf16 start n) = object.Utf16 (record { start = start; length = n })
object_from (array n) = object.Array n
object_from (dictionary n) = object.Dictionary n

object_again : (x : Object) → object_from (found_of x) ≡ x
unfolding found_of refused_by object_from
object_again object.Outside = refl
object_again (object.Refused r) = ap object.Refused (refusal_again r)
object_again (object.Scalar e) = refl
object_again (object.Data p) = refl
object_again (object.Utf8 p) = refl
object_again (object.Utf16 p) = refl
object_again (object.Array n) = refl
object_again (object.Dictionary n) = refl

pub found_of_one : (x y : Object) → found_of x ≡ found_of y → x ≡ y
found_of_one x y e = sym (object_again x) ∙ ap object_from e ∙ object_again y
