-- A refusal's number is in the list of an object's refusals; the refusal is known by its number and values.
use Rattle.std.specs.Prelude.{true, cond, List, ◌≡◌, refl, ℕ, eqb, get_or}
use Rattle.number.specs.Among.{among}
use Rattle.object.specs.Refusal.{object_refusals, number_of, values_of}
use Rattle.object.specs.declared.refusal.Refusal.TheVariants.{ObjectOffsetTooLarge, NullObjectUnimplemented, FillObjectUnimplemented, UnknownObjectType, IntegerOutOfRange, InvalidUtf8String, InvalidUtf16String, InvalidObjectLength, OverflowOrNanDate}
use Rattle.object.specs.declared.refusal.Refusal.{Refusal}

pub refusal_listed : (r : Refusal) → among object_refusals (number_of r) ≡ true
unfolding among object_refusals number_of
refusal_listed ObjectOffsetTooLarge = refl
refusal_listed NullObjectUnimplemented = refl
refusal_listed FillObjectUnimplemented = refl
refusal_listed (UnknownObjectType marker) = refl
refusal_listed IntegerOutOfRange = refl
refusal_listed InvalidUtf8String = refl
refusal_listed InvalidUtf16String = refl
refusal_listed InvalidObjectLength = refl
refusal_listed OverflowOrNanDate = refl

-- the refusal of a number and values
pub refusal_from : ℕ → List ℕ → Refusal
refusal_from n vs =
    cond (eqb n 6) ObjectOffsetTooLarge
    (cond (eqb n 8) NullObjectUnimplemented
    (cond (eqb n 9) FillObjectUnimplemented
    (cond (eqb n 10) (UnknownObjectType (get_or vs 0 0))
    (cond (eqb n 11) IntegerOutOfRange
    (cond (eqb n 12) InvalidUtf8String
    (cond (eqb n 13) InvalidUtf16String
    (cond (eqb n 31) InvalidObjectLength
    OverflowOrNanDate)))))))

pub refusal_again : (r : Refusal) → refusal_from (number_of r) (values_of r) ≡ r
unfolding number_of values_of refusal_from
refusal_again ObjectOffsetTooLarge = refl
refusal_again NullObjectUnimplemented = refl
refusal_again FillObjectUnimplemented = refl
refusal_again (UnknownObjectType marker) = refl
refusal_again IntegerOutOfRange = refl
refusal_again InvalidUtf8String = refl
refusal_again InvalidUtf16String = refl
refusal_again InvalidObjectLength = refl
refusal_again OverflowOrNanDate = refl
