-- The refusals of an object: their numbers and values, and the one list of those numbers. docs/FORMAT.md, table N.
use Rattle.std.specs.Prelude.{List, [], ◌∷◌, ℕ}
use Rattle.object.specs.declared.refusal.Refusal.{Refusal}
use Rattle.object.specs.declared.refusal.Refusal.TheVariants.{ObjectOffsetTooLarge, NullObjectUnimplemented, FillObjectUnimplemented, UnknownObjectType, IntegerOutOfRange, InvalidUtf8String, InvalidUtf16String, InvalidObjectLength, OverflowOrNanDate}

-- every number with which an object is refused, and no other
unfoldable pub object_refusals : List ℕ
object_refusals = 6 ∷ 8 ∷ 9 ∷ 10 ∷ 11 ∷ 12 ∷ 13 ∷ 31 ∷ 34 ∷ []

unfoldable pub number_of : Refusal → ℕ
number_of ObjectOffsetTooLarge = 6
number_of NullObjectUnimplemented = 8
number_of FillObjectUnimplemented = 9
number_of (UnknownObjectType marker) = 10
number_of IntegerOutOfRange = 11
number_of InvalidUtf8String = 12
number_of InvalidUtf16String = 13
number_of InvalidObjectLength = 31
number_of OverflowOrNanDate = 34

-- 10 comes with the marker (R9)
unfoldable pub values_of : Refusal → List ℕ
values_of ObjectOffsetTooLarge = []
values_of NullObjectUnimplemented = []
values_of FillObjectUnimplemented = []
values_of (UnknownObjectType marker) = marker ∷ []
values_of IntegerOutOfRange = []
values_of InvalidUtf8String = []
values_of InvalidUtf16String = []
values_of InvalidObjectLength = []
values_of OverflowOrNanDate = []
