-- Two answers that say the same are the same.
use Rattle.std.specs.Prelude.{true, cond, List, ◌≡◌, refl, ℕ, eqb}
use Rattle.std.proofs.Common.{sym, ap, ◌∙◌, ne_eqb}
use Rattle.number.specs.Among.{among, among_not}
use Rattle.object.specs.Refusal.{object_refusals, number_of as object_number}
use Rattle.object.specs.RefusalLaws.{refusal_from as object_from, refusal_again as object_again, refusal_listed as object-listed}
use Rattle.layout.specs.Bytes.{Asked, in_file, in_utf16, no_bytes, denied}
use Rattle.layout.specs.Looked.{Looked, barred, missing, faulty, scalar, container, Shape, array, dictionary}
use Rattle.layout.specs.Refusals.{look_refusals, file_refusals, object_refusal, file_refusal, not_file_17}
use Rattle.layout.specs.Said.{number_of, values_of, span_said, shape_said, look_said, look_bytes, trailer_said, DueSaid, refuses, closes, names, due_said}
use Rattle.layout.specs.Trailer.{Trailer, keeps, ends, lays}
use Rattle.layout.specs.declared.layout.Due.{Due}
use Rattle.layout.specs.declared.layout.Due.TheVariants.{Wrong, Close, Member}
use Rattle.layout.specs.declared.lookup.Look.{Look}
use Rattle.layout.specs.declared.lookup.Look.TheVariants.{Missing, Refused, Scalar, Container}
use Rattle.layout.specs.declared.lookup.Shape.{Shape as ShapeRead}
use Rattle.layout.specs.declared.lookup.Shape.TheVariants.{Array, Dictionary}
use Rattle.layout.specs.declared.lookup.Span.{Span}
use Rattle.layout.specs.declared.lookup.Span.TheVariants.{InFile, InUtf16, NoBytes}
use Rattle.layout.specs.declared.refusal.Refusal.{Refusal}
use Rattle.layout.specs.declared.refusal.Refusal.TheVariants.{TooLong, EndOfInput, InvalidMagic, InvalidTrailerObjectOffsetSize, InvalidTrailerObjectReferenceSize, ObjectReferenceTooLarge, Object}
use Rattle.layout.specs.declared.trailer.TrailerRead.{TrailerRead}
use Rattle.layout.specs.declared.trailer.TrailerRead.TheVariants.{Keeps, Ends, Lays}

-- the refusal of a number and values
pub refusal_from : ℕ → List ℕ → Refusal
refusal_from number values =
    cond (among object_refusals number) (Object (object_from number values))
    (cond (eqb number 1) TooLong
    (cond (eqb number 2) EndOfInput
    (cond (eqb number 3) InvalidMagic
    (cond (eqb number 4) InvalidTrailerObjectOffsetSize
    (cond (eqb number 5) InvalidTrailerObjectReferenceSize
    ObjectReferenceTooLarge)))))

pub again : (r : Refusal) → refusal_from (number_of r) (values_of r) ≡ r
unfolding number_of values_of refusal_from among object_refusals
again TooLong = refl
again EndOfInput = refl
again InvalidMagic = refl
again InvalidTrailerObjectOffsetSize = refl
again InvalidTrailerObjectReferenceSize = refl
again ObjectReferenceTooLarge = refl
again (Object r) = rw (object-listed r) (ap Object (object_again r))

-- a refusal's number is of a file's
pub number_listed : (r : Refusal) → among file_refusals (number_of r) ≡ true
unfolding among file_refusals look_refusals number_of
number_listed TooLong = refl
number_listed EndOfInput = refl
number_listed InvalidMagic = refl
number_listed InvalidTrailerObjectOffsetSize = refl
number_listed InvalidTrailerObjectReferenceSize = refl
number_listed ObjectReferenceTooLarge = refl
number_listed (Object r) = file_refusal (object_number r) (object_refusal (object_number r) (object-listed r))

-- where bytes stand, what is looked up, what is due, and a trailer, from what they say
span_from : Asked → Span
span_from (in_file start n) = InFile (record { start = start; length = n })
span_from (in_utf16 start n) = InUtf16 (record { start = start; length = n })
span_from no_bytes = NoBytes
span_from (denied number values) = NoBytes

span_again : (x : Span) → span_from (span_said x) ≡ x
unfolding span_said span_from
span_again (InFile p) = refl
span_again (InUtf16 p) = refl
span_again NoBytes = refl

shape_from : Shape → ShapeRead
shape_from array = Array
shape_from dictionary = Dictionary

shape_again : (x : ShapeRead) → shape_from (shape_said x) ≡ x
unfolding shape_said shape_from
shape_again Array = refl
shape_again Dictionary = refl

look_from : Looked → Asked → Look
look_from (barred number values) b = Refused (refusal_from number values) 0
look_from missing b = Missing
look_from (faulty number values place) b = cond (eqb number 17) Missing (Refused (refusal_from number values) place)
look_from (scalar e offset) b = Scalar e (span_from b) offset
look_from (container shape n offset) b = Container (shape_from shape) n offset

look_again : (x : Look) → look_from (look_said x) (look_bytes x) ≡ x
unfolding look_said look_bytes look_from
look_again Missing = refl
look_again (Refused r place) =
    let e = ne_eqb (number_of r) 17 (among_not file_refusals (number_of r) 17 (number_listed r) not_file_17) in
    rw e (ap (λ (x : Refusal). Refused x place) (again r))
look_again (Scalar e span offset) = ap (λ (x : Span). Scalar e x offset) (span_again span)
look_again (Container shape n offset) = ap (λ (x : ShapeRead). Container x n offset) (shape_again shape)

pub look_one : (x y : Look) → look_said x ≡ look_said y → look_bytes x ≡ look_bytes y → x ≡ y
look_one x y e b = sym (look_again x) ∙ rw (e, b) (look_again y)

due_from : DueSaid → Due
due_from (refuses number values place) = Wrong
due_from (closes offset) = Close offset
due_from (names n) = Member n

due_again : (x : Due) → due_from (due_said x) ≡ x
unfolding due_said due_from
due_again Wrong = refl
due_again (Close offset) = refl
due_again (Member n) = refl

pub due_said_one : (x y : Due) → due_said x ≡ due_said y → x ≡ y
due_said_one x y e = sym (due_again x) ∙ ap due_from e ∙ due_again y

trailer_from : Trailer → TrailerRead
trailer_from (keeps number values place) = Keeps (refusal_from number values) place
trailer_from (ends number values place) = Ends (refusal_from number values) place
trailer_from (lays l root) = Lays l root

trailer_again : (x : TrailerRead) → trailer_from (trailer_said x) ≡ x
unfolding trailer_said trailer_from
trailer_again (Keeps r place) = ap (λ (x : Refusal). Keeps x place) (again r)
trailer_again (Ends r place) = ap (λ (x : Refusal). Ends x place) (again r)
trailer_again (Lays l root) = refl

pub trailer_one : (x y : TrailerRead) → trailer_said x ≡ trailer_said y → x ≡ y
trailer_one x y e = sym (trailer_again x) ∙ ap trailer_from e ∙ trailer_again y
