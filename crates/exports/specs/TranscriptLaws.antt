-- What the numbers of a transcript's ending stand for: one ending alone. 0 is the file's end, 255 a budget that is used up, any other number is
-- that of one refusal.
use Rattle.std.specs.Prelude.{Bool, cond, List, [], ◌∷◌, ℕ, ◌≤◌, leb, get_or}
use Rattle.std.proofs.Math.Bool.{true, false}
use Rattle.std.proofs.Math.Path.{◌≡◌, refl}
use Rattle.std.proofs.Common.{sym, ◌∙◌, inl, inr, arith, eqb-true, ne_eqb}
use Rattle.std.proofs.lemmas.Bool.{eqb-false, lt-leb}
use Rattle.std.proofs.Math.Dec.{eqb}
use Rattle.event.specs.Numbers.{refusal_numbers, Listed}
use Rattle.event.specs.NumbersLaws.{listed_some, listed_low}
use Rattle.number.specs.Among.{among, all_of, among_all}
use Rattle.number.specs.BeLaws.{Bytes}
use Rattle.object.specs.Refusal.{object_refusals, number_of as object_number, values_of as object_values}
use Rattle.object.specs.declared.refusal.Refusal as object
use Rattle.object.specs.declared.refusal.Refusal.TheVariants as objects
use Rattle.layout.specs.Refusals.{look_refusals, file_refusals}
use Rattle.layout.specs.Said.{number_of as file_number, values_of as file_values}
use Rattle.layout.specs.declared.refusal.Refusal as layout
use Rattle.layout.specs.declared.refusal.Refusal.TheVariants as files
use Rattle.reader.specs.Refusals.{step_refusals}
use Rattle.reader.specs.Said.{number_of, values_of}
use Rattle.reader.specs.declared.refusal.Refusal.{Refusal}
use Rattle.reader.specs.declared.refusal.Refusal.TheVariants.{File, RecursiveObject, TooDeep, NoRoomForText, WrongFile}
use Rattle.transcribe.specs.HandedLaws.{Own}
use Rattle.transcribe.specs.Run.{End, ended, stopped, refused, transcript_of}
use Rattle.transcribe.specs.Said.{end_said}
use Rattle.transcribe.specs.SaidLaws.{end_said_one}
use Rattle.transcribe.specs.TranscriptLaws.{transcript_told, at_refusal}
use Rattle.transcribe.specs.declared.Ending.{Ending}
use Rattle.transcribe.specs.declared.Ending.TheVariants.{Ended, Stopped, Refused, NoRoomForTape}
use Rattle.exports.specs.Transcript.{end_code, end_place, end_marker}

-- what a refusal's values are, by its number and the first of them: 10 comes with a marker, no other with any
unfoldable pub values_from : ℕ → ℕ → List ℕ
values_from number marker = cond (eqb number 10) (marker ∷ []) []

-- the ending that three numbers stand for
unfoldable pub end_from : ℕ → ℕ → ℕ → End
end_from code place marker = cond (eqb code 0) ended (cond (leb 240 code) stopped (refused code (values_from code marker) place))

-- an ending whose refusal, if it is one, is of table N and has that number's values
abbrev pub Told : End → Type 0
Told ended = Unit {0}
Told stopped = Unit {0}
Told (refused number values place) = Listed number × (values ≡ values_from number (get_or values 0 0))

-- the number alone tells the end, the budget and each refusal; with the place and the marker it tells the ending
pub end_again : (e : End) → Told e → end_from (end_code e) (end_place e) (end_marker e) ≡ e
unfolding end_from end_code end_place end_marker
end_again ended t = refl
end_again stopped t = refl
end_again (refused number values place) t =
    rw (ne_eqb number 0 (listed_some number t.0), lt-leb 240 number (listed_low number t.0), ← t.1)

-- every refusal of an object, of a file and of the reader
of_object : (r : object.Refusal) (place : ℕ) → Told (refused (object_number r) (object_values r) place)
unfolding object_number object_values values_from refusal_numbers among
of_object objects.ObjectOffsetTooLarge place = (refl, refl)
of_object objects.NullObjectUnimplemented place = (refl, refl)
of_object objects.FillObjectUnimplemented place = (refl, refl)
of_object (objects.UnknownObjectType marker) place = (refl, refl)
of_object objects.IntegerOutOfRange place = (refl, refl)
of_object objects.InvalidUtf8String place = (refl, refl)
of_object objects.InvalidUtf16String place = (refl, refl)
of_object objects.InvalidObjectLength place = (refl, refl)
of_object objects.OverflowOrNanDate place = (refl, refl)

of_file : (r : layout.Refusal) (place : ℕ) → Told (refused (file_number r) (file_values r) place)
unfolding file_number file_values values_from refusal_numbers among
of_file files.TooLong place = (refl, refl)
of_file files.EndOfInput place = (refl, refl)
of_file files.InvalidMagic place = (refl, refl)
of_file files.InvalidTrailerObjectOffsetSize place = (refl, refl)
of_file files.InvalidTrailerObjectReferenceSize place = (refl, refl)
of_file files.ObjectReferenceTooLarge place = (refl, refl)
of_file (files.Object r) place = of_object r place

refusal_told : (r : Refusal) (place : ℕ) → Told (refused (number_of r) (values_of r) place)
unfolding number_of values_of values_from refusal_numbers among
refusal_told (File r) place = of_file r place
refusal_told RecursiveObject place = (refl, refl)
refusal_told TooDeep place = (refl, refl)
refusal_told NoRoomForText place = (refl, refl)
refusal_told WrongFile place = (refl, refl)

-- and every ending
pub ending_told : (x : Ending) → Told (end_said x)
unfolding end_said values_from refusal_numbers among
ending_told Ended = tt
ending_told Stopped = tt
ending_told (Refused r place) = refusal_told r place
ending_told (NoRoomForTape place) = (refl, refl)

pub ending_one :
    (x y : Ending) → end_code (end_said x) ≡ end_code (end_said y) → end_place (end_said x) ≡ end_place (end_said y) → end_marker (end_said x) ≡ end_marker (end_said y) →
    x ≡ y
ending_one x y e f g =
    end_said_one x y (sym (end_again (end_said x) (ending_told x)) ∙ rw (e, f, g) (end_again (end_said y) (ending_told y)))

-- a number of the reader's own
own_listed : (number : ℕ) → Own number → Listed number
unfolding refusal_numbers among all_of step_refusals file_refusals look_refusals object_refusals
own_listed number (inl h) = among_all (among refusal_numbers) step_refusals number refl h
own_listed number (inr e) = rw e

-- and every refusal of a transcript, of any file: so 0 is said of the end alone, and 240 and above of the budget alone
module _ (budget : ℕ) (file : List ℕ) (good : Bytes file) (scratch tape : List ℕ) where
  pub transcript_listed : (number : ℕ) (values : List ℕ) (place : ℕ) → (transcript_of budget file scratch tape).ending ≡ refused number values place → Listed number
  unfolding refusal_numbers among
  transcript_listed number values place e = go (eqb number 16) (eqb number 27) refl refl
    where
      go : (a b : Bool) → eqb number 16 ≡ a → eqb number 27 ≡ b → Listed number
      go true b f g = rw (eqb-true number 16 f)
      go false true f g = rw (eqb-true number 27 g)
      go false false f g =
          own_listed number (at_refusal (transcript_told budget file good scratch tape) number values place e (eqb-false number 16 f) (eqb-false number 27 g)).1

  pub transcript_ended : end_code (transcript_of budget file scratch tape).ending ≡ 0 → (transcript_of budget file scratch tape).ending ≡ ended
  unfolding end_code
  transcript_ended e = go (transcript_of budget file scratch tape).ending refl
    where
      go : (x : End) → (transcript_of budget file scratch tape).ending ≡ x → x ≡ ended
      go ended f = refl
      go stopped f = let z : ◌≡◌ {A = ℕ} 255 0 = rw f at e in absurd (omega arith)
      go (refused number values place) f = absurd (listed_some number (transcript_listed number values place f) (rw f at e))

  pub transcript_stopped : 240 ≤ end_code (transcript_of budget file scratch tape).ending → (transcript_of budget file scratch tape).ending ≡ stopped
  unfolding end_code
  transcript_stopped h = go (transcript_of budget file scratch tape).ending refl
    where
      go : (x : End) → (transcript_of budget file scratch tape).ending ≡ x → x ≡ stopped
      go ended f = let z : 240 ≤ 0 = rw f at h in absurd (omega arith)
      go stopped f = refl
      go (refused number values place) f =
          let z : 240 ≤ number = rw f at h in
          absurd (omega (arith, listed_low number (transcript_listed number values place f)))
