-- What a refusal of a step or of a text request leaves: table N of docs/FORMAT.md, for all of 1 to 17, and 31.
use Rattle.std.specs.Prelude.{Bool, cond, ◌≡◌, ℕ, ltb, length, Some}
use Rattle.std.proofs.Math.Bool.{true, false}
use mathlib.Core.List.{List, []}
use Rattle.std.proofs.Math.Path.{refl}
use Rattle.std.proofs.Common.{arith}
use Rattle.std.proofs.Math.Dec.{leb}
use Rattle.utf.specs.Unicode.{to_utf8}
use Rattle.event.specs.Same.{same}
use Rattle.event.specs.declared.Event.{Event}
use Rattle.event.specs.declared.Event.TheVariants.{StartArray, StartDictionary, EndCollection, Boolean, Data, Date, Integer, Real, Nan, String, Uid}
use Rattle.number.specs.Either.{either}
use Rattle.number.specs.Part.{part}
use Rattle.object.specs.Object.{Found, object_at}
use Rattle.object.specs.Object as found
use Rattle.layout.specs.Bytes.{Asked, in_file, in_utf16, no_bytes, denied, data_asked, text_asked, given_if, scalar_asked, start_asked, end_asked, found_asked}
use Rattle.layout.specs.Listed.{is_listed}
use Rattle.layout.specs.Trailer.{Trailer, keeps, ends, lays, trailer_of}
use Rattle.reader.specs.Machine.{refused}
use Rattle.reader.specs.Next.{next_of}
use Rattle.reader.specs.Request.{long, refusing, asked_under, asked_by, asked_of, length_said, scratch_after}
use Rattle.reader.specs.State.{max_length, ended_reader}
use Rattle.reader.specs.declared.answer.Record.{Record}
use Rattle.reader.specs.declared.state.Reader.{Reader}
use Rattle.claims.specs.After.{unchanged}
use Rattle.claims.proofs.AfterLaws.{state_after}

-- a refusal with its number, values and place, of a reader's state r on a file with a scratch lent, and the state and the scratch afterwards: of a
-- step, which is lent no scratch; or of a text request, which is given no state
pub data Refused (file scratch : List ℕ) (r : Reader) (number : ℕ) (values : List ℕ) (place : ℕ) : Reader → List ℕ → Type 0 where
  by_step : (next_of file r).answer ≡ refused number values place → Refused file scratch r number values place (next_of file r).state scratch
  by_request : (q : Record) → length_said file scratch q.offset (asked_of file q) ≡ refusing number values place
      → Refused file scratch r number values place r (scratch_after file scratch (asked_of file q))

-- what denies a record is 17
abbrev Wrong : Asked → Type 0
Wrong (in_file start n) = Unit {0}
Wrong (in_utf16 start n) = Unit {0}
Wrong no_bytes = Unit {0}
Wrong (denied number values) = number ≡ 17

given_wrong : (b : Bool) → Wrong (given_if b)
given_wrong true = tt
given_wrong false = refl

data_wrong : (x : Found) → Wrong (data_asked x)
unfolding data_asked
data_wrong found.outside = refl
data_wrong (found.refused number values) = refl
data_wrong (found.scalar e) = refl
data_wrong (found.bytes start n) = tt
data_wrong (found.utf8 start n) = refl
data_wrong (found.utf16 start n) = refl
data_wrong (found.array n) = refl
data_wrong (found.dictionary n) = refl

text_wrong : (x : Found) → Wrong (text_asked x)
unfolding text_asked
text_wrong found.outside = refl
text_wrong (found.refused number values) = refl
text_wrong (found.scalar e) = refl
text_wrong (found.bytes start n) = refl
text_wrong (found.utf8 start n) = tt
text_wrong (found.utf16 start n) = tt
text_wrong (found.array n) = refl
text_wrong (found.dictionary n) = refl

scalar_wrong : (e : Event) (x : Found) → Wrong (scalar_asked e x)
unfolding scalar_asked
scalar_wrong e found.outside = refl
scalar_wrong e (found.refused number values) = refl
scalar_wrong e (found.scalar f) = given_wrong (same e f)
scalar_wrong e (found.bytes start n) = refl
scalar_wrong e (found.utf8 start n) = refl
scalar_wrong e (found.utf16 start n) = refl
scalar_wrong e (found.array n) = refl
scalar_wrong e (found.dictionary n) = refl

start_wrong : (e : Event) (x : Found) → Wrong (start_asked e x)
unfolding start_asked
start_wrong e found.outside = refl
start_wrong e (found.refused number values) = refl
start_wrong e (found.scalar f) = refl
start_wrong e (found.bytes start n) = refl
start_wrong e (found.utf8 start n) = refl
start_wrong e (found.utf16 start n) = refl
start_wrong e (found.array n) = given_wrong (same e (StartArray (Some n)))
start_wrong e (found.dictionary n) = given_wrong (same e (StartDictionary (Some n)))

end_wrong : (x : Found) → Wrong (end_asked x)
unfolding end_asked
end_wrong found.outside = refl
end_wrong (found.refused number values) = refl
end_wrong (found.scalar f) = refl
end_wrong (found.bytes start n) = refl
end_wrong (found.utf8 start n) = refl
end_wrong (found.utf16 start n) = refl
end_wrong (found.array n) = tt
end_wrong (found.dictionary n) = tt

found_wrong : (x : Found) (e : Event) → Wrong (found_asked e x)
unfolding found_asked
found_wrong x (StartArray n) = start_wrong _ x
found_wrong x (StartDictionary n) = start_wrong _ x
found_wrong x EndCollection = end_wrong x
found_wrong x (Boolean b) = scalar_wrong _ x
found_wrong x Data = data_wrong x
found_wrong x (Date b) = scalar_wrong _ x
found_wrong x (Integer i) = scalar_wrong _ x
found_wrong x (Real v) = scalar_wrong _ x
found_wrong x (Nan b) = scalar_wrong _ x
found_wrong x String = text_wrong x
found_wrong x (Uid n) = scalar_wrong _ x

trailer_wrong : (file : List ℕ) (q : Record) (t : Trailer) → Wrong (asked_by file q t)
unfolding asked_by asked_under
trailer_wrong file q (keeps number values place) = refl
trailer_wrong file q (ends number values place) = refl
trailer_wrong file q (lays l root) = either Wrong (is_listed file l q.number q.offset) _ _ (λ h. found_wrong (object_at file l.refs q.offset) q.event) (λ h. refl)

-- the numbers of a text request with their places: 1 and 17 with 0, 16 with the record's offset
pub data Asking (offset : ℕ) (number place : ℕ) : Type 0 where
  too_long : number ≡ 1 → place ≡ 0 → Asking offset number place
  no_room : number ≡ 16 → place ≡ offset → Asking offset number place
  wrong_file_law : number ≡ 17 → place ≡ 0 → Asking offset number place

module _ (file scratch : List ℕ) (offset : ℕ) where
  -- what is refused of a record that isn't denied, and of one that is
  abbrev Asks : Asked → ℕ → List ℕ → ℕ → Type 0
  Asks a number values place = length_said file scratch offset a ≡ refusing number values place → Asking offset number place × (scratch_after file scratch a ≡ scratch)

  clash : {P : Type 0} (n number : ℕ) (values : List ℕ) (place : ℕ) → long n ≡ refusing number values place → P
  clash n number values place e = let z : ◌≡◌ {A = ℕ} 0 1 = cc in absurd (omega arith)

  asked_refused : (a : Asked) → Wrong a → (number : ℕ) (values : List ℕ) (place : ℕ) → Asks a number values place
  unfolding length_said scratch_after
  asked_refused (in_file start n) w number values place e = clash n number values place e
  asked_refused no_bytes w number values place e = clash 0 number values place e
  asked_refused (denied m v) w number values place e =
      let p : m ≡ number = cc in
      let q : 0 ≡ place = cc in
      (wrong_file_law (rw (← p) w) (rw (← q) refl), refl)
  asked_refused (in_utf16 start n) w number values place e = go (leb (length (to_utf8 (part file start n))) (length scratch)) refl
    where
      go : (b : Bool) → leb (length (to_utf8 (part file start n))) (length scratch) ≡ b → Asking offset number place × (scratch_after file scratch (in_utf16 start n) ≡ scratch)
      go true f = clash (length (to_utf8 (part file start n))) number values place (rw f at e)
      go false f =
          let z : refusing 16 [] offset ≡ refusing number values place = rw f at e in
          let p : number ≡ 16 = cc in
          let q : place ≡ offset = cc in
          (no_room p q, rw f)

pub request_refused : (file scratch : List ℕ) (q : Record) (number : ℕ) (values : List ℕ) (place : ℕ) → length_said file scratch q.offset (asked_of file q) ≡ refusing number values place
    → Asking q.offset number place × (scratch_after file scratch (asked_of file q) ≡ scratch)
unfolding asked_of length_said scratch_after
request_refused file scratch q number values place e = go (ltb max_length (length file)) refl
  where
    go : (b : Bool) → ltb max_length (length file) ≡ b → Asking q.offset number place × (scratch_after file scratch (asked_of file q) ≡ scratch)
    go true f =
        let z : refusing 1 [] 0 ≡ refusing number values place = rw f at e in
        let p : number ≡ 1 = cc in
        let t : place ≡ 0 = cc in
        (too_long p t, rw f)
    go false f = rw f (asked_refused file scratch q.offset (asked_by file q (trailer_of file)) (trailer_wrong file q (trailer_of file)) number values place (rw f at e))

asking_keeps : (file : List ℕ) (offset number place : ℕ) → Asking offset number place → unchanged file number ≡ true
unfolding unchanged
asking_keeps file offset number place (too_long e h) = rw e
asking_keeps file offset number place (no_room e h) = rw e
asking_keeps file offset number place (wrong_file_law e h) = rw e

-- the state after any refusal, of a step or of a text request, is the one before or the ended one, as its number says; and the scratch is as it was
pub refusal_leaves : (file scratch : List ℕ) (r s : Reader) (t : List ℕ) (number : ℕ) (values : List ℕ) (place : ℕ) → Refused file scratch r number values place s t
    → (s ≡ cond (unchanged file number) r ended_reader) × (t ≡ scratch)
refusal_leaves file scratch r s t number values place (by_step e) = (state_after file r number values place e, refl)
refusal_leaves file scratch r s t number values place (by_request q e) =
    let a = request_refused file scratch q number values place e in
    (rw (asking_keeps file q.offset number place a.0), a.1)
