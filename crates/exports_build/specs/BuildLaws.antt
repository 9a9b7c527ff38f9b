-- What the numbers of a builder's answers stand for: one answer alone. 0 is no refusal, 251 and 252 are none of table N.
use Rattle.std.specs.Prelude.{Bool, cond, List, [], ◌≡◌, ℕ, ◌+◌, ◌^◌, ◌<◌, leb, eqb, length, take, None, Option, Some}
use Rattle.std.proofs.Math.Bool.{true, false}
use Rattle.std.proofs.Math.Path.{refl}
use Rattle.std.proofs.Common.{sym, ap, ◌∙◌, arith, ltb-true, ne_eqb}
use Rattle.std.proofs.Math.Dec.{ltb}
use Rattle.event.specs.Format.{max_length}
use Rattle.event.specs.Meaning.{Meaning}
use Rattle.event.specs.Numbers.{Listed}
use Rattle.event.specs.NumbersLaws.{listed_some, listed_low}
use Rattle.number.specs.BeLaws.{Bytes}
use Rattle.number.specs.Signed.{negative_of}
use Rattle.grammar.specs.Said.{number_of}
use Rattle.grammar.specs.declared.answer.EventKind.{EventKind}
use Rattle.grammar.specs.declared.way.Way.{Way}
use Rattle.grammar.specs.declared.way.Way.TheVariants.{Past, Into, Out, Barred}
use Rattle.tape.specs.Code.{bytes_for}
use Rattle.writer.specs.Write as file
use Rattle.writer.specs.Write.{write_of}
use Rattle.builder.specs.Build.{Said, holds, refused, judge_of, fitted_of, by_way, build_of}
use Rattle.builder.specs.Finish.{finish_of}
use Rattle.builder.specs.State.{due_of}
use Rattle.builder.specs.Words.{few_words, builder_in}
use Rattle.builder.specs.declared.state.Builder.{Builder}
use Rattle.exports_build.specs.Build.{numbers_by, written_numbers, meant_call, call_of, finish_call, SoundFor}
use Rattle.exports.specs.TapeAppend.{negative_for, meaning_for}
use Rattle.exports.specs.Write.{first_number, second_number, write_code, write_value, expected_number, found_number}
use Rattle.exports.specs.WriteLaws.{kinds_from, write_from, Told, check_told, write_told}
use Rattle.exports.specs.declared.numbers.Numbers.{Numbers}

-- no refusal of table N is one of the two
pub not_251 : (n : ℕ) → Listed n → (n ≡ 251 → ⊥) × (n ≡ 252 → ⊥)
not_251 n h = ((λ e. omega (arith, listed_low n h)), (λ e. omega (arith, listed_low n h)))

-- a refusal has a number, and names that number's kinds
abbrev Coded : ℕ → List EventKind → Type 0
Coded number kinds = (number ≡ 0 → ⊥) × (kinds ≡ kinds_from number (first_number kinds) (second_number kinds))

abbrev pub ToldCall : Said → Type 0
ToldCall (holds n) = Unit {0}
ToldCall (refused number kinds place) = Coded number kinds

abbrev pub ToldFile : file.Said → Type 0
ToldFile (file.long n) = Unit {0}
ToldFile (file.refused number kinds place) = Coded number kinds

-- the answers that four numbers stand for
unfoldable pub call_from : Numbers → Said
call_from n = cond (eqb n.code 0) (holds n.place) (refused n.code (kinds_from n.code n.expected n.found) n.place)

unfoldable pub file_from : Numbers → file.Said
file_from n = write_from n.code n.place n.expected n.found

pub call_again : (s : Said) → ToldCall s → call_from (numbers_by s) ≡ s
unfolding call_from numbers_by
call_again (holds n) t = refl
call_again (refused number kinds place) t = rw (ne_eqb number 0 t.0, ← t.1)

pub file_again : (s : file.Said) → ToldFile s → file_from (written_numbers s) ≡ s
unfolding file_from written_numbers write_from write_code write_value expected_number found_number
file_again (file.long n) t = refl
file_again (file.refused number kinds place) t = rw (ne_eqb number 0 t.0, ← t.1)

-- numbers that name no kind
bare : (number : ℕ) → (number ≡ 0 → ⊥) → eqb number 21 ≡ false → Coded number []
unfolding kinds_from
bare number h e = (h, rw e)

fitted_told : (at size room : ℕ) → ToldCall (fitted_of at size room)
unfolding fitted_of
fitted_told at size room = go (leb (at + size) room)
  where
    go : (b : Bool) → ToldCall (cond b (holds (at + size)) (refused 27 [] at))
    go true = tt
    go false = bare 27 (λ e. omega arith) refl

way_told : (at size room : ℕ) (w : Way) → ToldCall (by_way at size room w)
unfolding by_way
way_told at size room (Past next) = fitted_told at size room
way_told at size room (Into first after) = fitted_told at size room
way_told at size room Out = fitted_told at size room
way_told at size room (Barred r) = let t = check_told r at in (listed_some (number_of r) t.0, t.1)

build_told : (b : Builder) (room : ℕ) (m : Meaning) → ToldCall (build_of b room m)
unfolding build_of
build_told b room m = go (ltb room b.held) (ltb max_length (b.held + length (bytes_for m)))
  where
    go : (x y : Bool) → ToldCall (cond x (refused 32 [] 0) (cond y (refused 1 [] 0) (by_way b.held (length (bytes_for m)) room (judge_of (due_of b.due) b.depth m))))
    go true y = bare 32 (λ e. omega arith) refl
    go false true = bare 1 (λ e. omega arith) refl
    go false false = way_told b.held (length (bytes_for m)) room (judge_of (due_of b.due) b.depth m)

pub call_told : (words : List ℕ) (room : ℕ) (m : Option Meaning) → ToldCall (call_of words room m)
unfolding call_of meant_call
call_told words room m = go (few_words words) m
  where
    go : (x : Bool) (m : Option Meaning) → ToldCall (cond x (refused 252 [] 0) (meant_call (builder_in words) room m))
    go true m = bare 252 (λ e. omega arith) refl
    go false None = bare 251 (λ e. omega arith) refl
    go false (Some m) = build_told (builder_in words) room m

pub finish_told : (words tape : List ℕ) (work room : ℕ) → ToldFile (finish_call words tape work room)
unfolding finish_call finish_of
finish_told words tape work room = go (few_words words) (ltb (length tape) (builder_in words).held)
  where
    weak : (s : file.Said) → Told s → ToldFile s
    weak (file.long n) t = tt
    weak (file.refused number kinds place) t = (listed_some number t.0, t.1)

    go : (x y : Bool) → ToldFile (cond x (file.refused 252 [] 0) (cond y (file.refused 32 [] 0) (write_of (take (builder_in words).held tape) work room)))
    go true y = bare 252 (λ e. omega arith) refl
    go false true = bare 32 (λ e. omega arith) refl
    go false false = weak (write_of (take (builder_in words).held tape) work room) (write_told (take (builder_in words).held tape) work room)

-- two calls that give the same numbers have the same answer
pub call_one : (v w : List ℕ) (i j : ℕ) (m k : Option Meaning) → numbers_by (call_of v i m) ≡ numbers_by (call_of w j k) → call_of v i m ≡ call_of w j k
call_one v w i j m k e = sym (call_again (call_of v i m) (call_told v i m)) ∙ ap call_from e ∙ call_again (call_of w j k) (call_told w j k)

pub finish_one : (v w s t : List ℕ) (i j k l : ℕ) → written_numbers (finish_call v s i j) ≡ written_numbers (finish_call w t k l) → finish_call v s i j ≡ finish_call w t k l
finish_one v w s t i j k l e = sym (file_again (finish_call v s i j) (finish_told v s i j)) ∙ ap file_from e ∙ file_again (finish_call w t k l) (finish_told w t k l)

-- what a kind means with a number of 64 bits, or with bytes
module _ (n : ℕ) (s : List ℕ) (fits : n < 2 ^ 64) (short : length s < 2 ^ 64) (good : Bytes s) where
  either : (b : Bool) (x y : Option Meaning) → SoundFor x → SoundFor y → SoundFor (cond b x y)
  either true x y f g = f
  either false x y f g = g

  negative_sound : SoundFor (negative_for (negative_of n))
  unfolding negative_for negative_of
  negative_sound = go (ltb n (2 ^ 63)) refl
    where
      go : (b : Bool) → ltb n (2 ^ 63) ≡ b → SoundFor (negative_for (negative_of n))
      go true e = rw e (ltb-true n (2 ^ 63) e, tt)
      go false e = rw e tt

  pub sound_by : (kind : ℕ) → SoundFor (meaning_for kind n s)
  unfolding meaning_for
  sound_by kind =
      either (eqb kind 0x01) _ _ (tt, tt)
      (either (eqb kind 0x02) _ _ (tt, tt)
      (either (eqb kind 0x03) _ _ (fits, tt)
      (either (eqb kind 0x04) _ _ negative_sound
      (either (eqb kind 0x05) _ _ (fits, tt)
      (either (eqb kind 0x06) _ _ (fits, tt)
      (either (eqb kind 0x07) _ _ (fits, tt)
      (either (eqb kind 0x08) _ _ (short, good)
      (either (eqb kind 0x09) _ _ (short, good)
      (either (eqb kind 0x0A) _ _ (tt, tt)
      (either (eqb kind 0x0B) _ _ (fits, tt)
      (either (eqb kind 0x0C) _ _ (tt, tt)
      (either (eqb kind 0x0D) _ _ (fits, tt)
      (either (eqb kind 0x0E) _ None (tt, tt) tt)))))))))))))

pub sound_for : (kind n : ℕ) (s : List ℕ) → n < 2 ^ 64 → length s < 2 ^ 64 → Bytes s → SoundFor (meaning_for kind n s)
sound_for kind n s f l g = sound_by n s f l g kind
