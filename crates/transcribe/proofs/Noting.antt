-- What noting an event does, by where its bytes stand.
use mathlib.Core.Bool.{Bool, true, false}
use mathlib.Core.List.{List, [], ◌∷◌, ◌++◌}
use mathlib.Core.Path.{◌≡◌, refl, sym, ap, ◌∙◌}
use Prim.Native.Nat.{ℕ, ◌+◌, ◌-◌, ◌≤◌}
use native.Mathlib.Omega.{arith}
use lib.Dec.{leb}
use lib.ListN.{length, take, drop, length-append}
use lib.Seq.{take-append_seam}
use Rattle.number.specs.BeLaws.{Bytes}
use Rattle.number.specs.Either.{either}
use Rattle.utf.specs.Changed.{changed_of, changed_to}
use Rattle.utf.specs.Unicode.{is_utf16, to_utf8}
use Rattle.utf.specs.declared.changed.Changed.{Changed}
use Rattle.utf.specs.declared.changed.Changed.TheVariants.{Written, NotText, NoRoom}
use Rattle.event.specs.Meaning.{Meaning, meaning_of}
use Rattle.event.specs.declared.Event.{Event}
use Rattle.event.specs.declared.Event.TheVariants.{EndCollection}
use Rattle.number.specs.Part.{part}
use Rattle.object.specs.declared.read.Part.{Part}
use Rattle.event.specs.Bare.{Bare}
use Rattle.layout.specs.LookLaws.{bare_plain}
use Rattle.layout.specs.Bytes.{Asked, in_file, in_utf16, no_bytes, event_asked, has_bytes}
use Rattle.layout.specs.Looked.{Shape, array, dictionary, start_of}
use Rattle.layout.specs.Said.{span_said}
use Rattle.layout.specs.declared.lookup.Span.{Span}
use Rattle.layout.specs.declared.lookup.Span.TheVariants.{InFile, InUtf16, NoBytes}
use Rattle.reader.specs.Meanings.{meaning_at, bytes_asked}
use Rattle.reader.specs.Request.{long, refusing, length_said, scratch_after}
use Rattle.reader.proofs.Inside.{AskedIn, event_in_law}
use Rattle.reader.proofs.Utf16.{is_written, no_room, is_text_law, filled}
use Rattle.tape.proofs.AppendLaws.{put_event}
use Rattle.tape.specs.Append.{Said, fits, put_of, put_to, append_of, append_to}
use Rattle.tape.specs.Code.{bytes_for, allowed}
use Rattle.tape.specs.Seven.{seven}
use Rattle.transcribe.proofs.Calls.{plain_noted as noted-plain}
use Rattle.transcribe.specs.HandedLaws.{Given, given_allowed}
use Rattle.transcribe.specs.Note.{Noted, noting, from_tape, put_note, note_of}
use Rattle.transcribe.specs.Note as note
use Rattle.transcribe.specs.TranscriptLaws.{utf16_text, note_file, note_long, note_changed}
use Rattle.transcribe.specs.Walk.{Notable, Unchecked}

-- the kind under which an event's bytes stand on the tape
abbrev pub Kind : Event → ℕ → Type 0
Kind e n = (s : List ℕ) → n ∷ (seven (length s) ++ s) ≡ bytes_for (meaning_of e s)

-- the kind of a container that has its length
abbrev pub start_kind : Shape → ℕ
start_kind array = 0x0B
start_kind dictionary = 0x0D

-- the tape refuses only what doesn't fit, where it checks nothing
pub put_unchecked : (tape : List ℕ) (at : ℕ) (s : List ℕ) → Unchecked at (put_of tape at s)
unfolding put_of
put_unchecked tape at s = either (Unchecked at) (fits tape at s) _ _ (λ e. tt) (λ e. (refl, refl))

-- a note, from what the tape answers and what becomes of it
put_is : (s tape t : List ℕ) (held : ℕ) (m : Meaning) (n : Noted) → allowed m ≡ true → n ≡ from_tape (put_of tape held (bytes_for m)) → t ≡ put_to tape held (bytes_for m) → noting n t s ≡ put_note s tape held m
unfolding put_note
put_is s tape t held m n a u v = let p = put_event tape held m a (refl, refl) in rw (u ∙ ap from_tape p.0, v ∙ p.1)

-- a container's end and its start, as the tape puts them
module _ (tape : List ℕ) (held : ℕ) {x : Said} {t : List ℕ} where
  pub end_put : (x ≡ put_of tape held (0x0E ∷ [])) × (t ≡ put_to tape held (0x0E ∷ [])) → (x ≡ append_of tape held (meaning_of EndCollection [])) × (t ≡ append_to tape held (meaning_of EndCollection []))
  unfolding meaning_of bytes_for allowed
  end_put p = put_event tape held (meaning_of EndCollection []) refl p

  pub start_put : (shape : Shape) (n : ℕ) → (x ≡ put_of tape held (start_kind shape ∷ seven n)) × (t ≡ put_to tape held (start_kind shape ∷ seven n)) → (x ≡ append_of tape held (meaning_of (start_of shape n) [])) × (t ≡ append_to tape held (meaning_of (start_of shape n) []))
  unfolding meaning_of bytes_for allowed start_of
  start_put array n p = put_event tape held (meaning_of (start_of array n) []) refl p
  start_put dictionary n p = put_event tape held (meaning_of (start_of dictionary n) []) refl p

-- a part of a file as it is lent
abbrev lent : List ℕ → Part → List ℕ
lent file p = take (p.start + p.length - p.start) (drop p.start file)

lent_is : (file : List ℕ) (p : Part) → lent file p ≡ part file p.start p.length
lent_is file p = rw (let e : p.start + p.length - p.start ≡ p.length = omega arith in e)

module _ (file scratch : List ℕ) (start n offset : ℕ) where
  -- text that fits
  fits_is : (k : ℕ) → length_said file scratch offset (in_utf16 start n) ≡ long k → (leb (length (utf16_text file start n)) (length scratch) ≡ true) × (length (utf16_text file start n) ≡ k)
  unfolding length_said
  fits_is k h = go (leb (length (utf16_text file start n)) (length scratch)) refl
    where
      go : (b : Bool) → leb (length (utf16_text file start n)) (length scratch) ≡ b → (leb (length (utf16_text file start n)) (length scratch) ≡ true) × (length (utf16_text file start n) ≡ k)
      go true f =
          let z : long (length (utf16_text file start n)) ≡ long k = rw f at h in
          (f, cc)
      go false f =
          let z : refusing 16 [] offset ≡ long k = rw f at h in
          let q : ◌≡◌ {A = ℕ} 0 1 = cc in
          absurd (omega arith)

  -- text that doesn't
  lacks_is : length_said file scratch offset (in_utf16 start n) ≡ refusing 16 [] offset → leb (length (utf16_text file start n)) (length scratch) ≡ false
  unfolding length_said
  lacks_is h = go (leb (length (utf16_text file start n)) (length scratch)) refl
    where
      go : (b : Bool) → leb (length (utf16_text file start n)) (length scratch) ≡ b → leb (length (utf16_text file start n)) (length scratch) ≡ false
      go true f =
          let z : long (length (utf16_text file start n)) ≡ refusing 16 [] offset = rw f at h in
          let q : ◌≡◌ {A = ℕ} 0 1 = cc in
          absurd (omega arith)
      go false f = f

module _ {file : List ℕ} {e : Event} {span : Span} {offset : ℕ} (w : Notable file e span offset) where
  stands : {a : Asked} → span_said span ≡ a → event_asked file e offset ≡ a
  stands h = sym w.stands ∙ h

  given : {a : Asked} → span_said span ≡ a → Given file e a
  given h = rw (stands h) at w.given

  inside : {a : Asked} → span_said span ≡ a → AskedIn file a
  inside h = rw (stands h) at (event_in_law file e offset)

  -- without bytes
  module _ (h : span ≡ NoBytes) where
    pub is_bare : Bare e
    unfolding span_said
    is_bare = given {a = no_bytes} (rw h)

    pub plain_noted : (scratch tape : List ℕ) (held : ℕ) (y : Noted) (t : List ℕ) → y ≡ from_tape (append_of tape held (meaning_of e [])) → t ≡ append_to tape held (meaning_of e []) → noting y t scratch ≡ note_of file scratch tape held e offset
    plain_noted scratch tape held y t = noted-plain file scratch tape t held e offset y (bare_plain e is_bare)

  -- bytes of the file
  module _ {p : Part} (h : span ≡ InFile p) where
    in_file_law : span_said span ≡ in_file p.start p.length
    unfolding span_said
    in_file_law = rw h

    pub file_end : p.start + p.length ≤ length file
    file_end = inside in_file_law

    file_means : meaning_of e (lent file p) ≡ meaning_at file e offset
    unfolding meaning_at bytes_asked
    file_means = rw (lent_is file p, stands in_file_law)

    pub file_has : has_bytes e ≡ true
    file_has = (given in_file_law).0

    pub file_noted : (scratch tape : List ℕ) (held : ℕ) (y : Noted) (t : List ℕ) {n : ℕ} → Kind e n → y ≡ from_tape (put_of tape held (n ∷ (seven (length (lent file p)) ++ lent file p))) → t ≡ put_to tape held (n ∷ (seven (length (lent file p)) ++ lent file p)) → noting y t scratch ≡ note_of file scratch tape held e offset
    file_noted scratch tape held y t kinds u v =
        put_is scratch tape t held _ y (rw (lent_is file p) (given in_file_law).1) (u ∙ ap (λ (b : List ℕ). from_tape (put_of tape held b)) (kinds (lent file p))) (v ∙ ap (put_to tape held) (kinds (lent file p))) ∙
        rw file_means (sym (note_file file scratch tape held e offset (given in_file_law).0 p.start p.length (stands in_file_law)))

  -- bytes of the file that are UTF-16
  module _ {p : Part} (h : span ≡ InUtf16 p) where
    in_utf16_law : span_said span ≡ in_utf16 p.start p.length
    unfolding span_said
    in_utf16_law = rw h

    pub utf16_end : p.start + p.length ≤ length file
    utf16_end = (inside in_utf16_law).0

    is_utf16_law : is_utf16 (part file p.start p.length) ≡ true
    is_utf16_law = (given in_utf16_law).1

    pub utf16_has : has_bytes e ≡ true
    unfolding has_bytes
    utf16_has = rw (given in_utf16_law).0 refl

    abbrev utf16_text_law : List ℕ
    utf16_text_law = utf16_text file p.start p.length

    module _ (scratch : List ℕ) (x : Changed) (changed : x ≡ changed_of (is_utf16 (lent file p)) (to_utf8 (lent file p)) scratch) where
      -- what was read as UTF-16 is text
      pub never_bad : x ≡ NotText → ⊥
      never_bad z = is_text_law file scratch p.start p.length is_utf16_law offset x changed z

      module _ (s : List ℕ) (after : s ≡ changed_to (is_utf16 (lent file p)) (to_utf8 (lent file p)) scratch) where
        scratch_is : s ≡ scratch_after file scratch (in_utf16 p.start p.length)
        scratch_is = after ∙ filled file scratch p.start p.length is_utf16_law

        -- it is too long for the scratch
        pub long_noted : x ≡ NoRoom → (tape : List ℕ) (held : ℕ) → noting (note.refused 16 [] offset) tape s ≡ note_of file scratch tape held e offset
        unfolding scratch_after
        long_noted z tape held =
            let f = lacks_is file scratch p.start p.length offset (no_room file scratch p.start p.length is_utf16_law offset x changed z) in
            rw (scratch_is, f) (sym (note_long file scratch tape held e offset utf16_has p.start p.length (stands in_utf16_law) f))

        -- or stands at its start
        module _ {k : ℕ} (z : x ≡ Written k) where
          fitting : (leb (length utf16_text_law) (length scratch) ≡ true) × (length utf16_text_law ≡ k)
          fitting = fits_is file scratch p.start p.length offset k (is_written file scratch p.start p.length is_utf16_law offset x changed k z)

          filled_is : s ≡ utf16_text_law ++ drop (length utf16_text_law) scratch
          unfolding scratch_after
          filled_is = scratch_is ∙ rw fitting.0

          pub text_fits : k ≤ length s
          text_fits = rw (filled_is, length-append, fitting.1) (omega arith)

          utf16_means : meaning_of e (take k s) ≡ meaning_at file e offset
          unfolding meaning_at bytes_asked
          utf16_means = rw (filled_is, ← fitting.1, take-append_seam, stands in_utf16_law)

          pub utf16_noted : Bytes file → (tape : List ℕ) (held : ℕ) (y : Noted) (t : List ℕ) {n : ℕ} → Kind e n → y ≡ from_tape (put_of tape held (n ∷ (seven (length (take k s)) ++ take k s))) → t ≡ put_to tape held (n ∷ (seven (length (take k s)) ++ take k s)) → noting y t s ≡ note_of file scratch tape held e offset
          unfolding meaning_at
          utf16_noted b tape held y t kinds u v =
              put_is s tape t held _ y (rw utf16_means (given_allowed file b e (event_asked file e offset) w.given)) (u ∙ ap (λ (b : List ℕ). from_tape (put_of tape held b)) (kinds (take k s))) (v ∙ ap (put_to tape held) (kinds (take k s))) ∙
              rw (utf16_means, filled_is) (sym (note_changed file scratch tape held e offset utf16_has p.start p.length (stands in_utf16_law) fitting.0))
