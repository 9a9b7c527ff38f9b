-- What the writer answers and leaves, where the check of the tape, the words, the file's length and the room are known.
use Rattle.std.specs.Prelude.{◌≡◌, ℕ, ◌*◌, ◌<◌, ◌≤◌, List, length, Ok, Err}
use Rattle.std.proofs.Math.Path.{refl}
use borrow.Author.Tests.{lt-ltb, le-ltb}
use Rattle.std.proofs.lemmas.List.Edits.{sets}
use Rattle.event.specs.Format.{max_length}
use Rattle.grammar.specs.Check.{check_of}
use Rattle.grammar.specs.Said.{refused_at, whole}
use Rattle.grammar.specs.declared.answer.Refusal.{Refusal}
use Rattle.written.specs.File.{file_of, file_for}
use Rattle.writer.specs.Ready.{pieces_in}
use Rattle.writer.specs.Write.{written_said, words_for, fitted_of, by_check, write_of, output_by, output_of, used_by, used_of}
use Rattle.writer.specs.declared.answer.WriteError.TheVariants.{Refused, NoRoomForWork, NoRoomForOutput, FileTooLong}

-- a file and an output
module _ (file out : List ℕ) where
  pub fitted_long : max_length < length file → (written_said (Err FileTooLong) ≡ fitted_of file (length out)) × (out ≡ output_by (fitted_of file (length out)) file out)
  unfolding written_said fitted_of output_by
  fitted_long h = rw (lt-ltb max_length (length file) h) (refl, refl)

  pub fitted_short : length file ≤ max_length → length out < length file → (written_said (Err NoRoomForOutput) ≡ fitted_of file (length out)) × (out ≡ output_by (fitted_of file (length out)) file out)
  unfolding written_said fitted_of output_by
  fitted_short h k = rw (le-ltb max_length (length file) h, lt-ltb (length out) (length file) k) (refl, refl)

  pub fitted_in : length file ≤ max_length → length file ≤ length out → (written_said (Ok (length file)) ≡ fitted_of file (length out)) × (sets out 0 file ≡ output_by (fitted_of file (length out)) file out)
  unfolding written_said fitted_of output_by
  fitted_in h k = rw (le-ltb max_length (length file) h, le-ltb (length out) (length file) k) (refl, refl)

-- a tape, how many words are lent, and an output
module _ (t : List ℕ) (words : ℕ) (out : List ℕ) where
  pub at_refusal : (r : Refusal) (place : ℕ) → check_of t ≡ refused_at r place → (written_said (Err (Refused r place)) ≡ write_of t words (length out)) × (out ≡ output_of t words out) × (used_of t words ≡ 0)
  unfolding written_said write_of by_check output_of output_by used_of used_by refused_at
  at_refusal r place e = rw e (refl, refl, refl)

  pub at_words : (n : ℕ) → check_of t ≡ whole n → words < n * 8 → (written_said (Err NoRoomForWork) ≡ write_of t words (length out)) × (out ≡ output_of t words out) × (used_of t words ≡ 0)
  unfolding written_said write_of by_check output_of output_by used_of used_by words_for
  at_words n e h = rw (e, lt-ltb words (n * 8) h) (refl, refl, refl)

  pub at_file : (n : ℕ) → check_of t ≡ whole n → n * 8 ≤ words
      → (write_of t words (length out) ≡ fitted_of (file_of (pieces_in t)) (length out)) × (output_of t words out ≡ output_by (fitted_of (file_of (pieces_in t)) (length out)) (file_of (pieces_in t)) out) × (used_of t words ≡ n * 8)
  unfolding write_of by_check output_of used_of used_by words_for file_for pieces_in
  at_file n e h = rw (e, le-ltb words (n * 8) h) (refl, refl, refl)
