-- Two lists of events are written as the same file exactly when they are the same but for given lengths.
use Rattle.std.specs.Prelude.{Bool, true, false, ◌↔◌, ◌≡◌, refl, ℕ, zero, suc, ◌+◌, length, replicate}
use Rattle.std.proofs.Common.{true≢false, sym, ap, ap₂, ◌∙◌, add_comm}
use Rattle.std.proofs.lemmas.Bool.{false≢true}
use mathlib.Core.List.{List, [], ◌∷◌, ◌++◌, map, nil≢cons, head-eq_of_cons-eq, tail-eq_of_cons-eq}
use Rattle.event.specs.Meaning.{Meaning, array, dictionary, close, boolean, bytes, date, integer, real, text, uid}
use Rattle.event.specs.Unmeasured.{unmeasured}
use Rattle.reader.specs.Meanings.{Told, means, ended, refused, answers}
use Rattle.reader.specs.State.{fresh_reader}
use Rattle.transcribe.specs.TranscriptLaws.{Put, told_of, meanings_of}
use Rattle.written.specs.File.{file_of, file_for}
use Rattle.written.specs.Graph.{piece_of}
use Rattle.written_claims.specs.Accepted.{Accepted}
use Rattle.written_claims.specs.Filled.{filled, handed_of}
use Rattle.written_claims.proofs.FilledLaws.{pieces_same}
use Rattle.written_claims.proofs.ReadBack.{means_back, handed_means}

abbrev is_means : Told → Bool
is_means (means m offset) = true
is_means ended = false
is_means (refused number values place) = false

abbrev meaning_in : Told → Meaning
meaning_in (means m offset) = m
meaning_in ended = close
meaning_in (refused number values place) = close

-- what is told before the end
told_one : (ps qs : List Put) (m n : ℕ) → told_of ps ++ replicate m ended ≡ told_of qs ++ replicate n ended → meanings_of ps ≡ meanings_of qs
told_one [] [] m n e = refl
told_one [] (q ∷ qs) zero n e = absurd (nil≢cons e)
told_one [] (q ∷ qs) (suc m) n e = absurd (false≢true (ap is_means (head-eq_of_cons-eq e)))
told_one (p ∷ ps) [] m zero e = absurd (nil≢cons (sym e))
told_one (p ∷ ps) [] m (suc n) e = absurd (true≢false (ap is_means (head-eq_of_cons-eq e)))
told_one (p ∷ ps) (q ∷ qs) m n e = ap₂ ◌∷◌ (ap meaning_in (head-eq_of_cons-eq e)) (told_one ps qs m n (tail-eq_of_cons-eq e))

-- without given lengths events are the same to the writer
piece_unmeasured : (m : Meaning) → piece_of (unmeasured m) ≡ piece_of m
unfolding unmeasured piece_of
piece_unmeasured (array v) = refl
piece_unmeasured (dictionary v) = refl
piece_unmeasured close = refl
piece_unmeasured (boolean b) = refl
piece_unmeasured (bytes s) = refl
piece_unmeasured (date b) = refl
piece_unmeasured (integer z) = refl
piece_unmeasured (real b) = refl
piece_unmeasured (text s) = refl
piece_unmeasured (uid n) = refl

pub pieces_unmeasured : (ms : List Meaning) → map piece_of (map unmeasured ms) ≡ map piece_of ms
pieces_unmeasured [] = refl
pieces_unmeasured (m ∷ ms) = ap₂ ◌∷◌ (piece_unmeasured m) (pieces_unmeasured ms)

unmeasured_filled : (ms : List Meaning) → map unmeasured (filled ms) ≡ map unmeasured ms
unfolding unmeasured filled
unmeasured_filled [] = refl
unmeasured_filled (array v ∷ ms) = rw (unmeasured_filled ms)
unmeasured_filled (dictionary v ∷ ms) = rw (unmeasured_filled ms)
unmeasured_filled (close ∷ ms) = rw (unmeasured_filled ms)
unmeasured_filled (boolean b ∷ ms) = rw (unmeasured_filled ms)
unmeasured_filled (bytes s ∷ ms) = rw (unmeasured_filled ms)
unmeasured_filled (date b ∷ ms) = rw (unmeasured_filled ms)
unmeasured_filled (integer z ∷ ms) = rw (unmeasured_filled ms)
unmeasured_filled (real b ∷ ms) = rw (unmeasured_filled ms)
unmeasured_filled (text s ∷ ms) = rw (unmeasured_filled ms)
unmeasured_filled (uid n ∷ ms) = rw (unmeasured_filled ms)

-- the same events but for lengths, the same file
pub file_same : (ms ns : List Meaning) → map piece_of ms ≡ map piece_of ns → file_for ms ≡ file_for ns
unfolding file_for
file_same ms ns e = ap file_of e

-- the same file, the same events with lengths filled in
pub same_filled : (ms ns : List Meaning) → Accepted ms → Accepted ns → file_for ms ≡ file_for ns → filled ms ≡ filled ns
same_filled ms ns a b e =
    let l : answers (length ms + length ns) (file_for ms) fresh_reader ≡ told_of (handed_of ms) ++ replicate (length ns) ended = means_back ms a (length ns) in
    let r : answers (length ms + length ns) (file_for ms) fresh_reader ≡ told_of (handed_of ns) ++ replicate (length ms) ended = rw (e, add_comm (length ms) (length ns)) (means_back ns b (length ms)) in
    sym (handed_means ms a) ∙ told_one (handed_of ms) (handed_of ns) (length ns) (length ms) (sym l ∙ r) ∙ handed_means ns b

-- and so the same to the writer
pub same_pieces : (ms ns : List Meaning) → Accepted ms → Accepted ns → (file_for ms ≡ file_for ns) ↔ (map piece_of ms ≡ map piece_of ns)
same_pieces ms ns a b = (
  (λ e. sym (pieces_same ms) ∙ ap (map piece_of) (same_filled ms ns a b e) ∙ pieces_same ns),
  file_same ms ns,
)

-- THE SAME RECORD, THE SAME BYTES
pub same_file : (ms ns : List Meaning) → Accepted ms → Accepted ns → (file_for ms ≡ file_for ns) ↔ (map unmeasured ms ≡ map unmeasured ns)
same_file ms ns a b = (
  (λ e. sym (unmeasured_filled ms) ∙ ap (map unmeasured) (same_filled ms ns a b e) ∙ unmeasured_filled ns),
  (λ e. file_same ms ns (sym (pieces_unmeasured ms) ∙ ap (map piece_of) e ∙ pieces_unmeasured ns)),
)
