-- How long the parts of a line are; what the line of an event is with a mark and without.
use Rattle.std.specs.Prelude.{List, [], ◌∷◌, ◌≡◌, refl, ℕ, ◌+◌, ◌*◌, length, None, Some}
use Rattle.std.proofs.Common.{arith, ne_eqb, length-append}
use Rattle.digits.specs.Digits.{decimal}
use Rattle.event.specs.Meaning.{Meaning}
use Rattle.line.specs.Line.{hex, tail, spaced, row, ended, origin_of, labelled, line_of, trace_of, refusal_line}
use Rattle.line.specs.Piece.{space_of, mark_of}
use Rattle.line.specs.Put.{event_line}

pub length_hex : (s : List ℕ) → length (hex s) ≡ 2 * length s
unfolding hex
length_hex [] = refl
length_hex (b ∷ bs) = omega (arith, length_hex bs)

pub tail_none : (s : List ℕ) → length s ≡ 0 → tail s ≡ []
unfolding tail
tail_none [] h = refl
tail_none (b ∷ bs) h = absurd (omega arith)

pub tail_some : (s : List ℕ) → (length s ≡ 0 → ⊥) → tail s ≡ 32 ∷ hex s
unfolding tail
tail_some [] h = absurd (h refl)
tail_some (b ∷ bs) h = refl

pub length_row : (word number s : List ℕ) → length (row word number s) ≡ length word + (length number + length (tail s))
unfolding row
length_row word number s = simp length-append

pub length_ended : (r mark : List ℕ) → length (ended r mark) ≡ length r + (length mark + 1)
unfolding ended
length_ended r mark = simp length-append

pub length_origin : (number offset : ℕ) → length (origin_of number offset) ≡ length (decimal number) + (length (decimal offset) + 4)
unfolding origin_of labelled
length_origin number offset = simp length-append (omega arith)

pub length_tail : (s : List ℕ) → length (tail s) ≡ space_of (length s) + 2 * length s
unfolding tail space_of
length_tail [] = refl
length_tail (b ∷ bs) = rw (ne_eqb (length (b ∷ bs)) 0 (λ e. omega arith)) (omega (arith, length_hex (b ∷ bs)))

-- `refused`, ` at` and the newline are 11 bytes
pub length_refusal : (number place : ℕ) → length (refusal_line number place) ≡ length (spaced (decimal number)) + length (spaced (decimal place)) + 11
unfolding refusal_line tail
length_refusal number place = simp (length-append, length_ended, length_row) (omega arith)

-- ---- with a mark, and without

pub line_plain : (m : Meaning) → event_line None m ≡ line_of m
unfolding event_line mark_of line_of
line_plain m = refl

pub line_traced : (number offset : ℕ) (m : Meaning) → event_line (Some (record { number = number; offset = offset })) m ≡ trace_of number offset m
unfolding event_line mark_of trace_of
line_traced number offset m = refl
