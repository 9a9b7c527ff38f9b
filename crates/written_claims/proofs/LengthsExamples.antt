-- Tapes that differ in given lengths alone, computed: numbers of T1, malformed ones, and what the writer answers to both.
use Rattle.std.specs.Prelude.{true, false, List, [], ◌∷◌, ◌++◌, map, ◌≡◌, refl, ℕ, replicate, None}
use Rattle.event.specs.Meaning.{array, close, boolean}
use Rattle.grammar.specs.declared.answer.EventKind.TheVariants.{ValueOrStartCollection, EndCollection}
use Rattle.written.specs.Graph.{arr}
use Rattle.writer.specs.Write.{refused, write_of}
use Rattle.written_claims.specs.Computed.{computed}
use Rattle.written_claims.specs.Lengths.{TapePiece, event, given, tape_from, is_numeral, LengthsApart}

-- 5; 0 in two groups; 2^64, in ten groups; eleven groups
abbrev numerals : List (List ℕ)
numerals = (0x05 ∷ []) ∷ (0x80 ∷ 0x00 ∷ []) ∷ (replicate 9 0x80 ++ (0x02 ∷ [])) ∷ (replicate 10 0x80 ++ (0x01 ∷ [])) ∷ []

-- two that lack their last byte
abbrev short : List (List ℕ)
short = (0x80 ∷ 0x80 ∷ []) ∷ [] ∷ []

-- these only at the tape's end; and no byte behind a last group belongs to it
pub are_numerals :
    (map (is_numeral false) (numerals ++ short) ≡ (true ∷ true ∷ true ∷ true ∷ false ∷ false ∷ [])) ×
    (map (is_numeral true) (numerals ++ short) ≡ (true ∷ true ∷ true ∷ true ∷ true ∷ true ∷ [])) ×
    (is_numeral true (0x05 ∷ 0x05 ∷ []) ≡ false)
unfolding computed
are_numerals = (refl, refl, refl)

-- an array in an array, whose start is a piece
abbrev inner : TapePiece → List TapePiece
inner p = event (array None) ∷ p ∷ []

pub apart : LengthsApart (0x0A ∷ 0x0A ∷ 0x0E ∷ 0xFF ∷ []) (0x0A ∷ 0x0B ∷ 0x80 ∷ 0x00 ∷ 0x0E ∷ 0xFF ∷ [])
unfolding computed
apart = record {
  ps = inner (event (array None));
  qs = inner (given arr (0x80 ∷ 0x00 ∷ []));
  rest = 0x0E ∷ 0xFF ∷ [];
  one = refl;
  other = refl;
  one_formed = ((tt, refl), ((tt, refl), tt));
  other_formed = ((tt, refl), (refl, tt));
  same = refl;
}

pub cut_off : LengthsApart (0x0A ∷ 0x0A ∷ []) (0x0A ∷ 0x0B ∷ 0x80 ∷ [])
unfolding computed
cut_off = record {
  ps = inner (event (array None));
  qs = inner (given arr (0x80 ∷ []));
  rest = [];
  one = refl;
  other = refl;
  one_formed = ((tt, refl), ((tt, refl), tt));
  other_formed = ((tt, refl), (refl, tt));
  same = refl;
}

-- the tapes of [[ and a rest: the inner start without a length, and with each of these
abbrev tapes : List (List ℕ) → List ℕ → List (List ℕ)
tapes lengths rest = map (λ (p : TapePiece). tape_from (inner p) rest) (event (array None) ∷ map (given arr) lengths)

-- FF where an element is due: 20 at byte 1 of the rest; two ends: a whole root, for which there are no words; nothing: 22 at the end. Where the number is
-- malformed, 20 at piece 1
pub answers :
    (map (λ (t : List ℕ). write_of t 0 0) (tapes numerals (0x0E ∷ 0xFF ∷ [])) ≡ (refused 20 [] 3 ∷ refused 20 [] 4 ∷ refused 20 [] 1 ∷ refused 20 [] 1 ∷ refused 20 [] 1 ∷ [])) ×
    (map (λ (t : List ℕ). write_of t 0 0) (tapes numerals (0x0E ∷ 0x0E ∷ [])) ≡ (refused 24 [] 0 ∷ refused 24 [] 0 ∷ refused 20 [] 1 ∷ refused 20 [] 1 ∷ refused 20 [] 1 ∷ [])) ×
    (map (λ (t : List ℕ). write_of t 0 0) (tapes (numerals ++ short) []) ≡ (refused 22 [] 2 ∷ refused 22 [] 3 ∷ replicate 5 (refused 20 [] 1)))
unfolding computed
answers = (refl, refl, refl)

-- behind a whole root, or behind an event that is refused, the number isn't looked at: 23 and 21 on both
pub not_met :
    (map (λ (p : TapePiece). write_of (tape_from (event (boolean true) ∷ p ∷ []) []) 0 0) (event (array None) ∷ map (given arr) short) ≡ replicate 3 (refused 23 [] 1)) ×
    (map (λ (p : TapePiece). write_of (tape_from (event close ∷ p ∷ []) []) 0 0) (event (array None) ∷ map (given arr) short) ≡ replicate 3 (refused 21 (ValueOrStartCollection ∷ EndCollection ∷ []) 0))
unfolding computed
not_met = (refl, refl)
