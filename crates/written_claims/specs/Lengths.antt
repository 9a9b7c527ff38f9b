-- Tapes that differ in given lengths alone, and what the writer may answer to two of them. docs/FORMAT.md, rules T1 to T3.
use Rattle.std.specs.Prelude.{Bool, cond, true, List, [], ◌∷◌, ◌++◌, map, ◌≡◌, ℕ, ◌+◌, ◌^◌, ◌<◌, ltb, eqb, length, get_or, take, None}
use Rattle.event.specs.Format.{max_length}
use Rattle.event.specs.Meaning.{Meaning, array, dictionary, close}
use Rattle.event.specs.Unmeasured.{unmeasured}
use Rattle.tape.specs.Code.{bytes_for, OnTape}
use Rattle.tape.specs.Seven.{seven}
use Rattle.grammar.specs.Said.{number_of, kinds_of}
use Rattle.grammar.specs.declared.answer.Refusal.{Refusal}
use Rattle.written.specs.Graph.{Kind, arr, dic}
use Rattle.writer.specs.Write.{Said, refused}

-- a piece of a tape: an event; or the start of a container with bytes in place of its length, which may be any number's, well formed or not
pub data TapePiece : Type 0 where
  event : Meaning → TapePiece
  given : Kind → List ℕ → TapePiece

unfoldable pub bytes_in : TapePiece → List ℕ
bytes_in (event m) = bytes_for m
bytes_in (given arr s) = 0x0B ∷ s
bytes_in (given dic s) = 0x0D ∷ s

-- pieces one behind the other, and the rest
unfoldable pub tape_from : List TapePiece → List ℕ → List ℕ
tape_from [] rest = rest
tape_from (p ∷ ps) rest = bytes_in p ++ tape_from ps rest

-- where piece i begins
unfoldable pub place_of : List TapePiece → ℕ → ℕ
place_of ps i = length (tape_from (take i ps) [])

-- bytes of which all but the last have the high bit (T1). Those of a number that is cut off may lack the last
unfoldable pub is_numeral : Bool → List ℕ → Bool
is_numeral cut [] = cut
is_numeral cut (b ∷ s) = cond (ltb b 128) (eqb (length s) 0) (is_numeral cut s)

-- events that a tape takes, and numerals; only the tape's end cuts one off
abbrev pub Formed : List TapePiece → List ℕ → Type 0
Formed [] rest = Unit {0}
Formed (event m ∷ ps) rest = OnTape m × Formed ps rest
Formed (given k s ∷ ps) rest = (is_numeral (eqb (length (tape_from ps rest)) 0) s ≡ true) × Formed ps rest

-- a start whose number is none of T1: no number below 2^64 is written so
abbrev pub Malformed : TapePiece → Type 0
Malformed (event m) = ⊥
Malformed (given k s) = (n : ℕ) → n < 2 ^ 64 → s ≡ seven n → ⊥

-- a piece without its length
unfoldable pub shape_of : TapePiece → Meaning
shape_of (event m) = unmeasured m
shape_of (given arr s) = array None
shape_of (given dic s) = dictionary None

-- two tapes with the same pieces but for given lengths, and the same rest
pub record LengthsApart (s t : List ℕ) : Type 0 where
  pub ps : List TapePiece
  pub qs : List TapePiece
  pub rest : List ℕ
  pub one : s ≡ tape_from ps rest
  pub other : t ≡ tape_from qs rest
  pub one_formed : Formed ps rest
  pub other_formed : Formed qs rest
  pub same : map shape_of ps ≡ map shape_of qs

-- an answer is a refusal, with the kinds that it names, at a place
abbrev pub Refuses : Said → Refusal → ℕ → Type 0
Refuses x r place = x ≡ refused (number_of r) (kinds_of r) place

-- what the writer may answer to them: the same; the same refusal of the same piece, or at the same byte of the rest, or (22) at the end, each with its own
-- tape's place; 1 to a tape that is longer than the limit; or 20 to a start whose number is malformed
pub data Answers {s t : List ℕ} (d : LengthsApart s t) (x y : Said) : Type 0 where
  equal : x ≡ y → Answers d x y
  at_piece : (i : ℕ) (r : Refusal) → i < length d.ps → Refuses x r (place_of d.ps i) → Refuses y r (place_of d.qs i) → Answers d x y
  in_rest : (j : ℕ) (r : Refusal) → j < length d.rest → Refuses x r (length (tape_from d.ps []) + j) → Refuses y r (length (tape_from d.qs []) + j) → Answers d x y
  at_end : x ≡ refused 22 [] (length s) → y ≡ refused 22 [] (length t) → Answers d x y
  one_long : max_length < length s → x ≡ refused 1 [] 0 → Answers d x y
  other_long : max_length < length t → y ≡ refused 1 [] 0 → Answers d x y
  one_malformed : (i : ℕ) → Malformed (get_or d.ps i (event close)) → x ≡ refused 20 [] (place_of d.ps i) → Answers d x y
  other_malformed : (i : ℕ) → Malformed (get_or d.qs i (event close)) → y ≡ refused 20 [] (place_of d.qs i) → Answers d x y
