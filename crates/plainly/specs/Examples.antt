-- P10 of docs/FORMAT.md, the array of 1, "a", 1, and P12, an array inside itself: what they say, and onto a tape.
use Rattle.std.specs.Prelude.{List, [], ◌∷◌, ◌++◌, map, ◌≡◌, refl, ℕ, pos, replicate, take, Some}
use Rattle.event.specs.Format.{magic}
use Rattle.event.specs.Meaning.{Meaning, array, integer, text, close}
use Rattle.plainly.specs.Computed.{computed}
use Rattle.plainly.specs.Plain.{Plainly, whole, stopped, plainly, plain_tape}
use Rattle.plainly.specs.Says.{Stated, done, refused, says, file_says}

-- the files, as docs/FORMAT.md has them byte by byte
abbrev eight : ℕ → List ℕ
eight n = replicate 7 0 ++ (n ∷ [])

abbrev trailer : ℕ → ℕ → List ℕ
trailer count table = replicate 6 0 ++ (1 ∷ 1 ∷ []) ++ eight count ++ eight 0 ++ eight table

abbrev pub p10 : List ℕ
p10 = magic ++ (0xA3 ∷ 0x01 ∷ 0x02 ∷ 0x01 ∷ 0x10 ∷ 0x01 ∷ 0x51 ∷ 0x61 ∷ 0x08 ∷ 0x0C ∷ 0x0E ∷ []) ++ trailer 3 16

abbrev pub p12 : List ℕ
p12 = magic ++ (0xA1 ∷ 0x00 ∷ 0x08 ∷ []) ++ trailer 1 10

abbrev said : Meaning → ℕ → ℕ → Stated
said m n offset = record { meaning = m; number = n; offset = offset }

-- every event with its object's number and offset; the object sought last is the last one read
p10_says : file_says p10 ≡ says (
    said (array (Some 3)) 0 8 ∷ said (integer (pos 1)) 1 12 ∷ said (text (0x61 ∷ [])) 2 14 ∷ said (integer (pos 1)) 1 12 ∷ said close 0 8 ∷ []
    ) (done 12)
unfolding computed
p10_says = refl

-- it is open: 14 at its offset
p12_says : file_says p12 ≡ says (said (array (Some 1)) 0 8 ∷ []) (refused 14 [] 8)
unfolding computed
p12_says = refl

-- array with length 3; 1; "a"; 1; end
abbrev pub p10_tape : List ℕ
p10_tape = 0x0B ∷ 3 ∷ 0x03 ∷ 1 ∷ 0x09 ∷ 1 ∷ 0x61 ∷ 0x03 ∷ 1 ∷ 0x0E ∷ []

pub record Case : Type 0 where
  pub file : List ℕ
  pub budget : ℕ
  pub tape : List ℕ
  pub is : Plainly

-- P10 with a budget of its five events, which is enough, and of four, which is not; with room for four events and a budget of five, and where
-- the budget is used up too, 37; with no budget. P12 with a budget of its one event, and with none; a file that is refused at once needs none
abbrev pub cases : List Case
cases =
    record { file = p10; budget = 5; tape = replicate 12 0xFF; is = plainly whole 10 (p10_tape ++ replicate 2 0xFF) } ∷
    record { file = p10; budget = 4; tape = replicate 12 0xFF; is = plainly (stopped 37 [] 0) 9 (take 9 p10_tape ++ replicate 3 0xFF) } ∷
    record { file = p10; budget = 5; tape = replicate 9 0xFF; is = plainly (stopped 27 [] 9) 9 (take 9 p10_tape) } ∷
    record { file = p10; budget = 4; tape = replicate 9 0xFF; is = plainly (stopped 37 [] 0) 9 (take 9 p10_tape) } ∷
    record { file = p10; budget = 0; tape = []; is = plainly (stopped 37 [] 0) 0 [] } ∷
    record { file = p12; budget = 1; tape = replicate 3 0xFF; is = plainly (stopped 14 [] 8) 2 (0x0B ∷ 1 ∷ 0xFF ∷ []) } ∷
    record { file = p12; budget = 0; tape = replicate 3 0xFF; is = plainly (stopped 37 [] 0) 0 (replicate 3 0xFF) } ∷
    record { file = magic; budget = 0; tape = []; is = plainly (stopped 2 [] 0) 0 [] } ∷
    []

pub cases_right : map (λ (c : Case). plain_tape c.budget c.file c.tape) cases ≡ map (λ (c : Case). c.is) cases
unfolding computed
cases_right = refl
