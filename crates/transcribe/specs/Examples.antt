-- P10 of docs/FORMAT.md, the array of 1, "a", 1, onto a tape.
use Rattle.std.specs.Prelude.{List, [], ◌∷◌, ◌++◌, map, ◌≡◌, refl, ℕ, replicate, take}
use Rattle.event.specs.Format.{magic}
use Rattle.transcribe.specs.Computed.{computed}
use Rattle.transcribe.specs.Run.{Run, ended, stopped, refused, run, transcript_of}

-- the file, as docs/FORMAT.md has it byte by byte
abbrev eight : ℕ → List ℕ
eight n = replicate 7 0 ++ (n ∷ [])

abbrev pub p10 : List ℕ
p10 =
    magic ++
    (0xA3 ∷ 0x01 ∷ 0x02 ∷ 0x01 ∷ 0x10 ∷ 0x01 ∷ 0x51 ∷ 0x61 ∷ 0x08 ∷ 0x0C ∷ 0x0E ∷ []) ++
    (replicate 6 0 ++ (1 ∷ 1 ∷ []) ++ eight 3 ++ eight 0 ++ eight 16)

-- array with length 3; 1; "a"; 1; end
abbrev pub p10_tape : List ℕ
p10_tape = 0x0B ∷ 3 ∷ 0x03 ∷ 1 ∷ 0x09 ∷ 1 ∷ 0x61 ∷ 0x03 ∷ 1 ∷ 0x0E ∷ []

pub record Case : Type 0 where
  pub budget : ℕ
  pub tape : List ℕ
  pub run_is : Run

-- to its end, with 10 bytes held and those behind them as they were; with a budget of all five events, which ends stopped, as nobody looks
-- what would follow; with a budget of two; and onto a tape that has no room for the array's end
abbrev pub cases : List Case
cases =
    record { budget = 6; tape = replicate 16 0xFF; run_is = run ended 10 (p10_tape ++ replicate 6 0xFF) (7 ∷ []) } ∷
    record { budget = 5; tape = replicate 16 0xFF; run_is = run stopped 10 (p10_tape ++ replicate 6 0xFF) (7 ∷ []) } ∷
    record { budget = 2; tape = replicate 16 0xFF; run_is = run stopped 4 (take 4 p10_tape ++ replicate 12 0xFF) (7 ∷ []) } ∷
    record { budget = 6; tape = replicate 9 0xFF; run_is = run (refused 27 [] 9) 9 (take 9 p10_tape) (7 ∷ []) } ∷
    []

pub cases_right : map (λ (c : Case). transcript_of c.budget p10 (7 ∷ []) c.tape) cases ≡ map (λ (c : Case). c.run_is) cases
unfolding computed
cases_right = refl
