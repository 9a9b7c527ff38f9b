-- The numbers of all refusals: table N of docs/FORMAT.md, with those of parts to come, so that a new part leaves the list alone.
use Rattle.std.specs.Prelude.{true, List, [], ◌∷◌, ◌≡◌, ℕ}
use Rattle.number.specs.Among.{among}

unfoldable pub refusal_numbers : List ℕ
refusal_numbers =
    1 ∷ 2 ∷ 3 ∷ 4 ∷ 5 ∷ 6 ∷ 7 ∷ 8 ∷ 9 ∷ 10 ∷ 11 ∷ 12 ∷ 13 ∷ 14 ∷ 15 ∷ 16 ∷ 17 ∷
    20 ∷ 21 ∷ 22 ∷ 23 ∷ 24 ∷ 25 ∷ 26 ∷ 27 ∷ 30 ∷ 31 ∷ 32 ∷ 33 ∷ 34 ∷ 35 ∷ 36 ∷ 37 ∷ []

-- a number of the table
abbrev pub Listed : ℕ → Type 0
Listed n = among refusal_numbers n ≡ true
