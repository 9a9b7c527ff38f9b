-- Which of two days and times is the earlier one. docs/FORMAT.md, C8.
use Rattle.std.specs.Prelude.{Bool, true, false, cond, List, [], ◌∷◌, ℕ, ltb, eqb}
use Rattle.calendar.specs.declared.Time.{Time}

-- the first element in which two lists differ is the smaller one in the first list
unfoldable pub before : List ℕ → List ℕ → Bool
before [] us = false
before (a ∷ ts) [] = false
before (a ∷ ts) (b ∷ us) = cond (ltb a b) true (cond (eqb a b) (before ts us) false)

unfoldable pub fields_of : Time → List ℕ
fields_of t = t.year ∷ t.month ∷ t.day ∷ t.hour ∷ t.minute ∷ t.second ∷ []

unfoldable pub earlier : Time → Time → Bool
earlier t u = before (fields_of t) (fields_of u)
