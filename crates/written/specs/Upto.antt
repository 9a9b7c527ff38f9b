-- What the first events name, and what they speak: how far the numbering and the writing have come along the tape.
use Rattle.std.specs.Prelude.{List, [], ◌∷◌, ◌++◌, ℕ, zero, suc}
use Rattle.written.specs.Graph.{arr, dic, Piece, scalar, start, end, Name, val, box, kids, evens, laid}

-- what the first e of these events name, each container with all its members; n is the number of the first
unfoldable pub names_upto : ℕ → ℕ → List Piece → List Name
names_upto zero n es = []
names_upto (suc e) n [] = []
names_upto (suc e) n (scalar s ∷ es) = names_upto e (suc n) es
names_upto (suc e) n (start k ∷ es) = laid k (kids 0 (suc n) es) ++ names_upto e (suc n) es
names_upto (suc e) n (end ∷ es) = names_upto e (suc n) es

unfoldable pub spoken_upto : ℕ → ℕ → List Piece → List Name
spoken_upto zero n es = []
spoken_upto (suc e) n [] = []
spoken_upto (suc e) n (scalar s ∷ es) = val s ∷ spoken_upto e (suc n) es
spoken_upto (suc e) n (start arr ∷ es) = box n ∷ spoken_upto e (suc n) es
spoken_upto (suc e) n (start dic ∷ es) = box n ∷ (evens (kids 0 (suc n) es) ++ spoken_upto e (suc n) es)
spoken_upto (suc e) n (end ∷ es) = spoken_upto e (suc n) es

-- what the first of these events alone names, and what it speaks
unfoldable pub names_at : ℕ → List Piece → List Name
names_at n [] = []
names_at n (scalar s ∷ es) = []
names_at n (start k ∷ es) = laid k (kids 0 (suc n) es)
names_at n (end ∷ es) = []

unfoldable pub spoken_at : ℕ → List Piece → List Name
spoken_at n [] = []
spoken_at n (scalar s ∷ es) = val s ∷ []
spoken_at n (start arr ∷ es) = box n ∷ []
spoken_at n (start dic ∷ es) = box n ∷ evens (kids 0 (suc n) es)
spoken_at n (end ∷ es) = []
