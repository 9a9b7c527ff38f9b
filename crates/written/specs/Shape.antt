-- Events that are one value, seen as the writer sees them; and the walk from member to member of a container.
use Rattle.std.specs.Prelude.{Bool, true, false, cond, List, [], ◌∷◌, ◌≡◌, ℕ, zero, suc, ◌+◌, ◌<◌, ltb, eqb, length, drop}
use Rattle.written.specs.Graph.{Scalar, Kind, arr, dic, Piece, scalar, start, end, Name, val, box}

-- what may come next in an open container
pub data Due : Type 0 where
  element : Due
  key : Due
  value : Due

-- a text's bytes begin with its kind
unfoldable pub is_text : Scalar → Bool
is_text [] = false
is_text (k ∷ bs) = eqb k 9

-- what is due after a member
abbrev pub later : Due → Due
later element = element
later key = value
later value = key

abbrev pub inside : Kind → Due
inside arr = element
inside dic = key

abbrev pub takes : Due → Scalar → Bool
takes element s = true
takes key s = is_text s
takes value s = true

abbrev pub opens : Due → Bool
opens element = true
opens key = false
opens value = true

abbrev pub closes : Due → Bool
closes element = true
closes key = true
closes value = false

-- the events are what is left of one value, these containers open, never with more than top
unfoldable pub fits : ℕ → List Due → List Piece → Bool
fits top [] [] = true
fits top (c ∷ cs) [] = false
fits top [] (e ∷ es) = false
fits top (c ∷ cs) (scalar s ∷ es) = cond (takes c s) (fits top (later c ∷ cs) es) false
fits top (c ∷ cs) (start k ∷ es) = cond (opens c) (cond (ltb (suc (length cs)) top) (fits top (inside k ∷ later c ∷ cs) es) false) false
fits top (c ∷ cs) (end ∷ es) = cond (closes c) (fits top cs es) false

-- the events are one value
unfoldable pub whole : ℕ → List Piece → Bool
whole top [] = false
whole top (scalar s ∷ es) = fits top [] es
whole top (start k ∷ es) = cond (ltb 0 top) (fits top (inside k ∷ []) es) false
whole top (end ∷ es) = false

-- how many events until the container that is open d levels above the innermost is closed
unfoldable pub skip : ℕ → List Piece → ℕ
skip d [] = 0
skip d (scalar s ∷ es) = suc (skip d es)
skip d (start k ∷ es) = suc (skip (suc d) es)
skip zero (end ∷ es) = 1
skip (suc d) (end ∷ es) = suc (skip d es)

-- what an event writes: a scalar by its value, a container by its place; an end, which writes nothing, goes by its place too
abbrev pub name_of : ℕ → Piece → Name
name_of i (scalar s) = val s
name_of i (start k) = box i
name_of i end = box i

-- the event behind one that is a member: behind its end, where it is a container; 0 for an end
unfoldable pub next_in : ℕ → List Piece → ℕ
next_in i [] = 0
next_in i (scalar s ∷ r) = suc i
next_in i (start k ∷ r) = suc i + skip 0 r
next_in i (end ∷ r) = 0

unfoldable pub next_at : List Piece → ℕ → ℕ
next_at es i = next_in i (drop i es)

abbrev pub is_end : Piece → Bool
is_end (scalar s) = false
is_end (start k) = false
is_end end = true

-- from event i on to the end at stop, event by event, these are the members
abbrev pub Along : List Piece → ℕ → ℕ → List Name → Type 0
Along es stop i [] = i ≡ stop
Along es stop i (x ∷ xs) =
    (p : Piece) × (r : List Piece) × (drop i es ≡ p ∷ r) × (x ≡ name_of i p) × (is_end p ≡ false) × (i < stop) × Along es stop (next_at es i) xs

-- the same in pairs of a text and a value
abbrev pub InPairs : List Piece → ℕ → ℕ → List Name → List Name → Type 0
InPairs es stop i [] [] = i ≡ stop
InPairs es stop i [] (v ∷ vs) = ⊥
InPairs es stop i (k ∷ ks) [] = ⊥
InPairs es stop i (k ∷ ks) (v ∷ vs) =
    (s : Scalar) × (p : Piece) × (r : List Piece) × (drop i es ≡ scalar s ∷ p ∷ r) × (k ≡ val s) × (v ≡ name_of (suc i) p) × (is_end p ≡ false) × (suc i < stop)
    × InPairs es stop (next_at es (suc i)) ks vs
