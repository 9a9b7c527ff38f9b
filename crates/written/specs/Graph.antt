-- The objects that events are written as, their numbers, and the order of their bytes. docs/FORMAT.md, rules W1 to W6.
use Rattle.std.specs.Prelude.{Bool, true, false, cond, List, [], ◌∷◌, ◌++◌, map, ℕ, zero, suc, eqb, drop}
use Rattle.event.specs.Meaning.{Meaning, array, dictionary, close, boolean, bytes, date, integer, real, text, uid}
use Rattle.tape.specs.Code.{bytes_for}
use Rattle.tape.specs.Item.{Reading, event, bad, read_at}
use Rattle.written.specs.Encoding.{Object, lone, list, pairs}
use Rattle.written.specs.Nub.{nub, index_of}

-- A scalar is its event's bytes on the tape: the tape has one form for each kind and value (W1)
abbrev pub Scalar : Type 0
Scalar = List ℕ

pub data Kind : Type 0 where
  arr : Kind
  dic : Kind

-- what the writer sees of an event
pub data Piece : Type 0 where
  scalar : Scalar → Piece
  start : Kind → Piece
  end : Piece

-- a given length is not looked at (W2)
unfoldable pub piece_of : Meaning → Piece
piece_of (array n) = start arr
piece_of (dictionary n) = start dic
piece_of close = end
piece_of (boolean b) = scalar (bytes_for (boolean b))
piece_of (bytes s) = scalar (bytes_for (bytes s))
piece_of (date b) = scalar (bytes_for (date b))
piece_of (integer z) = scalar (bytes_for (integer z))
piece_of (real b) = scalar (bytes_for (real b))
piece_of (text s) = scalar (bytes_for (text s))
piece_of (uid n) = scalar (bytes_for (uid n))

-- What is written once: a scalar by its kind and value, a container by the place of its start among the events (W1)
pub data Name : Type 0 where
  val : Scalar → Name
  box : ℕ → Name

unfoldable pub same_bytes : Scalar → Scalar → Bool
same_bytes [] [] = true
same_bytes [] (y ∷ ys) = false
same_bytes (x ∷ xs) [] = false
same_bytes (x ∷ xs) (y ∷ ys) = cond (eqb x y) (same_bytes xs ys) false

unfoldable pub same : Name → Name → Bool
same (val s) (val t) = same_bytes s t
same (val s) (box q) = false
same (box p) (val t) = false
same (box p) (box q) = eqb p q

-- The members that come, from event n on, of the container that is open d levels above the innermost
unfoldable pub kids : ℕ → ℕ → List Piece → List Name
kids d n [] = []
kids zero n (scalar s ∷ es) = val s ∷ kids zero (suc n) es
kids (suc d) n (scalar s ∷ es) = kids (suc d) (suc n) es
kids zero n (start k ∷ es) = box n ∷ kids 1 (suc n) es
kids (suc d) n (start k ∷ es) = kids (suc (suc d)) (suc n) es
kids zero n (end ∷ es) = []
kids (suc d) n (end ∷ es) = kids d (suc n) es

-- each second one: from the first on, from the second on
unfoldable mutual
  pub evens : List Name → List Name
  evens [] = []
  evens (x ∷ xs) = x ∷ odds xs

  pub odds : List Name → List Name
  odds [] = []
  odds (x ∷ xs) = evens xs

-- a dictionary's keys go before its values (W4)
unfoldable pub laid : Kind → List Name → List Name
laid arr ms = ms
laid dic ms = evens ms ++ odds ms

-- all that the containers name, the containers in the tape's order (W4)
unfoldable pub names : ℕ → List Piece → List Name
names n [] = []
names n (scalar s ∷ es) = names (suc n) es
names n (start k ∷ es) = laid k (kids 0 (suc n) es) ++ names (suc n) es
names n (end ∷ es) = names (suc n) es

-- the root, then all others by where they are first named (W3, W4)
unfoldable pub order : List Piece → List Name
order es = nub same (kids 0 0 es ++ names 0 es)

unfoldable pub number : List Piece → Name → ℕ
number es x = index_of same x (order es)

-- what bytes on the tape mean
unfoldable pub meaning_in : Reading → Meaning
meaning_in (event m next) = m
meaning_in bad = close

unfoldable pub meant : Scalar → Meaning
meant s = meaning_in (read_at s 0)

-- an object with the numbers of its members
unfoldable pub body_of : (Name → ℕ) → ℕ → List Piece → Object
body_of f n [] = list []
body_of f n (scalar s ∷ es) = list []
body_of f n (start arr ∷ es) = list (map f (kids 0 (suc n) es))
body_of f n (start dic ∷ es) = pairs (map f (evens (kids 0 (suc n) es))) (map f (odds (kids 0 (suc n) es)))
body_of f n (end ∷ es) = list []

unfoldable pub object_of : List Piece → Name → Object
object_of es (val s) = lone (meant s)
object_of es (box p) = body_of (number es) p (drop p es)

-- The order of the bytes: a container, its keys, then on along the tape; what is already written is passed over (W5, W6)
unfoldable pub spoken : ℕ → List Piece → List Name
spoken n [] = []
spoken n (scalar s ∷ es) = val s ∷ spoken (suc n) es
spoken n (start arr ∷ es) = box n ∷ spoken (suc n) es
spoken n (start dic ∷ es) = box n ∷ (evens (kids 0 (suc n) es) ++ spoken (suc n) es)
spoken n (end ∷ es) = spoken (suc n) es

unfoldable pub emission : List Piece → List Name
emission es = nub same (spoken 0 es)
