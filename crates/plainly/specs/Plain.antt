-- A file read plainly: what it says, put on a tape within a budget of events. docs/FORMAT.md, S7 to S10.
use Rattle.std.specs.Prelude.{cond, List, [], ◌∷◌, ℕ, zero, suc, ◌+◌, length}
use Rattle.std.proofs.lemmas.List.Edits.{sets}
use Rattle.tape.specs.Append.{fits}
use Rattle.tape.specs.Code.{bytes_for}
use Rattle.plainly.specs.Says.{Stated, End, Says, done, refused, file_says}

-- the last answer: the whole file was read; or a refusal, with number, values and place
pub data Last : Type 0 where
  whole : Last
  stopped : ℕ → List ℕ → ℕ → Last

-- how far it came: on, with the offset sought last and how many events the budget has left; or over, with the last answer
pub data Reach : Type 0 where
  going : ℕ → ℕ → Reach
  over : Last → Reach

-- how far, how many bytes of the tape are held, and the tape
pub record Put : Type 0 where
  pub reach : Reach
  pub held : ℕ
  pub tape : List ℕ

abbrev pub put : Reach → ℕ → List ℕ → Put
put r held tape = record { reach = r; held = held; tape = tape }

abbrev pub refused_with : ℕ → List ℕ → ℕ → Reach
refused_with number values place = over (stopped number values place)

unfoldable pub reach_of : ℕ → End → Reach
reach_of left (done place) = going place left
reach_of left (refused number values place) = refused_with number values place

-- events behind what is held, then the ending. The budget is looked at where an event comes, so 37 stands before 27, and where none comes
-- neither is given
unfoldable pub put_all : End → ℕ → ℕ → List ℕ → List Stated → Put
put_all end left held tape [] = put (reach_of left end) held tape
put_all end zero held tape (e ∷ es) = put (refused_with 37 [] 0) held tape
put_all end (suc left) held tape (e ∷ es) =
    cond (fits tape held (bytes_for e.meaning))
    (put_all end left (held + length (bytes_for e.meaning)) (sets tape held (bytes_for e.meaning)) es)
    (put (refused_with 27 [] held) held tape)

unfoldable pub say_onto : ℕ → ℕ → List ℕ → Says → Put
say_onto left held tape s = put_all s.ending left held tape s.events

unfoldable pub last_of : Reach → Last
last_of (going place left) = whole
last_of (over t) = t

-- the last answer, how many bytes are held, and the tape
pub record Plainly : Type 0 where
  pub ending : Last
  pub held : ℕ
  pub tape : List ℕ

abbrev pub plainly : Last → ℕ → List ℕ → Plainly
plainly ending held tape = record { ending = ending; held = held; tape = tape }

unfoldable pub closing : Put → Plainly
closing p = plainly (last_of p.reach) p.held p.tape

unfoldable pub plain_tape : ℕ → List ℕ → List ℕ → Plainly
plain_tape budget file tape = closing (say_onto budget 0 tape (file_says file))
