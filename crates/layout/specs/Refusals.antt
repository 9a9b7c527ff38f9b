-- The numbers with which a file is refused: one list for what is looked up, one for the file. 14 to 17 are the reader's own (docs/FORMAT.md,
-- table N).
use Rattle.std.specs.Prelude.{true, false, List, [], ◌∷◌, ◌≡◌, refl, ℕ}
use Rattle.number.specs.Among.{among, among_more, all_of, among_all}
use Rattle.object.specs.Refusal.{object_refusals}

-- an object that is looked up: those of the object, of an offset at or above T (6), and of a number that isn't below the count (7)
unfoldable pub look_refusals : List ℕ
look_refusals = 7 ∷ object_refusals

abbrev pub Faults : ℕ → Type 0
Faults n = among look_refusals n ≡ true

-- a trailer, where the reader is left as it was, and where it is ended
unfoldable pub trailer_keeps : List ℕ
trailer_keeps = 2 ∷ 3 ∷ 4 ∷ 5 ∷ []

unfoldable pub trailer_ends : List ℕ
trailer_ends = 5 ∷ 6 ∷ []

-- a file: those of its length and its trailer too
unfoldable pub file_refusals : List ℕ
file_refusals = 1 ∷ 2 ∷ 3 ∷ 4 ∷ 5 ∷ look_refusals

pub object_refusal : (n : ℕ) → among object_refusals n ≡ true → Faults n
unfolding look_refusals
object_refusal n h = among_more 7 object_refusals n h

pub file_refusal : (n : ℕ) → Faults n → among file_refusals n ≡ true
unfolding file_refusals look_refusals object_refusals among all_of
file_refusal n h = among_all (among file_refusals) look_refusals n refl h

pub keeps_refusal : (n : ℕ) → among trailer_keeps n ≡ true → among file_refusals n ≡ true
unfolding trailer_keeps file_refusals look_refusals object_refusals among all_of
keeps_refusal n h = among_all (among file_refusals) trailer_keeps n refl h

pub ends_refusal : (n : ℕ) → among trailer_ends n ≡ true → among file_refusals n ≡ true
unfolding trailer_ends file_refusals look_refusals object_refusals among all_of
ends_refusal n h = among_all (among file_refusals) trailer_ends n refl h

pub long_refusal : among file_refusals 1 ≡ true
unfolding file_refusals among
long_refusal = refl

-- 17 is none of them: it is said of an object that isn't in the file, and of an open container that isn't the one that stands there
pub not_file_17 : among file_refusals 17 ≡ false
unfolding file_refusals look_refusals object_refusals among
not_file_17 = refl
