-- What a file says, without any state: an object says its event, or, a container, its start, what its elements say in turn, and its end.
-- docs/FORMAT.md, part S.
use Rattle.std.specs.Prelude.{cond, List, [], ◌∷◌, ◌++◌, ℕ, zero, suc}
use Rattle.number.specs.Among.{among}
use Rattle.event.specs.Format.{max_open}
use Rattle.event.specs.Meaning.{Meaning, close, meaning_of}
use Rattle.layout.specs.Layout.{look_of}
use Rattle.layout.specs.Looked.{Shape, Looked, barred, missing, faulty, scalar, container, start_of}
use Rattle.layout.specs.References.{references_of}
use Rattle.layout.specs.Trailer.{Trailer, keeps, ends, lays, trailer_in}
use Rattle.layout.specs.declared.layout.Layout.{Layout}
use Rattle.reader.specs.Meanings.{meaning_at}

-- an event: what it means, and its object's number and offset; an end has those of the container it closes
pub record Stated : Type 0 where
  pub meaning : Meaning
  pub number : ℕ
  pub offset : ℕ

-- how it ends: all is said, and this offset was sought last; or a refusal, with number, values and place
pub data End : Type 0 where
  done : ℕ → End
  refused : ℕ → List ℕ → ℕ → End

pub record Says : Type 0 where
  pub events : List Stated
  pub ending : End

abbrev pub says : List Stated → End → Says
says es e = record { events = es; ending = e }

-- nothing but a refusal
abbrev pub refusal : ℕ → List ℕ → ℕ → Says
refusal number values place = says [] (refused number values place)

-- one event of the object with a number at an offset, where a place was sought last
abbrev pub one : Meaning → ℕ → ℕ → ℕ → Says
one m n offset place = says (record { meaning = m; number = n; offset = offset } ∷ []) (done place)

-- what follows is said behind it, from the place sought last; behind a refusal nothing follows (S1)
unfoldable pub on : List Stated → End → (ℕ → Says) → Says
on es (done place) more = says (es ++ (more place).events) (more place).ending
on es (refused number values place) more = says es (refused number values place)

unfoldable pub followed : Says → (ℕ → Says) → Says
followed x more = on x.events x.ending more

-- objects, one after another (S6)
unfoldable pub each_of : (ℕ → ℕ → Says) → ℕ → List ℕ → Says
each_of object place [] = says [] (done place)
each_of object place (n ∷ ns) = followed (object place n) (λ p. each_of object p ns)

-- a container with a number at an offset: its start, its elements, its end (S6)
unfoldable pub whole_of : (ℕ → ℕ → Says) → Meaning → ℕ → ℕ → List ℕ → Says
whole_of object start n offset elements =
    followed (one start n offset offset) (λ p. followed (each_of object p elements) (λ q. one close n offset q))

-- an object that is looked up, where a place was sought last; a container says what is given for it (S3, S4)
unfoldable pub by_look : List ℕ → ℕ → ℕ → (Shape → ℕ → ℕ → Says) → Looked → Says
by_look file place n inside (barred number values) = refusal number values place
by_look file place n inside missing = refusal 17 [] 0
by_look file place n inside (faulty number values offset) = refusal number values offset
by_look file place n inside (scalar e offset) = one (meaning_at file e offset) n offset offset
by_look file place n inside (container shape k offset) = inside shape k offset

-- an object by its number, inside these open containers, where so many more may be opened: one that is open is refused with 14, one too
-- many with 15 (S5)
unfoldable pub object_says : List ℕ → Layout → ℕ → List ℕ → ℕ → ℕ → Says
object_says file l zero opened place n =
    by_look file place n (λ shape k offset. cond (among opened n) (refusal 14 [] offset) (refusal 15 [] offset)) (look_of file l n)
object_says file l (suc left) opened place n =
    by_look file place n
    (λ shape k offset. cond (among opened n) (refusal 14 [] offset)
    (whole_of (λ p m. object_says file l left (opened ++ (n ∷ [])) p m) (meaning_of (start_of shape k) []) n offset (references_of file l n)))
    (look_of file l n)

-- a file: its trailer, then its root (S2)
unfoldable pub trailer_says : List ℕ → Trailer → Says
trailer_says file (keeps number values place) = refusal number values place
trailer_says file (ends number values place) = refusal number values place
trailer_says file (lays l root) = object_says file l max_open [] l.table root

unfoldable pub file_says : List ℕ → Says
file_says file = trailer_says file (trailer_in file)
