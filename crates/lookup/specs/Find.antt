-- What a lookup answers. docs/FORMAT.md, rules Q6 and Q7.
use Rattle.std.specs.Prelude.{Result, Ok, Err, Option, Some, None, List, [], ℕ, ◌-◌, length}
use Rattle.number.specs.Part.{part}
use Rattle.event.specs.Meaning.{Meaning}
use Rattle.tape.specs.Events.{tape_of, meanings_in}
use Rattle.grammar.specs.Check.{check_of}
use Rattle.grammar.specs.Said.{number_of, kinds_of}
use Rattle.grammar.specs.Said as check
use Rattle.grammar.specs.declared.answer.EventKind.{EventKind}
use Rattle.lookup.specs.Path.{keys_of}
use Rattle.lookup.specs.Value.{value_from, from_path}
use Rattle.lookup.specs.declared.answer.FindError.{FindError}
use Rattle.lookup.specs.declared.answer.FindError.TheVariants.{Refused, BadPath}
use Rattle.lookup.specs.declared.answer.Part.{Part}

-- where the part begins and how long it is; that there is none; or a refusal's number, what it names as expected and found, and its place
pub data Said : Type 0 where
  found : ℕ → ℕ → Said
  not_found : Said
  refused : ℕ → List EventKind → ℕ → Said

-- what a part that is found says, or that there is none
unfoldable pub part_said : Option Part → Said
part_said (Some part) = found part.start part.length
part_said None = not_found

-- what the code's answer says
unfoldable pub found_said : Result (Option Part) FindError → Said
found_said (Ok o) = part_said o
found_said (Err (Refused r place)) = refused (number_of r) (kinds_of r) place
found_said (Err BadPath) = refused 33 [] 0

-- Q6: the part of the tape that has the bytes of the value's events, which are the first of those from the value on
unfoldable pub placed : List ℕ → Option (List Meaning) → Said
placed tape None = not_found
placed tape (Some ms) = found (length tape - length (tape_of ms)) (length (tape_of (value_from 0 ms)))

unfoldable pub by_path : List ℕ → Option (List (List ℕ)) → List Meaning → Said
by_path tape None ms = refused 33 [] 0
by_path tape (Some keys) ms = placed tape (from_path keys ms)

-- Q7: what the check of the tape says, then the path
unfoldable pub by_check : check.Said → List ℕ → Option (List (List ℕ)) → Said
by_check (check.refused number kinds place) tape keys = refused number kinds place
by_check (check.whole n) tape keys = by_path tape keys (meanings_in tape)

unfoldable pub find_of : List ℕ → List ℕ → Said
find_of tape path = by_check (check_of tape) tape (keys_of path)

unfoldable pub part_by : List ℕ → Said → List ℕ
part_by tape (found start n) = part tape start n
part_by tape not_found = []
part_by tape (refused number kinds place) = []

unfoldable pub part_of : List ℕ → List ℕ → List ℕ
part_of tape path = part_by tape (find_of tape path)
