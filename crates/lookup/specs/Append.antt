-- A key added to a path that is held at the front of lent memory. docs/FORMAT.md, rule Q8.
use Rattle.std.specs.Prelude.{Result, Ok, Err, cond, List, [], ◌∷◌, ◌++◌, ℕ, ◌+◌, ◌-◌, ◌^◌, ◌≤◌, ◌<◌, leb, eqb, length, take, drop, None, Option, Some}
use Rattle.number.specs.Part.{part}
use Rattle.tape.specs.Append.{fits, put_to}
use Rattle.tape.specs.Seven.{seven}
use Rattle.lookup.specs.Path.{path_of, keys_of}
use Rattle.lookup.specs.declared.append.AddError.{AddError}
use Rattle.lookup.specs.declared.append.AddError.TheVariants.{NoRoom, NotPath}

-- the keys that are held: none in no bytes; else those of the path that the bytes are, all of them in the memory
unfoldable pub held_keys : List ℕ → ℕ → Option (List (List ℕ))
held_keys memory held = cond (eqb held 0) (Some []) (cond (leb held (length memory)) (keys_of (take held memory)) None)

-- how many bytes the path has then, or why no key is added
abbrev pub Added : Type 0
Added = Result ℕ AddError

-- bytes at the front, if they fit
unfoldable pub added_in : List ℕ → List ℕ → Added
added_in memory s = cond (fits memory 0 s) (Ok (length s)) (Err NoRoom)

-- the path of one key more
unfoldable pub added_by : List ℕ → List ℕ → Option (List (List ℕ)) → Added
added_by memory key (Some keys) = added_in memory (path_of (keys ++ (key ∷ [])))
added_by memory key None = Err NotPath

unfoldable pub added_of : List ℕ → ℕ → List ℕ → Added
added_of memory held key = added_by memory key (held_keys memory held)

-- the memory afterwards
unfoldable pub after_by : List ℕ → List ℕ → Option (List (List ℕ)) → List ℕ
after_by memory key (Some keys) = put_to memory 0 (path_of (keys ++ (key ∷ [])))
after_by memory key None = memory

unfoldable pub added_to : List ℕ → ℕ → List ℕ → List ℕ
added_to memory held key = after_by memory key (held_keys memory held)

-- as the code makes it: another count, what stood behind the old one, and the key
unfoldable pub grown : List ℕ → ℕ → ℕ → ℕ → List ℕ → List ℕ
grown memory held count first key = (seven (count + 1) ++ part memory first (held - first)) ++ (seven (length key) ++ key)

unfoldable pub moved : List ℕ → ℕ → ℕ → ℕ → List ℕ
moved memory from to by = take (from + by) memory ++ (part memory from (to - from) ++ drop (to + by) memory)

-- the new count is no shorter than the old one, which ends at `first`
pub record Growing (memory : List ℕ) (held count first : ℕ) : Type 0 where
  pub inside : held ≤ length memory
  pub within : first ≤ held
  pub few : count + 1 < 2 ^ 64
  pub longer : first ≤ length (seven (count + 1))
