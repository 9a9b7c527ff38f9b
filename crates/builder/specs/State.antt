-- A builder's state, and where events lead it. docs/FORMAT.md, rules B1 and B2.
use Rattle.std.specs.Prelude.{cond, List, [], ◌∷◌, ℕ, zero, suc, ◌+◌, ◌-◌, ◌*◌, ◌/◌, ◌%◌, ◌^◌, min, eqb, get_or, set, replicate}
use Rattle.event.specs.Format.{max_open}
use Rattle.grammar.specs.declared.turn.Due.{Due}
use Rattle.grammar.specs.declared.turn.Due.TheVariants.{Root, Element, Key, Value, Nothing}
use Rattle.grammar.specs.declared.way.Way.{Way}
use Rattle.grammar.specs.declared.way.Way.TheVariants.{Past, Into, Out, Barred}
use Rattle.builder.specs.declared.state.Builder.{Builder}

-- B1: the words of 64 bits that have a bit for each container that may be open
abbrev pub open_words : ℕ
open_words = 8

-- nothing is held, and the root is due
abbrev pub empty_builder : Builder
empty_builder = record { held = 0; due = 0; depth = 0; bits = replicate open_words 0 }

-- what is due, as a number; any other number says that nothing is
unfoldable pub due_of : ℕ → Due
due_of code = cond (eqb code 0) Root (cond (eqb code 1) Element (cond (eqb code 2) Key (cond (eqb code 3) Value Nothing)))

unfoldable pub code_of : Due → ℕ
code_of Root = 0
code_of Element = 1
code_of Key = 2
code_of Value = 3
code_of Nothing = 4

-- the bit of a container: whether a key is due behind it
unfoldable pub bit_of : Due → ℕ
bit_of Root = 0
bit_of Element = 0
bit_of Key = 1
bit_of Value = 0
bit_of Nothing = 0

-- a word with one bit more, the lowest
unfoldable pub pushed_of : ℕ → Due → ℕ
pushed_of word due = word % 2 ^ 63 * 2 + bit_of due

-- what is due behind the innermost container, where so many are open around it: nothing behind the outermost, else an element or a key
unfoldable pub behind_of : ℕ → ℕ → ℕ
behind_of word outer = cond (eqb outer 0) 4 (1 + word % 2)

-- the words with one bit more at a level, and one less
unfoldable pub push_of : List ℕ → ℕ → Due → List ℕ
push_of bits d due = set bits (d / 64) (pushed_of (get_or bits (d / 64) 0) due)

unfoldable pub pop_of : List ℕ → ℕ → List ℕ
pop_of bits d = set bits (d / 64) (get_or bits (d / 64) 0 / 2)

-- what is due once each of so many containers is closed, the innermost first
unfoldable pub open_from : ℕ → List ℕ → List Due
open_from zero bits = []
open_from (suc d) bits = due_of (behind_of (get_or bits (d / 64) 0) d) ∷ open_from d (pop_of bits d)

-- B2: more than the limit, which no call leads to, counts as the limit
unfoldable pub open_of : Builder → List Due
open_of b = open_from (min b.depth max_open) b.bits

-- the state behind an event that is taken, so many bytes then being held
unfoldable pub moved_by : Way → Builder → ℕ → Builder
moved_by (Past next) b n = record { held = n; due = code_of next; depth = b.depth; bits = b.bits }
moved_by (Into first after) b n = record { held = n; due = code_of first; depth = b.depth + 1; bits = push_of b.bits b.depth after }
moved_by Out b n = record { held = n; due = behind_of (get_or b.bits ((min b.depth max_open - 1) / 64) 0) (min b.depth max_open - 1); depth = min b.depth max_open - 1; bits = pop_of b.bits (min b.depth max_open - 1) }
moved_by (Barred r) b n = b
