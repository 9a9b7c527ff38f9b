-- A builder in lent words, call by call, with the answers as numbers. docs/FORMAT.md, rules B7 and B8.
use Rattle.std.specs.Prelude.{cond, List, [], ℕ, None, Option, Some}
use Rattle.event.specs.Meaning.{Meaning}
use Rattle.writer.specs.Write as file
use Rattle.builder.specs.Build.{Said, holds, refused, build_of, tape_after, builder_after}
use Rattle.builder.specs.Finish.{finish_of, finish_output, finish_used}
use Rattle.builder.specs.State.{empty_builder}
use Rattle.builder.specs.Words.{few_words, builder_in, store_of}
use Rattle.builder.specs.declared.state.Builder.{Builder}
use Rattle.tape.specs.BytesLaws.{Sound}
use Rattle.exports.specs.Codes.{Lent}
use Rattle.exports.specs.Write.{first_number, second_number}
unfoldable pub use Rattle.exports.specs.Write.{written_numbers}
use Rattle.exports.specs.declared.numbers.Numbers.{Numbers}

unfoldable pub begin_code : List ℕ → ℕ
begin_code words = cond (few_words words) 252 0

unfoldable pub begun_words : List ℕ → List ℕ
begun_words words = store_of words empty_builder

-- answers as numbers: 0 and what is held, or a refusal with its place and the kinds that it names
unfoldable pub numbers_by : Said → Numbers
numbers_by (holds n) = record { code = 0; place = n; expected = 0; found = 0 }
numbers_by (refused number kinds place) = record { code = number; place = place; expected = first_number kinds; found = second_number kinds }

-- 252 for too few words, then 251 for what is no event, then the builder's own answer
unfoldable pub meant_call : Builder → ℕ → Option Meaning → Said
meant_call b room (Some m) = build_of b room m
meant_call b room None = refused 251 [] 0

unfoldable pub call_of : List ℕ → ℕ → Option Meaning → Said
call_of words room m = cond (few_words words) (refused 252 [] 0) (meant_call (builder_in words) room m)

-- the words afterwards: those of the builder behind the event, or as they were
unfoldable pub words_by : Said → List ℕ → Builder → List ℕ
words_by (holds n) words b = store_of words b
words_by (refused number kinds place) words b = words

unfoldable pub meant_words : List ℕ → ℕ → Option Meaning → List ℕ
meant_words words room (Some m) = words_by (build_of (builder_in words) room m) words (builder_after (builder_in words) room m)
meant_words words room None = words

unfoldable pub called_words : List ℕ → ℕ → Option Meaning → List ℕ
called_words words room m = cond (few_words words) words (meant_words words room m)

-- and the tape
unfoldable pub meant_tape : Builder → List ℕ → Option Meaning → List ℕ
meant_tape b tape (Some m) = tape_after b tape m
meant_tape b tape None = tape

unfoldable pub called_tape : List ℕ → List ℕ → Option Meaning → List ℕ
called_tape words tape m = cond (few_words words) tape (meant_tape (builder_in words) tape m)

-- the file of what is held
unfoldable pub finish_call : List ℕ → List ℕ → ℕ → ℕ → file.Said
finish_call words tape work room = cond (few_words words) (file.refused 252 [] 0) (finish_of (builder_in words) tape work room)

unfoldable pub finished_output : List ℕ → List ℕ → ℕ → List ℕ → List ℕ
finished_output words tape work out = cond (few_words words) out (finish_output (builder_in words) tape work out)

unfoldable pub finished_used : List ℕ → List ℕ → ℕ → ℕ
finished_used words tape work = cond (few_words words) 0 (finish_used (builder_in words) tape work)

-- what a caller hands over: no tape is as long as 2^63, numbers have 64 bits, bytes are bytes
abbrev pub SoundFor : Option Meaning → Type 0
SoundFor (Some m) = Sound m
SoundFor None = Unit {0}

abbrev pub Handed : List ℕ → Option Meaning → Type 0
Handed tape m = Lent tape × SoundFor m
