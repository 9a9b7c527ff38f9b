-- Through the promise of `next`: calls of a fresh reader on a written file, each with the reader that the one before returned, answer the events, then
-- the end.
use mathlib.Core.List.{List, ◌++◌, map}
use mathlib.Core.Path.{◌≡◌, ap, ◌∙◌}
use Prim.Native.Nat.{ℕ, ◌+◌}
use lib.ListN.{length, replicate}
use Rattle.event.specs.Meaning.{Meaning}
use Rattle.reader.proofs.Calls.{Fresh, Calls, fresh_is, answers_said}
use Rattle.reader.specs.Calls.{calls, answers_of}
use Rattle.reader.specs.Machine.{ended}
use Rattle.reader.specs.Said.{said}
use Rattle.reader.specs.declared.answer.Stepped.{Stepped}
use Rattle.reader.specs.declared.state.Reader.{Reader}
use Rattle.written.specs.File.{file_for}
use Rattle.written_claims.specs.Accepted.{Accepted}
use Rattle.written_claims.proofs.ReadBack.{said_of, said_back}

pub next_back : (ms : List Meaning) → Accepted ms → (first : Reader) → Fresh first → (m : ℕ) (ss : List Stepped) → length ss ≡ length ms + m → Calls (file_for ms) first ss
    → map (λ (s : Stepped). said s.answer) ss ≡ said_of ms ++ replicate m ended
next_back ms a first f m ss l c =
    let is : map (λ (s : Stepped). said s.answer) ss ≡ answers_of (calls (length ms + m) (file_for ms) first) = rw l at (answers_said (file_for ms) first ss c) in
    is ∙ ap (λ r. answers_of (calls (length ms + m) (file_for ms) r)) (fresh_is first f) ∙ said_back ms a m
