-- `build`: 32, 1, what the grammar refuses, 27, or the event is behind what was held.
use mathlib.Core.Path.{sym, ◌∙◌}
use Prim.Native.Nat.{ℕ}
use lib.ListN.{get_or}
use mir.Syntax.{w8}
use mir.Val.{Fits}
use native.Mathlib.Omega.{arith}
use borrow.Author.Rules.{rules}
use Rattle.event.specs.Meaning.{meaning_of}
use Rattle.number.specs.BeLaws.{bytes_of_law}
use Rattle.grammar.specs.Said.{number_of, kinds_of}
use Rattle.tape.proofs.Range.{in_range_law}
use Rattle.tape.specs.BytesLaws.{Sound}
use Rattle.builder.specs.Build.{answer_said}
use Rattle.builder.specs.CallsLaws.{judge_tells}
use Rattle.builder.proofs.Building.{filled, full_by, Short, shrank, long, stopped, taken, full}
use Rattle.builder.proofs.build.build.Goals as goal
use Rattle.builder.proofs.build.build.Goals.{Start, Else-lacks_event}

-- the event's numbers have 64 bits, and its bytes are bytes
sound : (c : goal.Start) → ((i : ℕ) → Fits w8 (get_or c.args.bytes.now i 0)) → let a = c.args in Sound (meaning_of a.event a.bytes.now)
sound c bytes =
    let a = c.args in
    (in_range_law a.event a.bytes.now _ c.well_formed.1.1.0 (search rules), filled a.event a.bytes.now (bytes_of_law a.bytes.now (λ (i : ℕ). omega (arith, bytes i))))

-- nothing is refused before the event itself
short : (c : goal.Else-lacks_event) (bytes : (i : ℕ) → Fits w8 (get_or c.args.bytes.now i 0)) → let a = c.args in Short a.builder.now a.tape.now (meaning_of a.event a.bytes.now) (sound (goal.at.Else-lacks_event c).Start bytes)
short c _ = (c.if-tape-held.false, sym c.lacks_event.ensures ∙ c.if-lacks_event.false)

pub returns-then-tape-held : goal.returns-then-tape-held
unfolding answer_said
returns-then-tape-held c = shrank _ _ _ (sound (goal.at.returns-then-tape-held c).Start c.type_inv.bytes) c.if-tape-held.true

pub returns-then-lacks_event : goal.returns-then-lacks_event
unfolding answer_said number_of kinds_of
returns-then-lacks_event c =
    long _ _ _ (sound (goal.at.returns-then-lacks_event c).Start c.type_inv.bytes) c.if-tape-held.false (sym c.lacks_event.ensures ∙ c.if-lacks_event.true)

pub returns-in-Barred : goal.returns-in-Barred
unfolding answer_said
returns-in-Barred c =
    let s = goal.at.returns-in-Barred c in
    stopped _ _ _ (sound s.Start c.type_inv.bytes) (short s.Else-lacks_event c.type_inv.bytes) c.judge-way.ensures _ c.in-Barred.is

pub returns-in_default-append : goal.returns-in_default-append
unfolding answer_said
returns-in_default-append c =
    let s = goal.at.returns-in_default-append c in
    full _ _ _ (sound s.Start c.type_inv.bytes) (short s.Else-lacks_event c.type_inv.bytes) c.judge-way.ensures c.in_default.not-Barred _ c.append.ensures.result_value c.append.ensures.tape_after (full_by _ c.in_default-append.not-Held)

pub step-requires : goal.step-requires
step-requires c = rw c.judge-way.ensures (judge_tells _ _ _)

pub returns : goal.returns
returns c =
    let s = goal.at.returns c in
    taken _ _ _ (sound s.Start c.type_inv.bytes) (short s.Else-lacks_event c.type_inv.bytes) c.judge-way.ensures c.in_default.not-Barred _ c.in-Held.is c.append.ensures.result_value c.append.ensures.tape_after c.step.ensures
