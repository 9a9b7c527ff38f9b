-- `asked_for` answers 1 first, then goes by the trailer.
use mathlib.Core.List.{List, []}
use mathlib.Core.Path.{◌≡◌, refl, sym, ap, ◌∙◌}
use Prim.Native.Nat.{ℕ}
use borrow.Author.Tests.{lt-ltb, le-ltb}
use Rattle.layout.specs.Bytes.{denied}
use Rattle.layout.specs.Said.{number_of as file_number, values_of as file_values, trailer_said}
use Rattle.layout.specs.Trailer.{trailer_of, trailer_in}
use Rattle.layout.specs.declared.layout.Layout.{Layout}
use Rattle.layout.specs.declared.trailer.TrailerRead.{TrailerRead}
use Rattle.layout.specs.declared.trailer.TrailerRead.TheVariants.{Keeps, Ends, Lays}
use Rattle.reader.specs.Request.{asked_by, asked_of}
use Rattle.reader.specs.Said.{number_of, values_of, asked_said}
use Rattle.reader.specs.declared.answer.Record.{Record}
use Rattle.reader.proofs.request.asked_for.Goals as goal
use Rattle.reader.proofs.request.asked_for.Goals.{Else-file-gt-MAX_LENGTH}

-- a trailer that is refused
others : (file : List ℕ) (r : Record) (x : TrailerRead) → ((l : Layout) (root : ℕ) → x ≡ Lays l root → ⊥) → denied 17 [] ≡ asked_by file r (trailer_said x)
unfolding asked_by trailer_said
others file r (Keeps a b) _ = refl
others file r (Ends a b) _ = refl
others file r (Lays l root) k = absurd (k l root refl)

pub returns-then-file-gt-MAX_LENGTH : goal.returns-then-file-gt-MAX_LENGTH
unfolding asked_of asked_said number_of values_of file_number file_values
returns-then-file-gt-MAX_LENGTH c = rw (lt-ltb _ _ c.if-file-gt-MAX_LENGTH.true)

-- a file that isn't too long has the trailer that is read
short : (c : goal.Else-file-gt-MAX_LENGTH) → trailer_in c.args.file.now ≡ trailer_of c.args.file.now
unfolding trailer_in
short c = rw (le-ltb _ _ c.if-file-gt-MAX_LENGTH.false)

pub returns-in-Lays : goal.returns-in-Lays
unfolding asked_of asked_by trailer_said
returns-in-Lays c =
    let t = sym c.trailer_of.ensures ∙ ap trailer_said c.in-Lays.is in
    rw (le-ltb _ _ c.if-file-gt-MAX_LENGTH.false, sym (short (goal.at.returns-in-Lays c).Else-file-gt-MAX_LENGTH) ∙ t) c.asked_under.ensures

pub returns-in_default : goal.returns-in_default
unfolding asked_of asked_said number_of values_of
returns-in_default c =
    rw (le-ltb _ _ c.if-file-gt-MAX_LENGTH.false, ← short (goal.at.returns-in_default c).Else-file-gt-MAX_LENGTH)
    (others c.args.file.now _ c.trailer_of.result c.in_default.not-Lays ∙ ap (asked_by _ _) c.trailer_of.ensures)
