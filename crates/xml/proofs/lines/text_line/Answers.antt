-- `text_line`: the length is read, and the bytes are there since an event is.
use Rattle.std.specs.Prelude.{Some}
use mathlib.Core.Path.{◌≡◌, sym, ◌∙◌}
use Prim.Native.Nat.{ℕ, ◌+◌, ◌≤◌}
use native.Mathlib.Omega.{arith}
use lib.ListN.{length}
use Rattle.event.specs.Meaning.{meaning_of}
use Rattle.event.specs.declared.Event.TheVariants.{String}
use Rattle.number.specs.BeLaws.{Bytes, bytes_of_law}
use Rattle.tape.specs.Code.{allowed}
use Rattle.tape.specs.Item.{bytes_at, item_at}
use Rattle.tape.specs.declared.item.Item.{Item}
use Rattle.xml.proofs.Telling.{text_none, text_some, lent_allowed, tells_item}
use Rattle.xml.specs.LineLaws.{lined_text}
use Rattle.xml.specs.Lines.{open_way}
use borrow.Author.Rules.{rules}
use Rattle.xml.proofs.lines.text_line.Goals as goal
use Rattle.xml.proofs.lines.text_line.Goals.{In-Some}

pub returns-in_default : goal.returns-in_default
returns-in_default c =
    absurd (text_none c.args.tape.now c.args.at c.requires.2 c.requires.3 (sym c.length_at.ensures ∙ c.in_default.is))

-- the item, of a tape that is bytes
abbrev item_of : (n start : ℕ) → Item
item_of n start = record { event = String; start = start; length = n; next = start + n }

found : (x : In-Some) →
    let a = x.args in
    let n = x.in-Some.n in
    let start = x.in-Some.start in
    Bytes a.tape.now × (start + n ≤ length a.tape.now) × (item_at a.tape.now a.at ≡ Some (item_of n start))
unfolding bytes_at
found x =
    let t = text_some x.args.tape.now x.args.at x.requires.2 x.requires.3 (sym x.length_at.ensures ∙ x.in-Some.is) in
    (bytes_of_law x.args.tape.now (search rules), t.0, sym t.1)

pub overflow_add-end : goal.overflow_add-end
overflow_add-end c = omega (arith, (found (goal.at.overflow_add-end c).In-Some).1)

pub slice_bounds-put_text-end : goal.slice_bounds-put_text-end
slice_bounds-put_text-end c = (found (goal.at.slice_bounds-put_text-end c).In-Some).1

pub returns : goal.returns
unfolding meaning_of allowed open_way
returns c =
    let f = found (goal.at.returns c).In-Some in
    let u = lent_allowed c.args.tape.now c.args.at f.0 _ f.2 in
    tells_item c.args.tape.now c.args.at f.0 _ f.2 _ _ _ _ _ _ (lined_text _ _ _ _ _ _ u (rw c.is_key.ensures at c.put_text.ensures)) (rw c.after.ensures)
