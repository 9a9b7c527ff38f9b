-- `utf8_at`: the content, where it has room and is well formed. It ends within the file, since its room is measured from the marker.
use mathlib.Core.Bool.{true, false}
use mathlib.Core.Path.{◌≡◌, sym, ◌∙◌}
use native.Mathlib.Nat.{add-sub_cancel_left}
use native.Mathlib.Omega.{arith}
use Rattle.utf.specs.Unicode.{is_utf8}
use Rattle.number.specs.Part.{part}
use Rattle.object.specs.Content.{content_at}
use Rattle.object.specs.ContentLaws.{Fitting, fitting}
use Rattle.object.specs.Found.{found_of}
use Rattle.object.specs.Object.{utf8_in}
use Rattle.object.specs.declared.content.Content.TheVariants.{Fits}
use Rattle.object.proofs.read.utf8_at.Goals as goal
use Rattle.object.proofs.read.utf8_at.Lts as lts
use Rattle.object.proofs.read.utf8_at.Reads as reads
use Rattle.object.proofs.read.utf8_at.Tie as tie

-- the content that fits
told : (c : lts.Past-After-known_told2 tie.the-claims reads.Pre reads.Post) → let a = c.args in content_at a.file.now a.offset a.nibble 1 ≡ Fits c.in-Fits.extent
told c = sym c.content_at.ensures ∙ c.in-Fits.is

fits : (c : goal.In-Fits) → let a = c.args in Fitting a.file.now a.offset a.nibble c.in-Fits.extent 1
fits c = fitting _ _ _ _ _ (told c.before)

pub overflow_add-start : goal.overflow_add-start
overflow_add-start c =
    let f = fits c in
    omega arith

pub slice_bounds-is_utf8-end : goal.slice_bounds-is_utf8-end
slice_bounds-is_utf8-end c =
    let f = fits c in
    omega arith

pub returns-then-is_utf8 : goal.returns-then-is_utf8
unfolding found_of utf8_in
returns-then-is_utf8 c =
    let file = c.args.file.now in
    let e = c.in-Fits.extent in
    let t : is_utf8 (part file e.start e.count) ≡ true = rw add-sub_cancel_left at (sym c.is_utf8.ensures ∙ c.if-is_utf8.true) in
    rw (told c.before.before.before.before, t)

pub returns-in-Refused : goal.returns-in-Refused
unfolding found_of utf8_in
returns-in-Refused c = rw (sym c.content_at.ensures ∙ c.in-Refused.is)

pub returns-else-is_utf8 : goal.returns-else-is_utf8
unfolding found_of utf8_in
returns-else-is_utf8 c =
    let file = c.args.file.now in
    let e = c.in-Fits.extent in
    let t : is_utf8 (part file e.start e.count) ≡ false = rw add-sub_cancel_left at (sym c.is_utf8.ensures ∙ c.if-is_utf8.false) in
    rw (told c.before.before.before.before, t)
