-- `utf16_units` counts where the check says yes.
use Rattle.std.specs.Prelude.{Some}
use mathlib.Core.Bool.{true}
use mathlib.Core.Path.{◌≡◌, sym, ap, ◌∙◌}
use Rattle.utf.specs.ToUtf16.{utf16_units_of}
use Rattle.utf.specs.ToUtf16Walk.{counted}
use Rattle.utf.specs.Unicode.{is_utf8}
use Rattle.utf.proofs.to_utf16.utf16_units.Goals as goal

pub returns-then-walk_utf8 : goal.returns-then-walk_utf8
unfolding utf16_units_of
returns-then-walk_utf8 c =
    let u : is_utf8 c.args.s.now ≡ true = sym c.walk_utf8.ensures ∙ c.if-walk_utf8.true in
    rw u (ap Some (c.units_in.ensures ∙ (counted _ u).0))

pub returns : goal.returns
unfolding utf16_units_of
returns c = rw (sym c.walk_utf8.ensures ∙ c.if-walk_utf8.false)
