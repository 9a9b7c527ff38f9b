-- `item_at`: the kinds with an arm are read as `step` reads them, the others by `step`.
use mathlib.Core.Path.{sym, ◌∙◌}
use native.Mathlib.Omega.{arith}
use Rattle.tape.specs.Item.{of_kind}
use Rattle.tape.specs.KindsLaws.{item_of}
use Rattle.tape.specs.SaidLaws.{said_item}
use Rattle.xml.proofs.Telling.{held_within}
use Rattle.xml.proofs.lines.item_at.Goals as goal

pub overflow_add-next : goal.overflow_add-next
overflow_add-next c = omega (arith, held_within c.args.tape.now c.args.at c.requires)

pub bounds-tape-at : goal.bounds-tape-at
bounds-tape-at c = held_within c.args.tape.now c.args.at c.requires

pub returns-in-10 : goal.returns-in-10
unfolding of_kind
returns-in-10 c = c.no_bytes.ensures ∙ sym (item_of _ _ _ (held_within _ _ c.requires) c.in-10.is)

pub returns-in-12 : goal.returns-in-12
unfolding of_kind
returns-in-12 c = c.no_bytes-in-12.ensures ∙ sym (item_of _ _ _ (held_within _ _ c.requires) c.in-12.is)

pub returns-in-14 : goal.returns-in-14
unfolding of_kind
returns-in-14 c = c.no_bytes-in-14.ensures ∙ sym (item_of _ _ _ (held_within _ _ c.requires) c.in-14.is)

pub returns-in_default : goal.returns-in_default
returns-in_default c = said_item _ _ c.step.ensures
