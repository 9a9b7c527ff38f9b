-- `read_eight` reads the number of the first eight bytes.
use mathlib.Core.Path.{sym, ap, ◌∙◌}
use native.Mathlib.Omega.{arith}
use lib.Seq.{length-take-le, take_all}
use Rattle.number.specs.Be.{be}
use Rattle.number.proofs.be.read_eight.Goals as goal

pub returns-then-part-lt8 : goal.returns-then-part-lt8
returns-then-part-lt8 c = c.horner.ensures ∙ ap be (sym (take_all 8 c.args.part.now (omega arith)))

pub slice_bounds-horner-end : goal.slice_bounds-horner-end
slice_bounds-horner-end c = sym (length-take-le 8 c.args.part.now (omega arith))

pub horner-requires-2 : goal.horner-requires-2
horner-requires-2 c = rw (length-take-le 8 c.args.part.now (omega arith)) (omega arith)

pub returns : goal.returns
returns c = c.horner-2.ensures
