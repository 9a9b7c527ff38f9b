-- `write_character` writes one of three entities, or the byte.
use Rattle.std.proofs.Common.{refl, ap, arith, length}
use Rattle.xml.specs.TextLaws.{escape_amp, escape_lt, escape_gt, escape_other}
use Rattle.xml.specs.Xml.{entity}
use Rattle.xml.proofs.text.write_character.Goals as goal

pub bounds-out-at : goal.bounds-out-at
bounds-out-at c = omega (arith, ap length (escape_other c.args.b (λ e. omega arith) (λ e. omega arith) (λ e. omega arith)), c.requires)

pub returns-in-38 : goal.returns-in-38
unfolding entity
returns-in-38 c = rw (escape_amp c.args.b c.in-38.is) c.write_piece.ensures

pub returns-in-60 : goal.returns-in-60
unfolding entity
returns-in-60 c = rw (escape_lt c.args.b c.in-60.is) c.write_piece-in-60.ensures

pub returns-in-62 : goal.returns-in-62
unfolding entity
returns-in-62 c = rw (escape_gt c.args.b c.in-62.is) c.write_piece-in-62.ensures

pub returns-in_default : goal.returns-in_default
returns-in_default c = rw (escape_other c.args.b (λ e. omega arith) (λ e. omega arith) (λ e. omega arith)) (record { place = refl; memory = refl })
