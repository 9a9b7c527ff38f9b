-- `are_eight_simple`: what holds of all eight top bits holds of each byte.
use mathlib.Core.Bool.{false≢true}
use Rattle.xml.specs.SimpleLaws.{eight_tested}
use Rattle.xml.proofs.simple.are_eight_simple.Goals as goal

pub returns-then-x-ge9223372036854775808 : goal.returns-then-x-ge9223372036854775808
returns-then-x-ge9223372036854775808 c = record { tells = λ t n d e f. absurd (false≢true f) }

pub returns : goal.returns
returns c = record { tells = λ t n d e f. eight_tested c.args.x t n d e f }
