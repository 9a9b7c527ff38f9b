-- `units_of`: a value below 10000 has one unit, any other two.
use Rattle.std.proofs.Common.{sym, ap, length}
use Rattle.utf.specs.ScalarLaws.{utf16_one, utf16_two}
use Rattle.utf.proofs.to_utf16.units_of.Goals as goal

pub returns-then-v-lt65536 : goal.returns-then-v-lt65536
returns-then-v-lt65536 c = sym (ap length (utf16_one _ c.if-v-lt65536.true))

pub returns-else-v-lt65536 : goal.returns-else-v-lt65536
returns-else-v-lt65536 c = sym (ap length (utf16_two _ c.if-v-lt65536.false))
