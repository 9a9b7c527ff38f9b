-- `width_of` is the number of bytes by the four ranges.
use Rattle.std.proofs.Common.{sym, ap, arith, length}
use Rattle.utf.specs.ScalarLaws.{utf8_one, utf8_two, utf8_three, utf8_four}
use Rattle.utf.proofs.utf16.width_of.Goals as goal

pub returns-in-0-to-127 : goal.returns-in-0-to-127
returns-in-0-to-127 c = sym (ap length (utf8_one c.args.v (omega arith)))

pub returns-in-128-to-2047 : goal.returns-in-128-to-2047
returns-in-128-to-2047 c = sym (ap length (utf8_two c.args.v (omega arith) (omega arith)))

pub returns-in-2048-to-65535 : goal.returns-in-2048-to-65535
returns-in-2048-to-65535 c = sym (ap length (utf8_three c.args.v (omega arith) (omega arith)))

pub returns-in_default : goal.returns-in_default
returns-in_default c = sym (ap length (utf8_four c.args.v (omega arith)))
