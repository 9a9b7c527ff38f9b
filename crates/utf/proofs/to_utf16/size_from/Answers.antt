-- `size_from`: the first byte, and those that follow it.
use Rattle.std.proofs.Common.{arith}
use Rattle.utf.specs.Utf8Bits.{first_one, first_two, first_three, first_four}
use Rattle.utf.proofs.to_utf16.size_from.Goals as goal

pub returns-in-0-to-127 : goal.returns-in-0-to-127
returns-in-0-to-127 c = (omega (arith, (first_one c.args.b (omega arith)).0), omega arith)

pub returns-in-128-to-223 : goal.returns-in-128-to-223
returns-in-128-to-223 c = (omega (arith, (first_two c.args.b (omega arith) (omega arith)).0), omega arith)

pub returns-in-224-to-239 : goal.returns-in-224-to-239
returns-in-224-to-239 c = (omega (arith, (first_three c.args.b (omega arith) (omega arith)).0), omega arith)

pub returns-in_default : goal.returns-in_default
returns-in_default c = (omega (arith, (first_four c.args.b (omega arith)).0), omega arith)
