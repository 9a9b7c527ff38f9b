-- `put_unit` stores a unit's two bytes, one after the other.
use Rattle.std.proofs.Common.{◌≡◌, ◌/◌, ◌%◌, add-one, arith}
use Rattle.utf.specs.Unicode.{unit_bytes}
use Rattle.utf.proofs.to_utf16.put_unit.Goals as goal

pub returns : goal.returns
unfolding unit_bytes
returns c =
    let high : c.args.unit / 256 % 256 ≡ c.args.unit / 256 = omega arith in
    rw (c.to_be_bytes.ensures, high, add-one)
