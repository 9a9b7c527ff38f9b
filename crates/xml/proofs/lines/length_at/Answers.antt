-- `length_at`: a last group that comes first is the whole number.
use Rattle.std.proofs.Common.{◌≡◌, ◌<◌, length, get_or, sym, rules}
use Rattle.tape.specs.ValueLaws.{number_one}
use Rattle.xml.proofs.lines.length_at.Goals as goal

pub returns-in-Some : goal.returns-in-Some
returns-in-Some c =
    let here : c.in-Some.group.now ≡ get_or c.args.tape.now c.args.at 0 = search rules in
    let within : c.args.at < length c.args.tape.now = search rules in
    rw here (sym (number_one _ _ within (rw here at c.if-group-lt128.true)))
