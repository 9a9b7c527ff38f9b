-- `measure_xml` hands on the refusal of the check, or measures the lines.
use Rattle.xml.specs.Said.{answer_said}
use Rattle.xml.proofs.Wholly.{is_rooted, is_refused}
use Rattle.xml.proofs.measure_xml.Goals as goal

pub measure_lines-requires : goal.measure_lines-requires
measure_lines-requires c = is_rooted c.check_tape.ensures c.in-Whole.is

pub returns-in-Refused : goal.returns-in-Refused
unfolding answer_said
returns-in-Refused c =
    is_refused c.args.tape.now c.check_tape.ensures c.in-Refused.is

pub returns-in-Whole : goal.returns-in-Whole
returns-in-Whole c = c.measure_lines.ensures
