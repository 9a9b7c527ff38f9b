-- `zm_find` hands on the answer as numbers.
use Rattle.std.proofs.Common.{ap, ◌∙◌}
use Rattle.exports_find.specs.Find.{find_code, find_start, find_length, find_expected, find_found}
use Rattle.exports_find.proofs.find.zm_find.Goals as goal

pub returns : goal.returns
returns c =
    let e = c.find.ensures.result_value in
    let n = c.found_numbers-n.ensures in
    record {
      value = n.code ∙ ap find_code e;
      start_after = n.start ∙ ap find_start e;
      length_after = n.length ∙ ap find_length e;
      expected_after = n.expected ∙ ap find_expected e;
      found_after = n.found ∙ ap find_found e;
      bytes = c.find.ensures.bytes;
    }
