-- `zm_write` hands the numbers on.
use Rattle.std.proofs.Common.{ap, ◌∙◌}
use Rattle.exports.specs.Write.{written_numbers}
use Rattle.exports.specs.declared.numbers.Numbers.{Numbers}
use Rattle.exports.proofs.write.zm_write.Goals as goal

pub returns : goal.returns
unfolding written_numbers
returns c =
    let w = c.written_numbers-numbers.ensures ∙ ap written_numbers c.write_file.ensures.result_value in
    record {
      value = ap (λ (x : Numbers). x.code) w;
      value_after = ap (λ (x : Numbers). x.place) w;
      expected_after = ap (λ (x : Numbers). x.expected) w;
      found_after = ap (λ (x : Numbers). x.found) w;
      out_after = c.write_file.ensures.out_after;
      work_unchanged = c.write_file.ensures.work_unchanged;
      bytes = c.write_file.ensures.bytes;
    }
