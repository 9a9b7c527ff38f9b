-- `zm_xml` hands the numbers on, and the memory as it is.
use Rattle.std.proofs.Common.{ap, ◌∙◌}
use Rattle.exports.specs.Write.{written_numbers}
use Rattle.exports.specs.declared.numbers.Numbers.{Numbers}
use Rattle.exports_xml.specs.Xml.{as_written}
use Rattle.xml.specs.Write.{Said}
use Rattle.exports_xml.proofs.as_xml.zm_xml.Goals as goal

pub returns : goal.returns
unfolding written_numbers
returns c =
    let w = c.numbers_of-numbers.ensures ∙ ap (λ (s : Said). written_numbers (as_written s)) c.write_xml.ensures.result_value in
    record {
      value = ap (λ (x : Numbers). x.code) w;
      value_after = ap (λ (x : Numbers). x.place) w;
      expected_after = ap (λ (x : Numbers). x.expected) w;
      found_after = ap (λ (x : Numbers). x.found) w;
      out_after = c.write_xml.ensures.out_after;
      bytes = c.write_xml.ensures.bytes;
    }
