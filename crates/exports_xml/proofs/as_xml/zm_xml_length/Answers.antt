-- `zm_xml_length` hands the numbers on.
use Rattle.std.proofs.Common.{ap, ◌∙◌}
use Rattle.exports.specs.Write.{written_numbers}
use Rattle.exports.specs.declared.numbers.Numbers.{Numbers}
use Rattle.exports_xml.specs.Xml.{as_written}
use Rattle.xml.specs.Write.{Said}
use Rattle.exports_xml.proofs.as_xml.zm_xml_length.Goals as goal

pub returns : goal.returns
unfolding written_numbers
returns c =
    let w = c.numbers_of-numbers.ensures ∙ ap (λ (s : Said). written_numbers (as_written s)) c.measure_xml.ensures in
    record {
      value = ap (λ (x : Numbers). x.code) w;
      value_after = ap (λ (x : Numbers). x.place) w;
      expected_after = ap (λ (x : Numbers). x.expected) w;
      found_after = ap (λ (x : Numbers). x.found) w;
    }
