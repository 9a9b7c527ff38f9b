-- `zm_build_finish` hands the numbers on.
use mathlib.Core.Path.{ap}
use Rattle.exports.specs.declared.numbers.Numbers.{Numbers}
use Rattle.exports_build.proofs.build.zm_build_finish.Goals as goal

pub returns : goal.returns
returns c =
    let w = c.finished-numbers.ensures.value in
    record {
      value = ap (λ (x : Numbers). x.code) w;
      value_after = ap (λ (x : Numbers). x.place) w;
      expected_after = ap (λ (x : Numbers). x.expected) w;
      found_after = ap (λ (x : Numbers). x.found) w;
      out_after = c.finished-numbers.ensures.out_after;
      work_unchanged = c.finished-numbers.ensures.work_unchanged;
    }
