-- `zm_build` hands the numbers on.
use mathlib.Core.Path.{ap}
use Prim.Native.Nat.{ℕ}
use native.Mathlib.Omega.{arith}
use Rattle.number.specs.BeLaws.{bytes_of_law}
use Rattle.exports_build.specs.BuildLaws.{sound_for}
use Rattle.exports.specs.declared.numbers.Numbers.{Numbers}
use borrow.Author.Rules.{rules}
use Rattle.exports_build.proofs.build.zm_build.Goals as goal

pub returns : goal.returns
returns c =
    let a = c.args in
    let w = c.called-numbers.ensures.value in
    record {
      value = ap (λ (x : Numbers). x.code) w;
      place_after = ap (λ (x : Numbers). x.place) w;
      expected_after = ap (λ (x : Numbers). x.expected) w;
      found_after = ap (λ (x : Numbers). x.found) w;
      builder_after = c.called-numbers.ensures.builder_after;
      tape_after = c.called-numbers.ensures.tape_after;
      handed =
          -- the event's number has 64 bits, and its bytes are bytes
          (search rules, sound_for a.kind a.value a.bytes.now (search rules) (search rules) (bytes_of_law a.bytes.now (λ (i : ℕ). omega (arith, c.type_inv.bytes i))));
    }
