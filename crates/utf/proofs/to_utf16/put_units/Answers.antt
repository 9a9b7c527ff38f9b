-- `put_units` stores the units of the definition, one after another.
use Rattle.std.proofs.Common.{◌≡◌, ◌∙◌, ap, arith, length}
use native.Mathlib.Numerals.{add-two}
use lib.Seq.{length-sets}
use Rattle.utf.specs.Unicode.{unit_bytes}
use Rattle.utf.specs.ScalarLaws.{utf16_one, utf16_two}
use Rattle.utf.proofs.to_utf16.put_units.Goals as goal

pub put_unit-requires : goal.put_unit-requires
unfolding unit_bytes
put_unit-requires c = rw (utf16_one c.args.v c.if-v-lt65536.true) at c.requires.0

pub returns-then-v-lt65536-clause-value : goal.returns-then-v-lt65536-clause-value
unfolding unit_bytes
returns-then-v-lt65536-clause-value c = rw (utf16_one c.args.v c.if-v-lt65536.true)

pub returns-then-v-lt65536-clause-out_after : goal.returns-then-v-lt65536-clause-out_after
returns-then-v-lt65536-clause-out_after c = rw (utf16_one c.args.v c.if-v-lt65536.true) c.put_unit.ensures

pub put_unit-requires-2 : goal.put_unit-requires-2
unfolding unit_bytes
put_unit-requires-2 c = let h = rw (utf16_two c.args.v c.if-v-lt65536.false) at c.requires.0 in omega (arith, h)

pub put_unit-requires-3 : goal.put_unit-requires-3
unfolding unit_bytes
put_unit-requires-3 c =
    let h = rw (utf16_two c.args.v c.if-v-lt65536.false) at c.requires.0 in
    let same : length c.put_unit-2.new.out ≡ length c.args.out.now = ap length c.put_unit-2.ensures ∙ simp length-sets in
    omega (arith, h, same)

pub returns-clause-value : goal.returns-clause-value
unfolding unit_bytes
returns-clause-value c = rw (utf16_two c.args.v c.if-v-lt65536.false)

pub returns-clause-out_after : goal.returns-clause-out_after
unfolding unit_bytes
returns-clause-out_after c = rw (utf16_two c.args.v c.if-v-lt65536.false) (c.put_unit-3.ensures ∙ rw (c.put_unit-2.ensures, add-two))
