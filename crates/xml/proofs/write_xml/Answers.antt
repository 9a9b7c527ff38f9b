-- `write_xml` measures, then writes all where it fits.
use mathlib.Core.Path.{sym, ap, ◌∙◌}
use Prim.Native.Nat.{ℕ}
use native.Mathlib.Omega.{arith}
use Rattle.number.specs.BeLaws.{bytes_of_law}
use Rattle.xml.specs.Said.{answer_said}
use Rattle.xml.proofs.Wholly.{long_rooted, is_kept, is_narrow, is_long}
use Rattle.xml.proofs.write_xml.Goals as goal

pub returns-then-out-size : goal.returns-then-out-size
unfolding answer_said
returns-then-out-size c =
    let m = sym (ap answer_said c.in-Length.is) ∙ c.measure_xml.ensures in
    let n = is_narrow c.args.tape.now c.args.out.now m c.if-out-size.true in
    (record { result_value = n.0; out_after = n.1; bytes = bytes_of_law c.args.tape.now (λ (k : ℕ). omega (arith, c.type_inv.tape k)) })

pub put_whole-requires : goal.put_whole-requires
unfolding answer_said
put_whole-requires c =
    let r = long_rooted c.args.tape.now _ (sym (ap answer_said c.in-Length.is) ∙ c.measure_xml.ensures) in
    (r.0, r.1, omega (arith, r.2, c.if-out-size.false))

pub returns-else-out-size : goal.returns-else-out-size
unfolding answer_said
returns-else-out-size c =
    let measure-xml = c.measure_xml in
    let m = sym (ap answer_said c.in-Length.is) ∙ measure-xml.ensures in
    let n = is_long c.args.tape.now c.args.out.now m c.if-out-size.false c.put_whole.ensures in
    (record { result_value = n.0; out_after = n.1; bytes = bytes_of_law c.args.tape.now (λ (k : ℕ). omega (arith, c.type_inv.tape k)) })

pub returns-in-Refused : goal.returns-in-Refused
unfolding answer_said
returns-in-Refused c =
    let n = is_kept c.args.tape.now c.args.out.now (sym (ap answer_said c.in-Refused.is) ∙ c.measure_xml.ensures) in
    (record { result_value = n.0; out_after = n.1; bytes = bytes_of_law c.args.tape.now (λ (k : ℕ). omega (arith, c.type_inv.tape k)) })

pub returns-in-Barred : goal.returns-in-Barred
unfolding answer_said
returns-in-Barred c =
    let n = is_kept c.args.tape.now c.args.out.now (sym (ap answer_said c.in-Barred.is) ∙ c.measure_xml.ensures) in
    (record { result_value = n.0; out_after = n.1; bytes = bytes_of_law c.args.tape.now (λ (k : ℕ). omega (arith, c.type_inv.tape k)) })

pub returns-in-NoRoom : goal.returns-in-NoRoom
unfolding answer_said
returns-in-NoRoom c =
    let n = is_kept c.args.tape.now c.args.out.now (sym (ap answer_said c.in-NoRoom.is) ∙ c.measure_xml.ensures) in
    (record { result_value = n.0; out_after = n.1; bytes = bytes_of_law c.args.tape.now (λ (k : ℕ). omega (arith, c.type_inv.tape k)) })
