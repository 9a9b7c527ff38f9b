-- `write_events`: the plan tells the file's length, and so what is answered; then the file is put.
use Rattle.std.proofs.Common.{ℕ, Ok, ap, ◌∙◌, arith}
use Rattle.written.specs.File.{file_of}
use Rattle.writer.specs.FittedLaws.{fitted_long, fitted_short, fitted_in}
use Rattle.writer.specs.Ready.{pieces_in}
use Rattle.writer.specs.Write.{written_said}
use Rattle.writer.proofs.write_events.Goals as goal

pub returns-then-plan-gt-MAX_LENGTH : goal.returns-then-plan-gt-MAX_LENGTH
returns-then-plan-gt-MAX_LENGTH c =
    let a = c.args in
    let l = c.plan_file-plan.ensures.long in
    let both = fitted_long (file_of (pieces_in a.events.tape.now)) a.out.now (omega (arith, l, c.if-plan-gt-MAX_LENGTH.true)) in record { result_value = both.0; out_after = both.1 }

pub returns-then-out-plan : goal.returns-then-out-plan
returns-then-out-plan c =
    let a = c.args in
    let l = c.plan_file-plan.ensures.long in
    let both = fitted_short (file_of (pieces_in a.events.tape.now)) a.out.now (omega (arith, l, c.if-plan-gt-MAX_LENGTH.false)) (omega (arith, l, c.if-out-plan.true)) in record { result_value = both.0; out_after = both.1 }

pub returns : goal.returns
returns c =
    let a = c.args in
    let l = c.plan_file-plan.ensures.long in
    let f = fitted_in (file_of (pieces_in a.events.tape.now)) a.out.now (omega (arith, l, c.if-plan-gt-MAX_LENGTH.false)) (omega (arith, l, c.if-out-plan.false)) in
    (record { result_value = ap (λ (n : ℕ). written_said (Ok n)) l ∙ f.0; out_after = c.put_file.ensures ∙ f.1 })
