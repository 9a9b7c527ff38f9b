-- `write_file`: what the check says, then whether the words are enough, then what `write_events` answers of the part that it is lent.
use Rattle.std.proofs.Common.{◌≡◌, ℕ, ◌*◌, ◌≤◌, List, length, sym, refl, ap, ◌∙◌, arith, rules, length-take-le, drop_at}
use Rattle.number.specs.BeLaws.{bytes_of_law}
use Rattle.grammar.specs.Check.{check_of}
use Rattle.grammar.specs.Said.{whole, checked_said}
use Rattle.grammar.specs.declared.answer.Checked.{Checked}
use Rattle.grammar.specs.declared.answer.Checked.TheVariants.{Whole}
use Rattle.writer.specs.CheckLaws.{ready_of}
use Rattle.writer.specs.FittedLaws.{at_refusal, at_words, at_file}
use Rattle.writer.proofs.write_file.Goals as goal

-- how many events there are, where the check says so
counted : (t : List ℕ) {r : Checked} {n : ℕ} → checked_said r ≡ check_of t → r ≡ Whole n → check_of t ≡ whole n
unfolding checked_said
counted t e f = sym e ∙ ap checked_said f

pub returns-in-Refused : goal.returns-in-Refused
unfolding checked_said
returns-in-Refused c =
    let a = c.args in
    let w = at_refusal a.tape.now (length a.work.now) a.out.now c.in-Refused.refusal c.in-Refused.place (sym c.check_tape.ensures ∙ ap checked_said c.in-Refused.is) in
    record { result_value = w.0; out_after = w.1; work_unchanged = refl; bytes = bytes_of_law a.tape.now (search rules) }

pub returns-then-work-n : goal.returns-then-work-n
returns-then-work-n c =
    let a = c.args in
    let w = at_words a.tape.now (length a.work.now) a.out.now c.in-Whole.n (counted _ c.check_tape.ensures c.in-Whole.is) (omega (arith, c.if-work-n.true)) in
    record { result_value = w.0; out_after = w.1; work_unchanged = refl; bytes = bytes_of_law a.tape.now (search rules) }

pub slice_bounds-write_events-end-2 : goal.slice_bounds-write_events-end-2
slice_bounds-write_events-end-2 c = sym (length-take-le _ _ (omega (arith, c.if-work-n.false)))

pub invariant_of-write_events : goal.invariant_of-write_events
invariant_of-write_events c =
    let t = c.args.tape.now in
    record { ready = ready_of t c.in-Whole.n (bytes_of_law t (search rules)) (counted _ c.check_tape.ensures c.in-Whole.is) }

pub write_events-requires : goal.write_events-requires
write_events-requires c = length-take-le _ _ (omega (arith, c.if-work-n.false))

-- the part of the words that is lent has eight for each event
pub returns : goal.returns
returns c =
    let a = c.args in
    let n = c.in-Whole.n in
    let w = c.write_events in
    let room : n * 8 ≤ length a.work.now = omega (arith, c.if-work-n.false) in
    let f = at_file a.tape.now (length a.work.now) a.out.now n (counted _ c.check_tape.ensures c.in-Whole.is) room in
    let long : length w.new.work ≡ n * 8 = omega (arith, length-take-le (n * 8) a.work.now room) in
    record {
      result_value = w.ensures.result_value ∙ sym f.0;
      out_after = w.ensures.out_after ∙ sym f.1;
      work_unchanged = rw f.2 (drop_at w.new.work _ _ long);
      bytes = bytes_of_law a.tape.now (search rules);
    }
