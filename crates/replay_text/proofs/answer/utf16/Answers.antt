-- What was written fits the memory that it was lent.
use Rattle.std.proofs.Common.{◌≤◌, length, sym, arith, length-take-le}
use Rattle.utf.specs.ChangedAnswers.{written_fits}
use Rattle.replay_text.proofs.answer.utf16.Goals as goal

pub slice_bounds-text-end : goal.slice_bounds-text-end
slice_bounds-text-end g c = omega (arith, c.utf16_to_utf8-changed.auto.out, written_fits _ _ _ _ (sym c.in-Written.ensures.value))

pub slice_bounds-yes-end : goal.slice_bounds-yes-end
slice_bounds-yes-end g c =
    let fits : c.in-Written.n ≤ length c.utf16_to_utf8-changed.new.out = omega (arith, c.utf16_to_utf8-changed.auto.out, written_fits _ _ _ _ (sym c.in-Written.ensures.value)) in
    sym (length-take-le _ _ fits)
