-- `end_of`: text by its own test, the other kinds by `end_by_kind`.
use mathlib.Core.Path.{ap, sym, ◌∙◌}
use lib.ListN.{length}
use Rattle.tape.specs.End.{after_bytes, end_behind}
use Rattle.tape.proofs.EndLaws.{end_of_law}
use Rattle.tape.proofs.unchecked.end_of.Goals as goal

pub returns-then-tape-at-eq9 : goal.returns-then-tape-at-eq9
unfolding end_behind
returns-then-tape-at-eq9 c =
    let a = c.args in
    c.after_bytes.ensures ∙ ap (after_bytes (length a.tape.now)) c.length_at.ensures ∙ sym (end_of_law a.tape.now a.at 0x09 c.if-at-tape.true c.if-tape-at-eq9.true)
