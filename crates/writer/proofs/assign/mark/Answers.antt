-- A word that has no number gets the next.
use Rattle.std.proofs.Common.{sym, refl, ◌∙◌, eq-eqb, ne_eqb}
use Rattle.writer.specs.Marks.{new_words, new_next}
use Rattle.writer.proofs.assign.mark.Goals as goal

pub returns-then-word-eq0 : goal.returns-then-word-eq0
unfolding new_words new_next
returns-then-word-eq0 c =
    let e = eq-eqb _ _ (sym c.word.ensures.0 ∙ c.if-word-eq0.true) in
    rw e (c.set_word.ensures, refl)

pub returns : goal.returns
unfolding new_words new_next
returns c =
    let e = ne_eqb _ _ (λ z. c.if-word-eq0.false (c.word.ensures.0 ∙ z)) in
    rw e (refl, refl)
