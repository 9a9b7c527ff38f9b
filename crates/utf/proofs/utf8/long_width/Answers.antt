-- `long_width`: the bytes of the first byte's row follow it, or they don't.
use mathlib.Core.Bool.{◌&&◌, and-true, and_assoc}
use mathlib.Core.List.{[], ◌∷◌}
use Rattle.std.proofs.Common.{◌≡◌, ◌∙◌, arith, get_or, drop}
use Rattle.utf.specs.Unicode.{◌to◌}
use Rattle.utf.specs.Utf8Walk.{low_after, high_after, later, next_in, follow, after_four, after_above, first_at, front}
use Rattle.utf.proofs.utf8.long_width.Goals.{then-follows, else-follows, then-follows-2, else-follows-2}
use Rattle.utf.proofs.utf8.long_width.Goals as goal

pub returns-then-first-gt244 : goal.returns-then-first-gt244
returns-then-first-gt244 c = first_at c.args.s.now 0 c.requires.0 ∙ after_above _ _ (omega arith) (omega (arith, c.type_inv.s 0))

pub returns : goal.returns
returns c =
    let s = c.args.s.now in
    let b = get_or s 0 0 in
    let second : c.follows.result ≡ next_in (low_after b to high_after b) (drop 1 s) = rw (c.second_of.ensures.0, c.second_of.ensures.1) at c.follows.ensures in
    let two : c.if-follows.value ≡ (next_in (low_after b to high_after b) (drop 1 s) && next_in later (drop 2 s)) =
    elim c.if-follows.branch [
      | then-follows w ↦ rw (← second, w.if-follows.true) (w.value-is ∙ w.follows-then-follows.ensures)
      | else-follows w ↦ rw (← second, w.if-follows.false) (w.value-is ∙ w.if-follows.false)
    ] in
    let all : c.if-follows-2.then_some ≡ follow s 1 (low_after b to high_after b ∷ later ∷ later ∷ []) =
    elim c.if-follows-2.branch [
      | then-follows-2 w ↦ rw (and-true, ← and_assoc, ← two, w.if-follows-2.true) (w.then_some-is ∙ w.follows-then-follows-2.ensures)
      | else-follows-2 w ↦ rw (← and_assoc, ← two, w.if-follows-2.false) (w.then_some-is ∙ w.if-follows-2.false)
    ] in
    rw (c.then_some.ensures, all) (front s _ c.requires.0 (after_four _ _ c.requires.1 (omega arith)))
