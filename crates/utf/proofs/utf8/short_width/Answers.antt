-- `short_width`: the bytes of the first byte's row follow it, or they don't.
use mathlib.Core.Bool.{and-true}
use mathlib.Core.List.{[], ◌∷◌}
use Rattle.std.proofs.Common.{◌≡◌, sym, ◌∙◌, get_or, drop}
use Rattle.utf.specs.Unicode.{◌to◌}
use Rattle.utf.specs.Utf8Walk.{low_after, high_after, later, next_in, follow, after_two, after_three, after_none, first_at, front}
use Rattle.utf.proofs.utf8.short_width.Goals.{then-follows, else-follows}
use Rattle.utf.proofs.utf8.short_width.Goals as goal

pub returns-then-first-lt194 : goal.returns-then-first-lt194
returns-then-first-lt194 c = first_at c.args.s.now 0 c.requires.0 ∙ after_none _ _ c.requires.1 c.if-first-lt194.true

pub returns-then-first-lt224 : goal.returns-then-first-lt224
returns-then-first-lt224 c =
    let s = c.args.s.now in
    let all : c.follows.result ≡ follow s 1 (later ∷ []) = c.follows.ensures ∙ sym (and-true _) in
    rw (c.then_some.ensures, all) (front s (later ∷ []) c.requires.0 (after_two _ _ c.if-first-lt194.false c.if-first-lt224.true))

pub returns : goal.returns
returns c =
    let s = c.args.s.now in
    let b = get_or s 0 0 in
    let second : c.follows-2.result ≡ next_in (low_after b to high_after b) (drop 1 s) = rw (c.second_of.ensures.0, c.second_of.ensures.1) at c.follows-2.ensures in
    let all : c.if-follows.then_some ≡ follow s 1 (low_after b to high_after b ∷ later ∷ []) =
    elim c.if-follows.branch [
      | then-follows w ↦ rw (← second, w.if-follows.true, and-true) (w.then_some-is ∙ w.follows-then-follows.ensures)
      | else-follows w ↦ rw (← second, w.if-follows.false) (w.then_some-is ∙ w.if-follows.false)
    ] in
    rw (c.then_some-2.ensures, all) (front s _ c.requires.0 (after_three _ _ c.if-first-lt224.false c.requires.2))
