-- The check of events and of more behind them. docs/FORMAT.md, rules G2 to G7.
use Rattle.std.specs.Prelude.{cond, List, [], ◌∷◌, ℕ, suc, ◌+◌}
use Rattle.event.specs.Meaning.{Meaning}
use Rattle.grammar.specs.Check.{Move, onto, barred, move_of}
use Rattle.grammar.specs.Said.{Said, whole, refused_at}
use Rattle.grammar.specs.Turn.{is_nothing, turn_of}
use Rattle.grammar.specs.Verdict.{Verdict, passes, unfinished, stops}
use Rattle.grammar.specs.declared.answer.Refusal.TheVariants.{IncompleteRoot}
use Rattle.grammar.specs.declared.turn.Due.{Due}

-- where events lead, one after the other; or the first refusal
unfoldable pub leads : Due → List Due → List Meaning → Move
leads due around [] = onto due around
leads due around (m ∷ ms) = elim (move_of (turn_of due m) due around) [ onto d ds ↦ leads d ds ms | barred r ↦ barred r ]

-- a verdict behind n events more
unfoldable pub behind : ℕ → Verdict → Verdict
behind n (passes k) = passes (n + k)
behind n unfinished = unfinished
behind n (stops i r) = stops (n + i) r

-- the verdict on one event more, behind n that are led on: it is refused, or completes the root, or others are still missing
unfoldable pub more_of : ℕ → Move → Verdict
more_of n (onto d ds) = cond (is_nothing d) (passes (suc n)) unfinished
more_of n (barred r) = stops n r

-- the same by places: where the event begins, and where it ends
unfoldable pub more_said : ℕ → ℕ → ℕ → Move → Said
more_said n at end (onto d ds) = cond (is_nothing d) (whole (suc n)) (refused_at IncompleteRoot end)
more_said n at end (barred r) = refused_at r at
