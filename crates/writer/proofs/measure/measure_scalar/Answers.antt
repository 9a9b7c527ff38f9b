-- A scalar that is the first with its bytes is sized; any other counts nothing.
use Rattle.encode.specs.declared.size.Size.{Size}
use Rattle.std.specs.Prelude.{Option}
use Rattle.std.proofs.Common.{◌≡◌, ℕ, List, sym, ap, ◌∙◌, rules}
use Rattle.encode.specs.Said.{size_said}
use Rattle.encode.specs.SaidLaws.{size_said_one}
use Rattle.encode.specs.Size.{size_at}
use Rattle.writer.specs.MeasuredLaws.{other_measured, always_sized, units_small, first_measured}
use Rattle.writer.proofs.measure.measure_scalar.Goals as goal

-- what is sized is the scalar of the event
sized : (t : List ℕ) (at : ℕ) {off : ℕ} {r x : Option Size} → size_said at r ≡ size_said at (size_at t at) → at ≡ off → r ≡ x → x ≡ size_at t off
sized t at f g h = sym h ∙ size_said_one _ _ _ f ∙ ap (size_at t) g

pub returns-then-word-e : goal.returns-then-word-e
returns-then-word-e c =
    let o = c.args.events.ready in
    let (h, m, (s, r, d)) = c.requires in
    let both = other_measured o h m s r d (λ z. c.if-word-e.true (c.word.ensures.0 ∙ z)) in
    let none : (c.default.result.bytes ≡ 0) × (c.default.result.members ≡ 0) = let d = c.default.ensures in search rules in
    rw (none.0, none.1) (record { measured = both.0; weighs = both.1 })

pub returns-in_default : goal.returns-in_default
returns-in_default c =
    let o = c.args.events.ready in
    let (h, m, (s, r, d)) = c.requires in
    absurd (always_sized o h m s r d (sized _ _ c.size_of.ensures c.word-at.ensures.0 c.in_default.is))

pub set_word-requires : goal.set_word-requires
set_word-requires c =
    let o = c.args.events.ready in
    let (h, m, (s, r, d)) = c.requires in
    (search rules, units_small o h m s r d _ (sized _ _ c.size_of.ensures c.word-at.ensures.0 c.in-Some.is))

pub returns : goal.returns
returns c =
    let o = c.args.events.ready in
    let (h, m, (s, r, d)) = c.requires in
    let both = first_measured o h m s r d (sym c.word.ensures.0 ∙ c.if-word-e.false) _ (sized _ _ c.size_of.ensures c.word-at.ensures.0 c.in-Some.is) in
    rw c.set_word.ensures (record { measured = both.0; weighs = both.1 })
