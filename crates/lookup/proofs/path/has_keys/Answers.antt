-- `has_keys`: what is left of the keys decides.
use Rattle.std.proofs.Common.{◌≡◌, ◌-◌, ◌+◌, ℕ, sym, ap, ◌∙◌, arith}
use Rattle.lookup.specs.Path.{is_some, keys_from}
use Rattle.lookup.specs.PathLaws.{key_room, some_next, some_stop, some_end}
use Rattle.lookup.proofs.path.has_keys.Goals as goal

pub returns-in_default : goal.returns-in_default
returns-in_default c =
    let l = c.loop in
    sym (some_stop c.args.path.now l.at (c.args.count - l.counter) (omega arith) (sym c.key_at.ensures ∙ c.in_default.is)) ∙ l.invariant

pub overflow_add-at : goal.overflow_add-at
overflow_add-at c = omega (arith, key_room c.args.path.now c.loop.at c.in-Some.key (sym c.key_at.ensures ∙ c.in-Some.is))

pub loop-preserved : goal.loop-preserved
loop-preserved c =
    let l = c.loop in
    let k = c.in-Some.key in
    let e : c.args.count - l.counter - 1 ≡ c.args.count - (l.counter + 1) = omega arith in
    ap (λ (n : ℕ). is_some (keys_from n c.args.path.now (k.start + k.length))) (sym e)
    ∙ sym (some_next c.args.path.now l.at (c.args.count - l.counter) k (omega arith) (sym c.key_at.ensures ∙ c.in-Some.is))
    ∙ l.invariant

pub returns : goal.returns
returns c =
    let l = c.loop in
    sym (some_end c.args.path.now l.at (c.args.count - l.counter) (omega arith)) ∙ l.invariant
