-- `value_under`: the kind tells whether it is a dictionary.
use Rattle.std.proofs.Common.{arith}
use Rattle.lookup.proofs.Seeking.{into_past, into_none, into_rest, into_pairs}
use Rattle.lookup.proofs.seek.value_under.Goals as goal

pub returns-in_err-kind : goal.returns-in_err-kind
returns-in_err-kind c = rw c.from_residual.ensures (into_past c.requires _ (c.in_err-kind.ensures.lookup).3)

pub seek-requires : goal.seek-requires
seek-requires c = into_rest c.requires c.args.key.now (c.in_ok-kind.ensures.lookup).3.0 c.place_after.ensures

pub returns-in-12 : goal.returns-in-12
returns-in-12 c =
    let h = (c.in_ok-kind.ensures.lookup).3 in
    into_pairs c.requires c.args.key.now h.0 c.place_after.ensures (omega (arith, h.1 0)) (omega (arith, h.1 0)) c.seek.result c.seek.ensures

pub returns-in_default : goal.returns-in_default
returns-in_default c =
    let h = (c.in_ok-kind.ensures.lookup).3 in
    into_none c.requires _ h.0 (λ a b. omega (arith, a, b, h.1 0))

pub returns-in_default-2 : goal.returns-in_default-2
returns-in_default-2 c =
    let h = (c.in_ok-kind.ensures.lookup).3 in
    into_none c.requires _ h.0 (λ a b. omega (arith, a, b, h.1 0))
