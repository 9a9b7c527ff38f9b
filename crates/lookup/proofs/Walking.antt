-- Along the events of a value: what is left behind them.
use Rattle.std.specs.Prelude.{None, Option, Some}
use mathlib.Core.Bool.{Bool, true, false, cond}
use mathlib.Core.List.{List, [], ◌∷◌}
use mathlib.Core.Path.{◌≡◌, refl, sym, ap, ◌∙◌}
use Prim.Native.Nat.{ℕ, suc, ◌+◌, ◌-◌, ◌≤◌, ◌<◌}
use native.Mathlib.Omega.{arith}
use lib.Dec.{ltb}
use lib.ListN.{length, get_or}
use Rattle.event.specs.Meaning.{Meaning}
use Rattle.tape.specs.Code.{bytes_for}
use Rattle.tape.proofs.CodeLaws.{bytes_some}
use Rattle.tape.specs.End.{end_of}
use Rattle.tape.proofs.EndLaws.{end_reads}
use Rattle.tape.specs.Item.{event, read_at}
use Rattle.lookup.specs.Rest.{events_at, Rest, deeper_by}
use Rattle.lookup.specs.RestLaws.{rest_some, rest_none, rest_reads, rest_next, rest_at, rest_deeper}
use Rattle.lookup.specs.Value.{deeper, behind}
use Rattle.lookup.proofs.ValueLaws.{behind_here, behind_on}

-- where an event stands, it ends where the next one begins
module _ (tape : List ℕ) (at : ℕ) {told : Option ℕ} (is : told ≡ end_of tape at) (m : Meaning) (next : ℕ) (reads : read_at tape at ≡ event m next) where
  pub after_at : (x : ℕ) → told ≡ Some x → x ≡ next
  after_at x g = let h : end_of tape at ≡ Some next = end_reads tape at m next reads in cc

  pub after_none : told ≡ None → ⊥
  after_none g =
      let h : end_of tape at ≡ Some next = end_reads tape at m next reads in
      let z : ◌≡◌ {A = ℕ} 0 1 = cc in
      omega arith

pub deeper_le : (d k : ℕ) → deeper_by d k ≤ suc d
unfolding deeper_by
deeper_le d k = go (ltb k 0x0A) (ltb k 0x0E)
  where
    go : (a b : Bool) → cond a d (cond b (suc d) (d - 1)) ≤ suc d
    go true b = omega arith
    go false true = omega arith
    go false false = omega arith

pub record Walk (tape : List ℕ) (from at depth : ℕ) : Type 0 where
  pub ms : List Meaning
  pub rest : Rest tape at ms
  pub few : depth ≤ at
  pub left : behind depth ms ≡ behind 0 (events_at tape from)

pub walk_first : {tape : List ℕ} {from : ℕ} → Rest tape from (events_at tape from) → Walk tape from from 0
walk_first {tape} {from} r = record { ms = events_at tape from; rest = r; few = omega arith; left = refl }

-- at the tape's end
pub walk_over : {tape : List ℕ} {from at depth : ℕ} → Walk tape from at depth → length tape ≤ at → Rest tape at (behind 0 (events_at tape from))
unfolding behind
walk_over {depth = depth} w h =
    let z : w.ms ≡ [] = rest_none w.rest h in
    let e : [] ≡ behind 0 (events_at _ _) = ap (behind depth) (sym z) ∙ w.left in
    rw (← e) (rw z at w.rest)

-- one event on
module _ {tape : List ℕ} {from at depth : ℕ} (w : Walk tape from at depth) (h : at < length tape) {next : ℕ} (p : (m : Meaning) (n : ℕ) → read_at tape at ≡ event m n → next ≡ n) where
  first : Meaning
  first = (rest_some w.rest h).0

  others : List Meaning
  others = (rest_some w.rest h).1

  here : Rest tape at (first ∷ others)
  unfolding first others
  here = rw (rest_some w.rest h).2 at w.rest

  left_here : behind depth (first ∷ others) ≡ behind 0 (events_at tape from)
  unfolding first others
  left_here = ap (behind depth) (sym (rest_some w.rest h).2) ∙ w.left

  next_is : next ≡ at + length (bytes_for first)
  next_is = p first (at + length (bytes_for first)) (rest_reads here)

  there : Rest tape next others
  there = rest_at next_is (rest_next here)

  pub walk_on : (at < next) × (next ≤ length tape)
  walk_on = (omega (arith, next_is, bytes_some first), there.within)

  module _ {d : ℕ} (e : d ≡ deeper_by depth (get_or tape at 0)) where
    pub walk_end : d ≡ 0 → Rest tape next (behind 0 (events_at tape from))
    walk_end z = rw (← left_here, behind_here depth first others (sym (rest_deeper here depth) ∙ sym e ∙ z)) there

    pub walk_again : (d ≡ 0 → ⊥) → Walk tape from next d
    walk_again z =
        let is : d ≡ deeper depth first = e ∙ rest_deeper here depth in
        record {
          ms = others;
          rest = there;
          few = omega (arith, e, deeper_le depth (get_or tape at 0), w.few, walk_on.0);
          left = rw is (sym (behind_on depth first others (λ x. z (is ∙ x))) ∙ left_here);
        }
