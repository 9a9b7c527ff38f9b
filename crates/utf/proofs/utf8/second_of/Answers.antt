-- `second_of` tests as the definitions do.
use Rattle.std.proofs.Common.{refl, arith}
use Rattle.utf.specs.Utf8Walk.{low_after, high_after, after_other}
use Rattle.utf.proofs.utf8.second_of.Goals as goal

pub returns-in-224 : goal.returns-in-224
unfolding low_after high_after
returns-in-224 c = rw c.in-224.is (refl, refl)

pub returns-in-237 : goal.returns-in-237
unfolding low_after high_after
returns-in-237 c = rw c.in-237.is (refl, refl)

pub returns-in-240 : goal.returns-in-240
unfolding low_after high_after
returns-in-240 c = rw c.in-240.is (refl, refl)

pub returns-in-244 : goal.returns-in-244
unfolding low_after high_after
returns-in-244 c = rw c.in-244.is (refl, refl)

pub returns-in_default : goal.returns-in_default
returns-in_default c = after_other c.args.first (λ e. omega arith) (λ e. omega arith) (λ e. omega arith) (λ e. omega arith)
