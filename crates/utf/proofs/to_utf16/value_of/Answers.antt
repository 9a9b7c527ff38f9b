-- `value_of`: each number of bytes by its own definition.
use Rattle.std.proofs.Common.{◌≡◌, refl, [], arith, length, drop_of_length-le}
use Rattle.utf.specs.ToUtf16Walk.{value_at}
use Rattle.utf.proofs.to_utf16.value_of.Goals as goal

pub returns-in-empty : goal.returns-in-empty
unfolding value_at
returns-in-empty c =
    let s = c.args.sequence.now in
    let e : s ≡ [] = drop_of_length-le s {i = 0} (omega arith) in
    rw e (refl, omega arith)

pub returns-in-len1 : goal.returns-in-len1
unfolding value_at
returns-in-len1 c =
    let l : length c.args.sequence.now ≡ 1 = omega arith in
    (rw l, omega (arith, c.type_inv.sequence 0))

pub returns-in-len2 : goal.returns-in-len2
unfolding value_at
returns-in-len2 c =
    let l : length c.args.sequence.now ≡ 2 = omega arith in
    (rw l (rw c.saturating_sub.ensures at c.six_more.ensures.0), omega (arith, c.six_more.ensures.1))

pub returns-in-len3 : goal.returns-in-len3
unfolding value_at
returns-in-len3 c =
    let l : length c.args.sequence.now ≡ 3 = omega arith in
    (rw l (rw (c.six_more-bits.ensures.0, c.saturating_sub-in-len3.ensures) at c.six_more-in-len3.ensures.0), omega (arith, c.six_more-in-len3.ensures.1, c.six_more-bits.ensures.1))

pub returns-in-len4-up : goal.returns-in-len4-up
unfolding value_at
returns-in-len4-up c =
    let l : length c.args.sequence.now ≡ 4 = omega arith in (
      rw l (rw (c.six_more-in-len4-up.ensures.0, c.six_more-bits-in-len4-up.ensures.0, c.saturating_sub-in-len4-up.ensures) at c.six_more-in-len4-up-2.ensures.0),
      omega (arith, c.six_more-in-len4-up-2.ensures.1, c.six_more-in-len4-up.ensures.1, c.six_more-bits-in-len4-up.ensures.1),
    )
