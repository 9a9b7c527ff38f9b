-- `groups_in`: each group has seven of the number's bits, of which 0 is taken to have one.
use mathlib.Core.Bool.{Bool, true, false}
use mathlib.Core.Path.{◌≡◌, refl, ap, sym, ◌∙◌}
use Prim.Native.Nat.{ℕ, zero, suc, ◌+◌, ◌-◌, ◌*◌, ◌/◌, ◌^◌, ◌≤◌, ◌<◌, max}
use native.Mathlib.Omega.{arith}
use borrow.Author.Tests.{ltb-true, ltb-false}
use lib.Dec.{lit<, ltb}
use lib.ListN.{length}
use Rattle.std.proofs.Math.Nat.{pow-le-pow_right}
use Rattle.std.proofs.lemmas.Nat.{pow-add}
use Rattle.tape.specs.Seven.{groups, seven}
use Rattle.tape.specs.SevenLaws.{rest_lt, groups_last, groups_more, seven_last}
use Rattle.tape.proofs.seven.groups_in.Goals as goal

-- bits of a number below 128, and of any other
few_bits : (n j : ℕ) → n < 128 → 2 ^ j ≤ n → j < 7
few_bits n j h low = go (ltb j 7) refl
  where
    go : (b : Bool) → ltb j 7 ≡ b → j < 7
    go true e = ltb-true j 7 e
    go false e = absurd (omega (arith, pow-le-pow_right {n = 2} (lit< tt) (ltb-false j 7 e)))

more_bits : (n j : ℕ) → 128 ≤ n → n < 2 * 2 ^ j → 7 ≤ j
more_bits n j h high = go (ltb j 7) refl
  where
    go : (b : Bool) → ltb j 7 ≡ b → 7 ≤ j
    go true e =
        let k : j ≤ 6 = omega (arith, ltb-true j 7 e) in
        absurd (omega (arith, pow-le-pow_right {n = 2} (lit< tt) k))
    go false e = ltb-false j 7 e

groups_bits : (k n j : ℕ) → n < 128 ^ suc k → 2 ^ j ≤ n → n < 2 * 2 ^ j → j / 7 + 1 ≡ length (groups (suc k) n)
groups_bits zero n j h low high =
    let b = few_bits n j (omega arith) low in
    let e = ap length (groups_last 0 n (omega arith)) in
    omega (arith, b, e)
groups_bits (suc k) n j h low high = go (ltb n 128) refl (groups_bits k (n / 128) (j - 7) (rest_lt k n h))
  where
    go : (b : Bool) → ltb n 128 ≡ b → (2 ^ (j - 7) ≤ n / 128 → n / 128 < 2 * 2 ^ (j - 7) → (j - 7) / 7 + 1 ≡ length (groups (suc k) (n / 128))) → j / 7 + 1 ≡ length (groups (suc (suc k)) n)
    go true e rest =
        let l = ltb-true n 128 e in
        omega (arith, few_bits n j l low, ap length (groups_last (suc k) n l))
    go false e rest =
        let l = ltb-false n 128 e in
        let b = more_bits n j l high in
        let q : j - 7 + 7 ≡ j = omega arith in
        let p : 2 ^ j ≡ 2 ^ (j - 7) * 128 = ap (λ (i : ℕ). 2 ^ i) (sym q) ∙ pow-add 2 (j - 7) 7 in
        omega (arith, b, ap length (groups_more (suc k) n l), rest (omega (arith, p)) (omega (arith, p)))

seven_bits : (n j : ℕ) → n < 2 ^ 64 → 2 ^ j ≤ max n 1 → max n 1 < 2 * 2 ^ j → j / 7 + 1 ≡ length (seven n)
unfolding seven
seven_bits zero j h low high = omega (arith, few_bits 1 j (omega arith) low, high, ap length (seven_last 0 (omega arith)))
seven_bits (suc n) j h low high = groups_bits 9 (suc n) j (omega arith) (omega arith) (omega arith)

pub returns-then-n-lt128 : goal.returns-then-n-lt128
returns-then-n-lt128 c = omega (arith, ap length (seven_last c.args.n c.if-n-lt128.true))

pub returns : goal.returns
returns c =
    let b = c.ilog2.ensures in
    let h = c.if-n-lt128.false in
    seven_bits c.args.n c.ilog2.result (omega arith) (omega (arith, h, b.power_le)) (omega (arith, h, b.next_power_gt))
