-- Laws of the groups of a number.
use Rattle.std.specs.Prelude.{Bool, true, false, List, [], ◌∷◌, ◌≡◌, refl, ℕ, zero, suc, ◌+◌, ◌/◌, ◌%◌, ◌^◌, ◌≤◌, ◌<◌, ltb, length}
use Rattle.std.proofs.Common.{ap, sym, ◌∙◌, pow-suc, div-lt_iff_lt-mul, arith, lt-ltb, le-ltb, ltb-true, ltb-false, lit<}
use Rattle.tape.specs.Seven.{groups, seven}

-- what is left of a number below 128 ^ suc (suc k) is below 128 ^ suc k
pub rest_lt : (k n : ℕ) → n < 128 ^ suc (suc k) → n / 128 < 128 ^ suc k
rest_lt k n h = (div-lt_iff_lt-mul (lit< tt)).1 (rw pow-suc at h)

-- the groups of a number below 128, and of any other
pub groups_last : (k n : ℕ) → n < 128 → groups (suc k) n ≡ n ∷ []
unfolding groups
groups_last k n h = rw lt-ltb

pub groups_more : (k n : ℕ) → 128 ≤ n → groups (suc k) n ≡ (n % 128 + 128) ∷ groups k (n / 128)
unfolding groups
groups_more k n h = rw le-ltb

-- one group more than is needed changes nothing
pub groups_enough : (k n : ℕ) → n < 128 ^ suc k → groups (suc (suc k)) n ≡ groups (suc k) n
groups_enough zero n h = groups_last 1 n (omega arith) ∙ sym (groups_last 0 n (omega arith))
groups_enough (suc k) n h = go (ltb n 128) refl (groups_enough k (n / 128) (rest_lt k n h))
  where
    go : (b : Bool) → ltb n 128 ≡ b → groups (suc (suc k)) (n / 128) ≡ groups (suc k) (n / 128) → groups (suc (suc (suc k))) n ≡ groups (suc (suc k)) n
    go true e ih =
        let h : n < 128 = ltb-true n 128 e in
        groups_last (suc (suc k)) n h ∙ sym (groups_last (suc k) n h)
    go false e ih =
        let h : 128 ≤ n = ltb-false n 128 e in
        groups_more (suc (suc k)) n h ∙ ap (λ (s : List ℕ). (n % 128 + 128) ∷ s) ih ∙ sym (groups_more (suc k) n h)

-- a number has a group
pub groups_some : (k n : ℕ) → 0 < length (groups (suc k) n)
unfolding groups
groups_some k n = go (ltb n 128) refl
  where
    go : (b : Bool) → ltb n 128 ≡ b → 0 < length (groups (suc k) n)
    go true e = rw e (omega arith)
    go false e = rw e (omega arith)

-- and no more than are asked for
pub groups_few : (k n : ℕ) → length (groups k n) ≤ k
unfolding groups
groups_few zero n = omega arith
groups_few (suc k) n = go (ltb n 128) refl (groups_few k (n / 128))
  where
    go : (b : Bool) → ltb n 128 ≡ b → length (groups k (n / 128)) ≤ k → length (groups (suc k) n) ≤ suc k
    go true e ih = rw e (omega arith)
    go false e ih = rw e (omega arith)

pub seven_some : (n : ℕ) → 0 < length (seven n)
unfolding seven
seven_some n = groups_some 9 n

pub seven_few : (n : ℕ) → length (seven n) ≤ 10
unfolding seven
seven_few n = groups_few 10 n

-- the groups of a number below 128, and of any other
pub seven_last : (n : ℕ) → n < 128 → seven n ≡ n ∷ []
unfolding seven
seven_last n h = groups_last 9 n h

pub seven_more : (n : ℕ) → 128 ≤ n → n < 2 ^ 64 → seven n ≡ (n % 128 + 128) ∷ seven (n / 128)
unfolding seven
seven_more n h b =
    let l : n / 128 < 128 ^ 9 = omega arith in
    groups_more 9 n h ∙ ap (λ (s : List ℕ). (n % 128 + 128) ∷ s) (sym (groups_enough 8 (n / 128) l))

-- a number of 63 bits has five groups at least
pub seven_long : (n : ℕ) → 2 ^ 62 ≤ n → n < 2 ^ 64 → 5 ≤ length (seven n)
seven_long n h g =
    let m = n / 128 / 128 / 128 in
    rw (seven_more n (omega arith) g, seven_more (n / 128) (omega arith) (omega arith), seven_more (n / 128 / 128) (omega arith) (omega arith), seven_more m (omega arith) (omega arith))
    (omega (arith, seven_some (m / 128)))
