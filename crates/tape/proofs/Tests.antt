-- What tests tell: one for room, and two for a number in between.
use mathlib.Core.Bool.{Bool, true, false}
use mathlib.Core.Logic.{◌⊎◌, inl, inr}
use mathlib.Core.Path.{◌≡◌, refl, sym, ◌∙◌}
use Prim.Native.Nat.{ℕ, ◌+◌, ◌-◌, ◌≤◌, ◌<◌}
use native.Mathlib.Omega.{arith}
use borrow.Author.Tests.{lt-ltb, le-ltb, ltb-true, ltb-false}
use lib.Dec.{ltb}

module _ (t : Bool) (end n : ℕ) (is : t ≡ ltb end n) where
  pub lacks : t ≡ true → end < n
  lacks e = ltb-true end n (sym is ∙ e)

  pub has : t ≡ false → n ≤ end
  has e = ltb-false end n (sym is ∙ e)

-- a sum need not be made to be tested
pub room_left : (end at size : ℕ) → at ≤ end → ltb (end - at) size ≡ ltb end (at + size)
room_left end at size h = go (ltb end (at + size)) refl
  where
    go : (b : Bool) → ltb end (at + size) ≡ b → ltb (end - at) size ≡ b
    go true e =
        let l : end < at + size = ltb-true end (at + size) e in
        lt-ltb (end - at) size (omega arith)
    go false e =
        let l : at + size ≤ end = ltb-false end (at + size) e in
        le-ltb (end - at) size (omega arith)

-- a number from another on, and below the second one after it
pub one_of_two : (k a : ℕ) → a ≤ k → k < a + 2 → (k ≡ a) ⊎ (k ≡ a + 1)
one_of_two k a h l = go (ltb a k) refl
  where
    go : (b : Bool) → ltb a k ≡ b → (k ≡ a) ⊎ (k ≡ a + 1)
    go true e =
        let m : a < k = ltb-true a k e in
        inr (omega arith)
    go false e =
        let m : k ≤ a = ltb-false a k e in
        inl (omega arith)
