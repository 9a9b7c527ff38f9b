-- Scalar values and what each is written as, by its size.
use Rattle.std.specs.Prelude.{Bool, true, false, cond, ◌&&◌, ◌||◌, ◌≡◌, refl, ◌⊎◌, List, [], ◌∷◌, ℕ, ◌+◌, ◌-◌, ◌/◌, ◌%◌, ◌<◌, ◌≤◌, ltb, leb, length}
use Rattle.std.proofs.Common.{inl, inr, ⊎_elim, arith, lit≤, length-append}
use borrow.Author.Tests.{lt-ltb, le-ltb, le-leb, ltb-true}
use Rattle.utf.specs.Tests.{and_left, and_right}
use Rattle.utf.specs.Bounds.{between}
use Rattle.utf.specs.Unicode.{is_scalar, all_scalar, utf8_of, utf8, utf16_of}

-- a scalar value lies below the surrogates, or above them and below 110000
pub scalar_is : (v : ℕ) → is_scalar v ≡ true → (v < 0xD800) ⊎ ((0xE000 ≤ v) × (v < 0x110000))
unfolding is_scalar
scalar_is v h = go (ltb v 0xD800) refl h
  where
    go : (b : Bool) → ltb v 0xD800 ≡ b → (b || (leb 0xE000 v && leb v 0x10FFFF)) ≡ true → (v < 0xD800) ⊎ ((0xE000 ≤ v) × (v < 0x110000))
    go true e h = inl (ltb-true v 0xD800 e)
    go false e h = let p = between 0xE000 0x10FFFF v h in inr (p.0, omega arith)

-- and what lies there is one
pub is_scalar_law : (v : ℕ) → (v < 0xD800) ⊎ ((0xE000 ≤ v) × (v < 0x110000)) → is_scalar v ≡ true
unfolding is_scalar
is_scalar_law v (inl h) = rw (lt-ltb v 0xD800 h)
is_scalar_law v (inr h) = rw (le-ltb v 0xD800 (omega (arith, h.0)), le-leb 0xE000 v h.0, le-leb v 0x10FFFF (omega (arith, h.1)))

pub scalar_lt : (v : ℕ) → is_scalar v ≡ true → v < 0x110000
scalar_lt v h = ⊎_elim (λ a. omega arith) (λ a. a.1) (scalar_is v h)

module _ (v : ℕ) where
  -- the bytes of a scalar value, by its size
  pub utf8_one : v < 0x80 → utf8_of v ≡ v ∷ []
  unfolding utf8_of
  utf8_one h = rw (lt-ltb v 0x80 h)

  pub utf8_two : 0x80 ≤ v → v < 0x800 → utf8_of v ≡ (0xC0 + v / 0x40) ∷ (0x80 + v % 0x40) ∷ []
  unfolding utf8_of
  utf8_two h g = rw (le-ltb v 0x80 h, lt-ltb v 0x800 g)

  pub utf8_three : 0x800 ≤ v → v < 0x10000 → utf8_of v ≡ (0xE0 + v / 0x1000) ∷ (0x80 + v / 0x40 % 0x40) ∷ (0x80 + v % 0x40) ∷ []
  unfolding utf8_of
  utf8_three h g = rw (le-ltb v 0x80 (omega arith), le-ltb v 0x800 h, lt-ltb v 0x10000 g)

  pub utf8_four : 0x10000 ≤ v → utf8_of v ≡ (0xF0 + v / 0x40000) ∷ (0x80 + v / 0x1000 % 0x40) ∷ (0x80 + v / 0x40 % 0x40) ∷ (0x80 + v % 0x40) ∷ []
  unfolding utf8_of
  utf8_four h = rw (le-ltb v 0x80 (omega arith), le-ltb v 0x800 (omega arith), le-ltb v 0x10000 h)

  -- the units of a scalar value, by its size
  pub utf16_one : v < 0x10000 → utf16_of v ≡ v ∷ []
  unfolding utf16_of
  utf16_one h = rw (lt-ltb v 0x10000 h)

  pub utf16_two : 0x10000 ≤ v → utf16_of v ≡ (0xD800 + (v - 0x10000) / 0x400) ∷ (0xDC00 + (v - 0x10000) % 0x400) ∷ []
  unfolding utf16_of
  utf16_two h = rw (le-ltb v 0x10000 h)

-- How many bytes.

length_cond : (b : Bool) (x y : List ℕ) → length (cond b x y) ≡ cond b (length x) (length y)
length_cond true x y = refl
length_cond false x y = refl

length_utf8_of : (v : ℕ) → length (utf8_of v) ≡ cond (ltb v 0x80) 1 (cond (ltb v 0x800) 2 (cond (ltb v 0x10000) 3 4))
unfolding utf8_of
length_utf8_of v = simp length_cond

cond_le : (b : Bool) (x y n : ℕ) → x ≤ n → y ≤ n → cond b x y ≤ n
cond_le true x y n h k = h
cond_le false x y n h k = k

le_cond : (b : Bool) (x y n : ℕ) → n ≤ x → n ≤ y → n ≤ cond b x y
le_cond true x y n h k = h
le_cond false x y n h k = k

-- a scalar value has 1 to 4 bytes
pub utf8_size : (v : ℕ) → (1 ≤ length (utf8_of v)) × (length (utf8_of v) ≤ 4)
utf8_size v = rw (length_utf8_of v) (search (le_cond, lit≤) depth 6, search (cond_le, lit≤) depth 6)

-- a text's bytes are those of its first scalar value, and the rest
pub length_utf8 : (v : ℕ) (vs : List ℕ) → length (utf8 (v ∷ vs)) ≡ length (utf8_of v) + length (utf8 vs)
unfolding utf8
length_utf8 v vs = length-append (utf8_of v) (utf8 vs)

-- Scalar values, one after another.

-- the first is a scalar value, and so are the others
pub scalar_cons : (v : ℕ) (vs : List ℕ) → all_scalar (v ∷ vs) ≡ true → (is_scalar v ≡ true) × (all_scalar vs ≡ true)
unfolding all_scalar
scalar_cons v vs h = (and_left (is_scalar v) (all_scalar vs) h, and_right (is_scalar v) (all_scalar vs) h)

-- what holds of the empty text, and of a text with one more scalar value in front, holds of every text
pub by_scalar : (P : List ℕ → Type 0) → P [] → ((v : ℕ) (vs : List ℕ) → is_scalar v ≡ true → P vs → P (v ∷ vs)) → (vs : List ℕ) → all_scalar vs ≡ true → P vs
by_scalar P none more [] s = none
by_scalar P none more (v ∷ vs) s = let c = scalar_cons v vs s in more v vs c.0 (by_scalar P none more vs c.1)
