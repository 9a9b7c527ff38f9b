-- Kinds that go together are the definition's.
use Rattle.std.specs.Prelude.{Bool, true, false, List, ◌∷◌, ◌≡◌, refl, ℕ, ◌+◌, ◌<◌, ◌≤◌, ◌^◌, ltb, ℤ, pos, negsuc, length, get_or, None, Option, Some}
use Rattle.std.proofs.lemmas.Bool.{false≢true}
use Rattle.std.proofs.Common.{sym, arith, lt-ltb, le-ltb, ltb-true, ne_eqb}
use Rattle.std.specs.Int.Signed.{lt_z}
use Rattle.event.specs.Meaning.{array, dictionary, integer}
use Rattle.event.specs.declared.Event.TheVariants.{Integer}
use Rattle.event.specs.declared.Integer.TheVariants.{Signed}
use Rattle.number.specs.Signed.{magnitude_of, negative_of}
use Rattle.tape.specs.Code.{bytes_for}
use Rattle.tape.specs.Item.{plain, negative, of_kind, item_at}
use Rattle.tape.specs.Kinds.{start_bytes, sign_kind}
use Rattle.tape.specs.Seven.{seven}

pub start_array : (n : Option ℕ) → start_bytes 0x0A n ≡ bytes_for (array n)
unfolding start_bytes bytes_for
start_array (Some n) = refl
start_array None = refl

pub start_dictionary : (n : Option ℕ) → start_bytes 0x0C n ≡ bytes_for (dictionary n)
unfolding start_bytes bytes_for
start_dictionary (Some n) = refl
start_dictionary None = refl

-- a signed integer: its kind by its sign, then its magnitude
pub sign_bytes : (z : ℤ) → sign_kind z ∷ seven (magnitude_of z) ≡ bytes_for (integer z)
unfolding sign_kind bytes_for magnitude_of
sign_bytes (pos n) = refl
sign_bytes (negsuc k) = refl

pub sign_below : (z : ℤ) → lt_z z (pos 0) ≡ true → 0x04 ≡ sign_kind z
unfolding sign_kind
sign_below (pos n) e = absurd (let h : n < 0 = ltb-true n 0 e in omega arith)
sign_below (negsuc k) e = refl

pub sign_above : (z : ℤ) → lt_z z (pos 0) ≡ false → 0x03 ≡ sign_kind z
unfolding sign_kind
sign_above (pos n) e = refl
sign_above (negsuc k) e = absurd (false≢true (sym e))

-- a negative integer, where there is one
pub negative_of_law : (k next : ℕ) (z : ℤ) → negative_of k ≡ Some z → negative (Some (k, next)) ≡ plain (Integer (Signed z)) next
unfolding negative_of negative
negative_of_law k next z e = go (ltb k (2 ^ 63)) refl
  where
    go : (b : Bool) → ltb k (2 ^ 63) ≡ b → negative (Some (k, next)) ≡ plain (Integer (Signed z)) next
    go true f =
        let w : Some (negsuc k) ≡ Some z = rw f at e in
        let q : negsuc k ≡ z = cc in
        rw (f, q)
    go false f =
        let w : None ≡ Some z = rw f at e in
        let q : ◌≡◌ {A = ℕ} 0 1 = cc in
        absurd (omega arith)

pub negative_none : (k next : ℕ) → negative_of k ≡ None → negative (Some (k, next)) ≡ None
unfolding negative_of negative
negative_none k next e = go (ltb k (2 ^ 63)) refl
  where
    go : (b : Bool) → ltb k (2 ^ 63) ≡ b → negative (Some (k, next)) ≡ None
    go true f =
        let w : Some (negsuc k) ≡ None = rw f at e in
        let q : ◌≡◌ {A = ℕ} 0 1 = cc in
        absurd (omega arith)
    go false f = rw f

-- the kind that stands at a place decides
pub item_of : (tape : List ℕ) (at k : ℕ) → at < length tape → get_or tape at 0 ≡ k → item_at tape at ≡ of_kind tape k (at + 1)
unfolding item_at
item_of tape at k h e = rw (lt-ltb at (length tape) h, e)

pub item_past : (tape : List ℕ) (at : ℕ) → length tape ≤ at → item_at tape at ≡ None
unfolding item_at
item_past tape at h = rw (le-ltb at (length tape) h)

-- no kind, by the tests of the code
pub of_none : (tape : List ℕ) (k at : ℕ) → (((((((((((((Unit {0} × (k ≡ 0x01 → ⊥)) × (k ≡ 0x02 → ⊥)) × (k ≡ 0x03 → ⊥)) × (k ≡ 0x04 → ⊥)) × (k ≡ 0x05 → ⊥)) × (k ≡ 0x06 → ⊥)) × (k ≡ 0x07 → ⊥)) × (k ≡ 0x08 → ⊥)) × (k ≡ 0x09 → ⊥)) × (k ≡ 0x0A → ⊥)) × (k ≡ 0x0B → ⊥)) × (k ≡ 0x0C → ⊥)) × (k ≡ 0x0D → ⊥)) × (k ≡ 0x0E → ⊥) → of_kind tape k at ≡ None
unfolding of_kind
of_none tape k at r =
    simp (
      ne_eqb k 0x01 r.0.0.0.0.0.0.0.0.0.0.0.0.0.1,
      ne_eqb k 0x02 r.0.0.0.0.0.0.0.0.0.0.0.0.1,
      ne_eqb k 0x03 r.0.0.0.0.0.0.0.0.0.0.0.1,
      ne_eqb k 0x04 r.0.0.0.0.0.0.0.0.0.0.1,
      ne_eqb k 0x05 r.0.0.0.0.0.0.0.0.0.1,
      ne_eqb k 0x06 r.0.0.0.0.0.0.0.0.1,
      ne_eqb k 0x07 r.0.0.0.0.0.0.0.1,
      ne_eqb k 0x08 r.0.0.0.0.0.0.1,
      ne_eqb k 0x09 r.0.0.0.0.0.1,
      ne_eqb k 0x0A r.0.0.0.0.1,
      ne_eqb k 0x0B r.0.0.0.1,
      ne_eqb k 0x0C r.0.0.1,
      ne_eqb k 0x0D r.0.1,
      ne_eqb k 0x0E r.1,
    )
