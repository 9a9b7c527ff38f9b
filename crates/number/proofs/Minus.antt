-- Signed numbers of 64 bits, as the machine makes them from their bits and back.
use Prim.Native.Nat.{ℕ, zero, suc, ◌-◌, ◌<◌, ◌^◌}
use mathlib.Core.Path.{◌≡◌, refl, sym, ap, ◌∙◌}
use mathlib.Core.Bool.{true, false, false≢true}
use native.Mathlib.Nat.{zero-add}
use native.Mathlib.Omega.{arith}
use borrow.Author.Tests.{ltb-true}
use lib.IntN.{ℤ, pos, negsuc, ◌-ℤ◌, nat_abs}
use lib.Signed.{lt_z}
use mir.Syntax.{w64}
use mir.Val.{SFits, to_z, of_z}
use mir.Facts.{to_z_pos, to_z-of_z}
use Rattle.number.specs.Signed.{signed_of, bits_of, magnitude_of}

pub minus_pos : (m : ℕ) → negsuc 0 -ℤ pos m ≡ negsuc m
minus_pos zero = refl
minus_pos (suc m) = ap (λ (k : ℕ). negsuc (suc k)) (zero-add m)

pub signed_is : (n : ℕ) → n < 2 ^ 64 → to_z w64 n ≡ signed_of n
unfolding signed_of
signed_is n h = grind arith

pub bits_is : (z : ℤ) → SFits w64 z → of_z w64 z ≡ bits_of z
unfolding bits_of
bits_is (pos n) f = refl
bits_is (negsuc k) f = omega arith

-- the bits of a negative number, each turned over, are its magnitude
pub turned : (z : ℤ) → SFits w64 z → lt_z (to_z w64 (of_z w64 z)) (pos 0) ≡ true → nat_abs (to_z w64 (0xffff_ffff_ffff_ffff - of_z w64 z)) ≡ magnitude_of z
unfolding magnitude_of
turned (pos n) f e = absurd (let h : n < 0 = ltb-true n 0 (rw (to_z-of_z f) at e) in omega arith)
turned (negsuc k) f e =
    let h : k < 2 ^ 63 = f.sfits in
    let d : 0xffff_ffff_ffff_ffff - (0x1_0000_0000_0000_0000 - suc k) ≡ k = omega arith in
    ap (λ (m : ℕ). nat_abs (to_z w64 m)) d ∙ ap nat_abs (to_z_pos w64 h)

pub kept : (z : ℤ) → SFits w64 z → lt_z (to_z w64 (of_z w64 z)) (pos 0) ≡ false → nat_abs (to_z w64 (of_z w64 z)) ≡ magnitude_of z
unfolding magnitude_of
kept (pos n) f e = ap nat_abs (to_z_pos w64 f.sfits)
kept (negsuc k) f e = absurd (false≢true (sym (rw (to_z-of_z f) at e)))
