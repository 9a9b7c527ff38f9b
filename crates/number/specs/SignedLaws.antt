-- Laws of signed numbers of 64 bits: each change is undone by the other.
use Rattle.std.specs.Prelude.{Bool, true, false, ◌≡◌, refl, ℕ, ◌-◌, ◌<◌, ◌^◌, ltb, ℤ, pos, negsuc, Some}
use Rattle.std.proofs.Common.{ap, arith, lt-ltb, le-ltb, SFits}
use Rattle.std.specs.Int.{w64}
use Rattle.number.specs.Signed.{signed_of, bits_of, magnitude_of, negative_of}

-- every pattern of 64 bits is that of the number it is
pub bits_signed : (n : ℕ) → n < 2 ^ 64 → bits_of (signed_of n) ≡ n
unfolding signed_of bits_of
bits_signed n h = go (ltb n 0x8000_0000_0000_0000) refl
  where
    go : (b : Bool) → ltb n 0x8000_0000_0000_0000 ≡ b → bits_of (signed_of n) ≡ n
    go true e = rw e
    go false e = rw e (omega arith)

-- every number of 64 bits is that of its pattern, at both ends
pub signed_bits : (z : ℤ) → SFits w64 z → signed_of (bits_of z) ≡ z
unfolding signed_of bits_of
signed_bits (pos n) f = rw (lt-ltb n 0x8000_0000_0000_0000 f.sfits)
signed_bits (negsuc k) f =
    let h : k < 2 ^ 63 = f.sfits in
    rw (le-ltb (0xffff_ffff_ffff_ffff - k) 0x8000_0000_0000_0000 (omega arith)) (ap negsuc (let e : 0xffff_ffff_ffff_ffff - (0xffff_ffff_ffff_ffff - k) ≡ k = omega arith in e))

-- a negative number is -1 less its magnitude again
pub negative_magnitude : (k : ℕ) → k < 2 ^ 63 → negative_of (magnitude_of (negsuc k)) ≡ Some (negsuc k)
unfolding negative_of magnitude_of
negative_magnitude k h = rw (lt-ltb k 0x8000_0000_0000_0000 h)
