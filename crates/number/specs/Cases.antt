-- Cases of numbers of docs/FORMAT.md, computed: P1, and the bits of P2, P3 and P4.
use Rattle.std.specs.Prelude.{◌≡◌, refl, [], ◌∷◌, ◌++◌, map, negsuc, replicate, Some}
use Rattle.number.specs.Be.{be, onto}
use Rattle.number.specs.Read.{halves_of}
use Rattle.number.specs.Signed.{signed_of}
use Rattle.number.specs.Size.{size_of, rounded, needed}

-- P1: 0 and 255 give 1, 256 and 65,535 give 2, 65,536 gives 4, 4,294,967,296 gives 8
pub p1 : map size_of (0 ∷ 255 ∷ 256 ∷ 65_535 ∷ 65_536 ∷ 4_294_967_295 ∷ 4_294_967_296 ∷ []) ≡ 1 ∷ 1 ∷ 2 ∷ 2 ∷ 4 ∷ 4 ∷ 8 ∷ []
unfolding size_of rounded needed
p1 = refl

-- P2: FF is 255
pub p2_bits : be (0xFF ∷ []) ≡ 255
unfolding be onto
p2_bits = refl

-- P3: 80 and seven 00 is -9,223,372,036,854,775,808, which is -1 - 9,223,372,036,854,775,807; eight FF is -1
pub p3_bits : signed_of (be (0x80 ∷ replicate 7 0)) ≡ negsuc 9_223_372_036_854_775_807
unfolding signed_of be onto
p3_bits = refl

pub minus_one_bits : signed_of (be (replicate 8 0xFF)) ≡ negsuc 0
unfolding signed_of be onto
minus_one_bits = refl

-- P4: eight 00 and eight FF is 18,446,744,073,709,551,615 in two halves
pub p4_bits : halves_of (replicate 8 0 ++ replicate 8 0xFF) ≡ Some (record { high = 0; low = 18_446_744_073_709_551_615 })
unfolding halves_of be onto
p4_bits = refl
