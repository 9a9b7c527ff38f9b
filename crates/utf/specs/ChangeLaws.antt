-- From UTF-16 to UTF-8 and back, and the other way: each text comes back as it was.
use Rattle.std.specs.Prelude.{◌≡◌, true, List, ℕ}
use Rattle.utf.specs.Unicode.{all_scalar, utf16, is_utf8, scalars8, scalars16, units_of, unit_bytes, is_utf16, to_utf8, to_utf16}
use Rattle.utf.specs.Bounds.{Below}
use Rattle.utf.specs.Utf8Bits.{utf8_is, scalars_again, utf8_scalar, utf8_again}
use Rattle.utf.specs.Utf16Laws.{good_even, good_paired, even_paired, scalars16_scalar, utf16_scalars16, paired_utf16, scalars16_utf16, utf16_below, units_of_unit_bytes, unit_bytes_units_of, even_unit_bytes, unit_bytes_below, units_of_below}

-- UTF-16 in bytes
module _ (s : List ℕ) (b : Below 256 s) (g : is_utf16 s ≡ true) where
  -- its scalar values
  scalar : all_scalar (scalars16 (units_of s)) ≡ true
  scalar = scalars16_scalar (units_of s) (units_of_below s b) (good_paired s g)

  -- what it is changed to is well-formed UTF-8
  pub to_utf8_good : is_utf8 (to_utf8 s) ≡ true
  unfolding to_utf8
  to_utf8_good = utf8_is (scalars16 (units_of s)) scalar

  -- and is changed back to it
  pub to_utf16_to_utf8 : to_utf16 (to_utf8 s) ≡ s
  unfolding to_utf8 to_utf16
  to_utf16_to_utf8 =
      rw (scalars_again (scalars16 (units_of s)) scalar, utf16_scalars16 (units_of s) (units_of_below s b) (good_paired s g))
      (unit_bytes_units_of s b (good_even s g))

-- UTF-8
module _ (s : List ℕ) (g : is_utf8 s ≡ true) where
  -- what it is changed to is well-formed UTF-16
  pub to_utf16_good : is_utf16 (to_utf16 s) ≡ true
  unfolding to_utf16
  to_utf16_good =
      let us = utf16 (scalars8 s) in
      even_paired (unit_bytes us) (even_unit_bytes us) (rw units_of_unit_bytes (paired_utf16 (scalars8 s) (utf8_scalar s g)))

  -- in bytes
  pub to_utf16_bytes : Below 256 (to_utf16 s)
  unfolding to_utf16
  to_utf16_bytes = unit_bytes_below (utf16 (scalars8 s)) (utf16_below (scalars8 s) (utf8_scalar s g))

  -- and is changed back to it
  pub to_utf8_to_utf16 : to_utf8 (to_utf16 s) ≡ s
  unfolding to_utf8 to_utf16
  to_utf8_to_utf16 = rw (units_of_unit_bytes, scalars16_utf16 (scalars8 s) (utf8_scalar s g)) (utf8_again s g)
