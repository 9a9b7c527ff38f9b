-- What the computed cases unfold, by one name: `unfolding computed` opens all of it. A definition that a case goes through is added here.
use Rattle.utf.specs.Unicode

unfoldable pub computed : Unit {0}
unfolding Unicode.is_scalar Unicode.all_scalar Unicode.within Unicode.table Unicode.row_of Unicode.well_formed Unicode.is_utf8 Unicode.is_ascii
    Unicode.is_high Unicode.is_low Unicode.paired Unicode.units_of Unicode.unit_bytes Unicode.is_even Unicode.is_utf16 Unicode.utf8_of Unicode.utf8
    Unicode.utf16_of Unicode.utf16 Unicode.scalars_from Unicode.scalars8 Unicode.scalars16 Unicode.to_utf8 Unicode.to_utf16
computed = tt
