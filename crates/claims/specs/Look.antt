-- A record is given: it isn't denied.
use Rattle.layout.specs.Bytes.{Asked, in_file, in_utf16, no_bytes, denied}

abbrev pub Given : Asked → Type 0
Given (in_file start n) = Unit {0}
Given (in_utf16 start n) = Unit {0}
Given no_bytes = Unit {0}
Given (denied number values) = ⊥
