-- What a lookup answers, as numbers.
use Rattle.std.specs.Prelude.{ℕ}
use Rattle.lookup.specs.Find.{Said, found, not_found, refused}
use Rattle.exports.specs.Write.{first_number, second_number}

-- 0 for a part, 254 where there is no such value, the number of a refusal (table N of docs/FORMAT.md): no refusal has the number 0 or 254
unfoldable pub find_code : Said → ℕ
find_code (found start n) = 0
find_code not_found = 254
find_code (refused number kinds place) = number

-- where the part begins, or a refusal's place
unfoldable pub find_start : Said → ℕ
find_start (found start n) = start
find_start not_found = 0
find_start (refused number kinds place) = place

unfoldable pub find_length : Said → ℕ
find_length (found start n) = n
find_length not_found = 0
find_length (refused number kinds place) = 0

unfoldable pub find_expected : Said → ℕ
find_expected (found start n) = 0
find_expected not_found = 0
find_expected (refused number kinds place) = first_number kinds

unfoldable pub find_found : Said → ℕ
find_found (found start n) = 0
find_found not_found = 0
find_found (refused number kinds place) = second_number kinds
