-- How a plain reading ends, as a number, a place and a marker.
use Rattle.std.specs.Prelude.{ℕ, get_or}
use Rattle.plainly.specs.Plain.{Last, whole, stopped}

-- 0 for the file's end, else a refusal's number (docs/FORMAT.md, N), which is not 0
unfoldable pub end_code : Last → ℕ
end_code whole = 0
end_code (stopped number values place) = number

-- 0 where nothing is refused
unfoldable pub end_place : Last → ℕ
end_place whole = 0
end_place (stopped number values place) = place

-- the marker that 10 carries, its only value; 0 where there is none: a marker 00 is refused with 8
unfoldable pub end_marker : Last → ℕ
end_marker whole = 0
end_marker (stopped number values place) = get_or values 0 0
