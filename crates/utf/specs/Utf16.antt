-- What the functions over UTF-16 answer.
use Rattle.std.specs.Prelude.{cond, List, ℕ, length, None, Option, Some}
use Rattle.utf.specs.Unicode.{is_utf16, to_utf8}

-- how many bytes well-formed UTF-16 has in UTF-8
unfoldable pub utf8_length_of : List ℕ → Option ℕ
utf8_length_of s = cond (is_utf16 s) (Some (length (to_utf8 s))) None
