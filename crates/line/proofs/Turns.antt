-- What a turn of the loop that writes bytes in hex does.
use mathlib.Core.Path.{◌≡◌}
use mathlib.Core.List.{List}
use Prim.Native.Nat.{ℕ, suc, ◌+◌, ◌/◌, ◌%◌, ◌<◌}
use native.Mathlib.Numerals.{add-one}
use native.Mathlib.Omega.{arith}
use lib.ListN.{length, set, get_or, drop}
use lib.Seq.{sets, drop-cons}
use Rattle.line.specs.Line.{hex, hex_digit}

pub next_hex : (out s : List ℕ) (to i : ℕ) → i < length s →
    sets (set (set out to (hex_digit (get_or s i 0 / 16))) (to + 1) (hex_digit (get_or s i 0 % 16))) (to + 2) (hex (drop (i + 1) s)) ≡ sets out to (hex (drop i s))
unfolding hex
next_hex out s to i h = rw (add-one i, drop-cons s i 0 h) (let e : to + 1 ≡ suc to = omega arith in let f : to + 2 ≡ suc (suc to) = omega arith in rw (e, f))
