-- The number that is made of bytes. docs/FORMAT.md asks nothing of it: it only says where the writer looks first.
use Rattle.std.specs.Prelude.{ℕ, zero, suc, ◌+◌, ◌-◌, ◌*◌, ◌/◌, ◌%◌, ◌^◌, cond, List, length, nat_lt, slice_index}
use Rattle.number.specs.Be.{be}

-- four bytes, the low one first
abbrev pub four_at : List ℕ → ℕ → ℕ
four_at s i = slice_index s i + slice_index s (i + 1) * 0x100 + slice_index s (i + 2) * 0x1_0000 + slice_index s (i + 3) * 0x100_0000

unfoldable pub product_of : ℕ → ℕ → ℕ
product_of low high = ((low + 0x9e37_79b1) % 2 ^ 32) * ((high + 0x85eb_ca77) % 2 ^ 32)

-- 64 bits turned round by five
unfoldable pub turned_of : ℕ → ℕ
turned_of h = h % 0x0800_0000_0000_0000 * 0x20 + h / 0x0800_0000_0000_0000

unfoldable pub mixed_of : ℕ → List ℕ → ℕ → ℕ
mixed_of h s i = (turned_of h + product_of (four_at s i) (four_at s (i + 4))) % 2 ^ 64

unfoldable pub folded_of : ℕ → ℕ
folded_of h = (product_of (h % 0x1_0000_0000) (h / 0x1_0000_0000) % 0x1_0000_0000 + product_of (h % 0x1_0000_0000) (h / 0x1_0000_0000) / 0x1_0000_0000) % 0x1_0000_0000

-- the first k blocks of eight bytes, one mixed with the other
unfoldable pub blocks_of : List ℕ → ℕ → ℕ
blocks_of s zero = 0
blocks_of s (suc k) = mixed_of (blocks_of s k) s (k * 8)

-- a number below 2 ^ 32; fewer than eight bytes are one number
unfoldable pub hash_of : List ℕ → ℕ
hash_of s = cond (nat_lt (length s) 8) (folded_of (be s)) (folded_of (mixed_of (blocks_of s ((length s - 8 + 7) / 8)) s (length s - 8)))
