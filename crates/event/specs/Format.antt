-- What the reader and the writer both go by.
use Rattle.std.specs.Prelude.{List, [], ◌∷◌, ℕ}

-- how many bytes a file or a tape holds at most (docs/FORMAT.md, R1, T5)
abbrev pub max_length : ℕ
max_length = 2_147_483_648

-- how many containers are open at once, at most (R16, G6)
abbrev pub max_open : ℕ
max_open = 512

-- a file's first bytes: "bplist00"
unfoldable pub magic : List ℕ
magic = 0x62 ∷ 0x70 ∷ 0x6C ∷ 0x69 ∷ 0x73 ∷ 0x74 ∷ 0x30 ∷ 0x30 ∷ []
