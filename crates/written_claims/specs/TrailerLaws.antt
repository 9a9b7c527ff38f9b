-- A trailer that is written gives its layout and root.
use Rattle.std.specs.Prelude.{true, List, [], ◌∷◌, ◌++◌, ◌≡◌, refl, ℕ, ◌+◌, ◌*◌, ◌^◌, ◌≤◌, ◌<◌, length, replicate}
use Rattle.std.proofs.Common.{arith}
use borrow.Author.Tests.{le-ltb, le-leb, eq-eqb}
use Rattle.std.proofs.Math.ListN.{get_or}
use Rattle.number.specs.Be.{be, bytes_of}
use Rattle.number.specs.BeLaws.{length_bytes_of}
use Rattle.number.specs.Width.{bytes_in}
use Rattle.number.specs.WidthLaws.{allowed}
use Rattle.number.specs.Part.{part}
use Rattle.object.specs.Content.{trailer_at}
use Rattle.event.specs.Format.{magic}
use Rattle.layout.specs.Trailer.{lays, begins, eight_at, table_of, ref_size_of, sizes_of, trailer_of}
use Rattle.layout.specs.declared.layout.Layout.{Layout}
use Rattle.written_claims.specs.Stands.{Stands, stands_front, stands_back, stands_byte, stands_inside, stands_number}
use Rattle.written.specs.Encoding.{trailer_bytes}
use Rattle.written.proofs.FileLaws.{length_trailer}

-- a list begins with what is put in front of others
pub begins_front : (s t : List ℕ) → begins s (s ++ t) ≡ true
unfolding begins
begins_front [] t = refl
begins_front (b ∷ s) t = rw (eq-eqb b b refl, begins_front s t)

module _ (file : List ℕ) (l : Layout) (root : ℕ) (starts : begins magic file ≡ true)
    (st : Stands file (trailer_at file) (trailer_bytes (bytes_in l.offsets) (bytes_in l.refs) l.count root l.table))
    (counts : l.count < 2 ^ 64) (roots : root < 2 ^ 64) (tables : l.table < 2 ^ 64) (laid : l.table + l.count * bytes_in l.offsets ≤ trailer_at file) where
  abbrev T : ℕ
  T = trailer_at file

  abbrev o : ℕ
  o = bytes_in l.offsets

  abbrev r : ℕ
  r = bytes_in l.refs

  abbrev last : List ℕ
  last = bytes_of 8 l.table

  abbrev two : List ℕ
  two = bytes_of 8 root ++ last

  abbrev three : List ℕ
  three = bytes_of 8 l.count ++ two

  sizes : Stands file (T + 6) (o ∷ r ∷ three)
  unfolding trailer_bytes
  sizes = stands_back file T (replicate 6 0) (o ∷ r ∷ three) st

  refs_size : Stands file (T + 7) (r ∷ three)
  unfolding trailer_bytes
  refs_size = stands_back file T (replicate 6 0 ++ (o ∷ [])) (r ∷ three) st

  numbers : Stands file (T + 8) three
  unfolding trailer_bytes
  numbers = stands_back file T (replicate 6 0 ++ (o ∷ r ∷ [])) three st

  -- behind eight bytes
  further : (n at next : ℕ) (s : List ℕ) → at + 8 ≡ next → Stands file at (bytes_of 8 n ++ s) → Stands file next s
  further n at next s e x = rw (length_bytes_of 8 n, e) at (stands_back file at (bytes_of 8 n) s x)

  from_root : Stands file (T + 16) two
  from_root = further l.count (T + 8) (T + 16) two (omega arith) numbers

  from_table : Stands file (T + 24) last
  from_table = further root (T + 16) (T + 24) last (omega arith) from_root

  inside : 32 ≤ length file
  inside =
      let e = length_trailer o r l.count root l.table in
      omega (arith, stands_inside file T (trailer_bytes o r l.count root l.table) (omega arith) st)

  pub trailer_reads : trailer_of file ≡ lays l root
  unfolding trailer_of sizes_of ref_size_of table_of eight_at
  trailer_reads =
      let a : get_or file (T + 6) 0 ≡ o = stands_byte file (T + 6) o (r ∷ three) sizes in
      let b : get_or file (T + 7) 0 ≡ r = stands_byte file (T + 7) r three refs_size in
      let c : be (part file (T + 8) 8) ≡ l.count = stands_number file (T + 8) 8 l.count counts (stands_front file (T + 8) (bytes_of 8 l.count) two numbers) in
      let d : be (part file (T + 16) 8) ≡ root = stands_number file (T + 16) 8 root roots (stands_front file (T + 16) (bytes_of 8 root) last from_root) in
      let e : be (part file (T + 24) 8) ≡ l.table = stands_number file (T + 24) 8 l.table tables from_table in
      rw (le-ltb (length file) 8 (omega (arith, inside)), starts, le-ltb (length file) 32 inside, a, allowed l.offsets, b, allowed l.refs, c, d, e, le-leb (l.table + l.count * o) T laid)

pub length_magic : length magic ≡ 8
unfolding magic
length_magic = refl
