-- THE CASE "depth" of docs/FORMAT.md, P: 512 and 513 arrays, each inside the last, written and read; and how files of them look.
use Rattle.std.specs.Prelude.{[], ◌∷◌, ◌++◌, ◌≡◌, refl, take, drop, Some}
use Rattle.std.proofs.Common.{lit<, lit≤}
use Rattle.number.specs.Be.{bytes_of}
use Rattle.number.specs.Size.{needed, rounded, size_of}
use Rattle.event.specs.Format.{magic}
use Rattle.event.specs.Meaning.{array, close}
use Rattle.reader.specs.Meanings.{means, ended, refused, answers}
use Rattle.reader.specs.State.{fresh_reader}
use Rattle.written.specs.Encoding.{numbers_bytes}
use Rattle.written.specs.File.{file_for}
use Rattle.tape.specs.Events.{meanings_in}
use Rattle.writer.specs.Write.{long, words_for, write_of}
use Rattle.writer.specs.Write as writer
use Rattle.depth.proofs.DeepLaws.{deep_read}
use Rattle.depth.specs.Nested.{arrays, refs, step, offset, table_for, offsets, chain, places, nested, length_for, opened, closing, told_for}
use Rattle.depth.proofs.ReadLaws.{read_back}
use Rattle.depth.proofs.WriteLaws.{file_of_law, within_written, deep_refused}

-- two arrays and their table: the first names 1, which stands at 10
pub two : take 13 (nested 1) ≡ magic ++ (0xA1 ∷ 0x01 ∷ 0xA0 ∷ 0x08 ∷ 0x0A ∷ [])
unfolding nested magic chain places offset step refs table_for offsets numbers_bytes bytes_of size_of rounded needed
two = refl

-- with 512, references have two bytes
pub wide : take 14 (nested 511) ≡ magic ++ (0xA1 ∷ 0x00 ∷ 0x01 ∷ 0xA1 ∷ 0x00 ∷ 0x02 ∷ [])
unfolding nested magic chain refs bytes_of size_of rounded needed
wide = refl

pub cases :
    -- 512: written, as this file; read, from the 512th start on, with its end
    (write_of (arrays 512) 8192 2598 ≡ long 2598) ×
    (file_for (meanings_in (arrays 512)) ≡ nested 511) ×
    (take 2 (drop 511 (answers 1024 (nested 511) fresh_reader)) ≡ means (array (Some 0)) 1541 ∷ means close 1541 ∷ []) ×
    -- 513: both refuse the last one with 15, at its offset in the tape and in the file
    (write_of (arrays 513) 8208 2603 ≡ writer.refused 15 [] 512) ×
    (drop 511 (answers 514 (nested 512) fresh_reader) ≡ means (array (Some 1)) 1541 ∷ refused 15 [] 1544 ∷ ended ∷ [])
unfolding words_for length_for told_for opened closing table_for offset step refs offsets size_of rounded needed
cases = (
  within_written 511 (lit< tt) 8192 2598 (lit≤ tt) (lit≤ tt),
  file_of_law 511,
  rw (read_back 511 (lit< tt) 0),
  deep_refused 512 8208 2603 (lit≤ tt) (lit≤ tt),
  rw (deep_read 512 (lit≤ tt) (lit≤ tt) 1),
)
