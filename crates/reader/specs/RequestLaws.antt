-- Both calls of the text request for a record that the file gives: with scratch enough they hand out its bytes, with less the first is refused with
-- 16; and where a record of a listed object goes to. docs/FORMAT.md, rules R26 to R30.
use Rattle.std.specs.Prelude.{true, List, [], ◌++◌, ◌≡◌, ℕ, ◌≤◌, ◌<◌}
use Rattle.std.proofs.Math.Path.{refl, ap}
use Rattle.std.proofs.Common.{sym, arith, length-append, length-drop}
use borrow.Author.Tests.{le-leb, lt-leb, le-ltb}
use Rattle.std.proofs.Math.ListN.{length, drop}
use Rattle.std.proofs.Math.Seq.{take-append_seam}
use Rattle.number.specs.Part.{part}
use Rattle.utf.specs.Unicode.{to_utf8}
use Rattle.object.specs.Object.{object_at}
use Rattle.layout.specs.Bytes.{Asked, in_file, in_utf16, no_bytes, denied, found_asked}
use Rattle.layout.specs.Listed.{is_listed}
use Rattle.layout.specs.Trailer.{lays, trailer_of}
use Rattle.layout.specs.declared.layout.Layout.{Layout}
use Rattle.reader.specs.Meanings.{bytes_asked}
use Rattle.reader.specs.Request.{long, refusing, asked_under, asked_by, asked_of, length_said, scratch_after, part_said}
use Rattle.reader.specs.State.{max_length}
use Rattle.reader.specs.declared.answer.Record.{Record}

-- a record of an object that the table lists goes by what is read there
pub asked_there : (file : List ℕ) (l : Layout) (root : ℕ) → length file ≤ max_length → trailer_of file ≡ lays l root → (r : Record) → is_listed file l r.number r.offset ≡ true
    → asked_of file r ≡ found_asked r.event (object_at file l.refs r.offset)
unfolding asked_of asked_by asked_under
asked_there file l root short says r listed = rw (le-ltb _ _ short, says, listed)

-- a record is given, and all its bytes stand in the file
abbrev pub Present : List ℕ → Asked → Type 0
Present file (in_file start n) = length (part file start n) ≡ n
Present file (in_utf16 start n) = Unit {0}
Present file no_bytes = Unit {0}
Present file (denied number values) = ⊥

-- the scratch that its bytes need: text that stands as UTF-16 is changed to UTF-8 there
unfoldable pub scratch_asked : List ℕ → Asked → ℕ
scratch_asked file (in_file start n) = 0
scratch_asked file (in_utf16 start n) = length (to_utf8 (part file start n))
scratch_asked file no_bytes = 0
scratch_asked file (denied number values) = 0

-- both calls: the length, and then the bytes; the scratch stays as long as it was
pub record Gives (file scratch : List ℕ) (at : ℕ) (a : Asked) (content : List ℕ) : Type 0 where
  pub first : length_said file scratch at a ≡ long (length content)
  pub second : part_said file (scratch_after file scratch a) a ≡ content
  pub scratch_is : length (scratch_after file scratch a) ≡ length scratch

module _ (file scratch : List ℕ) (at : ℕ) where
  pub gives : (a : Asked) → Present file a → scratch_asked file a ≤ length scratch → Gives file scratch at a (bytes_asked file a)
  unfolding bytes_asked scratch_asked length_said scratch_after part_said
  gives (in_file start n) w room = record { first = ap long (sym w); second = refl; scratch_is = refl }
  gives no_bytes w room = record { first = refl; second = refl; scratch_is = refl }
  gives (denied number values) w room = absurd w
  gives (in_utf16 start n) w room =
      let t = to_utf8 (part file start n) in
      let l : length (t ++ drop (length t) scratch) ≡ length scratch = rw (length-append, length-drop) (omega arith) in
      record {
        first = rw (le-leb (length t) (length scratch) room);
        second = rw (le-leb (length t) (length scratch) room, l, le-leb (length t) (length scratch) room) (take-append_seam t (drop (length t) scratch));
        scratch_is = rw (le-leb (length t) (length scratch) room) l;
      }

  pub lacks : (a : Asked) → length scratch < scratch_asked file a → (length_said file scratch at a ≡ refusing 16 [] at) × (scratch_after file scratch a ≡ scratch)
  unfolding scratch_asked length_said scratch_after
  lacks (in_file start n) less = absurd (omega arith)
  lacks no_bytes less = absurd (omega arith)
  lacks (denied number values) less = absurd (omega arith)
  lacks (in_utf16 start n) less = rw (lt-leb (length (to_utf8 (part file start n))) (length scratch) less) (refl, refl)
