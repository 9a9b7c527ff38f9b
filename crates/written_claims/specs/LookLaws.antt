-- What the reader looks up and is due in a written file, from what stands in it.
use Rattle.std.specs.Prelude.{List, ◌≡◌, refl, ℕ, ◌^◌, ◌<◌, length, get_or, Some}
use borrow.Author.Tests.{lt-ltb, eq-eqb}
use Rattle.number.specs.Width.{bytes_in}
use Rattle.utf.specs.Bounds.{Below}
use Rattle.object.specs.Container.{container_at}
use Rattle.object.specs.Object.{object_at}
use Rattle.layout.specs.Layout.{entry_at, look_in, look_from, look_of, due_in, kept_from, stands_in, due_of}
use Rattle.layout.specs.declared.layout.Layout.{Layout}
use Rattle.layout.specs.declared.frame.Frame.{Frame}
use Rattle.written_claims.specs.NumbersLaws.{numbers_read}
use Rattle.written_claims.specs.Stands.{Stands}
use Rattle.written.specs.Encoding.{numbers_bytes}

-- the offset table gives the places that are written there
pub table_reads : (file : List ℕ) (l : Layout) (places : List ℕ) (i : ℕ) → Below (256 ^ bytes_in l.offsets) places → i < length places
    → Stands file l.table (numbers_bytes (bytes_in l.offsets) places) → entry_at file l i ≡ Some (get_or places i 0)
unfolding entry_at
table_reads file l places i b h st = numbers_read file l.offsets l.table places i b h st

module _ (file : List ℕ) (l : Layout) (n at : ℕ) (numbered : n < l.count) (entry : entry_at file l n ≡ Some at) where
  pub look_there : look_of file l n ≡ look_in at (object_at file l.refs at)
  unfolding look_of look_from
  look_there = rw (lt-ltb n l.count numbered, entry)

  pub due_there : (f : Frame) → f.object ≡ n → f.offset ≡ at → due_of file l f ≡ due_in file l f at (container_at file at)
  unfolding due_of stands_in kept_from
  due_there f e k = rw (e, k, lt-ltb n l.count numbered, entry, eq-eqb at at refl)
