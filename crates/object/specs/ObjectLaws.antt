-- Laws of objects: nothing stands at or above T, and below it the marker decides; a scalar of fixed size ends at or before T.
use Rattle.std.specs.Prelude.{List, ◌≡◌, ℕ, ◌+◌, ◌≤◌, ◌<◌, get_or}
use Rattle.std.proofs.Common.{lt-ltb, le-ltb, le-leb}
use Rattle.std.proofs.lemmas.Bool.{lt-leb}
use Rattle.number.specs.Part.{part}
use Rattle.number.specs.declared.width.Width.{Width}
use Rattle.object.specs.Content.{trailer_at, ends_before}
use Rattle.object.specs.Kind.{kind_of}
use Rattle.object.specs.Object.{Found, outside, refused_by, fixed_at, by_kind, object_at}
use Rattle.object.specs.declared.refusal.Refusal.TheVariants.{ObjectOffsetTooLarge}

pub object_outside : (file : List ℕ) (refs : Width) (offset : ℕ) → trailer_at file ≤ offset → object_at file refs offset ≡ outside
unfolding object_at
object_outside file refs offset h = rw (le-ltb _ _ h)

pub object_inside : (file : List ℕ) (refs : Width) (offset : ℕ) → offset < trailer_at file → object_at file refs offset ≡ by_kind file refs offset (kind_of (get_or file offset 0))
unfolding object_at
object_inside file refs offset h = rw (lt-ltb _ _ h)

-- a scalar of fixed size that ends at or before T is read; one that doesn't is 6
module _ (file : List ℕ) (offset width : ℕ) (read : List ℕ → Found) where
  pub fixed_inside : offset + 1 + width ≤ trailer_at file → fixed_at file offset width read ≡ read (part file (offset + 1) width)
  unfolding fixed_at ends_before
  fixed_inside h = rw (le-leb _ _ h)

  pub fixed_crossing : trailer_at file < offset + 1 + width → fixed_at file offset width read ≡ refused_by ObjectOffsetTooLarge
  unfolding fixed_at ends_before
  fixed_crossing h = rw (lt-leb _ _ h)
