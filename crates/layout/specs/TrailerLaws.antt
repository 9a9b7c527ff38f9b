-- What a trailer that is read tells.
use Rattle.std.specs.Prelude.{true, List, ◌≡◌, ℕ, ◌+◌, ◌*◌, ltb, leb, eqb, length, get_or, None, Option, Some}
use Rattle.std.proofs.Math.Path.{refl}
use borrow.Author.Tests.{leb-true}
use Rattle.number.specs.Among.{among}
use Rattle.number.specs.Width.{bytes_in, width_of}
use Rattle.number.specs.declared.width.Width.{Width}
use Rattle.event.specs.Format.{magic}
use Rattle.object.specs.Content.{trailer_at}
use Rattle.layout.specs.Refusals.{trailer_keeps, trailer_ends}
use Rattle.layout.specs.Trailer.{Trailer, keeps, ends, lays, begins, eight_at, table_of, ref_size_of, sizes_of, trailer_of}
use Rattle.layout.specs.declared.layout.Layout.{Layout}
use Rattle.layout.specs.LookLaws.{Laid}
use Rattle.number.specs.Either.{either}

-- a layout and a root: the numbers are the trailer's, and the table ends at or before T
pub record Laying (file : List ℕ) (l : Layout) (root : ℕ) : Type 0 where
  pub laid : Laid file l
  pub counts : l.count ≡ eight_at file 8
  pub roots : root ≡ eight_at file 16
  pub tables : l.table ≡ eight_at file 24

-- a refusal that leaves the reader as it is has a number of its list, and one that ends it
abbrev pub Tells : List ℕ → Trailer → Type 0
Tells file (keeps number values place) = among trailer_keeps number ≡ true
Tells file (ends number values place) = among trailer_ends number ≡ true
Tells file (lays l root) = Laying file l root

module _ (file : List ℕ) where
  table_tells : (offsets refs : Width) → Tells file (table_of file offsets refs)
  unfolding table_of trailer_ends among
  table_tells offsets refs =
      either (Tells file) (leb (eight_at file 24 + eight_at file 8 * bytes_in offsets) (trailer_at file)) _ _
      (λ e. record { laid = leb-true _ _ e; counts = refl; roots = refl; tables = refl })
      (λ e. refl)

  refs_tell : (offsets : Width) (s : Option Width) → Tells file (ref_size_of file offsets s)
  unfolding ref_size_of trailer_keeps trailer_ends among
  refs_tell offsets (Some refs) = table_tells offsets refs
  refs_tell offsets None = either (Tells file) (eqb (get_or file (trailer_at file + 7) 0) 0) _ _ (λ e. refl) (λ e. refl)

  sizes_tell : (s : Option Width) → Tells file (sizes_of file s)
  unfolding sizes_of trailer_keeps among
  sizes_tell (Some offsets) = refs_tell offsets (width_of (get_or file (trailer_at file + 7) 0))
  sizes_tell None = refl

  pub tells : Tells file (trailer_of file)
  unfolding trailer_of trailer_keeps among
  tells =
      either (Tells file) (ltb (length file) 8) _ _ (λ e. refl)
      (λ e. either (Tells file) (begins magic file) _ _
      (λ e. either (Tells file) (ltb (length file) 32) _ _ (λ f. refl) (λ f. sizes_tell (width_of (get_or file (trailer_at file + 6) 0))))
      (λ e. refl))
