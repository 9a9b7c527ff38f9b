-- An object that is given lies whole between its offset and T.
use Rattle.std.specs.Prelude.{List, ◌≡◌, ℕ, ◌+◌, ◌*◌, ◌≤◌, ◌<◌, ltb, get_or}
use Rattle.std.proofs.Math.Path.{refl}
use native.Mathlib.Omega.{arith}
use borrow.Author.Tests.{ltb-true, leb-true}
use Rattle.number.specs.Either.{either}
use Rattle.number.specs.Width.{bytes_in}
use Rattle.number.specs.declared.width.Width.{Width}
use Rattle.object.specs.Content.{trailer_at, ends_before, extent_at, content_at}
use Rattle.object.specs.ContentLaws.{fitting}
use Rattle.object.specs.End.{behind_all, end_by, end_at}
use Rattle.object.specs.Kind.{kind_of}
use Rattle.object.specs.Object.{Found, outside, refused, refused_by, scalar, bytes, utf8, utf16, array, dictionary, fixed_at, data_in, utf8_in, utf16_in, array_in, dictionary_in, by_kind, object_at}
use Rattle.object.specs.declared.content.Content.TheVariants.{Fits, Refused}
use Rattle.object.specs.declared.content.Content.{Content}
use Rattle.object.specs.declared.content.Extent.{Extent}
use Rattle.object.specs.declared.kind.Kind.TheVariants as kind
use Rattle.object.specs.declared.kind.Kind.{Kind}

-- what is found is neither nothing nor a refusal
abbrev pub Given : Found → Type 0
Given outside = ⊥
Given (refused number values) = ⊥
Given (scalar e) = Unit {0}
Given (bytes start n) = Unit {0}
Given (utf8 start n) = Unit {0}
Given (utf16 start n) = Unit {0}
Given (array n) = Unit {0}
Given (dictionary n) = Unit {0}

module _ (file : List ℕ) (refs : Width) (offset : ℕ) where
  -- an end, of what is given
  abbrev Ends : ℕ → Found → Type 0
  Ends end x = Given x → end ≤ trailer_at file

  fixed_ends : (width : ℕ) (read : List ℕ → Found) → Ends (offset + 1 + width) (fixed_at file offset width read)
  unfolding fixed_at ends_before refused_by
  fixed_ends width read = either (Ends (offset + 1 + width)) (ends_before file (offset + 1 + width)) _ _ (λ e g. leb-true _ _ e) (λ e g. absurd g)

  -- content that fits ends where its extent says
  fits : (nibble each : ℕ) (e : Extent) → content_at file offset nibble each ≡ Fits e → behind_all (extent_at file offset nibble) each ≤ trailer_at file
  unfolding behind_all
  fits nibble each e h =
      let f = fitting file offset nibble e each h in
      rw (← f.is) f.ends

  data_ends : (nibble : ℕ) (x : Content) → content_at file offset nibble 1 ≡ x → Ends (behind_all (extent_at file offset nibble) 1) (data_in x)
  unfolding data_in refused_by
  data_ends nibble (Refused r) h g = absurd g
  data_ends nibble (Fits e) h g = fits nibble 1 e h

  utf8_ends : (nibble : ℕ) (x : Content) → content_at file offset nibble 1 ≡ x → Ends (behind_all (extent_at file offset nibble) 1) (utf8_in file x)
  unfolding utf8_in refused_by
  utf8_ends nibble (Refused r) h g = absurd g
  utf8_ends nibble (Fits e) h g = fits nibble 1 e h

  utf16_ends : (nibble : ℕ) (x : Content) → content_at file offset nibble 2 ≡ x → Ends (behind_all (extent_at file offset nibble) 2) (utf16_in file x)
  unfolding utf16_in refused_by
  utf16_ends nibble (Refused r) h g = absurd g
  utf16_ends nibble (Fits e) h g = fits nibble 2 e h

  array_ends : (nibble : ℕ) (x : Content) → content_at file offset nibble (bytes_in refs) ≡ x → Ends (behind_all (extent_at file offset nibble) (bytes_in refs)) (array_in x)
  unfolding array_in refused_by
  array_ends nibble (Refused r) h g = absurd g
  array_ends nibble (Fits e) h g = fits nibble (bytes_in refs) e h

  dictionary_ends : (nibble : ℕ) (x : Content) → content_at file offset nibble (2 * bytes_in refs) ≡ x → Ends (behind_all (extent_at file offset nibble) (2 * bytes_in refs)) (dictionary_in x)
  unfolding dictionary_in refused_by
  dictionary_ends nibble (Refused r) h g = absurd g
  dictionary_ends nibble (Fits e) h g = fits nibble (2 * bytes_in refs) e h

  kind_ends : offset < trailer_at file → (k : Kind) → Ends (end_by file refs offset k) (by_kind file refs offset k)
  unfolding by_kind end_by refused_by
  kind_ends below kind.Null g = absurd g
  kind_ends below kind.False g = omega arith
  kind_ends below kind.True g = omega arith
  kind_ends below kind.Fill g = absurd g
  kind_ends below (kind.Unsigned width) g = fixed_ends width _ g
  kind_ends below kind.Signed g = fixed_ends 8 _ g
  kind_ends below kind.Wide g = fixed_ends 16 _ g
  kind_ends below kind.ShortReal g = fixed_ends 4 _ g
  kind_ends below kind.Real g = fixed_ends 8 _ g
  kind_ends below kind.Date g = fixed_ends 8 _ g
  kind_ends below (kind.Data nibble) g = data_ends nibble (content_at file offset nibble 1) refl g
  kind_ends below (kind.Utf8 nibble) g = utf8_ends nibble (content_at file offset nibble 1) refl g
  kind_ends below (kind.Utf16 nibble) g = utf16_ends nibble (content_at file offset nibble 2) refl g
  kind_ends below (kind.Uid width) g = fixed_ends width _ g
  kind_ends below (kind.Array nibble) g = array_ends nibble (content_at file offset nibble (bytes_in refs)) refl g
  kind_ends below (kind.Dictionary nibble) g = dictionary_ends nibble (content_at file offset nibble (2 * bytes_in refs)) refl g
  kind_ends below (kind.Unknown marker) g = absurd g

  pub given_ends : Given (object_at file refs offset) → end_at file refs offset ≤ trailer_at file
  unfolding object_at end_at
  given_ends = either (Ends (end_at file refs offset)) (ltb offset (trailer_at file)) _ _ (λ t. kind_ends (ltb-true _ _ t) (kind_of (get_or file offset 0))) (λ t g. absurd g)
