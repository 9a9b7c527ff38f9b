-- The container at a marker: an array or a dictionary has the head that the low four bits tell, and there is none at any other marker.
use mathlib.Core.List.{List}
use mathlib.Core.Path.{◌≡◌, refl, ap, ◌∙◌}
use Prim.Native.Nat.{ℕ, ◌-◌, ◌%◌, ◌≤◌, ◌<◌}
use native.Mathlib.Decide.{dec_lt}
use native.Mathlib.Omega.{arith}
use Rattle.utf.specs.Interval.{on}
use Rattle.object.specs.Container.{array_of, dictionary_of, container_of}
use Rattle.object.specs.Content.{head_at}
use Rattle.object.specs.Kind.{kind_of}
use Rattle.object.specs.KindLaws.{kind_array, kind_dictionary}
use Rattle.object.specs.declared.container.Container.TheVariants.{NoContainer}
use Rattle.object.specs.declared.content.Content.TheVariants.{Refused}
use Rattle.object.specs.declared.refusal.Refusal.{Refusal}

module _ (file : List ℕ) (offset m : ℕ) where
  pub array_there : 0xA0 ≤ m → m < 0xB0 → container_of file offset (kind_of m) ≡ array_of (head_at file offset (m % 16))
  unfolding container_of
  array_there h k = let e : m - 0xA0 ≡ m % 16 = omega arith in rw (kind_array m h k, e)

  pub dictionary_there : 0xD0 ≤ m → m < 0xE0 → container_of file offset (kind_of m) ≡ dictionary_of (head_at file offset (m % 16))
  unfolding container_of
  dictionary_there h k = let e : m - 0xD0 ≡ m % 16 = omega arith in rw (kind_dictionary m h k, e)

  pub none_below : m < 0xA0 → container_of file offset (kind_of m) ≡ NoContainer
  unfolding kind_of container_of
  none_below = on (λ (x : ℕ). container_of file offset (kind_of x)) (λ (x : ℕ). NoContainer) 0 0xA0 m refl (omega arith)

  pub none_between : 0xB0 ≤ m → m < 0xD0 → container_of file offset (kind_of m) ≡ NoContainer
  unfolding kind_of container_of
  none_between = on (λ (x : ℕ). container_of file offset (kind_of x)) (λ (x : ℕ). NoContainer) 0xB0 32 m refl

  pub none_above : 0xE0 ≤ m → m < 0x100 → container_of file offset (kind_of m) ≡ NoContainer
  unfolding kind_of container_of
  none_above = on (λ (x : ℕ). container_of file offset (kind_of x)) (λ (x : ℕ). NoContainer) 0xE0 32 m refl

  -- whatever the marker, a head that is refused is no container's
  pub none_refused : m < 0x100 → (r : Refusal) → head_at file offset (m % 16) ≡ Refused r → container_of file offset (kind_of m) ≡ NoContainer
  unfolding array_of dictionary_of
  none_refused byte r e =
      elim (dec_lt m 0xA0) [
        | yes p ↦ none_below p
        | no p ↦ elim (dec_lt m 0xB0) [
          | yes q ↦ array_there (omega arith) q ∙ ap array_of e
          | no q ↦ elim (dec_lt m 0xD0) [
            | yes s ↦ none_between (omega arith) s
            | no s ↦ elim (dec_lt m 0xE0) [
              | yes t ↦ dictionary_there (omega arith) t ∙ ap dictionary_of e
              | no t ↦ none_above (omega arith) byte
            ]
          ]
        ]
      ]
