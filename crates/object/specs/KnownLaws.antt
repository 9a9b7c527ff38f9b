-- What is known of a thing that is found at an offset, shown once over all markers: a refusal's number is in the list; scalars, data and text
-- are found whatever the width of a reference; a scalar carries all that it is; data and text end at or before T and are well formed; a
-- container is found again, and its references end there too.
use Rattle.std.specs.Prelude.{true, List, ◌≡◌, ℕ, ◌+◌, ◌*◌, ◌^◌, ◌≤◌, ◌<◌, ltb, get_or}
use Rattle.std.proofs.Math.Path.{refl}
use Rattle.std.proofs.Common.{◌∙◌, mul_assoc, mul_comm}
use native.Mathlib.Omega.{arith}
use borrow.Author.Tests.{ltb-true, ltb-false}
use Rattle.std.specs.Float.Ieee.{binary32, binary64, nan_bits}
use Rattle.number.specs.Among.{among}
use Rattle.number.specs.Be.{be}
use Rattle.number.specs.Either.{either}
use Rattle.number.specs.Part.{part}
use Rattle.number.specs.Width.{bytes_in}
use Rattle.number.specs.declared.width.Width.{Width}
use Rattle.utf.specs.Unicode.{is_utf8, is_utf16}
use Rattle.event.specs.Date.{is_date}
use Rattle.event.specs.Real.{real_of, short_real_of}
use Rattle.event.specs.declared.Event.{Event}
use Rattle.event.specs.declared.Event.TheVariants.{StartArray, StartDictionary, EndCollection, Boolean, Data, Date, Integer, Real, Nan, String, Uid}
use Rattle.object.specs.Container.{array_of, dictionary_of, container_of, container_at}
use Rattle.object.specs.ContainerLaws.{container_inside}
use Rattle.object.specs.Content.{trailer_at, ends_before, content_at}
use Rattle.object.specs.ContentLaws.{fitting}
use Rattle.object.specs.Kind.{kind_of}
use Rattle.object.specs.Object.{Found, outside, refused, refused_by, scalar, bytes, utf8, utf16, array, dictionary, fixed_at, unsigned_in, signed_in, wide_in, short_real_in, real_in, date_of, date_in, uid_in, data_in, utf8_in, utf16_in, array_in, dictionary_in, by_kind, object_at}
use Rattle.object.specs.ObjectLaws.{object_inside}
use Rattle.object.specs.Refusal.{object_refusals}
use Rattle.object.specs.RefusalLaws.{refusal_listed}
use Rattle.object.specs.declared.container.Container.TheVariants.{Array, Dictionary}
use Rattle.object.specs.declared.content.Content.TheVariants.{Fits, Refused}
use Rattle.object.specs.declared.content.Content.{Content}
use Rattle.object.specs.declared.content.Extent.{Extent}
use Rattle.object.specs.declared.kind.Kind.TheVariants as kind
use Rattle.object.specs.declared.kind.Kind.{Kind}
use Rattle.object.specs.declared.refusal.Refusal.{Refusal}

-- a scalar that carries all that it is; a date's bits are a date's
abbrev pub Plain : Event → Type 0
Plain (StartArray n) = ⊥
Plain (StartDictionary n) = ⊥
Plain EndCollection = ⊥
Plain (Boolean b) = Unit {0}
Plain Data = ⊥
Plain (Date b) = is_date b ≡ true
Plain (Integer i) = Unit {0}
Plain (Real x) = Unit {0}
Plain (Nan b) = Unit {0}
Plain String = ⊥
Plain (Uid n) = Unit {0}

module _ (file : List ℕ) (refs : Width) (offset : ℕ) where
  -- bytes of data or text: found with references of any width, and before T
  pub record Lying (x : Found) (start n : ℕ) : Type 0 where
    pub again : (w : Width) → object_at file w offset ≡ x
    pub ends : start + n ≤ trailer_at file

  -- a container, so many references of its elements or pairs: it is found again where it is looked at once it is open
  pub record ArrayLying (n : ℕ) : Type 0 where
    pub extent : Extent
    pub stands : container_at file offset ≡ Array extent
    pub counts : extent.count ≡ n
    pub ends : extent.start + n * bytes_in refs ≤ trailer_at file

  pub record DictionaryLying (n : ℕ) : Type 0 where
    pub extent : Extent
    pub stands : container_at file offset ≡ Dictionary extent
    pub counts : extent.count ≡ n
    pub ends : extent.start + 2 * n * bytes_in refs ≤ trailer_at file

  abbrev pub Known : Found → Type 0
  Known outside = trailer_at file ≤ offset
  Known (refused number values) = among object_refusals number ≡ true
  Known (scalar e) = ((w : Width) → object_at file w offset ≡ scalar e) × Plain e
  Known (bytes start n) = Lying (bytes start n) start n
  Known (utf8 start n) = Lying (utf8 start n) start n × (is_utf8 (part file start n) ≡ true)
  Known (utf16 start n) = Lying (utf16 start n) start n × (is_utf16 (part file start n) ≡ true)
  Known (array n) = ArrayLying n
  Known (dictionary n) = DictionaryLying n

  by_refusal : (r : Refusal) → Known (refused_by r)
  unfolding refused_by
  by_refusal r = refusal_listed r

  -- below T, where the marker is of a kind
  module _ (below : offset < trailer_at file) (k : Kind) (marked : kind_of (get_or file offset 0) ≡ k) where
    by_kind_law : (w : Width) → object_at file w offset ≡ by_kind file w offset k
    by_kind_law w = object_inside file w offset below ∙ rw marked

    container_by_kind : container_at file offset ≡ container_of file offset k
    container_by_kind = container_inside file offset below ∙ rw marked

  -- keys and values
  twice : (start n : ℕ) → start + n * (2 * bytes_in refs) ≤ trailer_at file → start + 2 * n * bytes_in refs ≤ trailer_at file
  twice start n h = rw (mul_comm 2 n, mul_assoc) h

  -- a scalar of fixed size, or its refusal
  abbrev Fixed : Found → Type 0
  Fixed outside = ⊥
  Fixed (refused number values) = among object_refusals number ≡ true
  Fixed (scalar e) = Plain e
  Fixed (bytes start n) = ⊥
  Fixed (utf8 start n) = ⊥
  Fixed (utf16 start n) = ⊥
  Fixed (array n) = ⊥
  Fixed (dictionary n) = ⊥

  -- is found with references of any width
  fixed : (x : Found) → ((w : Width) → object_at file w offset ≡ x) → Fixed x → Known x
  fixed outside again h = absurd h
  fixed (refused number values) again h = h
  fixed (scalar e) again h = (again, h)
  fixed (bytes start n) again h = absurd h
  fixed (utf8 start n) again h = absurd h
  fixed (utf16 start n) again h = absurd h
  fixed (array n) again h = absurd h
  fixed (dictionary n) again h = absurd h

  fixed_known : offset < trailer_at file → (k : Kind) → kind_of (get_or file offset 0) ≡ k → (width : ℕ) (read : List ℕ → Found)
      → ((w : Width) → by_kind file w offset k ≡ fixed_at file offset width read) → ((s : List ℕ) → Fixed (read s)) → Known (fixed_at file offset width read)
  unfolding fixed_at refused_by
  fixed_known below k m width read is h =
      fixed (fixed_at file offset width read) (λ w. by_kind_law below k m w ∙ is w)
      (either Fixed (ends_before file (offset + 1 + width)) _ _ (λ e. h (part file (offset + 1) width)) (λ e. refusal_listed _))

  wide_known : (s : List ℕ) → Fixed (wide_in s)
  unfolding wide_in refused_by
  wide_known s = either Fixed (ltb (be s) (2 ^ 64)) _ _ (λ e. tt) (λ e. refusal_listed _)

  short_known : (s : List ℕ) → Fixed (short_real_in s)
  unfolding short_real_of
  short_known s = either Plain (nan_bits binary32 (be s)) _ _ (λ e. tt) (λ e. tt)

  real_known : (s : List ℕ) → Fixed (real_in s)
  unfolding real_of
  real_known s = either Plain (nan_bits binary64 (be s)) _ _ (λ e. tt) (λ e. tt)

  date_known : (s : List ℕ) → Fixed (date_in s)
  unfolding date_of refused_by
  date_known s = either Fixed (is_date (be s)) _ _ (λ e. e) (λ e. refusal_listed _)

  module _ (below : offset < trailer_at file) (nibble : ℕ) where
    data_known : kind_of (get_or file offset 0) ≡ kind.Data nibble → (x : Content) → content_at file offset nibble 1 ≡ x → Known (data_in x)
    unfolding data_in by_kind
    data_known m (Refused r) h = by_refusal r
    data_known m (Fits e) h =
        let f = fitting file offset nibble e 1 h in
        record { again = λ w. by_kind_law below (kind.Data nibble) m w ∙ rw h; ends = omega arith }

    utf8_known : kind_of (get_or file offset 0) ≡ kind.Utf8 nibble → (x : Content) → content_at file offset nibble 1 ≡ x → Known (utf8_in file x)
    unfolding utf8_in by_kind
    utf8_known m (Refused r) h = by_refusal r
    utf8_known m (Fits e) h =
        let f = fitting file offset nibble e 1 h in
        either Known (is_utf8 (part file e.start e.count)) _ _
        (λ t. (record { again = λ w. by_kind_law below (kind.Utf8 nibble) m w ∙ rw (h, utf8_in, t); ends = omega arith }, t))
        (λ t. by_refusal _)

    utf16_known : kind_of (get_or file offset 0) ≡ kind.Utf16 nibble → (x : Content) → content_at file offset nibble 2 ≡ x → Known (utf16_in file x)
    unfolding utf16_in by_kind
    utf16_known m (Refused r) h = by_refusal r
    utf16_known m (Fits e) h =
        let f = fitting file offset nibble e 2 h in
        either Known (is_utf16 (part file e.start (e.count * 2))) _ _
        (λ t. (record { again = λ w. by_kind_law below (kind.Utf16 nibble) m w ∙ rw (h, utf16_in, t); ends = omega arith }, t))
        (λ t. by_refusal _)

    array_known : kind_of (get_or file offset 0) ≡ kind.Array nibble → (x : Content) → content_at file offset nibble (bytes_in refs) ≡ x → Known (array_in x)
    unfolding array_in container_of array_of
    array_known m (Refused r) h = by_refusal r
    array_known m (Fits e) h =
        let f = fitting file offset nibble e (bytes_in refs) h in
        record { extent = e; stands = container_by_kind below (kind.Array nibble) m ∙ rw f.head; counts = refl; ends = f.ends }

    dictionary_known : kind_of (get_or file offset 0) ≡ kind.Dictionary nibble → (x : Content) → content_at file offset nibble (2 * bytes_in refs) ≡ x → Known (dictionary_in x)
    unfolding dictionary_in container_of dictionary_of
    dictionary_known m (Refused r) h = by_refusal r
    dictionary_known m (Fits e) h =
        let f = fitting file offset nibble e (2 * bytes_in refs) h in
        record {
          extent = e;
          stands = container_by_kind below (kind.Dictionary nibble) m ∙ rw f.head;
          counts = refl;
          ends = twice e.start e.count f.ends;
        }

  kind_known : offset < trailer_at file → (k : Kind) → kind_of (get_or file offset 0) ≡ k → Known (by_kind file refs offset k)
  unfolding by_kind
  kind_known below kind.Null m = by_refusal _
  kind_known below kind.False m = (λ w. by_kind_law below kind.False m w, tt)
  kind_known below kind.True m = (λ w. by_kind_law below kind.True m w, tt)
  kind_known below kind.Fill m = by_refusal _
  kind_known below (kind.Unsigned width) m = fixed_known below (kind.Unsigned width) m width unsigned_in (λ w. refl) (λ s. tt)
  kind_known below kind.Signed m = fixed_known below kind.Signed m 8 signed_in (λ w. refl) (λ s. tt)
  kind_known below kind.Wide m = fixed_known below kind.Wide m 16 wide_in (λ w. refl) wide_known
  kind_known below kind.ShortReal m = fixed_known below kind.ShortReal m 4 short_real_in (λ w. refl) short_known
  kind_known below kind.Real m = fixed_known below kind.Real m 8 real_in (λ w. refl) real_known
  kind_known below kind.Date m = fixed_known below kind.Date m 8 date_in (λ w. refl) date_known
  kind_known below (kind.Data nibble) m = data_known below nibble m (content_at file offset nibble 1) refl
  kind_known below (kind.Utf8 nibble) m = utf8_known below nibble m (content_at file offset nibble 1) refl
  kind_known below (kind.Utf16 nibble) m = utf16_known below nibble m (content_at file offset nibble 2) refl
  kind_known below (kind.Uid width) m = fixed_known below (kind.Uid width) m width uid_in (λ w. refl) (λ s. tt)
  kind_known below (kind.Array nibble) m = array_known below nibble m (content_at file offset nibble (bytes_in refs)) refl
  kind_known below (kind.Dictionary nibble) m = dictionary_known below nibble m (content_at file offset nibble (2 * bytes_in refs)) refl
  kind_known below (kind.Unknown marker) m = by_refusal _

  pub known : Known (object_at file refs offset)
  unfolding object_at
  known =
      either Known (ltb offset (trailer_at file)) _ _
      (λ t. kind_known (ltb-true _ _ t) (kind_of (get_or file offset 0)) refl)
      (λ t. ltb-false _ _ t)
