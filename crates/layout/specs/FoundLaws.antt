-- What is known of what is found at an offset: a refusal's number is one of the list; scalars, data and text are found whatever the width of a
-- reference, data and text lie within the file, and text is text; a container is found again, and its references lie within the file.
use Rattle.std.specs.Prelude.{true, List, [], ◌≡◌, ℕ, ◌+◌, ◌*◌, ◌≤◌, length}
use Rattle.std.proofs.Math.Path.{refl}
use Rattle.std.proofs.Common.{le-mul_of_pos_right, arith}
use Rattle.number.specs.Part.{part}
use Rattle.number.specs.Width.{bytes_in}
use Rattle.number.specs.WidthLaws.{bytes_in_pos}
use Rattle.number.specs.declared.width.Width.{Width}
use Rattle.number.specs.declared.width.Width.TheVariants.{One}
use Rattle.utf.specs.Unicode.{is_utf8, is_utf16}
use Rattle.event.specs.declared.Event.{Event}
use Rattle.event.specs.declared.Event.TheVariants.{StartArray, StartDictionary, EndCollection, Boolean, Data, Date, Integer, Real, Nan, String, Uid}
use Rattle.object.specs.Container.{container_at}
use Rattle.object.specs.Content.{trailer_at}
use Rattle.object.specs.KnownLaws.{Plain, Known, known}
use Rattle.object.specs.Object.{Found, object_at}
use Rattle.object.specs.Object as found
use Rattle.object.specs.declared.container.Container.{Container}
use Rattle.object.specs.declared.container.Container.TheVariants.{Array, Dictionary}
use Rattle.object.specs.declared.content.Extent.{Extent}
use Rattle.layout.specs.Bytes.{Asked, in_file, in_utf16, no_bytes, denied, data_asked, text_asked, event_asked, looked_bytes}
use Rattle.layout.specs.Layout.{look_in}
use Rattle.layout.specs.Looked.{Shape, array, dictionary, start_of}
use Rattle.layout.specs.Refusals.{Faults, object_refusal}

-- the container that an extent is under a shape, and how many references a container of a length has
unfoldable pub made : Shape → Extent → Container
made array e = Array e
made dictionary e = Dictionary e

unfoldable pub refs_of : Shape → ℕ → ℕ
refs_of array n = n
refs_of dictionary n = 2 * n

-- a container of a shape and a length, whose references, of so many bytes each, lie within the file
pub record Lies (file : List ℕ) (each : ℕ) (s : Shape) (n : ℕ) (c : Container) : Type 0 where
  pub extent : Extent
  pub is : c ≡ made s extent
  pub counts : extent.count ≡ n
  pub few : n ≤ trailer_at file
  pub inside : extent.start + refs_of s n * each ≤ length file

-- what is known of what is found under one width of references, beside what is found under another and the container that is found again
abbrev pub Sound : List ℕ → ℕ → Found → Found → Container → Type 0
Sound file each found.outside other c = Unit {0}
Sound file each (found.refused number values) other c = Faults number
Sound file each (found.scalar e) other c = (other ≡ found.scalar e) × Plain e
Sound file each (found.bytes start n) other c = (other ≡ found.bytes start n) × (start + n ≤ length file)
Sound file each (found.utf8 start n) other c = (other ≡ found.utf8 start n) × (start + n ≤ length file) × (is_utf8 (part file start n) ≡ true)
Sound file each (found.utf16 start n) other c = (other ≡ found.utf16 start n) × (start + n ≤ length file) × (is_utf16 (part file start n) ≡ true)
Sound file each (found.array n) other c = Lies file each array n c
Sound file each (found.dictionary n) other c = Lies file each dictionary n c

-- as the law of objects says it
pub sound : (file : List ℕ) (refs : Width) (offset : ℕ) → Sound file (bytes_in refs) (object_at file refs offset) (object_at file One offset) (container_at file offset)
unfolding made refs_of
sound file refs offset = go (object_at file refs offset) (known file refs offset)
  where
    within : (m : ℕ) → m ≤ trailer_at file → m ≤ length file
    within m h = omega arith

    few : (start n : ℕ) → start + n * bytes_in refs ≤ trailer_at file → n ≤ trailer_at file
    few start n h = omega (arith, le-mul_of_pos_right n (bytes_in_pos refs))

    both : (start n : ℕ) → start + 2 * n * bytes_in refs ≤ trailer_at file → n ≤ trailer_at file
    both start n h = omega (arith, le-mul_of_pos_right (2 * n) (bytes_in_pos refs))

    go : (x : Found) → Known file refs offset x → Sound file (bytes_in refs) x (object_at file One offset) (container_at file offset)
    go found.outside k = tt
    go (found.refused number values) k = object_refusal number k
    go (found.scalar e) k = (k.0 One, k.1)
    go (found.bytes start n) k = (k.again One, within _ k.ends)
    go (found.utf8 start n) k = (k.0.again One, within _ k.0.ends, k.1)
    go (found.utf16 start n) k = (k.0.again One, within _ k.0.ends, k.1)
    go (found.array n) k = record { extent = k.extent; is = k.stands; counts = k.counts; few = few k.extent.start n k.ends; inside = within _ k.ends }
    go (found.dictionary n) k = record { extent = k.extent; is = k.stands; counts = k.counts; few = both k.extent.start n k.ends; inside = within _ k.ends }

-- where the bytes of what is found stand
unfoldable pub found_bytes : Found → Asked
found_bytes found.outside = denied 17 []
found_bytes (found.refused number values) = denied 17 []
found_bytes (found.scalar e) = no_bytes
found_bytes (found.bytes start n) = in_file start n
found_bytes (found.utf8 start n) = in_file start n
found_bytes (found.utf16 start n) = in_utf16 start n
found_bytes (found.array n) = denied 17 []
found_bytes (found.dictionary n) = denied 17 []

module _ (file : List ℕ) where
  -- a scalar that is found carries all that it is, and has no bytes
  pub plain_asked : (e : Event) (offset : ℕ) → Plain e → event_asked file e offset ≡ no_bytes
  unfolding event_asked
  plain_asked (StartArray n) offset h = absurd h
  plain_asked (StartDictionary n) offset h = absurd h
  plain_asked EndCollection offset h = absurd h
  plain_asked (Boolean b) offset h = refl
  plain_asked Data offset h = absurd h
  plain_asked (Date b) offset h = refl
  plain_asked (Integer i) offset h = refl
  plain_asked (Real x) offset h = refl
  plain_asked (Nan b) offset h = refl
  plain_asked String offset h = absurd h
  plain_asked (Uid n) offset h = refl

  -- nor has a container's start, or its end
  pub start_asked_law : (s : Shape) (n offset : ℕ) → event_asked file (start_of s n) offset ≡ no_bytes
  unfolding event_asked start_of
  start_asked_law array n offset = refl
  start_asked_law dictionary n offset = refl

  pub end_asked_law : (offset : ℕ) → event_asked file EndCollection offset ≡ no_bytes
  unfolding event_asked
  end_asked_law offset = refl

  -- where the bytes of what is looked up stand: where they were found
  in_bytes : (each offset : ℕ) (x : Found) → Sound file each x (object_at file One offset) (container_at file offset) → looked_bytes file (look_in offset x) ≡ found_bytes x
  unfolding look_in looked_bytes found_bytes event_asked data_asked text_asked
  in_bytes each offset found.outside h = refl
  in_bytes each offset (found.refused number values) h = refl
  in_bytes each offset (found.scalar e) h = plain_asked e offset h.1
  in_bytes each offset (found.bytes start n) h = rw h.0
  in_bytes each offset (found.utf8 start n) h = rw h.0
  in_bytes each offset (found.utf16 start n) h = rw h.0
  in_bytes each offset (found.array n) h = refl
  in_bytes each offset (found.dictionary n) h = refl

  pub look_bytes : (refs : Width) (offset : ℕ) → looked_bytes file (look_in offset (object_at file refs offset)) ≡ found_bytes (object_at file refs offset)
  look_bytes refs offset = in_bytes (bytes_in refs) offset (object_at file refs offset) (sound file refs offset)
