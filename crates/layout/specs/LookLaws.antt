-- What is known of an object that is looked up, in any file under any layout: the file gives it; and that no object is missing where the offset
-- table ends at or before T.
use Rattle.std.specs.Prelude.{Bool, List, ◌⊎◌, length, None, Option, Some}
use Rattle.std.proofs.Math.Bool.{true, false}
use Rattle.std.proofs.Common.{inl, inr, mul-le-mul_right, arith}
use Rattle.std.proofs.Math.Path.{◌≡◌, refl}
use Prim.Native.Nat.{ℕ, suc, ◌+◌, ◌*◌, ◌≤◌, ◌<◌}
use Rattle.std.proofs.Math.Nat.{suc-mul}
use borrow.Author.Tests.{lt-ltb, le-leb, ltb-true, eq-eqb}
use Rattle.std.proofs.Math.Dec.{ltb}
use Rattle.number.specs.Among.{among}
use Rattle.number.specs.Be.{be}
use Rattle.number.specs.Width.{bytes_in}
use Rattle.number.specs.declared.width.Width.TheVariants.{One}
use Rattle.utf.specs.Unicode.{is_utf8, is_utf16}
use Rattle.event.specs.Bare.{Bare}
use Rattle.event.specs.declared.Event.{Event}
use Rattle.event.specs.declared.Event.TheVariants.{StartArray, StartDictionary, EndCollection, Boolean, Data, Date, Integer, Real, Nan, String, Uid}
use Rattle.object.specs.Container.{container_at}
use Rattle.number.specs.Part.{part}
use Rattle.object.specs.Content.{trailer_at}
use Rattle.object.specs.KnownLaws.{Plain}
use Rattle.object.specs.Refusal.{object_refusals}
use Rattle.object.specs.Object.{Found, object_at}
use Rattle.object.specs.Object as found
use Rattle.layout.specs.Bytes.{Asked, in_file, in_utf16, no_bytes, denied, data_asked, text_asked, event_asked, has_bytes}
use Rattle.layout.specs.FoundLaws.{Lies, Sound, sound, plain_asked}
use Rattle.layout.specs.Layout.{number_at, entry_at, stands_from, stands_at, kept_from, stands_in, look_in, look_from, look_of}
use Rattle.layout.specs.Refusals.{look_refusals, Faults}
use Rattle.layout.specs.Looked.{Looked, barred, missing, faulty, scalar, container, Shape, with_place}
use Rattle.layout.specs.declared.frame.Frame.{Frame}
use Rattle.layout.specs.declared.layout.Layout.{Layout}

-- an event that the file gives, by where its bytes stand: data or UTF-8 as they are, UTF-16; nowhere, if it has none
abbrev pub BytesRight : List ℕ → Event → Asked → Type 0
BytesRight file e (in_file start n) = (e ≡ Data) ⊎ ((e ≡ String) × (is_utf8 (part file start n) ≡ true))
BytesRight file e (in_utf16 start n) = (e ≡ String) × (is_utf16 (part file start n) ≡ true)
BytesRight file e no_bytes = Bare e
BytesRight file e (denied number values) = ⊥

plain_bare : (e : Event) → Plain e → Bare e
plain_bare (StartArray n) h = tt
plain_bare (StartDictionary n) h = tt
plain_bare EndCollection h = tt
plain_bare (Boolean b) h = tt
plain_bare Data h = absurd h
plain_bare (Date b) h = h
plain_bare (Integer i) h = tt
plain_bare (Real x) h = tt
plain_bare (Nan b) h = tt
plain_bare String h = absurd h
plain_bare (Uid n) h = tt

-- an event that is known without bytes has none
pub bare_plain : (e : Event) → Bare e → has_bytes e ≡ false
unfolding has_bytes
bare_plain (StartArray n) h = refl
bare_plain (StartDictionary n) h = refl
bare_plain EndCollection h = refl
bare_plain (Boolean b) h = refl
bare_plain Data h = absurd h
bare_plain (Date b) h = refl
bare_plain (Integer i) h = refl
bare_plain (Real x) h = refl
bare_plain (Nan b) h = refl
bare_plain String h = absurd h
bare_plain (Uid n) h = refl

-- a container that was looked up: its number is below the count, its entry gives its offset, it stands there with its length, and its
-- references lie within the file
pub record Standing (file : List ℕ) (l : Layout) (n : ℕ) (s : Shape) (k offset : ℕ) : Type 0 where
  pub numbered : n < l.count
  pub entry : entry_at file l n ≡ Some offset
  pub lies : Lies file (bytes_in l.refs) s k (container_at file offset)

abbrev pub LookedRight : List ℕ → Layout → ℕ → Looked → Type 0
LookedRight file l n (barred number values) = Faults number
LookedRight file l n missing = (n < l.count) × (entry_at file l n ≡ None)
LookedRight file l n (faulty number values offset) = Faults number
LookedRight file l n (scalar e offset) = BytesRight file e (event_asked file e offset)
LookedRight file l n (container s k offset) = Standing file l n s k offset

-- an offset at or above T, and a number that isn't below the count
listed_6 : Faults 6
unfolding look_refusals object_refusals among
listed_6 = refl

listed_7 : Faults 7
unfolding look_refusals object_refusals among
listed_7 = refl

module _ (file : List ℕ) (l : Layout) (n : ℕ) where
  module _ (numbered : n < l.count) where
    in_right : (offset : ℕ) → entry_at file l n ≡ Some offset → (x : Found) → Sound file (bytes_in l.refs) x (object_at file One offset) (container_at file offset) → LookedRight file l n (look_in offset x)
    unfolding look_in event_asked data_asked text_asked
    in_right offset entry found.outside h = listed_6
    in_right offset entry (found.refused number values) h = h
    in_right offset entry (found.scalar e) h = rw (plain_asked file e offset h.1) (plain_bare e h.1)
    in_right offset entry (found.bytes start k) h = rw h.0 (inl refl)
    in_right offset entry (found.utf8 start k) h = rw h.0 (inr (refl, h.2))
    in_right offset entry (found.utf16 start k) h = rw h.0 (refl, h.2)
    in_right offset entry (found.array k) h = record { numbered = numbered; entry = entry; lies = h }
    in_right offset entry (found.dictionary k) h = record { numbered = numbered; entry = entry; lies = h }

    from_right : (x : Option ℕ) → entry_at file l n ≡ x → LookedRight file l n (look_from file l x)
    unfolding look_from
    from_right None e = (numbered, e)
    from_right (Some offset) e = in_right offset e (object_at file l.refs offset) (sound file l.refs offset)

  pub look_right : LookedRight file l n (look_of file l n)
  unfolding look_of
  look_right = go (ltb n l.count) refl
    where
      go : (b : Bool) → ltb n l.count ≡ b → LookedRight file l n (look_of file l n)
      go true e = rw e (from_right (ltb-true _ _ e) (entry_at file l n) refl)
      go false e = rw e listed_7

  -- a container that is looked up, and where it is found each time
  module _ (s : Shape) (k offset : ℕ) (look : look_of file l n ≡ container s k offset) where
    pub standing : Standing file l n s k offset
    standing = rw look at look_right

    pub looked_stands : stands_at file l n ≡ record { offset = offset; container = container_at file offset }
    unfolding stands_at stands_from
    looked_stands = rw (lt-ltb _ _ standing.numbered, standing.entry)

    -- and where a frame of it with that offset stands
    pub looked_in : (f : Frame) → f.object ≡ n → f.offset ≡ offset → stands_in file l f ≡ record { offset = offset; container = container_at file offset }
    unfolding stands_in kept_from
    looked_in f p q = rw (p, q, lt-ltb _ _ standing.numbered, standing.entry, eq-eqb offset offset refl)

-- the offset table ends at or before T
abbrev pub Laid : List ℕ → Layout → Type 0
Laid file l = l.table + l.count * bytes_in l.offsets ≤ trailer_at file

module _ (file : List ℕ) (l : Layout) (laid : Laid file l) (n : ℕ) where
  -- so an entry lies within the file
  pub entry_there : n < l.count → entry_at file l n ≡ Some (be (part file (l.table + n * bytes_in l.offsets) (bytes_in l.offsets)))
  unfolding entry_at number_at
  entry_there h =
      let w = bytes_in l.offsets in
      let m : n * w + w ≤ l.count * w = rw suc-mul at (mul-le-mul_right {m = suc n} {n = l.count} w h) in
      rw (le-leb (l.table + n * w + w) (length file) (omega arith))

  -- and no object is missing
  pub never_missing : look_of file l n ≡ missing → ⊥
  never_missing e =
      let k : (n < l.count) × (entry_at file l n ≡ None) = rw e at (look_right file l n) in
      let t = entry_there k.0 in
      let z : ◌≡◌ {A = ℕ} 0 1 = cc in
      omega arith

-- a scalar and a container are the same with any place
module _ (place : ℕ) where
  pub placed_scalar : (x : Looked) (e : Event) (offset : ℕ) → with_place place x ≡ scalar e offset → x ≡ scalar e offset
  unfolding with_place
  placed_scalar (barred number values) e offset h = let z : ◌≡◌ {A = ℕ} 0 1 = cc in absurd (omega arith)
  placed_scalar missing e offset h = let z : ◌≡◌ {A = ℕ} 0 1 = cc in absurd (omega arith)
  placed_scalar (faulty number values at) e offset h = let z : ◌≡◌ {A = ℕ} 0 1 = cc in absurd (omega arith)
  placed_scalar (scalar f at) e offset h = h
  placed_scalar (container shape n at) e offset h = h

  pub placed_container : (x : Looked) (s : Shape) (k offset : ℕ) → with_place place x ≡ container s k offset → x ≡ container s k offset
  unfolding with_place
  placed_container (barred number values) s k offset h = let z : ◌≡◌ {A = ℕ} 0 1 = cc in absurd (omega arith)
  placed_container missing s k offset h = let z : ◌≡◌ {A = ℕ} 0 1 = cc in absurd (omega arith)
  placed_container (faulty number values at) s k offset h = let z : ◌≡◌ {A = ℕ} 0 1 = cc in absurd (omega arith)
  placed_container (scalar f at) s k offset h = h
  placed_container (container shape n at) s k offset h = h
