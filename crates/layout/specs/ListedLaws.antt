-- What is looked up stands in the table under its number; and a record of it, asked for there, is given: of a scalar its own bytes, of a container's
-- start and its end none. docs/FORMAT.md, R27.
use Rattle.std.specs.Prelude.{Bool, List, ℕ, ◌<◌, None, Option, Some}
use Rattle.std.proofs.Math.Bool.{true, false}
use Rattle.std.proofs.Math.Path.{◌≡◌, refl, sym}
use Rattle.std.proofs.Common.{◌∙◌, arith, lt-ltb, eq-eqb, ltb-true}
use Rattle.std.proofs.Math.Dec.{ltb}
use Rattle.number.specs.Width.{bytes_in}
use Rattle.number.specs.declared.width.Width.TheVariants.{One}
use Rattle.event.specs.SameLaws.{means_same}
use Rattle.event.specs.declared.Event.{Event}
use Rattle.event.specs.declared.Event.TheVariants.{StartArray, StartDictionary, EndCollection, Boolean, Data, Date, Integer, Real, Nan, String, Uid}
use Rattle.object.specs.Container.{container_at}
use Rattle.object.specs.KnownLaws.{Plain}
use Rattle.object.specs.Object.{Found, object_at}
use Rattle.object.specs.Object as found
use Rattle.object.specs.declared.container.Container.{Container}
use Rattle.layout.specs.Bytes.{no_bytes, data_asked, text_asked, scalar_asked, start_asked, end_asked, found_asked, event_asked}
use Rattle.layout.specs.FoundLaws.{Sound, sound, plain_asked}
use Rattle.layout.specs.Layout.{entry_at, look_in, look_from, look_of}
use Rattle.layout.specs.Listed.{is_entry, is_listed}
use Rattle.layout.specs.Looked.{Looked, barred, missing, faulty, scalar, container, Shape, array, dictionary, start_of}
use Rattle.layout.specs.declared.layout.Layout.{Layout}

-- what is looked up at an offset: its number is below the count, its entry is that offset, and there it is found
pub record Seen (file : List ℕ) (l : Layout) (n offset : ℕ) (x : Looked) : Type 0 where
  pub numbered : n < l.count
  pub entry : entry_at file l n ≡ Some offset
  pub there : look_in offset (object_at file l.refs offset) ≡ x

abbrev Sees : List ℕ → Layout → ℕ → Looked → Type 0
Sees file l n (barred number values) = Unit {0}
Sees file l n missing = Unit {0}
Sees file l n (faulty number values offset) = Unit {0}
Sees file l n (scalar e offset) = Seen file l n offset (scalar e offset)
Sees file l n (container s k offset) = Seen file l n offset (container s k offset)

module _ (file : List ℕ) (l : Layout) (n : ℕ) where
  module _ (numbered : n < l.count) where
    in_sees : (offset : ℕ) → entry_at file l n ≡ Some offset → (x : Found) → object_at file l.refs offset ≡ x → Sees file l n (look_in offset x)
    unfolding look_in
    in_sees offset entry found.outside e = tt
    in_sees offset entry (found.refused number values) e = tt
    in_sees offset entry (found.scalar v) e = record { numbered = numbered; entry = entry; there = rw e }
    in_sees offset entry (found.bytes start k) e = record { numbered = numbered; entry = entry; there = rw e }
    in_sees offset entry (found.utf8 start k) e = record { numbered = numbered; entry = entry; there = rw e }
    in_sees offset entry (found.utf16 start k) e = record { numbered = numbered; entry = entry; there = rw e }
    in_sees offset entry (found.array k) e = record { numbered = numbered; entry = entry; there = rw e }
    in_sees offset entry (found.dictionary k) e = record { numbered = numbered; entry = entry; there = rw e }

    from_sees : (x : Option ℕ) → entry_at file l n ≡ x → Sees file l n (look_from file l x)
    unfolding look_from
    from_sees None e = tt
    from_sees (Some offset) e = in_sees offset e (object_at file l.refs offset) refl

  sees : Sees file l n (look_of file l n)
  unfolding look_of
  sees = go (ltb n l.count) refl
    where
      go : (b : Bool) → ltb n l.count ≡ b → Sees file l n (look_of file l n)
      go true e = rw e (from_sees (ltb-true _ _ e) (entry_at file l n) refl)
      go false e = rw e tt

  pub scalar_seen : (e : Event) (offset : ℕ) → look_of file l n ≡ scalar e offset → Seen file l n offset (scalar e offset)
  scalar_seen e offset h = rw h at sees

  pub container_seen : (s : Shape) (k offset : ℕ) → look_of file l n ≡ container s k offset → Seen file l n offset (container s k offset)
  container_seen s k offset h = rw h at sees

-- it is listed
pub seen_listed : (file : List ℕ) (l : Layout) (n offset : ℕ) (x : Looked) → Seen file l n offset x → is_listed file l n offset ≡ true
unfolding is_listed is_entry
seen_listed file l n offset x s = rw (lt-ltb _ _ s.numbered, s.entry, eq-eqb offset offset refl)

-- an event is the same as itself
plain_given : (e : Event) → Plain e → found_asked e (found.scalar e) ≡ no_bytes
unfolding found_asked scalar_asked
plain_given (StartArray n) h = absurd h
plain_given (StartDictionary n) h = absurd h
plain_given EndCollection h = absurd h
plain_given (Boolean b) h = rw (means_same (Boolean b) (Boolean b) refl)
plain_given Data h = absurd h
plain_given (Date b) h = rw (means_same (Date b) (Date b) refl)
plain_given (Integer i) h = rw (means_same (Integer i) (Integer i) refl)
plain_given (Real x) h = rw (means_same (Real x) (Real x) refl)
plain_given (Nan b) h = rw (means_same (Nan b) (Nan b) refl)
plain_given String h = absurd h
plain_given (Uid n) h = rw (means_same (Uid n) (Uid n) refl)

module _ (file : List ℕ) (offset : ℕ) where
  -- a scalar that is found is given as the event that it is
  in_asked : (each : ℕ) (c : Container) (x : Found) → Sound file each x (object_at file One offset) c → (e : Event) → look_in offset x ≡ scalar e offset → found_asked e x ≡ event_asked file e offset
  unfolding look_in found_asked event_asked data_asked text_asked
  in_asked each c found.outside h e q = let z : ◌≡◌ {A = ℕ} 0 1 = cc in absurd (omega arith)
  in_asked each c (found.refused number values) h e q = let z : ◌≡◌ {A = ℕ} 0 1 = cc in absurd (omega arith)
  in_asked each c (found.scalar v) h e q = let p : v ≡ e = cc in rw (← p) (plain_given v h.1 ∙ sym (plain_asked file v offset h.1))
  in_asked each c (found.bytes start n) h e q = let p : Data ≡ e = cc in rw (← p, h.0)
  in_asked each c (found.utf8 start n) h e q = let p : String ≡ e = cc in rw (← p, h.0)
  in_asked each c (found.utf16 start n) h e q = let p : String ≡ e = cc in rw (← p, h.0)
  in_asked each c (found.array n) h e q = let z : ◌≡◌ {A = ℕ} 0 1 = cc in absurd (omega arith)
  in_asked each c (found.dictionary n) h e q = let z : ◌≡◌ {A = ℕ} 0 1 = cc in absurd (omega arith)

  -- a container's start is given, and its end
  in_given : (s : Shape) (k : ℕ) (x : Found) → look_in offset x ≡ container s k offset → (found_asked (start_of s k) x ≡ no_bytes) × (found_asked EndCollection x ≡ no_bytes)
  unfolding look_in found_asked start_asked end_asked start_of
  in_given s k found.outside q = let z : ◌≡◌ {A = ℕ} 0 1 = cc in absurd (omega arith)
  in_given s k (found.refused number values) q = let z : ◌≡◌ {A = ℕ} 0 1 = cc in absurd (omega arith)
  in_given s k (found.scalar e) q = let z : ◌≡◌ {A = ℕ} 0 1 = cc in absurd (omega arith)
  in_given s k (found.bytes start n) q = let z : ◌≡◌ {A = ℕ} 0 1 = cc in absurd (omega arith)
  in_given s k (found.utf8 start n) q = let z : ◌≡◌ {A = ℕ} 0 1 = cc in absurd (omega arith)
  in_given s k (found.utf16 start n) q = let z : ◌≡◌ {A = ℕ} 0 1 = cc in absurd (omega arith)
  in_given s k (found.array n) q =
      let a : array ≡ s = cc in
      let b : n ≡ k = cc in
      rw (← a, ← b, means_same (StartArray (Some n)) (StartArray (Some n)) refl) (refl, refl)
  in_given s k (found.dictionary n) q =
      let a : dictionary ≡ s = cc in
      let b : n ≡ k = cc in
      rw (← a, ← b, means_same (StartDictionary (Some n)) (StartDictionary (Some n)) refl) (refl, refl)

module _ (file : List ℕ) (l : Layout) (n : ℕ) where
  pub scalar_asked_law : (e : Event) (offset : ℕ) → look_of file l n ≡ scalar e offset → found_asked e (object_at file l.refs offset) ≡ event_asked file e offset
  scalar_asked_law e offset h = in_asked file offset (bytes_in l.refs) (container_at file offset) (object_at file l.refs offset) (sound file l.refs offset) e (scalar_seen file l n e offset h).there

  pub container_asked : (s : Shape) (k offset : ℕ) → look_of file l n ≡ container s k offset → (found_asked (start_of s k) (object_at file l.refs offset) ≡ no_bytes) × (found_asked EndCollection (object_at file l.refs offset) ≡ no_bytes)
  container_asked s k offset h = in_given file offset s k (object_at file l.refs offset) (container_seen file l n s k offset h).there
