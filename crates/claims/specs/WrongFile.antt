-- Refusal 17, exactly: what rule R21 of docs/FORMAT.md lists, clause by clause in its order.
use Rattle.std.proofs.Math.Option.{some}
use Rattle.std.specs.Prelude.{false, List, [], ◌⊎◌, ◌≡◌, ℕ, ◌≤◌, ◌<◌, length, None, Some}
use Rattle.std.proofs.Math.ListN.{get_elem?}
use Rattle.number.specs.Width.{width_of}
use Rattle.event.specs.Meaning.{meaning_of}
use Rattle.event.specs.declared.Event.{Event}
use Rattle.event.specs.declared.Event.TheVariants.{StartArray, StartDictionary, EndCollection, Boolean, Data, Date, Integer, Real, Nan, String, Uid}
use Rattle.object.specs.Object.{Found, object_at}
use Rattle.object.specs.Object as found
use Rattle.layout.specs.Layout.{entry_at, stands_at}
use Rattle.layout.specs.References.{length_of, entries_of}
use Rattle.layout.specs.Trailer.{lays, trailer_of}
use Rattle.layout.specs.declared.frame.Frame.{Frame}
use Rattle.layout.specs.declared.layout.Layout.{Layout}
use Rattle.reader.specs.State.{max_open, max_length, innermost}
use Rattle.reader.specs.declared.answer.Record.{Record}
use Rattle.reader.specs.declared.state.Reader.{Reader}

-- of the innermost open container, in a file of this layout
pub data WrongFrame (file : List ℕ) (l : Layout) (f : Frame) : Type 0 where
  -- "the innermost open object isn't a container of that length here"
  other_object : (length_of (stands_at file l f.object).container ≡ Some f.length → ⊥) → WrongFrame file l f
  -- "or its position is above its number of references"
  too_far : length (entries_of file l f.object) < f.position → WrongFrame file l f
  -- "a reference or table entry to be read lies outside the file": the reference at the position,
  reference : get_elem? (entries_of file l f.object) f.position ≡ some None → WrongFrame file l f
  -- the container's own entry,
  own_entry : f.object < l.count → entry_at file l f.object ≡ None → WrongFrame file l f
  -- which isn't the offset that was kept,
  other_offset : (offset : ℕ) → entry_at file l f.object ≡ Some offset → (offset ≡ f.offset → ⊥) → WrongFrame file l f
  -- or the entry of the object that the reference names
  named_entry : (n : ℕ) → get_elem? (entries_of file l f.object) f.position ≡ some (Some n) → n < l.count → entry_at file l n ≡ None → WrongFrame file l f

-- the sizes that a state keeps are allowed ones, and with its count and table they are this layout
pub record Keeps (r : Reader) (l : Layout) : Type 0 where
  pub offsets : width_of r.offsets ≡ Some l.offsets
  pub refs : width_of r.refs ≡ Some l.refs
  pub count : r.count ≡ l.count
  pub table : r.table ≡ l.table

pub data WrongState (file : List ℕ) (r : Reader) : Type 0 where
  -- "the state's file length differs"
  other_length : (r.length ≡ length file → ⊥) → WrongState file r
  -- it claims more open containers than there may be
  too_many : max_open < r.depth → WrongState file r
  -- "its sizes aren't allowed ones"
  offset_size : width_of r.offsets ≡ None → WrongState file r
  ref_size : width_of r.refs ≡ None → WrongState file r
  -- and what holds of the innermost open container
  frame : (l : Layout) → Keeps r l → WrongFrame file l (innermost r) → WrongState file r

-- "a state that isn't fresh and has nothing open answers Ended whatever is lent; then 1; then, unless it is fresh, 17"
pub record WrongCall (file : List ℕ) (r : Reader) : Type 0 where
  pub old : r.fresh ≡ false
  pub some_open : 0 < r.depth
  pub short : length file ≤ max_length
  pub wrong : WrongState file r

-- A text request (R26, R27). What is found where a scalar is given: one that means the same, integers by their value, reals and dates by their bits
abbrev pub ScalarThere : Event → Found → Type 0
ScalarThere e x = (y : Event) × (x ≡ found.scalar y) × (meaning_of y [] ≡ meaning_of e [])

-- what reading finds where it gives a record of an event
abbrev pub Gives : Event → Found → Type 0
Gives (StartArray n) x = (k : ℕ) × (x ≡ found.array k) × (n ≡ Some k)
Gives (StartDictionary n) x = (k : ℕ) × (x ≡ found.dictionary k) × (n ≡ Some k)
Gives EndCollection x = (k : ℕ) × ((x ≡ found.array k) ⊎ (x ≡ found.dictionary k))
Gives (Boolean b) x = ScalarThere (Boolean b) x
Gives Data x = (start : ℕ) × (n : ℕ) × (x ≡ found.bytes start n)
Gives (Date b) x = ScalarThere (Date b) x
Gives (Integer i) x = ScalarThere (Integer i) x
Gives (Real v) x = ScalarThere (Real v) x
Gives (Nan b) x = ScalarThere (Nan b) x
Gives String x = (start : ℕ) × (n : ℕ) × ((x ≡ found.utf8 start n) ⊎ (x ≡ found.utf16 start n))
Gives (Uid n) x = ScalarThere (Uid n) x

-- a file gives a record: its trailer is read, the record's number is below the count, its entry is the record's offset, and reading there, by
-- the file's own size of references, gives the record
pub record GivesRecord (file : List ℕ) (r : Record) : Type 0 where
  pub layout : Layout
  pub root : ℕ
  pub says : trailer_of file ≡ lays layout root
  pub numbered : r.number < layout.count
  pub entry : entry_at file layout r.number ≡ Some r.offset
  pub gives : Gives r.event (object_at file layout.refs r.offset)

-- 1 comes before 17
pub record WrongRequest (file : List ℕ) (r : Record) : Type 0 where
  pub short : length file ≤ max_length
  pub wrong : GivesRecord file r → ⊥
