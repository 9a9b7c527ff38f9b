-- What a source of answers is to say of an object.
use Rattle.std.specs.Prelude.{true, false, List, ◌++◌, ◌⊎◌, ◌≡◌, ℕ, ◌+◌, ◌*◌, ◌^◌, ◌<◌, length, get_or}
use Rattle.utf.specs.Bounds.{Below}
use Rattle.utf.specs.Unicode.{is_ascii, to_utf8}
use Rattle.event.specs.Meaning.{Meaning}
use Rattle.event.specs.declared.Event.{Event}
use Rattle.event.specs.declared.Event.TheVariants.{Data, String}
use Rattle.number.specs.Part.{part}
use Rattle.layout.specs.Looked.{Source, scalar, container, array, dictionary}
use Rattle.layout.specs.Bytes.{Asked, in_file, in_utf16, no_bytes, denied, event_asked, has_bytes}
use Rattle.layout.specs.declared.layout.Due.TheVariants.{Close, Member}
use Rattle.layout.specs.declared.frame.Frame.{Frame}
use Rattle.reader.specs.Meanings.{meaning_at}
use Rattle.tape.specs.Code.{OnTape}
use Rattle.written.specs.Encoding.{Object, lone, list, pairs}
use Rattle.written.specs.Scalar.{IsScalar}

-- an object that can be written with references of w bytes
abbrev pub Fine : ℕ → Object → Type 0
Fine w (lone m) = IsScalar m × OnTape m
Fine w (list refs) = (length refs < 2 ^ 64) × Below (256 ^ w) refs
Fine w (pairs keys values) = (length values ≡ length keys) × (length keys < 2 ^ 64) × Below (256 ^ w) (keys ++ values)

-- a frame of object n, kept with its offset, with so many elements or pairs, at a position
pub record At (f : Frame) (n offset length position : ℕ) : Type 0 where
  pub object : f.object ≡ n
  pub kept : f.offset ≡ offset
  pub long : f.length ≡ length
  pub stands : f.position ≡ position

-- where the bytes of an event stand: in the file, whole, if it is data or a text that is ASCII; as UTF-16, if it is any other text; nowhere, if it has
-- none
abbrev pub Asks : List ℕ → Event → Asked → Type 0
Asks file e (in_file start n) = (length (part file start n) ≡ n) × ((e ≡ Data) ⊎ ((e ≡ String) × (is_ascii (part file start n) ≡ true)))
Asks file e (in_utf16 start n) = (e ≡ String) × (is_ascii (to_utf8 (part file start n)) ≡ false)
Asks file e no_bytes = has_bytes e ≡ false
Asks file e (denied number values) = ⊥

-- a scalar is looked up as an event that means it
pub record Looks (file : List ℕ) (src : Source) (n at : ℕ) (m : Meaning) : Type 0 where
  pub event : Event
  pub look : src.look n ≡ scalar event at
  pub means : meaning_at file event at ≡ m
  pub asks : Asks file event (event_asked file event at)

-- an array is looked up with its length; each reference is due in turn, then the end
pub record ListShown (src : Source) (n at : ℕ) (refs : List ℕ) : Type 0 where
  pub look : src.look n ≡ container array (length refs) at
  pub member : (f : Frame) (i : ℕ) → At f n at (length refs) i → i < length refs → src.due f ≡ Member (get_or refs i 0)
  pub end : (f : Frame) → At f n at (length refs) (length refs) → src.due f ≡ Close at

-- so is a dictionary; key and value in turn
pub record PairsShown (src : Source) (n at : ℕ) (keys values : List ℕ) : Type 0 where
  pub look : src.look n ≡ container dictionary (length keys) at
  pub key : (f : Frame) (i : ℕ) → At f n at (length keys) (2 * i) → i < length keys → src.due f ≡ Member (get_or keys i 0)
  pub value : (f : Frame) (i : ℕ) → At f n at (length keys) (2 * i + 1) → i < length keys → src.due f ≡ Member (get_or values i 0)
  pub end : (f : Frame) → At f n at (length keys) (2 * length keys) → src.due f ≡ Close at

-- object n, at an offset, is shown as it is
abbrev pub Shown : List ℕ → Source → ℕ → ℕ → Object → Type 0
Shown file src n at (lone m) = Looks file src n at m
Shown file src n at (list refs) = ListShown src n at refs
Shown file src n at (pairs keys values) = PairsShown src n at keys values
