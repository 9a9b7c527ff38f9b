-- The check and the written file's definition mean the same by one value; so a tape that the check finds whole is ready for the writer.
use Rattle.std.specs.Prelude.{◌≡◌, ℕ, suc, Bool, true, false, cond, List, [], ◌∷◌, map, length, pos, negsuc, nat_le}
use Rattle.std.proofs.Math.Path.{refl}
use Rattle.std.proofs.Common.{sym, ap, ◌∙◌, arith}
use borrow.Author.Tests.{lt-ltb, le-ltb, leb-true, leb-false}
use Rattle.number.specs.BeLaws.{Bytes}
use Rattle.event.specs.Format.{max_open}
use Rattle.event.specs.Meaning.{Meaning, array, dictionary, close, boolean, bytes, date, integer, real, text, uid}
use Rattle.tape.specs.Code.{bytes_for}
use Rattle.tape.specs.Events as events
use Rattle.tape.specs.Events.{meant_by, meanings_in}
use Rattle.grammar.specs.Check.{Move, onto, barred, move_of, check_of}
use Rattle.grammar.specs.Fits.{fits_from}
use Rattle.grammar.specs.FitsLaws.{check_whole}
use Rattle.grammar.specs.Said as said
use Rattle.grammar.specs.Turn.{is_nothing, after_of, unexpected_of, unless_key, end_turn, text_turn, turn_of}
use Rattle.grammar.specs.TurnLaws.{turn_trails}
use Rattle.grammar.specs.declared.answer.EventKind.{EventKind}
use Rattle.grammar.specs.declared.answer.EventKind.TheVariants as kind
use Rattle.grammar.specs.declared.answer.Refusal.TheVariants.{TooDeep}
use Rattle.grammar.specs.declared.turn.Due.{Due}
use Rattle.grammar.specs.declared.turn.Due.TheVariants.{Root, Element, Key, Value, Nothing}
use Rattle.grammar.specs.declared.turn.Turn.TheVariants.{Pass, Open}
use Rattle.written.specs.Graph.{Scalar, Kind, arr, dic, scalar, start, end, piece_of}
use Rattle.written.specs.Shape.{is_text, later, inside, opens, fits, whole}
use Rattle.written.specs.Shape as shape
use Rattle.writer.specs.Ready.{pieces_in, Ready}

-- what is due in an open container, as the written file's definition has it
unfoldable due_in : Due → shape.Due
due_in Root = shape.element
due_in Element = shape.element
due_in Key = shape.key
due_in Value = shape.value
due_in Nothing = shape.element

-- the open containers
unfoldable stack_of : Due → List Due → List shape.Due
stack_of due [] = []
stack_of due (d ∷ ds) = due_in due ∷ stack_of d ds

abbrev is_inside : Due → Type 0
is_inside Root = ⊥
is_inside Element = Unit {0}
is_inside Key = Unit {0}
is_inside Value = Unit {0}
is_inside Nothing = ⊥

abbrev is_outside : Due → Type 0
is_outside Root = ⊥
is_outside Element = ⊥
is_outside Key = ⊥
is_outside Value = ⊥
is_outside Nothing = Unit {0}

-- behind the root nothing is due, within it something is
abbrev Nested : Due → List Due → Type 0
Nested due [] = is_outside due
Nested due (d ∷ ds) = is_inside due × Nested d ds

length_stack : (due : Due) (around : List Due) → length (stack_of due around) ≡ length around
unfolding stack_of
length_stack due [] = refl
length_stack due (d ∷ ds) = ap suc (length_stack d ds)

-- what is left of the root, once an event has moved the machine
abbrev Left : Move → List Meaning → Bool
Left (onto d ds) ms = fits_from d ds ms
Left (barred r) ms = false

abbrev Goes : List Meaning → Type 0
Goes ms = (due : Due) (around : List Due) → Nested due around → fits_from due around ms ≡ fits max_open (stack_of due around) (map piece_of ms)

module _ (ms : List Meaning) (goes : Goes ms) (d : Due) (ds : List Due) (nested : Nested d ds) where
  -- a scalar that is no text
  other : (due : Due) (k : EventKind) (s : Scalar) → is_inside due → is_text s ≡ false → Left (move_of (unless_key due k (Pass (after_of due))) due (d ∷ ds)) ms ≡ fits max_open (stack_of due (d ∷ ds)) (scalar s ∷ map piece_of ms)
  unfolding unless_key unexpected_of after_of move_of stack_of due_in fits
  other Root k s i n = absurd i
  other Element k s i n = goes Element (d ∷ ds) (tt, nested)
  other Key k s i n = rw n
  other Value k s i n = goes Key (d ∷ ds) (tt, nested)
  other Nothing k s i n = absurd i

  -- a text
  texts : (due : Due) (s : List ℕ) → is_inside due → Left (move_of (text_turn due) due (d ∷ ds)) ms ≡ fits max_open (stack_of due (d ∷ ds)) (scalar (bytes_for (text s)) ∷ map piece_of ms)
  unfolding text_turn is_nothing after_of move_of stack_of due_in fits is_text bytes_for
  texts Root s i = absurd i
  texts Element s i = goes Element (d ∷ ds) (tt, nested)
  texts Key s i = goes Value (d ∷ ds) (tt, nested)
  texts Value s i = goes Key (d ∷ ds) (tt, nested)
  texts Nothing s i = absurd i

  -- a start: where one more may be open
  deeper : (due first : Due) (k : Kind) → inside k ≡ due_in first → is_inside first → is_inside (after_of due) → later (due_in due) ≡ due_in (after_of due) → opens (due_in due) ≡ true → Left (move_of (Open first) due (d ∷ ds)) ms ≡ fits max_open (stack_of due (d ∷ ds)) (start k ∷ map piece_of ms)
  unfolding move_of stack_of fits
  deeper due first k f i j l o = go (nat_le max_open (suc (length ds))) refl
    where
      go : (b : Bool) → nat_le max_open (suc (length ds)) ≡ b → Left (cond b (barred TooDeep) (onto first (after_of due ∷ d ∷ ds))) ms ≡ fits max_open (due_in due ∷ stack_of d ds) (start k ∷ map piece_of ms)
      go true q = rw (o, le-ltb (suc (length (stack_of d ds))) max_open (omega (arith, leb-true max_open (suc (length ds)) q, length_stack d ds)))
      go false q = rw (o, lt-ltb (suc (length (stack_of d ds))) max_open (omega (arith, leb-false max_open (suc (length ds)) q, length_stack d ds)), f, l) (goes first (after_of due ∷ d ∷ ds) (i, (j, nested)))

  begins : (due first : Due) (e : EventKind) (k : Kind) → inside k ≡ due_in first → is_inside first → is_inside due → Left (move_of (unless_key due e (Open first)) due (d ∷ ds)) ms ≡ fits max_open (stack_of due (d ∷ ds)) (start k ∷ map piece_of ms)
  unfolding unless_key unexpected_of after_of due_in move_of stack_of fits
  begins Root first e k f i j = absurd j
  begins Element first e k f i j = deeper Element first k f i tt refl refl
  begins Key first e k f i j = refl
  begins Value first e k f i j = deeper Value first k f i tt refl refl
  begins Nothing first e k f i j = absurd j

  closing : (due : Due) → is_inside due → Left (move_of (end_turn due) due (d ∷ ds)) ms ≡ fits max_open (stack_of due (d ∷ ds)) (end ∷ map piece_of ms)
  unfolding end_turn unexpected_of move_of stack_of due_in fits
  closing Root i = absurd i
  closing Element i = goes d ds nested
  closing Key i = goes d ds nested
  closing Value i = refl
  closing Nothing i = absurd i

  -- any event within the root
  within : (due : Due) (m : Meaning) → is_inside due → Left (move_of (turn_of due m) due (d ∷ ds)) ms ≡ fits max_open (stack_of due (d ∷ ds)) (piece_of m ∷ map piece_of ms)
  unfolding turn_of piece_of due_in is_text bytes_for
  within due (array n) i = begins due Element kind.StartArray arr refl tt i
  within due (dictionary n) i = begins due Key kind.StartDictionary dic refl tt i
  within due close i = closing due i
  within due (boolean true) i = other due kind.Boolean (bytes_for (boolean true)) i refl
  within due (boolean false) i = other due kind.Boolean (bytes_for (boolean false)) i refl
  within due (bytes s) i = other due kind.Data (bytes_for (bytes s)) i refl
  within due (date b) i = other due kind.Date (bytes_for (date b)) i refl
  within due (integer (pos n)) i = other due kind.Integer (bytes_for (integer (pos n))) i refl
  within due (integer (negsuc k)) i = other due kind.Integer (bytes_for (integer (negsuc k))) i refl
  within due (real b) i = other due kind.Real (bytes_for (real b)) i refl
  within due (text s) i = texts due s i
  within due (uid n) i = other due kind.Uid (bytes_for (uid n)) i refl

left_of_law : (due : Due) (around : List Due) (m : Meaning) (ms : List Meaning) → fits_from due around (m ∷ ms) ≡ Left (move_of (turn_of due m) due around) ms
unfolding fits_from
left_of_law due around m ms = go (move_of (turn_of due m) due around)
  where
    go : (v : Move) → ◌≡◌ {A = Bool} (elim v [ onto d ds ↦ fits_from d ds ms | barred r ↦ false ]) (Left v ms)
    go (onto d ds) = refl
    go (barred r) = refl

nothing : is_nothing Nothing ≡ true
unfolding is_nothing
nothing = refl

-- nothing comes behind the root
ends : (due : Due) (m : Meaning) (ms : List Meaning) → is_outside due → Left (move_of (turn_of due m) due []) ms ≡ false
unfolding move_of
ends Root m ms n = absurd n
ends Element m ms n = absurd n
ends Key m ms n = absurd n
ends Value m ms n = absurd n
ends Nothing m ms n = rw (turn_trails Nothing m nothing)

-- behind the root there is no event, and within it each goes as it must
goes : (ms : List Meaning) → Goes ms
unfolding stack_of fits is_nothing fits_from
goes [] Nothing [] n = refl
goes [] Root [] n = absurd n
goes [] Element [] n = absurd n
goes [] Key [] n = absurd n
goes [] Value [] n = absurd n
goes [] Root (d ∷ ds) n = absurd n.0
goes [] Element (d ∷ ds) n = refl
goes [] Key (d ∷ ds) n = refl
goes [] Value (d ∷ ds) n = refl
goes [] Nothing (d ∷ ds) n = absurd n.0
goes (m ∷ ms) due [] n = left_of_law due [] m ms ∙ ends due m ms n
goes (m ∷ ms) due (d ∷ ds) n = left_of_law due (d ∷ ds) m ms ∙ within ms (goes ms) d ds n.1 due m n.0

-- the root
root : (ms : List Meaning) (m : Meaning) → Left (move_of (turn_of Root m) Root []) ms ≡ whole max_open (piece_of m ∷ map piece_of ms)
unfolding turn_of unless_key text_turn end_turn is_nothing after_of move_of piece_of whole stack_of due_in
root ms (array n) = goes ms Element (Nothing ∷ []) (tt, tt)
root ms (dictionary n) = goes ms Key (Nothing ∷ []) (tt, tt)
root ms close = refl
root ms (boolean b) = goes ms Nothing [] tt
root ms (bytes s) = goes ms Nothing [] tt
root ms (date b) = goes ms Nothing [] tt
root ms (integer z) = goes ms Nothing [] tt
root ms (real b) = goes ms Nothing [] tt
root ms (text s) = goes ms Nothing [] tt
root ms (uid n) = goes ms Nothing [] tt

-- ONE VALUE, to the check and to the written file
pub fits_is : (ms : List Meaning) → fits_from Root [] ms ≡ whole max_open (map piece_of ms)
unfolding fits_from is_nothing whole
fits_is [] = refl
fits_is (m ∷ ms) = left_of_law Root [] m ms ∙ root ms m

-- a tape that is found whole is ready
pub ready_of : (t : List ℕ) (n : ℕ) → Bytes t → check_of t ≡ said.whole n → Ready t n
unfolding meanings_in meant_by pieces_in
ready_of t n b e =
    let w = check_whole t n e in
    let m : meanings_in t ≡ w.ms = ap meant_by w.events in
    record { bytes = b; events = w.events ∙ ap events.whole (sym m); count = ap length m ∙ w.count; short = w.short; shaped = rw m (sym (fits_is w.ms) ∙ w.fits) }
