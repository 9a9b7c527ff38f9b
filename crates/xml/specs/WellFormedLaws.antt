-- The XML of every tape that is answered with a length is well formed: its tags nest, and no `<` or `&` of text stands unescaped.
use Rattle.std.specs.Prelude.{Bool, ◌≡◌, ℕ, ◌+◌, ◌<◌, leb, eqb, length}
use Rattle.std.proofs.Math.Bool.{true, false, cond}
use Rattle.std.proofs.lemmas.Bool.{false≢true}
use mathlib.Core.List.{List, [], ◌∷◌, ◌++◌, append_assoc}
use Rattle.std.proofs.Math.Path.{refl, subst}
use Rattle.std.proofs.Common.{sym, ap, ◌∙◌, arith, ne_eqb}
use Rattle.radix64.specs.Base64.{alphabet, letter_of, base64}
use Rattle.radix64.specs.Base64Laws.{base64_each}
use Rattle.calendar.specs.Date as calendar
use Rattle.calendar.specs.Date.{calendar_of}
use Rattle.calendar.specs.declared.Time.{Time}
use Rattle.digits.specs.Digits.{signed}
use Rattle.digits.specs.DigitsLaws.{signed_each}
use Rattle.digits.specs.Each.{Each}
use Rattle.digits.specs.Stamp.{stamp}
use Rattle.digits.specs.StampLaws.{stamp_each}
use Rattle.event.specs.Format.{max_open}
use Rattle.event.specs.Meaning.{Meaning, array, dictionary, close, boolean, bytes, date, integer, real, text, uid}
use Rattle.grammar.specs.Check.{onto, barred, move_of}
use Rattle.grammar.specs.Fits.{fits_from}
use Rattle.grammar.specs.Turn.{is_nothing, after_of, unexpected_of, unless_key, end_turn, text_turn, turn_of}
use Rattle.grammar.specs.declared.answer.EventKind.{EventKind}
use Rattle.grammar.specs.declared.answer.Refusal.{Refusal}
use Rattle.grammar.specs.declared.answer.Refusal.TheVariants.{TooDeep}
use Rattle.grammar.specs.declared.turn.Due.{Due}
use Rattle.grammar.specs.declared.turn.Due.TheVariants.{Root, Element, Key, Value, Nothing}
use Rattle.grammar.specs.declared.turn.Turn.{Turn}
use Rattle.grammar.specs.declared.turn.Turn.TheVariants.{Pass, Open}
use Rattle.number.specs.BeLaws.{Bytes}
use Rattle.tape.specs.Events.{meanings_in}
use Rattle.utf.specs.Interval.{on}
use Rattle.xml.specs.SameLaws.{AllSayable, led}
use Rattle.xml.specs.ShownLaws.{Sayable}
use Rattle.xml.specs.WellFormed.{Entity, amp, lt, gt, called, Content, nothing, character, reference, empty, nested, written, is_text, is_small, is_name, Proper}
use Rattle.xml.specs.Words.{header, footer, word_array, word_dict, word_integer, word_date, word_data}
use Rattle.xml.specs.Write.{long, answer_of}
use Rattle.xml.specs.WriteLaws.{room_long, all_told}
use Rattle.xml.specs.Xml.{start_tag, end_tag, empty_tag, entity, line, element, escape_of, escape, day_of, is_key, truth, closed, worded, line_for, lines_from, xml_of}

-- ---- content, one behind another

behind : Content → Content → Content
behind nothing d = d
behind (character b c) d = character b (behind c d)
behind (reference e c) d = reference e (behind c d)
behind (empty name c) d = empty name (behind c d)
behind (nested name inside c) d = nested name inside (behind c d)

behind_written : (c d : Content) → written (behind c d) ≡ written c ++ written d
unfolding behind written
behind_written nothing d = refl
behind_written (character b c) d = ap (λ (t : List ℕ). b ∷ t) (behind_written c d)
behind_written (reference e c) d = rw (behind_written c d) (sym (append_assoc (entity (called e)) (written c) (written d)))
behind_written (empty name c) d = rw (behind_written c d) (sym (append_assoc (empty_tag name) (written c) (written d)))
behind_written (nested name inside c) d =
    rw (behind_written c d, append_assoc (start_tag name) (written inside ++ (end_tag name ++ written c)) (written d), append_assoc (written inside) (end_tag name ++ written c) (written d), append_assoc (end_tag name) (written c) (written d))

behind_proper : (c d : Content) → Proper c → Proper d → Proper (behind c d)
unfolding behind
behind_proper nothing d h k = k
behind_proper (character b c) d h k = (h.0, behind_proper c d h.1 k)
behind_proper (reference e c) d h k = behind_proper c d h k
behind_proper (empty name c) d h k = (h.0, behind_proper c d h.1 k)
behind_proper (nested name inside c) d h k = (h.0, (h.1.0, behind_proper c d h.1.1 k))

-- bytes that are content
pub record Forms (s : List ℕ) : Type 0 where
  pub content : Content
  pub proper : Proper content
  pub is : written content ≡ s

forms_nothing : Forms []
unfolding written
forms_nothing = record { content = nothing; proper = tt; is = refl }

forms_append : (s t : List ℕ) → Forms s → Forms t → Forms (s ++ t)
forms_append s t f g = record {
  content = behind f.content g.content;
  proper = behind_proper f.content g.content f.proper g.proper;
  is = behind_written f.content g.content ∙ rw (f.is, g.is);
}

forms_same : (s t : List ℕ) → s ≡ t → Forms s → Forms t
forms_same s t e f = record { content = f.content; proper = f.proper; is = f.is ∙ e }

forms_byte : (b : ℕ) → is_text b ≡ true → Forms (b ∷ [])
unfolding written
forms_byte b h = record { content = character b nothing; proper = (h, tt); is = refl }

forms_each : (s : List ℕ) → Each (λ b. is_text b ≡ true) s → Forms s
forms_each [] h = forms_nothing
forms_each (b ∷ s) h = forms_append (b ∷ []) s (forms_byte b h.0) (forms_each s h.1)

nil_right : (s : List ℕ) → s ++ [] ≡ s
nil_right [] = refl
nil_right (b ∷ s) = ap (λ (t : List ℕ). b ∷ t) (nil_right s)

forms_entity : (e : Entity) → Forms (entity (called e))
unfolding written
forms_entity e = record { content = reference e nothing; proper = tt; is = nil_right (entity (called e)) }

newline : Forms (10 ∷ [])
unfolding is_text
newline = forms_byte 10 refl

forms_line : (s : List ℕ) → Forms s → Forms (line s)
unfolding line
forms_line s f = forms_append s (10 ∷ []) f newline

forms_empty : (name : List ℕ) → is_name name ≡ true → Forms (empty_tag name)
unfolding written
forms_empty name h = record { content = empty name nothing; proper = (h, tt); is = nil_right (empty_tag name) }

forms_nested : (name s : List ℕ) → is_name name ≡ true → Forms s → Forms (start_tag name ++ (s ++ end_tag name))
unfolding written
forms_nested name s h f = record {
  content = nested name f.content nothing;
  proper = (h, (f.proper, tt));
  is = rw (f.is, nil_right (end_tag name));
}

forms_element : (name s : List ℕ) → is_name name ≡ true → Forms s → Forms (element name s)
unfolding element line
forms_element name s h f =
    forms_same _ _ (append_assoc (start_tag name) (s ++ end_tag name) (10 ∷ []) ∙ ap (λ (t : List ℕ). start_tag name ++ t) (append_assoc s (end_tag name) (10 ∷ [])))
    (forms_append (start_tag name ++ (s ++ end_tag name)) (10 ∷ []) (forms_nested name s h f) newline)

-- ---- values

escape_forms : (b : ℕ) → Forms (escape_of b)
unfolding escape_of is_text called
escape_forms b = go (eqb b 38) (eqb b 60) (eqb b 62) refl refl refl
  where
    go : (p q r : Bool) → eqb b 38 ≡ p → eqb b 60 ≡ q → eqb b 62 ≡ r → Forms (cond p (entity (called amp)) (cond q (entity (called lt)) (cond r (entity (called gt)) (b ∷ []))))
    go true q r e f g = forms_entity amp
    go false true r e f g = forms_entity lt
    go false false true e f g = forms_entity gt
    go false false false e f g = forms_byte b (rw (e, f, g))

text_forms : (s : List ℕ) → Forms (escape s)
unfolding escape
text_forms [] = forms_nothing
text_forms (b ∷ s) = forms_append (escape_of b) (escape s) (escape_forms b) (text_forms s)

digit_text : (d : ℕ) → d < 10 → is_text (48 + d) ≡ true
unfolding is_text
digit_text d h = rw (ne_eqb (48 + d) 38 (λ e. omega arith), ne_eqb (48 + d) 60 (λ e. omega arith), ne_eqb (48 + d) 62 (λ e. omega arith))

letter_text : (v : ℕ) → v < 64 → is_text (letter_of v) ≡ true
unfolding is_text letter_of alphabet
letter_text v h = on (λ (x : ℕ). is_text (letter_of x)) (λ (x : ℕ). true) 0 64 v refl (omega arith) (omega arith)

day_forms : (r : calendar.Said Time) → Forms (day_of r)
unfolding day_of is_text
day_forms (calendar.gives t) = forms_each (stamp t) (stamp_each (λ b. is_text b ≡ true) digit_text refl refl refl refl t)
day_forms (calendar.refused number) = forms_nothing

named : (k : Bool) → (is_name (worded k) ≡ true) × (is_name (truth k) ≡ true)
unfolding is_name is_small worded truth
named true = (refl, refl)
named false = (refl, refl)

-- a value that is no container
abbrev Scalar : Meaning → Type 0
Scalar (array n) = ⊥
Scalar (dictionary n) = ⊥
Scalar close = ⊥
Scalar (boolean b) = Unit {0}
Scalar (bytes s) = Bytes s
Scalar (date b) = Unit {0}
Scalar (integer z) = Unit {0}
Scalar (real b) = Unit {0}
Scalar (text s) = Unit {0}
Scalar (uid n) = Unit {0}

scalar_forms : (due : Due) (m : Meaning) → Scalar m → Forms (line_for due m)
unfolding line_for is_name is_small is_text
scalar_forms due (array n) h = absurd h
scalar_forms due (dictionary n) h = absurd h
scalar_forms due close h = absurd h
scalar_forms due (boolean b) h = forms_line (empty_tag (truth b)) (forms_empty (truth b) (named b).1)
scalar_forms due (bytes s) h = forms_element word_data (base64 s) refl (forms_each (base64 s) (base64_each (λ b. is_text b ≡ true) letter_text refl s h))
scalar_forms due (date b) h = forms_element word_date (day_of (calendar_of b)) refl (day_forms (calendar_of b))
scalar_forms due (integer z) h = forms_element word_integer (signed z) refl (forms_each (signed z) (signed_each (λ b. is_text b ≡ true) digit_text refl z))
scalar_forms due (real b) h = forms_nothing
scalar_forms due (text s) h = forms_element (worded (is_key due)) (escape s) (named (is_key due)).0 (text_forms s)
scalar_forms due (uid n) h = forms_nothing

-- ---- containers

-- the name of the innermost open container, by what is due in it
within : Due → List ℕ
within Root = []
within Element = word_array
within Key = word_dict
within Value = word_dict
within Nothing = []

-- what is due, and what is due around it, are of one machine: with nothing open the root is, or nothing
abbrev Inner : Due → Type 0
Inner Root = ⊥
Inner Element = Unit {0}
Inner Key = Unit {0}
Inner Value = Unit {0}
Inner Nothing = ⊥

abbrev Outer : Due → Type 0
Outer Root = Unit {0}
Outer Element = ⊥
Outer Key = ⊥
Outer Value = ⊥
Outer Nothing = Unit {0}

abbrev Sound : Due → List Due → Type 0
Sound due [] = Outer due
Sound due (d ∷ ds) = Inner due × Sound d ds

-- content of the innermost container, its end, then what is left in the one around it
abbrev Nested : Due → List Due → List ℕ → Type 0
Nested due [] s = Forms s
Nested due (d ∷ ds) s = (inside : List ℕ) × (rest : List ℕ) × (s ≡ inside ++ (line (end_tag (within due)) ++ rest)) × Forms inside × Nested d ds rest

nested_behind : (due : Due) (around : List Due) (l s : List ℕ) → Forms l → Nested due around s → Nested due around (l ++ s)
nested_behind due [] l s f n = forms_append l s f n
nested_behind due (d ∷ ds) l s f n = (l ++ n.0, n.1, ap (λ (t : List ℕ). l ++ t) n.2 ∙ sym (append_assoc l n.0 _), forms_append l n.0 f n.3, n.4)

nested_same : (due next : Due) (around : List Due) (s : List ℕ) → within next ≡ within due → Nested next around s → Nested due around s
nested_same due next [] s e n = n
nested_same due next (d ∷ ds) s e n = (n.0, n.1, rw (← e) n.2, n.3, n.4)

after_within : (due : Due) → within (after_of due) ≡ within due
unfolding within after_of
after_within Root = refl
after_within Element = refl
after_within Key = refl
after_within Value = refl
after_within Nothing = refl

after_sound : (due : Due) (around : List Due) → Sound due around → Sound (after_of due) around
unfolding after_of
after_sound Root [] h = tt
after_sound Root (d ∷ ds) h = absurd h.0
after_sound Element [] h = absurd h
after_sound Element (d ∷ ds) h = (tt, h.1)
after_sound Key [] h = absurd h
after_sound Key (d ∷ ds) h = (tt, h.1)
after_sound Value [] h = absurd h
after_sound Value (d ∷ ds) h = (tt, h.1)
after_sound Nothing [] h = tt
after_sound Nothing (d ∷ ds) h = absurd h.0

-- ---- where an event leads

not_onto : (r : Refusal) (d : Due) (ds : List Due) → barred r ≡ onto d ds → ⊥
not_onto r d ds e = let z : ◌≡◌ {A = ℕ} 0 1 = cc in omega arith

module _ (due : Due) (around : List Due) (d : Due) (ds : List Due) where
  -- what may stand where no key is due
  unless_onto : (found : EventKind) (t : Turn) → move_of (unless_key due found t) due around ≡ onto d ds → move_of t due around ≡ onto d ds
  unfolding unless_key unexpected_of move_of
  unless_onto found t = go due
    where
      go : (x : Due) → move_of (unless_key x found t) due around ≡ onto d ds → move_of t due around ≡ onto d ds
      go Root e = e
      go Element e = e
      go Key e = absurd (not_onto _ d ds e)
      go Value e = e
      go Nothing e = absurd (not_onto _ d ds e)

  text_onto : move_of (text_turn due) due around ≡ onto d ds → move_of (Pass (after_of due)) due around ≡ onto d ds
  unfolding text_turn move_of
  text_onto e = go (is_nothing due) refl
    where
      go : (b : Bool) → is_nothing due ≡ b → move_of (Pass (after_of due)) due around ≡ onto d ds
      go true f = absurd (not_onto _ d ds (rw f at e))
      go false f = rw f at e

  pass_onto : move_of (Pass (after_of due)) due around ≡ onto d ds → (after_of due ≡ d) × (around ≡ ds)
  unfolding move_of
  pass_onto e =
      let f : after_of due ≡ d = cc in
      let g : around ≡ ds = cc in
      (f, g)

  open_onto : (inner : Due) → move_of (Open inner) due around ≡ onto d ds → (inner ≡ d) × ((after_of due ∷ around) ≡ ds)
  unfolding move_of
  open_onto inner = go (leb max_open (length around))
    where
      go : (b : Bool) → cond b (barred TooDeep) (onto inner (after_of due ∷ around)) ≡ onto d ds → (inner ≡ d) × ((after_of due ∷ around) ≡ ds)
      go true e = absurd (not_onto _ d ds e)
      go false e =
          let f : inner ≡ d = cc in
          let g : (after_of due ∷ around) ≡ ds = cc in
          (f, g)

  scalar_onto : (m : Meaning) → Scalar m → move_of (turn_of due m) due around ≡ onto d ds → (after_of due ≡ d) × (around ≡ ds)
  unfolding turn_of
  scalar_onto (array n) h e = absurd h
  scalar_onto (dictionary n) h e = absurd h
  scalar_onto close h e = absurd h
  scalar_onto (boolean b) h e = pass_onto (unless_onto _ _ e)
  scalar_onto (bytes s) h e = pass_onto (unless_onto _ _ e)
  scalar_onto (date b) h e = pass_onto (unless_onto _ _ e)
  scalar_onto (integer z) h e = pass_onto (unless_onto _ _ e)
  scalar_onto (real b) h e = pass_onto (unless_onto _ _ e)
  scalar_onto (text s) h e = pass_onto (text_onto e)
  scalar_onto (uid n) h e = pass_onto (unless_onto _ _ e)

-- ---- the lines of one event, in front of those that follow it

abbrev Onward : List Meaning → Type 0
Onward ms = (d : Due) (ds : List Due) → Sound d ds → fits_from d ds ms ≡ true → Nested d ds (lines_from d ds ms)

module _ (due : Due) (around : List Due) (d : Due) (ds : List Due) (ms : List Meaning) (sound : Sound due around) (fits : fits_from d ds ms ≡ true) (onward : Onward ms) where
  abbrev rest : List ℕ
  rest = lines_from d ds ms

  -- a scalar
  passes : (l : List ℕ) → Forms l → (after_of due ≡ d) × (around ≡ ds) → Nested due around (l ++ rest)
  passes l f x =
      let s : Sound d ds = rw (← x.0, ← x.1) (after_sound due around sound) in
      let n : Nested (after_of due) around rest = rw (x.0, x.1) (onward d ds s fits) in
      nested_behind due around l rest f (nested_same due (after_of due) around rest (after_within due) n)

  -- a start: all up to its end is one element
  nested_is : (name inside more : List ℕ) → Nested due around (line (start_tag name ++ ((10 ∷ inside) ++ end_tag name)) ++ more) → Nested due around (line (start_tag name) ++ (inside ++ (line (end_tag name) ++ more)))
  unfolding line
  nested_is name inside more n =
      let a : line (start_tag name ++ ((10 ∷ inside) ++ end_tag name)) ++ more ≡ line (start_tag name) ++ (inside ++ (line (end_tag name) ++ more)) = simp append_assoc in
      subst (λ (l : List ℕ). Nested due around l) a n

  opens : (inner : Due) → Inner inner → is_name (within inner) ≡ true → (inner ≡ d) × ((after_of due ∷ around) ≡ ds) → Nested due around (line (start_tag (within inner)) ++ rest)
  opens inner i named-so x =
      let s : Sound d ds = rw (← x.0, ← x.1) (i, after_sound due around sound) in
      let m : Nested d (after_of due ∷ around) rest = subst (λ (l : List Due). Nested d l rest) (sym x.1) (onward d ds s fits) in
      let n : Nested inner (after_of due ∷ around) rest = subst (λ (y : Due). Nested y (after_of due ∷ around) rest) (sym x.0) m in
      let name = within inner in
      let content : Forms (10 ∷ n.0) = forms_append (10 ∷ []) n.0 newline n.3 in
      let whole : Forms (line (start_tag name ++ ((10 ∷ n.0) ++ end_tag name))) = forms_line _ (forms_nested name (10 ∷ n.0) named-so content) in
      let left : Nested due around (line (start_tag name ++ ((10 ∷ n.0) ++ end_tag name)) ++ n.1) = nested_behind due around _ n.1 whole (nested_same due (after_of due) around n.1 (after_within due) n.4) in
      subst (λ (l : List ℕ). Nested due around (line (start_tag name) ++ l)) (sym n.2) (nested_is name n.0 n.1 left)

-- an end
closes : (due : Due) (around : List Due) (d : Due) (ds : List Due) (ms : List Meaning) → Sound due around → fits_from d ds ms ≡ true → Onward ms → move_of (end_turn due) due around ≡ onto d ds → Nested due around (line (end_tag (closed (is_key due))) ++ lines_from d ds ms)
unfolding move_of end_turn unexpected_of is_key closed within
closes due [] d ds ms sound fits onward e = absurd (go due sound e)
  where
    go : (x : Due) → Outer x → move_of (end_turn x) due [] ≡ onto d ds → ⊥
    go Root h f = not_onto _ d ds f
    go Element h f = h
    go Key h f = h
    go Value h f = h
    go Nothing h f = not_onto _ d ds f
closes due (d₂ ∷ ds₂) d ds ms sound fits onward e = go due sound.0 e
  where
    left : (name : List ℕ) → onto d₂ ds₂ ≡ onto d ds → (inside : List ℕ) × (more : List ℕ) × (line (end_tag name) ++ lines_from d ds ms ≡ inside ++ (line (end_tag name) ++ more)) × Forms inside × Nested d₂ ds₂ more
    left name f =
        let p : d₂ ≡ d = cc in
        let q : ds₂ ≡ ds = cc in
        ([], lines_from d ds ms, refl, forms_nothing, rw (p, q) (onward d ds (rw (← p, ← q) sound.1) fits))

    go : (x : Due) → Inner x → move_of (end_turn x) due (d₂ ∷ ds₂) ≡ onto d ds → (inside : List ℕ) × (more : List ℕ) × (line (end_tag (closed (is_key x))) ++ lines_from d ds ms ≡ inside ++ (line (end_tag (within x)) ++ more)) × Forms inside × Nested d₂ ds₂ more
    go Root h f = absurd h
    go Element h f = left word_array f
    go Key h f = left word_dict f
    go Value h f = absurd (not_onto _ d ds f)
    go Nothing h f = absurd h

-- ---- all events

nests_first : (due : Due) (around : List Due) → Sound due around → is_nothing due ≡ true → Nested due around []
unfolding is_nothing
nests_first due [] s e = forms_nothing
nests_first due (d ∷ ds) s e = absurd (go due s.0 e)
  where
    go : (x : Due) → Inner x → is_nothing x ≡ true → ⊥
    go Root h f = h
    go Element h f = false≢true f
    go Key h f = false≢true f
    go Value h f = false≢true f
    go Nothing h f = h

lines_cons : (due : Due) (around : List Due) (m : Meaning) (ms : List Meaning) (d : Due) (ds : List Due) → move_of (turn_of due m) due around ≡ onto d ds → lines_from due around (m ∷ ms) ≡ line_for due m ++ lines_from d ds ms
unfolding lines_from
lines_cons due around m ms d ds e = rw (e, lines_from)

module _ (due : Due) (around : List Due) (d : Due) (ds : List Due) (ms : List Meaning) (sound : Sound due around) (fits : fits_from d ds ms ≡ true) (onward : Onward ms) where
  abbrev Leads : Meaning → Type 0
  Leads m = move_of (turn_of due m) due around ≡ onto d ds → Nested due around (line_for due m ++ lines_from d ds ms)

  passed : (m : Meaning) → Scalar m → Leads m
  passed m h e = passes due around d ds ms sound fits onward (line_for due m) (scalar_forms due m h) (scalar_onto due around d ds m h e)

  -- every event
  one_event : (m : Meaning) → Sayable m → Leads m
  unfolding turn_of line_for within is_name is_small
  one_event (array n) h e = opens due around d ds ms sound fits onward Element tt refl (open_onto due around d ds Element (unless_onto due around d ds _ _ e))
  one_event (dictionary n) h e = opens due around d ds ms sound fits onward Key tt refl (open_onto due around d ds Key (unless_onto due around d ds _ _ e))
  one_event close h e = closes due around d ds ms sound fits onward e
  one_event (boolean b) h e = passed (boolean b) tt e
  one_event (bytes s) h e = passed (bytes s) h e
  one_event (date b) h e = passed (date b) tt e
  one_event (integer z) h e = passed (integer z) tt e
  one_event (real b) h e = passed (real b) tt e
  one_event (text s) h e = passed (text s) tt e
  one_event (uid n) h e = passed (uid n) tt e

nests : (ms : List Meaning) (due : Due) (around : List Due) → Sound due around → fits_from due around ms ≡ true → AllSayable ms → Nested due around (lines_from due around ms)
unfolding fits_from lines_from
nests [] due around s f a = nests_first due around s f
nests (m ∷ ms) due around s f a =
    let v = led due around m ms f in
    rw (lines_cons due around m ms v.next v.outer v.move) (one_event due around v.next v.outer ms s v.fits (λ d ds t g. nests ms d ds t g a.1) m a.0 v.move)

-- THE XML IS WELL FORMED
pub well_formed_law : (tape : List ℕ) (room n : ℕ) → Bytes tape → answer_of tape room ≡ long n → (c : Content) × Proper c × (xml_of (meanings_in tape) ≡ header ++ (written c ++ footer))
unfolding xml_of
well_formed_law tape room n good e =
    let w = all_told tape n good (room_long tape room n e).0 in
    let f : Forms (lines_from Root [] (meanings_in tape)) = nests (meanings_in tape) Root [] tt w.fits w.sayable in
    (f.content, f.proper, rw f.is)
