-- Where the loop over a tape's events stands, and what one turn does to what is left of it.
use mathlib.Core.Bool.{Bool, true, false, false≢true}
use mathlib.Core.List.{List, [], ◌∷◌, ◌++◌}
use mathlib.Core.Path.{◌≡◌, refl, sym, ap, ◌∙◌}
use Prim.Native.Nat.{ℕ, ◌+◌, ◌-◌, ◌*◌, ◌≤◌, ◌<◌}
use native.Mathlib.Omega.{arith}
use Rattle.std.specs.Prelude.{Ok, Err, None, Option, Some}
use lib.Dec.{leb, eqb}
use lib.ListN.{length, set, get_or, take, drop, length-set, length-append, length-drop, take-append-drop}
use lib.Seq.{sets, length-take-le, drop-drop, drop_at}
use Rattle.digits.specs.Put.{Written}
use Rattle.digits.specs.PutLaws.{written_append}
use Rattle.event.specs.Format.{max_length, max_open}
use Rattle.event.specs.Meaning.{Meaning, array, dictionary, close, boolean, bytes, date, integer, real, text, uid}
use Rattle.grammar.proofs.Stack.{length_stack, stack_push, stack_pop}
use Rattle.grammar.specs.Stack.{stack}
use Rattle.grammar.specs.Check.{onto, barred, move_of}
use Rattle.grammar.specs.Fits.{fits_from}
use Rattle.grammar.specs.FitsLaws.{check_whole}
use Rattle.grammar.specs.Turn.{is_nothing, after_of, unexpected_of, unless_key, end_turn, text_turn, turn_of}
use Rattle.grammar.specs.Way.{way_by, way_of, move_by}
use Rattle.grammar.specs.WayLaws as way
use Rattle.grammar.specs.WayLaws.{way_moves, way_tells}
use Rattle.grammar.specs.declared.answer.EventKind.{EventKind}
use Rattle.grammar.specs.declared.answer.EventKind.TheVariants.{ValueOrStartCollection, EndCollection}
use Rattle.grammar.specs.declared.answer.Refusal.{Refusal}
use Rattle.grammar.specs.declared.answer.Refusal.TheVariants.{TooDeep, UnexpectedEventType}
use Rattle.grammar.specs.declared.turn.Due.{Due}
use Rattle.grammar.specs.declared.turn.Due.TheVariants.{Root, Element, Key, Value, Nothing}
use Rattle.grammar.specs.declared.turn.Turn.{Turn}
use Rattle.grammar.specs.declared.turn.Turn.TheVariants.{Pass, Open, Close}
use Rattle.grammar.specs.declared.way.Way.{Way}
use Rattle.grammar.specs.declared.way.Way.TheVariants.{Past, Into, Out, Barred as NoWay}
use Rattle.number.specs.BeLaws.{Bytes}
use Rattle.tape.specs.Code.{bytes_for}
use Rattle.tape.proofs.CodeLaws.{reads_back, bytes_some}
use Rattle.tape.specs.Events.{tape_of, meant_by, meanings_in}
use Rattle.tape.proofs.EventsLaws.{AllOnTape, whole_is}
use Rattle.tape.specs.Item.{event, read_at}
use Rattle.tape.specs.ItemLaws.{reads_item}
use Rattle.xml.specs.LineLaws.{line_size_law}
use Rattle.xml.specs.Lines.{Held, open_way, Tells, Rooted, lines_said, Laid}
use Rattle.xml.specs.Put.{Lined}
use Rattle.xml.specs.Said.{bar_number}
use Rattle.xml.specs.Write.{Said, bar_of, by_events}
use Rattle.xml.specs.Xml.{line_for, lines_from}
use Rattle.xml.specs.declared.answer.Bar.{Bar}
use Rattle.xml.specs.declared.lines.Told.{Told}

-- the lines of all events
abbrev all : List ℕ → List ℕ
all tape = lines_from Root [] (meanings_in tape)

-- `left` are the events from `at` on; with the lines before `to` theirs are all
pub record Leaves (tape before : List ℕ) (from : ℕ) (around : List Due) (due : Due) (at to : ℕ) (out : List ℕ) (left : List Meaning) : Type 0 where
  pub held : AllOnTape left
  pub rest : drop at tape ≡ tape_of left
  pub fits : fits_from due around left ≡ true
  pub answer : (x : Said) → by_events at left x ≡ by_events 0 (meanings_in tape) x
  pub place : to + length (lines_from due around left) ≡ from + length (all tape)
  pub memory : from + length (all tape) ≤ length before → sets out to (lines_from due around left) ≡ sets before from (all tape)

pub record Stands (tape before : List ℕ) (from : ℕ) (around : List Due) (depth : ℕ) (due : Due) (at to : ℕ) (out : List ℕ) : Type 0 where
  pub left : List Meaning
  pub leaves : Leaves tape before from (stack depth around) due at to out left
  pub within : at ≤ length tape
  pub short : length tape ≤ max_length
  pub low : from ≤ 164
  pub shallow : depth ≤ max_open
  pub long : length around ≡ max_open
  pub small : to ≤ from + 48 * at
  pub same : length out ≡ length before

pub stands_first : (tape before : List ℕ) (from : ℕ) (around : List Due) → Bytes tape → Rooted tape → from ≤ 164 → length around ≡ max_open → Stands tape before from around 0 Root 0 from before
unfolding stack meanings_in meant_by
stands_first tape before from around good root low long =
    let w = check_whole tape root.count root.whole in
    let i : meanings_in tape ≡ w.ms = rw w.events in
    let o = whole_is tape w.ms good w.events in
    record {
      left = meanings_in tape;
      leaves = record { held = rw i o.0; rest = rw i o.1; fits = rw i w.fits; answer = λ x. refl; place = refl; memory = λ h. refl };
      within = omega arith;
      short = w.short;
      low = low;
      shallow = omega arith;
      long = long;
      small = omega arith;
      same = refl;
    }

-- a line behind those that stand, and those that are left behind it
sets_behind : (out s t : List ℕ) (to : ℕ) → sets out to (s ++ t) ≡ sets (sets out to s) (to + length s) t
sets_behind out s t to =
    let front : Written out to s (sets out to s) (to + length s) = record { place = refl; memory = refl } in
    let back : Written (sets out to s) (to + length s) t (sets (sets out to s) (to + length s) t) (to + length s + length t) = record { place = refl; memory = refl } in
    sym (written_append front back).memory

module _ {tape before : List ℕ} {from : ℕ} {around : List Due} {depth : ℕ} {due : Due} {at to : ℕ} {out : List ℕ} (s : Stands tape before from around depth due at to out) where
  pub is_small_law : to < 0x100_0000_0000
  is_small_law = omega (arith, s.small, s.within, s.short, s.low)

  -- at the tape's end
  ends : (left : List Meaning) → Leaves tape before from (stack depth around) due at to out left → length tape ≤ at → Laid tape before from out (Ok to)
  unfolding by_events lines_from lines_said tape_of
  ends [] l h = record {
    answer = l.answer;
    place = λ n e. let f : to ≡ n = cc in omega (arith, f, l.place);
    small = λ n e. let f : to ≡ n = cc in omega (arith, f, is_small_law);
    memory = λ n e g. let f : to ≡ n = cc in l.memory (omega (arith, f, g, l.place));
  }
  ends (m ∷ ms) l h = absurd (omega (arith, rest_length l, bytes_some m))
    where
      rest_length : Leaves tape before from (stack depth around) due at to out (m ∷ ms) → length tape - at ≡ length (bytes_for m) + length (tape_of ms)
      rest_length l = sym (length-drop at tape) ∙ ap length l.rest ∙ length-append (bytes_for m) (tape_of ms)

  pub is_ended : length tape ≤ at → Laid tape before from out (Ok to)
  is_ended h = ends s.left s.leaves h

  first_left : (left : List Meaning) → Leaves tape before from (stack depth around) due at to out left → at < length tape → (m : Meaning) × (ms : List Meaning) × Leaves tape before from (stack depth around) due at to out (m ∷ ms)
  unfolding tape_of
  first_left [] l h = absurd (let n : length tape - at ≡ 0 = sym (length-drop at tape) ∙ ap length l.rest in omega arith)
  first_left (m ∷ ms) l h = (m, ms, l)

-- before it, the next event is known
module _ {tape before : List ℕ} {from : ℕ} {around : List Due} {depth : ℕ} {due : Due} {at to : ℕ} {out : List ℕ} (s : Stands tape before from around depth due at to out) (inside : at < length tape) where
  abbrev first : Meaning
  first = (first_left s s.left s.leaves inside).0

  abbrev others : List Meaning
  others = (first_left s s.left s.leaves inside).1

  leaves_first : Leaves tape before from (stack depth around) due at to out (first ∷ others)
  leaves_first = (first_left s s.left s.leaves inside).2

  further : length tape - at ≡ length (bytes_for first) + length (tape_of others)
  unfolding tape_of
  further = sym (length-drop at tape) ∙ ap length leaves_first.rest ∙ length-append (bytes_for first) (tape_of others)

  reads : read_at tape at ≡ event first (at + length (bytes_for first))
  unfolding tape_of
  reads =
      let w : take at tape ++ (bytes_for first ++ tape_of others) ≡ tape = ap (λ (l : List ℕ). take at tape ++ l) (sym leaves_first.rest) ∙ take-append-drop at tape in
      let n : length (take at tape) ≡ at = length-take-le at tape s.within in
      rw (w, n) at (reads_back (take at tape) first (tape_of others) leaves_first.held.0)

  behind : drop (at + length (bytes_for first)) tape ≡ tape_of others
  unfolding tape_of
  behind = sym (drop-drop (length (bytes_for first)) at tape) ∙ ap (drop (length (bytes_for first))) leaves_first.rest ∙ drop_at (bytes_for first) (tape_of others) (length (bytes_for first)) refl

  pub is_held : Held tape at
  is_held = let i = reads_item tape at first (at + length (bytes_for first)) reads in record { item = i.0; is = i.1 }

-- ---- the way of an event that isn't refused

unless_way : (due : Due) (depth : ℕ) (found : EventKind) (t : Turn) → ((r : Refusal) → way_by (unless_key due found t) due depth ≡ NoWay r → ⊥) → way_by t due depth ≡ way_by (unless_key due found t) due depth
unfolding unless_key unexpected_of way_by
unless_way Root depth found t f = refl
unless_way Element depth found t f = refl
unless_way Key depth found t f = absurd (f _ refl)
unless_way Value depth found t f = refl
unless_way Nothing depth found t f = absurd (f _ refl)

into_way : (first due : Due) (depth : ℕ) → ((r : Refusal) → way_by (Open first) due depth ≡ NoWay r → ⊥) → Into first (after_of due) ≡ way_by (Open first) due depth
unfolding way_by
into_way first due depth f = go (leb max_open depth) refl
  where
    go : (b : Bool) → leb max_open depth ≡ b → Into first (after_of due) ≡ way_by (Open first) due depth
    go true e = absurd (f TooDeep (rw e))
    go false e = rw e

out_way : (due : Due) (depth : ℕ) → ((r : Refusal) → way_by Close due depth ≡ NoWay r → ⊥) → Out ≡ way_by Close due depth
unfolding way_by
out_way due depth f = go (eqb depth 0) refl
  where
    go : (b : Bool) → eqb depth 0 ≡ b → Out ≡ way_by Close due depth
    go true e = absurd (f (UnexpectedEventType ValueOrStartCollection EndCollection) (rw e))
    go false e = rw e

-- opened or passed where no key is due
open_by : (due : Due) (depth : ℕ) (found : EventKind) (first : Due) → ((r : Refusal) → way_by (unless_key due found (Open first)) due depth ≡ NoWay r → ⊥) → Into first (after_of due) ≡ way_by (unless_key due found (Open first)) due depth
open_by due depth found first f =
    let e = unless_way due depth found (Open first) f in
    into_way first due depth (λ r g. f r (sym e ∙ g)) ∙ e

pass_by : (due : Due) (depth : ℕ) (found : EventKind) → ((r : Refusal) → way_by (unless_key due found (Pass (after_of due))) due depth ≡ NoWay r → ⊥) → Past (after_of due) ≡ way_by (unless_key due found (Pass (after_of due))) due depth
unfolding way_by
pass_by due depth found f = unless_way due depth found (Pass (after_of due)) f

end_by : (due : Due) (depth : ℕ) → ((r : Refusal) → way_by (end_turn due) due depth ≡ NoWay r → ⊥) → Out ≡ way_by (end_turn due) due depth
unfolding end_turn unexpected_of way_by
end_by Root depth f = out_way Root depth f
end_by Element depth f = out_way Element depth f
end_by Key depth f = out_way Key depth f
end_by Value depth f = absurd (f _ refl)
end_by Nothing depth f = absurd (f _ refl)

text_by : (due : Due) (depth : ℕ) → ((r : Refusal) → way_by (text_turn due) due depth ≡ NoWay r → ⊥) → Past (after_of due) ≡ way_by (text_turn due) due depth
unfolding text_turn is_nothing way_by
text_by Root depth f = refl
text_by Element depth f = refl
text_by Key depth f = refl
text_by Value depth f = refl
text_by Nothing depth f = absurd (f _ refl)

open_way_law : (due : Due) (depth : ℕ) (m : Meaning) → ((r : Refusal) → way_of due depth m ≡ NoWay r → ⊥) → open_way due m ≡ way_of due depth m
unfolding open_way way_of turn_of
open_way_law due depth (array n) f = open_by due depth _ _ f
open_way_law due depth (dictionary n) f = open_by due depth _ _ f
open_way_law due depth close f = end_by due depth f
open_way_law due depth (boolean b) f = pass_by due depth _ f
open_way_law due depth (bytes s) f = pass_by due depth _ f
open_way_law due depth (date b) f = pass_by due depth _ f
open_way_law due depth (integer z) f = pass_by due depth _ f
open_way_law due depth (real b) f = pass_by due depth _ f
open_way_law due depth (text s) f = text_by due depth f
open_way_law due depth (uid n) f = pass_by due depth _ f

-- and told of
pub record Met (tape before : List ℕ) (from : ℕ) (around : List Due) (depth : ℕ) (due : Due) (at to : ℕ) (out : List ℕ) (t : Told) (after : List ℕ) : Type 0 where
  pub stands : Stands tape before from around depth due at to out
  pub inside : at < length tape
  pub tells : Tells tape at due out to after t
  pub kept : length after ≡ length out

module _ {tape before : List ℕ} {from : ℕ} {around : List Due} {depth : ℕ} {due : Due} {at to : ℕ} {out : List ℕ} {t : Told} {after : List ℕ} (x : Met tape before from around depth due at to out t after) where
  abbrev m : Meaning
  m = first x.stands x.inside

  abbrev ms : List Meaning
  ms = others x.stands x.inside

  leaves : Leaves tape before from (stack depth around) due at to out (m ∷ ms)
  leaves = leaves_first x.stands x.inside

  next_is : t.next ≡ at + length (bytes_for m)
  next_is = x.tells.next m (at + length (bytes_for m)) (reads x.stands x.inside)

  pub is_less : length tape - t.next < length tape - at
  is_less = omega (arith, next_is, bytes_some m, further x.stands x.inside, x.inside)

  lined : Lined out to due m after t.line
  lined = x.tells.line m (at + length (bytes_for m)) (reads x.stands x.inside)

  -- an event that has no line
  pub is_barred : {b : Bar} → t.line ≡ Err b → Laid tape before from after (Err (b, at))
  unfolding lines_said by_events
  is_barred {b} e = go (bar_of m) refl
    where
      go : (o : Option ℕ) → bar_of m ≡ o → Laid tape before from after (Err (b, at))
      go None f = absurd (let w : Err b ≡ Ok (lined.stands f).end = sym e ∙ (lined.stands f).is in let z : ◌≡◌ {A = ℕ} 0 1 = cc in omega arith)
      go (Some k) f =
          let y = lined.bars k f in
          let w : Err b ≡ Err y.0 = sym e ∙ y.1 in
          let g : b ≡ y.0 = cc in
          let n : bar_number b ≡ k = rw g y.2 in
          record {
            answer = λ z. rw n (rw (f, by_events) at (leaves.answer z));
            place = λ n h. absurd (let z : ◌≡◌ {A = ℕ} 0 1 = cc in omega arith);
            small = λ n h. absurd (let z : ◌≡◌ {A = ℕ} 0 1 = cc in omega arith);
            memory = λ n h g. absurd (let z : ◌≡◌ {A = ℕ} 0 1 = cc in omega arith);
          }

  -- one that has one
  record Put (n : ℕ) : Type 0 where
    bar : bar_of m ≡ None
    end : n ≡ to + length (line_for due m)
    memory : to + length (line_for due m) ≤ length out → after ≡ sets out to (line_for due m)

  puts : {n : ℕ} → t.line ≡ Ok n → Put n
  puts {n} e = go (bar_of m) refl
    where
      go : (o : Option ℕ) → bar_of m ≡ o → Put n
      go None f =
          let p = lined.stands f in
          let w : Ok n ≡ Ok p.end = sym e ∙ p.is in
          let g : n ≡ p.end = cc in
          record { bar = f; end = g ∙ p.placed.place; memory = p.placed.memory }
      go (Some k) f = absurd (let y = lined.bars k f in let w : Ok n ≡ Err y.0 = sym e ∙ y.1 in let z : ◌≡◌ {A = ℕ} 0 1 = cc in omega arith)

  -- the event isn't refused, so that the way is its move
  move : move_by (way_of due depth m) (stack depth around) ≡ move_of (turn_of due m) due (stack depth around)
  move = rw (length_stack depth around) at (way_moves due m (stack depth around))

  passes : (r : Refusal) → way_of due depth m ≡ NoWay r → ⊥
  unfolding move_by fits_from
  passes r e =
      let b : move_of (turn_of due m) due (stack depth around) ≡ barred r = sym move ∙ rw e in
      false≢true (rw (b, fits_from) at leaves.fits)

  way_is : t.way ≡ way_of due depth m
  way_is = x.tells.way m (at + length (bytes_for m)) (reads x.stands x.inside) ∙ open_way_law due depth m passes

  moves : move_by t.way (stack depth around) ≡ move_of (turn_of due m) due (stack depth around)
  moves = ap (λ (w : Way). move_by w (stack depth around)) way_is ∙ move

  leads : {n : ℕ} → t.line ≡ Ok n → (d : Due) (k : ℕ) (l : List Due) → move_by t.way (stack depth around) ≡ onto d (stack k l) → k ≤ max_open → length l ≡ max_open → Stands tape before from l k d t.next n after
  unfolding fits_from lines_from by_events
  leads {n} e d k l v shallow long =
      let p = puts e in
      let f : move_of (turn_of due m) due (stack depth around) ≡ onto d (stack k l) = sym moves ∙ v in
      let i : to + length (line_for due m ++ lines_from d (stack k l) ms) ≡ from + length (all tape) = rw (f, lines_from) at leaves.place in
      let j : to + (length (line_for due m) + length (lines_from d (stack k l) ms)) ≡ from + length (all tape) = rw length-append at i in
      let ll : Leaves tape before from (stack k l) d t.next n after ms = record {
        held = leaves.held.1;
        rest = ap (λ (i : ℕ). drop i tape) next_is ∙ behind x.stands x.inside;
        fits = rw (f, fits_from) at leaves.fits;
        answer = λ z. ap (λ (i : ℕ). by_events i ms z) next_is ∙ rw (p.bar, by_events) at (leaves.answer z);
        place = omega (arith, p.end, j);
        memory = λ h.
            let g : sets out to (line_for due m ++ lines_from d (stack k l) ms) ≡ sets before from (all tape) = rw (f, lines_from) at (leaves.memory h) in
            let a : after ≡ sets out to (line_for due m) = p.memory (omega (arith, j, h, x.stands.same)) in
            ap (λ (o : List ℕ). sets o n (lines_from d (stack k l) ms)) a ∙ ap (λ (i : ℕ). sets (sets out to (line_for due m)) i (lines_from d (stack k l) ms)) p.end ∙ sym (sets_behind out (line_for due m) (lines_from d (stack k l) ms) to) ∙ g;
      } in
      record {
        left = ms;
        leaves = ll;
        within = omega (arith, next_is, further x.stands x.inside, x.inside);
        short = x.stands.short;
        low = x.stands.low;
        shallow = shallow;
        long = long;
        small = omega (arith, p.end, next_is, x.stands.small, line_size_law due m leaves.held.0.0);
        same = x.kept ∙ x.stands.same;
      }

  -- no way is barred
  pub is_stopped : {r : Refusal} → t.way ≡ NoWay r → ⊥
  is_stopped {r} e = passes r (sym way_is ∙ e)

  pub is_past : {n : ℕ} {d : Due} → t.line ≡ Ok n → t.way ≡ Past d → Stands tape before from around depth d t.next n after
  unfolding move_by
  is_past {d = d} f e = leads f d depth around (rw e) x.stands.shallow x.stands.long

  -- what the way tells of the open containers
  told_depth : way.Tells depth t.way
  unfolding way_of
  told_depth = rw way_is (way_tells (turn_of due m) due depth)

  pub is_room : {d behind : Due} → t.way ≡ Into d behind → depth < max_open
  is_room e = rw e at told_depth

  pub is_into : {n : ℕ} {d after_it : Due} → t.line ≡ Ok n → t.way ≡ Into d after_it → Stands tape before from (set around depth after_it) (depth + 1) d t.next n after
  unfolding move_by
  is_into {d = d} {after_it = y} f e =
      let room = is_room e in
      let p : stack (depth + 1) (set around depth y) ≡ y ∷ stack depth around = stack_push depth around y (omega (arith, x.stands.long)) in
      leads f d (depth + 1) (set around depth y) (rw (e, p)) (omega arith) (rw length-set x.stands.long)

  pub is_open : t.way ≡ Out → depth ≡ 0 → ⊥
  is_open e = rw e at told_depth

  pub is_out : {n : ℕ} → t.line ≡ Ok n → t.way ≡ Out → Stands tape before from around (depth - 1) (get_or around (depth - 1) Root) t.next n after
  unfolding move_by
  is_out f e = leads f (get_or around (depth - 1) Root) (depth - 1) around (rw (e, stack_pop depth around (is_open e), move_by)) (omega (arith, x.stands.shallow)) x.stands.long
