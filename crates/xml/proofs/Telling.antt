-- The item that stands at a place, its bytes, and what is told of it.
use Rattle.std.specs.Prelude.{None, Option, Some}
use mathlib.Core.Bool.{Bool, true, false}
use mathlib.Core.List.{List, []}
use mathlib.Core.Path.{◌≡◌, refl, sym, ap, ◌∙◌}
use Prim.Native.Nat.{ℕ, ◌+◌, ◌-◌, ◌≤◌, ◌<◌}
use native.Mathlib.Omega.{arith}
use borrow.Author.Tests.{lt-ltb, le-ltb, leb-true, leb-false}
use Rattle.std.specs.Prelude.{Result, None, Option, Some}
use lib.Dec.{leb}
use lib.ListN.{length, get_or, take, drop, length-drop}
use lib.Seq.{length-take-le}
use Rattle.event.specs.Meaning.{Meaning, meaning_of}
use Rattle.event.specs.declared.Event.{Event}
use Rattle.event.specs.declared.Event.TheVariants.{StartArray, StartDictionary, EndCollection, Boolean, Data, Date, Integer, Real, Nan, String, Uid}
use Rattle.event.specs.declared.Integer.TheVariants.{Signed, Unsigned}
use Rattle.grammar.specs.declared.turn.Due.{Due}
use Rattle.grammar.specs.declared.way.Way.{Way}
use Rattle.number.specs.BeLaws.{Bytes}
use Rattle.number.specs.Part.{part}
use Rattle.tape.specs.Pairs.{both_of}
use Rattle.tape.specs.Code.{allowed}
use Rattle.tape.proofs.FormLaws.{reads_written, item_ends}
use Rattle.tape.specs.Item.{bytes_at, text_in, of_kind, item_at, meaning_in, event, read_at}
use Rattle.tape.specs.ItemLaws.{item_reads}
use Rattle.tape.proofs.SameLaws.{item_within}
use Rattle.tape.specs.Value.{number_at}
use Rattle.tape.specs.declared.item.Item.{Item}
use Rattle.utf.specs.Unicode.{is_utf8}
use Rattle.xml.specs.Lines.{Held, open_way, Tells}
use Rattle.xml.specs.Put.{Lined}
use Rattle.xml.specs.declared.answer.Bar.{Bar}

pub not_bad : (i : Item) → None ≡ Some i → ⊥
not_bad i e = let z : ◌≡◌ {A = ℕ} 0 1 = cc in omega arith

-- ---- text that stands there, unchecked

module _ (tape : List ℕ) (at : ℕ) (h : Held tape at) where
  pub held_within : at < length tape
  unfolding item_at
  held_within = go (leb (length tape) at) refl
    where
      go : (b : Bool) → leb (length tape) at ≡ b → at < length tape
      go true e = absurd (not_bad h.item (rw (le-ltb at (length tape) (leb-true (length tape) at e)) at h.is))
      go false e = leb-false (length tape) at e

  pub text_there : get_or tape at 0 ≡ 0x09 → text_in tape (number_at tape (at + 1)) ≡ Some h.item
  unfolding item_at of_kind
  text_there e = rw (lt-ltb at (length tape) held_within, e) at h.is

  -- its length and where its bytes begin are known, and they lie within the tape
  text_is : (v : Option (ℕ × ℕ)) → text_in tape v ≡ Some h.item → (n : ℕ) × (start : ℕ) × ◌≡◌ {A = Option (ℕ × ℕ)} v (Some (n, start)) × (start + n ≤ length tape) × (text_in tape v ≡ bytes_at String start n)
  unfolding text_in
  text_is None e = absurd (not_bad h.item e)
  text_is (Some (n, start)) e = go (leb (start + n) (length tape)) (is_utf8 (part tape start n)) refl refl
    where
      go : (a b : Bool) → leb (start + n) (length tape) ≡ a → is_utf8 (part tape start n) ≡ b → (k : ℕ) × (from : ℕ) × ◌≡◌ {A = Option (ℕ × ℕ)} (Some (n, start)) (Some (k, from)) × (from + k ≤ length tape) × (text_in tape (Some (n, start)) ≡ bytes_at String from k)
      go false b f g = absurd (not_bad h.item (rw f at e))
      go true false f g = absurd (not_bad h.item (rw (f, g) at e))
      go true true f g = (n, start, refl, leb-true (start + n) (length tape) f, rw (f, g))

  pub text_none : get_or tape at 0 ≡ 0x09 → number_at tape (at + 1) ≡ None → ⊥
  text_none e f =
      let t = text_is (number_at tape (at + 1)) (text_there e) in
      let g : None ≡ Some (t.0, t.1) = sym f ∙ t.2 in
      let z : ◌≡◌ {A = ℕ} 0 1 = cc in
      omega arith

  pub text_some : {n start : ℕ} → get_or tape at 0 ≡ 0x09 → number_at tape (at + 1) ≡ Some (n, start) → (start + n ≤ length tape) × (bytes_at String start n ≡ item_at tape at)
  text_some {n} {start} e f =
      let t = text_is (number_at tape (at + 1)) (text_there e) in
      let g : Some (n, start) ≡ Some (t.0, t.1) = sym f ∙ t.2 in
      let same = both_of g in
      let k : n ≡ t.0 = same.0 in
      let s : start ≡ t.1 = same.1 in
      (rw (k, s) t.3, rw (k, s) (sym t.4) ∙ text_there e ∙ sym h.is)

-- ---- the item's bytes, as they are lent

same_way : (due : Due) (e : Event) (s : List ℕ) → open_way due (meaning_of e s) ≡ open_way due (meaning_of e [])
unfolding meaning_of open_way
same_way due (StartArray n) s = refl
same_way due (StartDictionary n) s = refl
same_way due EndCollection s = refl
same_way due (Boolean b) s = refl
same_way due Data s = refl
same_way due (Date b) s = refl
same_way due (Integer (Signed z)) s = refl
same_way due (Integer (Unsigned n)) s = refl
same_way due (Real b) s = refl
same_way due (Nan b) s = refl
same_way due String s = refl
same_way due (Uid n) s = refl

module _ (tape : List ℕ) (at : ℕ) (good : Bytes tape) (i : Item) (e : item_at tape at ≡ Some i) where
  pub item_span : (i.start ≤ i.next) × (i.next ≤ length tape)
  item_span = (omega (arith, item_ends tape at i good e), (item_within tape at (meaning_in tape i) i.next good (item_reads tape at i e)).1)

  abbrev lent : List ℕ
  lent = take (i.next - i.start) (drop i.start tape)

  lent_is : lent ≡ part tape i.start i.length
  lent_is = let n : i.next - i.start ≡ i.length = omega (arith, item_ends tape at i good e) in rw n

  pub lent_short : length lent ≤ length tape
  lent_short =
      let s = item_span in
      let n : length lent ≡ i.next - i.start = length-take-le (i.next - i.start) (drop i.start tape) (rw length-drop (omega (arith, s.0, s.1))) in
      omega (arith, n, s.0, s.1)

  means : meaning_of i.event lent ≡ meaning_in tape i
  unfolding meaning_in
  means = ap (meaning_of i.event) lent_is

  pub lent_allowed : allowed (meaning_of i.event lent) ≡ true
  lent_allowed = ap allowed means ∙ (reads_written tape at (meaning_in tape i) i.next good (item_reads tape at i e)).held.1

  -- the bytes don't count for the way
  way_any : (due : Due) → open_way due (meaning_of i.event lent) ≡ open_way due (meaning_of i.event [])
  way_any due = same_way due i.event lent

  pub tells_item :
      (due : Due) (before : List ℕ) (to : ℕ) (after : List ℕ) (line : Result ℕ Bar) (way : Way) →
      Lined before to due (meaning_of i.event lent) after line → way ≡ open_way due (meaning_of i.event []) →
      Tells tape at due before to after (record { line = line; way = way; next = i.next })
  tells_item due before to after line way w u = record {
    line = λ m next f. rw (← (is m next f).0, ← means) w;
    way = λ m next f. u ∙ sym (way_any due) ∙ ap (open_way due) (means ∙ (is m next f).0);
    next = λ m next f. (is m next f).1;
  }
    where
      is : (m : Meaning) (next : ℕ) → read_at tape at ≡ event m next → (meaning_in tape i ≡ m) × (i.next ≡ next)
      is m next f =
          let g : event (meaning_in tape i) i.next ≡ event m next = sym (item_reads tape at i e) ∙ f in
          let a : meaning_in tape i ≡ m = cc in
          let b : i.next ≡ next = cc in
          (a, b)
