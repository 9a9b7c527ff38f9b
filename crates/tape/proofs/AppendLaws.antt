-- What is appended is stepped to again.
use Rattle.std.specs.Prelude.{Bool, List, ◌∷◌, ◌++◌, ◌≡◌, refl, length, set, take, drop, Some}
use Rattle.std.proofs.Math.Bool.{true, false}
use Rattle.std.proofs.Common.{append_assoc, sym, ◌∙◌, length-append, length-take-le, take_at, drop-drop}
use Prim.Native.Nat.{ℕ, suc, ◌+◌, ◌-◌, ◌≤◌, ◌<◌}
use Rattle.std.proofs.Math.Numerals.{add-one}
use native.Mathlib.Omega.{arith}
use borrow.Author.Tests.{le-leb, lt-leb, leb-true}
use Rattle.std.proofs.Math.Dec.{leb}
use Rattle.std.proofs.lemmas.List.Edits.{sets, sets-eq}
use Rattle.event.specs.Meaning.{Meaning, meaning_of}
use Rattle.event.specs.declared.Event.{Event}
use Rattle.tape.specs.Append.{Said, held, refused, said, fits, put_of, put_to, append_of, append_to, ReadsBack}
use Rattle.tape.specs.Code.{bytes_for, InRange, allowed}
use Rattle.tape.proofs.CodeLaws.{reads_back}
use Rattle.tape.specs.Item.{item_at, meaning_in, event, read_at}
use Rattle.tape.specs.ItemLaws.{reads_item}
use Rattle.tape.specs.declared.append.Appended.{Appended}
use Rattle.tape.specs.declared.append.Appended.TheVariants.{Held, BadEvent, NoRoom}
use Rattle.tape.specs.declared.item.Item.{Item}

-- an answer is known by its number and values
pub said_one : (a b : Appended) → said a ≡ said b → a ≡ b
unfolding said
said_one (Held m) (Held n) e = cc
said_one (Held m) (BadEvent n) e = let z : ◌≡◌ {A = ℕ} 0 1 = cc in absurd (omega arith)
said_one (Held m) (NoRoom n) e = let z : ◌≡◌ {A = ℕ} 0 1 = cc in absurd (omega arith)
said_one (BadEvent m) (Held n) e = let z : ◌≡◌ {A = ℕ} 0 1 = cc in absurd (omega arith)
said_one (BadEvent m) (BadEvent n) e = cc
said_one (BadEvent m) (NoRoom n) e = let z : ◌≡◌ {A = ℕ} 20 27 = cc in absurd (omega arith)
said_one (NoRoom m) (Held n) e = let z : ◌≡◌ {A = ℕ} 0 1 = cc in absurd (omega arith)
said_one (NoRoom m) (BadEvent n) e = let z : ◌≡◌ {A = ℕ} 27 20 = cc in absurd (omega arith)
said_one (NoRoom m) (NoRoom n) e = cc

-- an event that is appended: the tape takes it, and it stands behind what was held and in front of what lay further on
pub record Taken (tape : List ℕ) (at : ℕ) (m : Meaning) (next : ℕ) : Type 0 where
  pub takes : allowed m ≡ true
  pub room : at + length (bytes_for m) ≤ length tape
  pub ends : next ≡ at + length (bytes_for m)
  pub after : append_to tape at m ≡ take at tape ++ (bytes_for m ++ drop next tape)

pub appended : (tape : List ℕ) (at : ℕ) (m : Meaning) (next : ℕ) → append_of tape at m ≡ held next → Taken tape at m next
unfolding append_of append_to put_of put_to fits
appended tape at m next e = go (allowed m) (leb (at + length (bytes_for m)) (length tape)) refl refl
  where
    go : (a b : Bool) → allowed m ≡ a → leb (at + length (bytes_for m)) (length tape) ≡ b → Taken tape at m next
    go false b f g =
        let w : refused 20 at ≡ held next = rw f at e in
        let z : ◌≡◌ {A = ℕ} 0 1 = cc in
        absurd (omega arith)
    go true false f g =
        let w : refused 27 at ≡ held next = rw (f, g) at e in
        let z : ◌≡◌ {A = ℕ} 0 1 = cc in
        absurd (omega arith)
    go true true f g =
        let w : held (at + length (bytes_for m)) ≡ held next = rw (f, g) at e in
        let n : at + length (bytes_for m) ≡ next = cc in
        let h : at + length (bytes_for m) ≤ length tape = leb-true _ _ g in
        record { takes = f; room = h; ends = sym n; after = rw (f, g, ← n) (sets-eq (bytes_for m) tape at h ∙ append_assoc (take at tape) (bytes_for m) (drop (at + length (bytes_for m)) tape)) }

-- what is appended is stepped to again: the event means the same, and the next one begins where the bytes held end
pub append_reads : (tape : List ℕ) (at : ℕ) (m : Meaning) (next : ℕ) → InRange m → append_of tape at m ≡ held next → read_at (append_to tape at m) at ≡ event m next
append_reads tape at m next h e =
    let t = appended tape at m next e in
    let l : length (take at tape) ≡ at = length-take-le at tape (omega (arith, t.room)) in
    rw (t.after, t.ends) (rw l at (reads_back (take at tape) m (drop (at + length (bytes_for m)) tape) (h, t.takes)))

-- the same for an event that is appended with the bytes of its data or text beside it
pub append_steps :
    (tape : List ℕ) (at : ℕ) (e : Event) (s : List ℕ) (next : ℕ) → InRange (meaning_of e s) → append_of tape at (meaning_of e s) ≡ held next →
    (i : Item) × (item_at (append_to tape at (meaning_of e s)) at ≡ Some i) × (meaning_in (append_to tape at (meaning_of e s)) i ≡ meaning_of e s) × (i.next ≡ next)
append_steps tape at e s next h f = reads_item (append_to tape at (meaning_of e s)) at (meaning_of e s) next (append_reads tape at (meaning_of e s) next h f)

-- the bytes held afterwards are those held before, then the event's
pub append_held : (tape : List ℕ) (at : ℕ) (m : Meaning) (next : ℕ) → append_of tape at m ≡ held next → take next (append_to tape at m) ≡ take at tape ++ bytes_for m
append_held tape at m next e =
    let t = appended tape at m next e in
    let l : length (take at tape) ≡ at = length-take-le at tape (omega (arith, t.room)) in
    rw (t.after, ← append_assoc (take at tape) (bytes_for m) (drop next tape)) (take_at (take at tape ++ bytes_for m) (drop next tape) next (rw (length-append, l) (sym t.ends)))

-- what a function that puts bytes answers, and the tape that it leaves
abbrev pub Puts : List ℕ → ℕ → List ℕ → Said → List ℕ → Type 0
Puts tape at s x l = record { result_value : x ≡ put_of tape at s; tape_after : l ≡ put_to tape at s }

module _ (tape : List ℕ) (at k : ℕ) (s : List ℕ) where
  -- a kind and bytes that don't fit
  pub put_none : length tape < at + suc (length s) → Puts tape at (k ∷ s) (refused 27 at) tape
  unfolding put_of put_to fits
  put_none h =
      let e : leb (at + suc (length s)) (length tape) ≡ false = lt-leb (at + suc (length s)) (length tape) h in
      record { result_value = rw e; tape_after = rw e }

  -- and that do: the kind is written, then they are
  pub put_room : {n : ℕ} {l : List ℕ} → at + suc (length s) ≤ length tape → n ≡ at + 1 + length s → l ≡ sets (set tape at k) (at + 1) s → Puts tape at (k ∷ s) (held n) l
  unfolding put_of put_to fits
  put_room {n} {l} h f g =
      let e : leb (at + suc (length s)) (length tape) ≡ true = le-leb (at + suc (length s)) (length tape) h in
      let q : n ≡ at + suc (length s) = omega arith in
      record { result_value = rw (e, q); tape_after = rw e (rw add-one at g) }

module _ (tape : List ℕ) (at : ℕ) (m : Meaning) where
  -- an event that the tape does not take
  pub put_bad : allowed m ≡ false → (refused 20 at ≡ append_of tape at m) × (tape ≡ append_to tape at m)
  unfolding append_of append_to
  put_bad e = (rw e, rw e)

  -- and one that it takes is its bytes, if they fit
  pub put_event : {x : Said} {l : List ℕ} → allowed m ≡ true → (x ≡ put_of tape at (bytes_for m)) × (l ≡ put_to tape at (bytes_for m)) → (x ≡ append_of tape at m) × (l ≡ append_to tape at m)
  unfolding append_of append_to
  put_event e p = (rw e p.0, rw e p.1)

  -- either way the event is stepped to again, where it is in range
  pub put_reads :
      {x : Said} {l : List ℕ} → InRange m → (x ≡ append_of tape at m) × (l ≡ append_to tape at m) →
      (x ≡ append_of tape at m) × ((l ≡ append_to tape at m) × (InRange m × ReadsBack l at m x))
  put_reads h p = (p.0, (p.1, (h, λ next e. rw p.1 (append_reads tape at m next h (sym p.0 ∙ e)))))

-- a part of a list that is replaced
pub put_part : (l : List ℕ) (at end : ℕ) (s : List ℕ) → at + length s ≡ end → end ≤ length l → take at l ++ (s ++ drop (end - at) (drop at l)) ≡ sets l at s
put_part l at end s e h =
    let q : at + (end - at) ≡ at + length s = omega arith in
    rw (drop-drop (end - at) at l, q, ← append_assoc (take at l) s (drop (at + length s) l)) (sym (sets-eq s l at (omega arith)))
