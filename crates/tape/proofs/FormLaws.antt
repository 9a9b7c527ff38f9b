-- The tape has one form for each event: what is read as an event is that event's bytes.
use Rattle.std.specs.Prelude.{Bool, cond, List, [], ◌∷◌, ◌++◌, ℕ, ◌+◌, ◌^◌, ◌≤◌, ◌<◌, ltb, eqb, pos, get_or, drop, None, Option, Some}
use Rattle.std.proofs.Math.Bool.{true, false}
use Rattle.std.proofs.Common.{append_assoc, ap, sym, ◌∙◌, add-one, arith, length-append, take-append-drop, drop_at, drop-cons, drop-drop}
use Rattle.std.proofs.Math.Path.{◌≡◌, refl}
use Rattle.std.proofs.Math.Nat.{add-zero}
use borrow.Author.Tests.{ltb-true, leb-true, eqb-true}
use Rattle.std.proofs.Math.Dec.{leb}
use Rattle.std.proofs.Math.ListN.{length}
use Rattle.event.specs.Date.{is_date}
use Rattle.event.specs.Meaning.{Meaning, array, dictionary, close, boolean, date, integer, real, uid, meaning_of, value_of, bytes, text}
use Rattle.event.specs.Real.{real_of}
use Rattle.event.specs.RealLaws.{real_bits}
use Rattle.event.specs.declared.Event.{Event}
use Rattle.event.specs.declared.Event.TheVariants.{StartArray, StartDictionary, EndCollection, Boolean, Data, Integer, String, Uid}
use Rattle.event.specs.declared.Integer.TheVariants.{Unsigned}
use Rattle.number.specs.Be.{be, bytes_of}
use Rattle.number.specs.BeLaws.{Bytes, be_fits, bytes_of_be}
use Rattle.tape.specs.Code.{bytes_for, allowed, OnTape}
use Rattle.tape.specs.Item.{plain, bytes_at, numbered, negative, date_in, data_in, text_in, of_kind, item_at, meaning_in, event, reading_of, read_at}
use Rattle.number.specs.PartLaws.{bytes_take, bytes_drop, length_part}
use Rattle.tape.specs.Pairs.{both_of}
use Rattle.tape.specs.Seven.{seven}
use Rattle.number.specs.Part.{part}
use Rattle.tape.specs.Value.{number_at, eight_at}
use Rattle.tape.specs.ValueLaws.{number_begins}
use Rattle.tape.specs.declared.item.Item.{Item}
use Rattle.utf.specs.Unicode.{is_utf8}

-- between two places of a tape stand the bytes s, and nothing else
pub record Stands (tape : List ℕ) (at : ℕ) (s : List ℕ) (next : ℕ) : Type 0 where
  pub split : drop at tape ≡ s ++ drop next tape
  pub ends : next ≡ at + length s

-- between two places of a tape stand the bytes of an event that the tape takes
pub record Written (tape : List ℕ) (at : ℕ) (m : Meaning) (next : ℕ) : Type 0 where
  pub held : OnTape m
  pub stands : Stands tape at (bytes_for m) next

-- bytes after bytes
stands_append : (tape : List ℕ) (at mid next : ℕ) (s u : List ℕ) → Stands tape at s mid → Stands tape mid u next → Stands tape at (s ++ u) next
stands_append tape at mid next s u f g = record { split = rw (append_assoc s u (drop next tape)) (f.split ∙ ap (λ (l : List ℕ). s ++ l) g.split); ends = simp length-append (omega (arith, f.ends, g.ends)) }

module _ (tape : List ℕ) (good : Bytes tape) (at : ℕ) where
  -- what stands behind a place from which a list begins so
  stands_front : (s rest : List ℕ) → drop at tape ≡ s ++ rest → Stands tape at s (at + length s)
  stands_front s rest e =
      let d : drop (at + length s) tape ≡ rest = sym (drop-drop (length s) at tape) ∙ rw e (drop_at s rest (length s) refl) in
      record { split = rw d e; ends = refl }

  number_stands : (n next : ℕ) → number_at tape at ≡ Some (n, next) → (n < 2 ^ 64) × Stands tape at (seven n) next
  unfolding number_at
  number_stands n next e =
      let b = number_begins (drop at tape) at n next (bytes_drop at tape good) e in
      (b.fits, rw b.ends (stands_front (seven n) b.rest b.split))

  part_stands : (n : ℕ) → at + n ≤ length tape → Stands tape at (part tape at n) (at + n)
  part_stands n h =
      let l : length (part tape at n) ≡ n = length_part tape at n h in
      rw l at (stands_front (part tape at n) (drop n (drop at tape)) (sym (take-append-drop n (drop at tape))))

  eight_stands : (n next : ℕ) → eight_at tape at ≡ Some (n, next) → (n < 2 ^ 64) × Stands tape at (bytes_of 8 n) next
  unfolding eight_at
  eight_stands n next e = go (leb (at + 8) (length tape)) refl
    where
      go : (b : Bool) → leb (at + 8) (length tape) ≡ b → (n < 2 ^ 64) × Stands tape at (bytes_of 8 n) next
      go false f =
          let w : None ≡ Some (n, next) = rw f at e in
          let z : ◌≡◌ {A = ℕ} 0 1 = cc in
          absurd (omega arith)
      go true f =
          let h : at + 8 ≤ length tape = leb-true (at + 8) (length tape) f in
          let s = part tape at 8 in
          let w : Some (be s, at + 8) ≡ Some (n, next) = rw f at e in
          let same = both_of w in
          let value : be s ≡ n = same.0 in
          let end : at + 8 ≡ next = same.1 in
          let l : length s ≡ 8 = length_part tape at 8 h in
          let g : Bytes s = bytes_take 8 (drop at tape) (bytes_drop at tape good) in
          let is : bytes_of 8 n ≡ s = rw (← value) (rw l at (bytes_of_be s g)) in
          (rw (← value) (be_fits s g (omega arith)), rw (is, ← end) (part_stands 8 h))

-- an answer is an event that is written so, if it is an event; its bytes of data or text reach to the next event
abbrev Right : List ℕ → ℕ → Option Item → Type 0
Right tape at (Some i) = Written tape at (meaning_in tape i) i.next × (i.start + i.length ≡ i.next)
Right tape at None = Unit {0}

right_if : (tape : List ℕ) (at : ℕ) (b : Bool) (x y : Option Item) → (b ≡ true → Right tape at x) → Right tape at y → Right tape at (cond b x y)
right_if tape at true x y f g = f refl
right_if tape at false x y f g = g

-- an event whose kind k stands at a place
module _ (tape : List ℕ) (good : Bytes tape) (at k : ℕ) (first : Stands tape at (k ∷ []) (at + 1)) where
  right_plain : (e : Event) (m : Meaning) → OnTape m → bytes_for m ≡ k ∷ [] → meaning_in tape (record { event = e; start = at + 1; length = 0; next = at + 1 }) ≡ m → Right tape at (plain e (at + 1))
  unfolding plain
  right_plain e m h b f = (rw f (record { held = h; stands = rw b first }), add-zero (at + 1))

  -- a number behind the kind, in a form of its own
  right_numbered :
      (form : ℕ → List ℕ) (f : ℕ → Event) (g : ℕ → Meaning) (v : Option (ℕ × ℕ)) →
      ((n next : ℕ) → v ≡ Some (n, next) → (n < 2 ^ 64) × Stands tape (at + 1) (form n) next) →
      ((n : ℕ) (s : List ℕ) → n < 2 ^ 64 → meaning_of (f n) s ≡ g n) →
      ((n : ℕ) → n < 2 ^ 64 → OnTape (g n)) →
      ((n : ℕ) → bytes_for (g n) ≡ k ∷ form n) →
      Right tape at (numbered f v)
  unfolding numbered plain meaning_in
  right_numbered form f g None behind means held is = tt
  right_numbered form f g (Some (n, next)) behind means held is =
      let b = behind n next refl in
      (rw (means n (part tape next 0) b.0) (record { held = held n b.0; stands = rw (is n) (stands_append tape at (at + 1) next (k ∷ []) (form n) first b.1) }), add-zero next)

  right_negative : k ≡ 0x04 → (v : Option (ℕ × ℕ)) → ((n next : ℕ) → v ≡ Some (n, next) → (n < 2 ^ 64) × Stands tape (at + 1) (seven n) next) → Right tape at (negative v)
  unfolding negative plain meaning_in meaning_of value_of bytes_for allowed
  right_negative q None behind = tt
  right_negative q (Some (n, next)) behind =
      right_if tape at (ltb n (2 ^ 63)) _ _
      (λ e. (record { held = (ltb-true n (2 ^ 63) e, refl); stands = rw (← q) (stands_append tape at (at + 1) next (k ∷ []) (seven n) first (behind n next refl).1) }, add-zero next))
      tt

  right_date : k ≡ 0x06 → (v : Option (ℕ × ℕ)) → ((n next : ℕ) → v ≡ Some (n, next) → (n < 2 ^ 64) × Stands tape (at + 1) (bytes_of 8 n) next) → Right tape at (date_in v)
  unfolding date_in plain meaning_in meaning_of bytes_for allowed
  right_date q None behind = tt
  right_date q (Some (n, next)) behind =
      let b = behind n next refl in
      right_if tape at (is_date n) _ _
      (λ e. (record { held = (b.0, e); stands = rw (← q) (stands_append tape at (at + 1) next (k ∷ []) (bytes_of 8 n) first b.1) }, add-zero next))
      tt

  -- a length and so many bytes
  run_stands : (n start : ℕ) → Stands tape (at + 1) (seven n) start → start + n ≤ length tape → (length (part tape start n) ≡ n) × Stands tape at (k ∷ (seven (length (part tape start n)) ++ part tape start n)) (start + n)
  run_stands n start b h =
      let l : length (part tape start n) ≡ n = length_part tape start n h in
      (l, rw l (stands_append tape at start (start + n) (k ∷ seven n) (part tape start n) (stands_append tape at (at + 1) start (k ∷ []) (seven n) first b) (part_stands tape good start n h)))

  right_bytes :
      (e : Event) (g : List ℕ → Meaning) (n start : ℕ) → ((s : List ℕ) → meaning_of e s ≡ g s) → ((s : List ℕ) → bytes_for (g s) ≡ k ∷ (seven (length s) ++ s)) →
      (n < 2 ^ 64) × Stands tape (at + 1) (seven n) start → leb (start + n) (length tape) ≡ true →
      (length (part tape start n) < 2 ^ 64 → OnTape (g (part tape start n))) → Right tape at (bytes_at e start n)
  unfolding bytes_at meaning_in
  right_bytes e g n start means is b h held =
      let s = part tape start n in
      let r = run_stands n start b.1 (leb-true (start + n) (length tape) h) in
      (rw (means s) (record { held = held (rw r.0 b.0); stands = rw (is s) r.1 }), refl)

  right_data : k ≡ 0x08 → (v : Option (ℕ × ℕ)) → ((n next : ℕ) → v ≡ Some (n, next) → (n < 2 ^ 64) × Stands tape (at + 1) (seven n) next) → Right tape at (data_in tape v)
  unfolding data_in meaning_of bytes_for allowed
  right_data q None behind = tt
  right_data q (Some (n, start)) behind =
      right_if tape at (leb (start + n) (length tape)) _ _
      (λ h. right_bytes Data bytes n start (λ s. refl) (λ s. rw q) (behind n start refl) h (λ l. (l, refl)))
      tt

  right_text : k ≡ 0x09 → (v : Option (ℕ × ℕ)) → ((n next : ℕ) → v ≡ Some (n, next) → (n < 2 ^ 64) × Stands tape (at + 1) (seven n) next) → Right tape at (text_in tape v)
  unfolding text_in meaning_of bytes_for allowed
  right_text q None behind = tt
  right_text q (Some (n, start)) behind =
      right_if tape at (leb (start + n) (length tape)) _ _
      (λ h. right_if tape at (is_utf8 (part tape start n)) _ _ (λ u. right_bytes String text n start (λ s. refl) (λ s. rw q) (behind n start refl) h (λ l. (l, u))) tt)
      tt

  right_kind : Right tape at (of_kind tape k (at + 1))
  unfolding of_kind meaning_in meaning_of value_of bytes_for allowed
  right_kind =
      let number = number_stands tape good (at + 1) in
      let eight = eight_stands tape good (at + 1) in
      right_if tape at (eqb k 0x01) _ _ (λ e. right_plain (Boolean false) (boolean false) (tt, refl) (rw (eqb-true k 0x01 e)) refl)
      (right_if tape at (eqb k 0x02) _ _ (λ e. right_plain (Boolean true) (boolean true) (tt, refl) (rw (eqb-true k 0x02 e)) refl)
      (right_if tape at (eqb k 0x03) _ _ (λ e. right_numbered seven (λ n. Integer (Unsigned n)) (λ n. integer (pos n)) _ number (λ n s h. refl) (λ n h. (h, refl)) (λ n. rw (eqb-true k 0x03 e)))
      (right_if tape at (eqb k 0x04) _ _ (λ e. right_negative (eqb-true k 0x04 e) _ number)
      (right_if tape at (eqb k 0x05) _ _ (λ e. right_numbered (bytes_of 8) real_of real _ eight (λ n s h. real_bits n s h) (λ n h. (h, refl)) (λ n. rw (eqb-true k 0x05 e)))
      (right_if tape at (eqb k 0x06) _ _ (λ e. right_date (eqb-true k 0x06 e) _ eight)
      (right_if tape at (eqb k 0x07) _ _ (λ e. right_numbered seven Uid uid _ number (λ n s h. refl) (λ n h. (h, refl)) (λ n. rw (eqb-true k 0x07 e)))
      (right_if tape at (eqb k 0x08) _ _ (λ e. right_data (eqb-true k 0x08 e) _ number)
      (right_if tape at (eqb k 0x09) _ _ (λ e. right_text (eqb-true k 0x09 e) _ number)
      (right_if tape at (eqb k 0x0A) _ _ (λ e. right_plain (StartArray None) (array None) (tt, refl) (rw (eqb-true k 0x0A e)) refl)
      (right_if tape at (eqb k 0x0B) _ _ (λ e. right_numbered seven (λ n. StartArray (Some n)) (λ n. array (Some n)) _ number (λ n s h. refl) (λ n h. (h, refl)) (λ n. rw (eqb-true k 0x0B e)))
      (right_if tape at (eqb k 0x0C) _ _ (λ e. right_plain (StartDictionary None) (dictionary None) (tt, refl) (rw (eqb-true k 0x0C e)) refl)
      (right_if tape at (eqb k 0x0D) _ _ (λ e. right_numbered seven (λ n. StartDictionary (Some n)) (λ n. dictionary (Some n)) _ number (λ n s h. refl) (λ n h. (h, refl)) (λ n. rw (eqb-true k 0x0D e)))
      (right_if tape at (eqb k 0x0E) _ _ (λ e. right_plain EndCollection close (tt, refl) (rw (eqb-true k 0x0E e)) refl)
      tt)))))))))))))

right_item : (tape : List ℕ) (at : ℕ) → Bytes tape → Right tape at (item_at tape at)
unfolding item_at
right_item tape at good =
    right_if tape at (ltb at (length tape)) _ _
    (λ e.
    let k = get_or tape at 0 in
    let s : drop at tape ≡ (k ∷ []) ++ drop (at + 1) tape = rw add-one (drop-cons tape at 0 (ltb-true at (length tape) e)) in
    right_kind tape good at k (record { split = s; ends = refl }))
    tt

-- what is read as an event is that event's bytes
pub reads_written : (tape : List ℕ) (at : ℕ) (m : Meaning) (next : ℕ) → Bytes tape → read_at tape at ≡ event m next → Written tape at m next
unfolding read_at reading_of
reads_written tape at m next good e = go (item_at tape at) (right_item tape at good) e
  where
    go : (s : Option Item) → Right tape at s → reading_of tape s ≡ event m next → Written tape at m next
    go None r f = let z : ◌≡◌ {A = ℕ} 0 1 = cc in absurd (omega arith)
    go (Some i) r f =
        let means : meaning_in tape i ≡ m = cc in
        let end : i.next ≡ next = cc in
        rw (← means, ← end) r.0

-- a date that is read has a date's bits: no tape holds an infinity or a NaN as a date
pub read_date : (tape : List ℕ) (at b next : ℕ) → Bytes tape → read_at tape at ≡ event (date b) next → is_date b ≡ true
unfolding allowed
read_date tape at b next good e = (reads_written tape at (date b) next good e).held.1

-- the bytes of data or text reach to the next event
pub item_ends : (tape : List ℕ) (at : ℕ) (i : Item) → Bytes tape → item_at tape at ≡ Some i → i.start + i.length ≡ i.next
item_ends tape at i good e =
    let r : Right tape at (Some i) = rw e at (right_item tape at good) in
    r.1
