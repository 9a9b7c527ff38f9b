-- What is left in memory: bytes moved up, then a count, a length and a key written.
use mathlib.Core.Bool.{true, false}
use mathlib.Core.List.{List, ◌∷◌, ◌++◌, append_assoc}
use mathlib.Core.Path.{◌≡◌, refl, sym, ap, ap₂, ◌∙◌}
use Prim.Native.Nat.{ℕ, ◌+◌, ◌-◌, ◌≤◌, ◌<◌}
use native.Mathlib.Omega.{arith}
use borrow.Author.Tests.{le-leb, lt-leb, leb-true, ltb-true, ltb-false}
use lib.Dec.{ltb, leb}
use lib.ListN.{length, take, drop, length-append, length-drop, take-append-drop}
use lib.Seq.{paste, sets, sets-eq, length-take-le, take-append_seam, drop-append-add, drop-drop, take_at, drop_at}
use Rattle.std.specs.List.{copy_within}
use Rattle.std.proofs.lemmas.List.Edits.{take-paste, drop-paste}
use Rattle.number.specs.Part.{part}
use Rattle.number.specs.PartLaws.{length_part}
use Rattle.tape.specs.Append.{held, refused, said, fits, put_of, put_to}
use Rattle.tape.specs.Seven.{seven}
use Rattle.tape.specs.SevenLaws.{seven_few}
use Rattle.tape.specs.declared.append.Appended.{Appended}
use Rattle.tape.specs.declared.append.Appended.TheVariants as appended
use Rattle.lookup.specs.Append.{added_in, moved}
use Rattle.lookup.specs.declared.append.AddError.TheVariants.{NoRoom}
use Rattle.std.specs.Prelude.{Ok, Err}

-- what `copy_within` leaves is what its name says
pub moved_is : (memory : List ℕ) (from to by : ℕ) → from ≤ to → to + by ≤ length memory → copy_within memory from to (from + by) ≡ moved memory from to by
unfolding moved
moved_is memory from to by h room =
    let n = to - from in
    let s : List ℕ = drop from memory in
    let p : List ℕ = paste memory (from + by) s n in
    let l : n ≤ length s = omega (arith, length-drop from memory) in
    let e : from + by + n ≡ to + by = omega arith in
    sym (take-append-drop (from + by + n) p)
    ∙ ap₂ (λ (x y : List ℕ). x ++ y) (take-paste memory (from + by) s n (omega arith) l) (drop-paste memory (from + by) s n (omega arith) l)
    ∙ append_assoc (take (from + by) memory) (take n s) (drop (from + by + n) memory)
    ∙ ap (λ (i : ℕ). take (from + by) memory ++ (take n s ++ drop i memory)) e

-- the groups of a number behind a byte
module _ (memory : List ℕ) (n : ℕ) (long : length memory ≡ 11) where
  groups_room : leb (0 + length (0 ∷ seven n)) (length memory) ≡ true
  groups_room = le-leb (0 + length (0 ∷ seven n)) (length memory) (omega (arith, seven_few n))

  pub groups_end : (r : Appended) (end : ℕ) → said r ≡ put_of memory 0 (0 ∷ seven n) → r ≡ appended.Held end → end ≡ 1 + length (seven n)
  unfolding said put_of fits
  groups_end r end e f =
      let g : held end ≡ held (0 + length (0 ∷ seven n)) = sym (ap said f) ∙ e ∙ rw groups_room in
      let h : end ≡ 0 + length (0 ∷ seven n) = cc in
      omega (arith, h)

  pub groups_bad : (r : Appended) (place number : ℕ) → said r ≡ put_of memory 0 (0 ∷ seven n) → said r ≡ refused number place → ⊥
  unfolding put_of fits
  groups_bad r place number e f =
      let g : refused number place ≡ held (0 + length (0 ∷ seven n)) = sym f ∙ e ∙ rw groups_room in
      let z : ◌≡◌ {A = ℕ} 0 1 = cc in
      omega arith

  pub groups_there : part (put_to memory 0 (0 ∷ seven n)) 1 (length (seven n)) ≡ seven n
  unfolding put_to fits
  groups_there =
      let w : put_to memory 0 (0 ∷ seven n) ≡ 0 ∷ (seven n ++ drop (0 + length (0 ∷ seven n)) memory) = rw groups_room (sets-eq (0 ∷ seven n) memory 0 (leb-true (0 + length (0 ∷ seven n)) (length memory) groups_room)) in
      ap (λ (m : List ℕ). part m 1 (length (seven n))) w ∙ take_at (seven n) (drop (0 + length (0 ∷ seven n)) memory) (length (seven n)) refl

-- bytes behind those that are written
fill : (x s memory : List ℕ) (at : ℕ) → at ≡ length x → length x + length s ≤ length memory → sets (x ++ drop (length x) memory) at s ≡ (x ++ s) ++ drop (length (x ++ s)) memory
fill x s memory at is room =
    let y = drop (length x) memory in
    let l : length (x ++ y) ≡ length memory = length-append x y ∙ omega (arith, length-drop (length x) memory) in
    let d : drop (length x + length s) (x ++ y) ≡ drop (length (x ++ s)) memory = drop-append-add x y (length s) ∙ drop-drop (length s) (length x) memory ∙ ap (λ (i : ℕ). drop i memory) (sym (length-append x s)) in
    ap (λ (i : ℕ). sets (x ++ y) i s) is ∙ sets-eq s (x ++ y) (length x) (omega (arith, l)) ∙ ap₂ (λ (a b : List ℕ). (a ++ s) ++ b) (take-append_seam x y) d

module _ (memory : List ℕ) (held first up : ℕ) (count measure key : List ℕ) (within : first ≤ held) (inside : held ≤ length memory) (is_up : first + up ≡ length count) where
  body : List ℕ
  body = part memory first (held - first)

  body_long : length body ≡ held - first
  unfolding body
  body_long = length_part memory first (held - first) (omega arith)

  whole : List ℕ
  whole = (count ++ body) ++ (measure ++ key)

  whole_long : length whole ≡ held + up + length measure + length key
  unfolding whole
  whole_long = simp length-append (omega (arith, body_long, is_up))

  -- there is no room
  pub grow_not : ltb (length memory) (held + up + length measure + length key) ≡ true → (Err NoRoom ≡ added_in memory ((count ++ part memory first (held - first)) ++ (measure ++ key))) × (memory ≡ put_to memory 0 ((count ++ part memory first (held - first)) ++ (measure ++ key)))
  unfolding body whole added_in put_to fits
  grow_not e =
      let h : length memory < held + up + length measure + length key = ltb-true (length memory) (held + up + length measure + length key) e in
      let f = lt-leb (0 + length whole) (length memory) (omega (arith, h, whole_long)) in
      (rw f, rw f)

  module _ (e : ltb (length memory) (held + up + length measure + length key) ≡ false) where
    room : held + up + length measure + length key ≤ length memory
    room = ltb-false (length memory) (held + up + length measure + length key) e

    counted : sets (moved memory first held up) 0 count ≡ (count ++ body) ++ drop (length (count ++ body)) memory
    unfolding moved body
    counted =
        let m : List ℕ = moved memory first held up in
        let t : length (take (first + up) memory) ≡ length count = length-take-le (first + up) memory (omega (arith, room)) ∙ is_up in
        let d : drop (0 + length count) m ≡ body ++ drop (held + up) memory = drop_at (take (first + up) memory) (body ++ drop (held + up) memory) (0 + length count) (omega (arith, t)) in
        let l : length m ≡ length memory = simp length-append (omega (arith, t, body_long, length-drop (held + up) memory, room, is_up)) in
        let n : held + up ≡ length (count ++ body) = simp length-append (omega (arith, body_long, is_up)) in
        sets-eq count m 0 (omega (arith, l, room, is_up)) ∙ ap (λ (x : List ℕ). count ++ x) d ∙ sym (append_assoc count body (drop (held + up) memory)) ∙ ap (λ (i : ℕ). (count ++ body) ++ drop i memory) n

    pub grow_held : Ok (held + up + length measure + length key) ≡ added_in memory ((count ++ part memory first (held - first)) ++ (measure ++ key))
    unfolding body whole added_in fits
    grow_held = rw (le-leb (0 + length whole) (length memory) (omega (arith, room, whole_long))) (ap Ok (sym whole_long))

    pub grow_memory : sets (sets (sets (moved memory first held up) 0 count) (held + up) measure) (held + up + length measure) key ≡ put_to memory 0 ((count ++ part memory first (held - first)) ++ (measure ++ key))
    unfolding body whole put_to fits
    grow_memory =
        let x : List ℕ = count ++ body in
        let n : held + up ≡ length x = simp length-append (omega (arith, body_long, is_up)) in
        let o : held + up + length measure ≡ length (x ++ measure) = simp length-append (omega (arith, body_long, is_up)) in
        let one : sets (x ++ drop (length x) memory) (held + up) measure ≡ (x ++ measure) ++ drop (length (x ++ measure)) memory = fill x measure memory (held + up) n (omega (arith, n, room)) in
        let two : sets ((x ++ measure) ++ drop (length (x ++ measure)) memory) (held + up + length measure) key ≡ ((x ++ measure) ++ key) ++ drop (length ((x ++ measure) ++ key)) memory = fill (x ++ measure) key memory (held + up + length measure) o (omega (arith, o, room)) in
        let all : (x ++ measure) ++ key ≡ whole = append_assoc x measure key in
        let s : put_to memory 0 whole ≡ sets memory 0 whole = rw (le-leb (0 + length whole) (length memory) (omega (arith, room, whole_long))) in
        let z : 0 + length whole ≡ length whole = omega arith in
        let w : sets memory 0 whole ≡ whole ++ drop (length whole) memory = sets-eq whole memory 0 (omega (arith, room, whole_long)) ∙ ap (λ (i : ℕ). whole ++ drop i memory) z in
        ap (λ (m : List ℕ). sets (sets m (held + up) measure) (held + up + length measure) key) counted ∙ ap (λ (m : List ℕ). sets m (held + up + length measure) key) one ∙ two ∙ ap (λ (m : List ℕ). m ++ drop (length m) memory) all ∙ sym (s ∙ w)

    -- as the code leaves it, step by step
    pub grow_all :
        (moves counts measures all s t : List ℕ) (at start : ℕ) → moves ≡ moved memory first held up →
        counts ≡ sets moves 0 s → s ≡ count → measures ≡ sets counts at t → at ≡ held + up → t ≡ measure → all ≡ sets measures start key → start ≡ held + up + length measure →
        all ≡ put_to memory 0 ((count ++ part memory first (held - first)) ++ (measure ++ key))
    grow_all moves counts measures all s t at start a b c d f g h i = h ∙ rw (d, b, a, c, f, g, i) grow_memory
