-- Text changed from UTF-16 on its way onto the tape.
use mathlib.Core.Bool.{true, false}
use mathlib.Core.List.{List, [], ◌∷◌, ◌++◌, append-nil, append_assoc}
use mathlib.Core.Path.{◌≡◌, refl, sym, ap, ◌∙◌}
use Prim.Native.Nat.{ℕ, suc, ◌+◌, ◌-◌, ◌≤◌, ◌<◌}
use native.Mathlib.Omega.{arith}
use borrow.Author.Tests.{le-ltb}
use borrow.Rule.Slice.PartMut.{put_mid, post_of, Post-is}
use lib.Dec.{ltb}
use lib.ListN.{length, take, drop, set, length-append, length-drop, length-set, drop_of_length-le}
use lib.Seq.{sets, length-sets, sets-eq, take_all, drop-drop}
use Rattle.number.specs.Either.{either}
use Rattle.utf.specs.Changed.{changed_to}
use Rattle.utf.specs.Unicode.{is_utf16, to_utf8}
use Rattle.utf.proofs.Writing.{sets_append}
use Rattle.event.specs.Meaning.{text}
use Rattle.tape.specs.Append.{Said, held, refused, fits, put_to, utf16_of, utf16_to}
use Rattle.tape.proofs.AppendLaws.{Puts, put_none, put_room}
use Rattle.tape.specs.Code.{bytes_for}
use Rattle.tape.specs.Seven.{seven}

-- text behind its head
text_behind : (l : List ℕ) (at : ℕ) (t v : List ℕ) → at + length t ≤ length l → v ≡ changed_to true t (take (length l - at) (drop at l)) → put_mid at (length l - at) l v ≡ sets l at t
unfolding changed_to
text_behind l at t v h e =
    let tail : take at l ++ (t ++ drop (at + length t) l) ≡ sets l at t = sym (append_assoc (take at l) t (drop (at + length t) l)) ∙ sym (sets-eq t l at h) in
    let m : take (length l - at) (drop at l) ≡ drop at l = take_all (length l - at) (drop at l) (rw length-drop (omega arith)) in
    let f : ltb (length (drop at l)) (length t) ≡ false = le-ltb (length (drop at l)) (length t) (rw length-drop (omega arith)) in
    let w : v ≡ t ++ drop (at + length t) l = e ∙ rw (m, f, drop-drop (length t) at l) in
    let z : post_of at (length l - at) l ≡ [] = Post-is at (length l) l (omega arith) ∙ drop_of_length-le l {i = length l} (omega arith) in
    ap (put_mid at (length l - at) l) w ∙ ap (λ (x : List ℕ). take at l ++ ((t ++ drop (at + length t) l) ++ x)) z ∙ ap (λ (x : List ℕ). take at l ++ x) (append-nil (t ++ drop (at + length t) l)) ∙ tail

-- what `append_utf16` answers, and the tape that it leaves
abbrev pub PutsText : List ℕ → ℕ → List ℕ → Said → List ℕ → Type 0
PutsText tape at s x l = record { result_value : x ≡ utf16_of tape at s; tape_after : l ≡ utf16_to tape at s }

module _ (tape : List ℕ) (at : ℕ) (s : List ℕ) where
  -- bytes that aren't UTF-16
  pub not_text : is_utf16 s ≡ false → PutsText tape at s (refused 20 at) tape
  unfolding utf16_of utf16_to
  not_text e = record { result_value = rw e; tape_after = rw e }

  module _ (is : is_utf16 s ≡ true) where
    abbrev now : List ℕ
    now = to_utf8 s

    -- UTF-16 is its text, if that fits
    is_put : {x : Said} {l : List ℕ} → Puts tape at (0x09 ∷ (seven (length now) ++ now)) x l → PutsText tape at s x l
    unfolding utf16_of utf16_to bytes_for
    is_put p = record { result_value = rw is p.result_value; tape_after = rw is p.tape_after }

    pub text_none : length tape < at + suc (length (seven (length now)) + length now) → PutsText tape at s (refused 27 at) tape
    text_none h = is_put (put_none tape at 0x09 (seven (length now) ++ now) (omega (arith, length-append (seven (length now)) now)))

    -- the kind, the length, and then the text in the place of what lay there
    pub text_room : (start n : ℕ) (l v : List ℕ) → at + suc (length (seven (length now)) + length now) ≤ length tape
        → start ≡ at + 1 + length (seven (length now)) → l ≡ sets (set tape at 0x09) (at + 1) (seven (length now)) → n ≡ start + length now
        → v ≡ changed_to (is_utf16 s) now (take (length l - start) (drop start l)) → PutsText tape at s (held n) (put_mid start (length l - start) l v)
    text_room start n l v room f e g h =
        let a = length-append (seven (length now)) now in
        let k : length l ≡ length tape = ap (λ (x : List ℕ). length x) e ∙ length-sets (set tape at 0x09) (at + 1) (seven (length now)) ∙ length-set tape at 0x09 in
        let p : put_mid start (length l - start) l v ≡ sets (set tape at 0x09) (at + 1) (seven (length now) ++ now) =
        text_behind l start now v (omega (arith, k)) (rw is at h) ∙ rw (e, f) (sym (sets_append (seven (length now)) now (set tape at 0x09) (at + 1))) in
        is_put (put_room tape at 0x09 (seven (length now) ++ now) (omega (arith, a)) (omega (arith, a)) p)

-- the tape is as long as it was
pub as_long : (tape : List ℕ) (at : ℕ) (s : List ℕ) → length (utf16_to tape at s) ≡ length tape
unfolding utf16_to put_to
as_long tape at s =
    either (λ (l : List ℕ). length l ≡ length tape) (is_utf16 s) _ _
    (λ h. either (λ (l : List ℕ). length l ≡ length tape) (fits tape at (bytes_for (text (to_utf8 s)))) _ _ (λ k. length-sets tape at (bytes_for (text (to_utf8 s)))) (λ k. refl)) (λ h. refl)
