-- The whole XML: how long it is, its parts one behind the other, and what is answered and left.
use mathlib.Core.List.{List, [], ◌++◌}
use mathlib.Core.Path.{◌≡◌, refl, sym, ap, ◌∙◌}
use Prim.Native.Nat.{ℕ, ◌+◌, ◌≤◌, ◌<◌}
use native.Mathlib.Omega.{arith}
use Rattle.std.specs.Prelude.{Result, Ok, Err}
use lib.ListN.{length, length-append}
use lib.Seq.{sets}
use Rattle.digits.specs.Put.{Written}
use Rattle.digits.specs.PutLaws.{written_append}
use Rattle.event.specs.Meaning.{Meaning}
use Rattle.grammar.specs.Check.{check_of}
use Rattle.grammar.specs.Said.{number_of, kinds_of, refused_at, checked_said}
use Rattle.grammar.specs.declared.answer.Checked.{Checked}
use Rattle.grammar.specs.declared.answer.Checked.TheVariants.{Whole, Refused}
use Rattle.grammar.specs.declared.answer.EventKind.{EventKind}
use Rattle.grammar.specs.declared.answer.Refusal.{Refusal}
use Rattle.grammar.specs.declared.turn.Due.TheVariants.{Root}
use Rattle.tape.specs.Events.{meanings_in}
use Rattle.xml.specs.Lines.{Rooted, Unbarred, lines_said, Laid}
use Rattle.xml.specs.Said.{bar_number}
use Rattle.xml.specs.Words.{declaration, doctype, plist, header, footer}
use Rattle.xml.specs.Write.{Said, long, refused, by_events, by_check, measured_of, answer_of, output_by, output_of}
use Rattle.xml.specs.WriteLaws.{room_enough, room_short, room_refused, accepted, output_refused}
use Rattle.xml.specs.Xml.{lines_from, xml_of}
use Rattle.xml.specs.declared.answer.Bar.{Bar}

header_long : length header ≡ 164
unfolding header declaration doctype plist
header_long = refl

footer_long : length footer ≡ 9
unfolding footer
footer_long = refl

pub xml_long : (ms : List Meaning) → length (xml_of ms) ≡ 164 + length (lines_from Root [] ms) + 9
unfolding xml_of
xml_long ms = omega (arith, length-append header (lines_from Root [] ms ++ footer), length-append (lines_from Root [] ms) footer, header_long, footer_long)

-- what was laid is written, where it ends within the memory
pub laid_written : {tape before : List ℕ} {from : ℕ} {after : List ℕ} {r : Result ℕ (Bar × ℕ)} {end : ℕ} → Laid tape before from after r → r ≡ Ok end → end ≤ length before → Written before from (lines_from Root [] (meanings_in tape)) after end
laid_written {end = end} l e h = record { place = l.place end e; memory = l.memory end e h }

-- the parts, one behind the other
pub whole_written :
    (ms : List Meaning) {l : List ℕ} {m₁ : List ℕ} {e₁ : ℕ} {m₂ : List ℕ} {e₂ : ℕ} {m₃ : List ℕ} {e₃ : ℕ} {m₄ : List ℕ} {e₄ : ℕ} {m₅ : List ℕ} {e₅ : ℕ} →
    Written l 0 declaration m₁ e₁ → Written m₁ e₁ doctype m₂ e₂ → Written m₂ e₂ plist m₃ e₃ → Written m₃ e₃ (lines_from Root [] ms) m₄ e₄ → Written m₄ e₄ footer m₅ e₅ →
    m₅ ≡ sets l 0 (xml_of ms)
unfolding xml_of header
whole_written ms a b c d e = (written_append (written_append a (written_append b c)) (written_append d e)).memory

-- ---- what is measured

-- a tape that the check finds whole, and one that it refuses
pub is_rooted : {tape : List ℕ} {r : Checked} {n : ℕ} → checked_said r ≡ check_of tape → r ≡ Whole n → Rooted tape
unfolding checked_said
is_rooted {n = n} e f = record { count = n; whole = sym e ∙ ap checked_said f }

module _ (tape : List ℕ) where
  pub is_refused : {r : Checked} {x : Refusal} {place : ℕ} → checked_said r ≡ check_of tape → r ≡ Refused x place → refused (number_of x) (kinds_of x) place ≡ measured_of tape
  unfolding checked_said refused_at measured_of by_check
  is_refused {x = x} {place = place} e f = let c : check_of tape ≡ refused_at x place = sym e ∙ ap checked_said f in rw c

  measured_by : Rooted tape → measured_of tape ≡ by_events 0 (meanings_in tape) (long (length (xml_of (meanings_in tape))))
  unfolding measured_of by_check
  measured_by root = rw root.whole

  module _ {before : List ℕ} {from : ℕ} {after : List ℕ} {r : Result ℕ (Bar × ℕ)} (root : Rooted tape) (l : Laid tape before from after r) where
    laid_said : lines_said r (long (length (xml_of (meanings_in tape)))) ≡ measured_of tape
    laid_said = l.answer _ ∙ sym (measured_by root)

    -- the lines end behind a header, and the footer is to follow
    pub is_measured : {end : ℕ} → from ≡ 164 → r ≡ Ok end → long (end + 9) ≡ measured_of tape
    unfolding lines_said
    is_measured {end} f e =
        let n : end + 9 ≡ length (xml_of (meanings_in tape)) = omega (arith, xml_long (meanings_in tape), l.place end e, f) in
        ap long n ∙ ap (λ (y : Result ℕ (Bar × ℕ)). lines_said y (long (length (xml_of (meanings_in tape))))) (sym e) ∙ laid_said

    pub is_barred : {b : Bar} {place : ℕ} → r ≡ Err (b, place) → refused (bar_number b) [] place ≡ measured_of tape
    unfolding lines_said
    is_barred e = ap (λ (y : Result ℕ (Bar × ℕ)). lines_said y (long (length (xml_of (meanings_in tape))))) (sym e) ∙ laid_said

  -- where no event is barred, none is
  pub laid_once : {before : List ℕ} {from : ℕ} {after : List ℕ} {r : Result ℕ (Bar × ℕ)} {b : Bar} {place : ℕ} → Laid tape before from after r → r ≡ Err (b, place) → Unbarred tape → ⊥
  unfolding lines_said
  laid_once {b = b} {place = place} l e u =
      let w : refused (bar_number b) [] place ≡ long 0 = ap (λ (y : Result ℕ (Bar × ℕ)). lines_said y (long 0)) (sym e) ∙ l.answer (long 0) ∙ u.none (long 0) in
      let z : ◌≡◌ {A = ℕ} 0 1 = cc in
      omega arith

  -- ---- what is answered, and left

  pub long_rooted : (n : ℕ) → long n ≡ measured_of tape → Rooted tape × Unbarred tape × (length (xml_of (meanings_in tape)) ≡ n)
  long_rooted n e =
      let a = accepted tape n (sym e) in
      (record { count = a.count; whole = a.whole }, record { none = a.unbarred }, a.size)

  module _ (out : List ℕ) where
    -- a refusal stays what it is
    pub is_kept : {number : ℕ} {kinds : List EventKind} {place : ℕ} → refused number kinds place ≡ measured_of tape → (refused number kinds place ≡ answer_of tape (length out)) × (out ≡ output_of tape out)
    is_kept {number} {kinds} {place} e =
        let a = room_refused tape (length out) number kinds place (sym e) in
        (sym a, sym (output_refused tape out number kinds place a))

    pub is_narrow : {n : ℕ} → long n ≡ measured_of tape → length out < n → (refused 25 [] 0 ≡ answer_of tape (length out)) × (out ≡ output_of tape out)
    is_narrow {n} e h =
        let a = room_short tape (length out) n (sym e) h in
        (sym a, sym (output_refused tape out 25 [] 0 a))

    pub is_long : {n : ℕ} {m : List ℕ} → long n ≡ measured_of tape → n ≤ length out → m ≡ sets out 0 (xml_of (meanings_in tape)) → (long n ≡ answer_of tape (length out)) × (m ≡ output_of tape out)
    unfolding output_of output_by
    is_long {n} e h f =
        let a = room_enough tape (length out) n (sym e) h in
        (sym a, f ∙ sym (ap (λ (s : Said). output_by s (xml_of (meanings_in tape)) out) a))
