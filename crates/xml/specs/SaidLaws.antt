-- Two answers that say the same are the same.
use Rattle.std.specs.Prelude.{cond, List, ◌≡◌, refl, ℕ, ◌≤◌, ◌<◌, eqb}
use Rattle.std.proofs.Common.{sym, ap, ◌∙◌, arith}
use Rattle.grammar.specs.Said.{number_of, kinds_of, refused_at, checked_said}
use Rattle.grammar.specs.Said as check
use Rattle.grammar.specs.SaidLaws.{checked_said_one}
use Rattle.grammar.specs.declared.answer.Checked.TheVariants as checked
use Rattle.grammar.specs.declared.answer.EventKind.{EventKind}
use Rattle.grammar.specs.declared.answer.Refusal.{Refusal}
use Rattle.grammar.specs.declared.answer.Refusal.TheVariants.{TooLong, TooDeep, BadTape, UnexpectedEventType, IncompleteRoot, TrailingEvents}
use Rattle.xml.specs.Said.{bar_number, answer_said}
use Rattle.xml.specs.Write.{long, refused}
use Rattle.xml.specs.declared.answer.Answer.{Answer}
use Rattle.xml.specs.declared.answer.Answer.TheVariants.{Length, Refused, Barred, NoRoom}
use Rattle.xml.specs.declared.answer.Bar.{Bar}
use Rattle.xml.specs.declared.answer.Bar.TheVariants.{NoElement, NoCharacter, NoDay}

-- the numbers of the tape's refusals, of the bars, and 25 don't meet
tape_low : (r : Refusal) → number_of r < 24
unfolding number_of
tape_low TooLong = omega arith
tape_low TooDeep = omega arith
tape_low BadTape = omega arith
tape_low (UnexpectedEventType expected found) = omega arith
tape_low IncompleteRoot = omega arith
tape_low TrailingEvents = omega arith

bar_high : (b : Bar) → 30 ≤ bar_number b
unfolding bar_number
bar_high NoElement = omega arith
bar_high NoCharacter = omega arith
bar_high NoDay = omega arith

-- the bar of a number
bar_from : ℕ → Bar
bar_from n = cond (eqb n 35) NoElement (cond (eqb n 36) NoCharacter NoDay)

bar_again : (b : Bar) → bar_from (bar_number b) ≡ b
unfolding bar_from bar_number
bar_again NoElement = refl
bar_again NoCharacter = refl
bar_again NoDay = refl

module _ {a b : ℕ} {k l : List EventKind} {p q : ℕ} (e : refused a k p ≡ refused b l q) where
  same_number : a ≡ b
  same_number = cc

  same_kinds : k ≡ l
  same_kinds = cc

  same_place : p ≡ q
  same_place = cc

not_long : {n a : ℕ} {k : List EventKind} {p : ℕ} → long n ≡ refused a k p → ⊥
not_long e = let z : ◌≡◌ {A = ℕ} 0 1 = cc in omega arith

refused_one : (r s : Refusal) (p q : ℕ) → refused (number_of r) (kinds_of r) p ≡ refused (number_of s) (kinds_of s) q → Refused r p ≡ Refused s q
unfolding checked_said refused_at
refused_one r s p q e =
    let n = same_number e in
    let k = same_kinds e in
    let c : check.refused (number_of r) (kinds_of r) p ≡ check.refused (number_of s) (kinds_of s) q = rw (n, k, same_place e) in
    let w : checked.Refused r p ≡ checked.Refused s q = checked_said_one (checked.Refused r p) (checked.Refused s q) c in
    let f : r ≡ s = cc in
    rw (f, same_place e)

pub answer_said_one : (x y : Answer) → answer_said x ≡ answer_said y → x ≡ y
unfolding answer_said
answer_said_one (Length m) (Length n) e = let f : m ≡ n = cc in ap Length f
answer_said_one (Length m) (Refused r p) e = absurd (not_long e)
answer_said_one (Length m) (Barred b p) e = absurd (not_long e)
answer_said_one (Length m) NoRoom e = absurd (not_long e)
answer_said_one (Refused r p) (Length n) e = absurd (not_long (sym e))
answer_said_one (Refused r p) (Refused s q) e = refused_one r s p q e
answer_said_one (Refused r p) (Barred b q) e = absurd (omega (arith, same_number e, tape_low r, bar_high b))
answer_said_one (Refused r p) NoRoom e = absurd (omega (arith, same_number e, tape_low r))
answer_said_one (Barred b p) (Length n) e = absurd (not_long (sym e))
answer_said_one (Barred b p) (Refused s q) e = absurd (omega (arith, same_number e, tape_low s, bar_high b))
answer_said_one (Barred b p) (Barred c q) e =
    let f : b ≡ c = sym (bar_again b) ∙ ap bar_from (same_number e) ∙ bar_again c in
    rw (f, same_place e)
answer_said_one (Barred b p) NoRoom e = absurd (omega (arith, same_number e, bar_high b))
answer_said_one NoRoom (Length n) e = absurd (not_long (sym e))
answer_said_one NoRoom (Refused s q) e = absurd (omega (arith, same_number e, tape_low s))
answer_said_one NoRoom (Barred c q) e = absurd (omega (arith, same_number e, bar_high c))
answer_said_one NoRoom NoRoom e = refl
