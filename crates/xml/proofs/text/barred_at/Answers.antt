-- `barred_at` makes the tests of the definition, one by one.
use Rattle.std.proofs.Common.{Bool, true, false, not, cond, ◌≡◌, ℕ, List, ◌+◌, ◌-◌, ltb, leb, eqb, length, get_or, drop, refl, sym, ◌∙◌, arith, lt-ltb, le-ltb, leb-true, ne_eqb}
use Rattle.xml.specs.Text.{is_clear, barred_first}
use Rattle.xml.specs.TextLaws.{barred_is}
use Rattle.xml.proofs.text.barred_at.Goals as goal
use Rattle.xml.proofs.text.barred_at.Goals.{then-s-i-ge3, else-s-i-ge3}

first_ef :
    (s : List ℕ) (i : ℕ) → get_or s i 0 ≡ 0xEF →
    barred_first (drop i s) ≡ cond (ltb (length s - i) 3) false (cond (not (eqb (get_or s (i + 1) 0) 0xBF)) false (leb 0xBE (get_or s (i + 2) 0)))
unfolding is_clear
first_ef s i e = rw (barred_is s i, e) refl

other : (r x : Bool) → not r ≡ cond r false (cond (not false) true x)
other true x = refl
other false x = refl

pub returns-then-s-i : goal.returns-then-s-i
returns-then-s-i c =
    elim c.if-s-i-ge3.branch [
      | then-s-i-ge3 w ↦ rw (first_ef c.args.s.now c.args.i c.in-239.is, le-ltb _ _ w.if-s-i-ge3.true, sym w.value-is ∙ c.if-s-i.true) refl
      | else-s-i-ge3 w ↦ absurd (omega (arith, leb-true 3 (length c.args.s.now - c.args.i) (sym w.value-is ∙ c.if-s-i.true)))
    ]

pub returns-else-s-i : goal.returns-else-s-i
returns-else-s-i c =
    elim c.if-s-i-ge3.branch [
      | then-s-i-ge3 w ↦ rw (c.if-s-i.false, first_ef c.args.s.now c.args.i c.in-239.is, le-ltb _ _ w.if-s-i-ge3.true, sym w.value-is ∙ c.if-s-i.false) refl
      | else-s-i-ge3 w ↦ rw (c.if-s-i.false, first_ef c.args.s.now c.args.i c.in-239.is, lt-ltb _ _ w.if-s-i-ge3.false) refl
    ]

pub returns-in_default : goal.returns-in_default
returns-in_default c =
    let s = c.args.s.now in
    let i = c.args.i in
    rw (barred_is s i, ne_eqb (get_or s i 0) 0xEF (λ e. omega arith), ← c.is_clear.ensures)
    (other c.is_clear.result (cond (ltb (length s - i) 3) false (cond (not (eqb (get_or s (i + 1) 0) 0xBF)) false (leb 0xBE (get_or s (i + 2) 0)))))
