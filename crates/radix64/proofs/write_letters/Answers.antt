-- `write_letters` writes one group a turn: what stands, with what is left, is the whole.
use Rattle.std.proofs.Common.{ℕ, ◌≡◌, ◌∙◌, suc, ◌+◌, ◌*◌, ◌/◌, ◌%◌, ◌≤◌, List, [], ◌∷◌, length, drop, get_or, sym, ap, arith}
use Rattle.std.proofs.lemmas.List.{take_rest}
use Rattle.std.proofs.lemmas.List.Edits.{sets}
use Rattle.radix64.specs.Base64.{letter_of, base64}
use Rattle.radix64.specs.Base64Laws.{length_base64}
use Rattle.radix64.specs.GroupLaws.{three_left, two_left, one_left, none_left}
use Rattle.radix64.proofs.write_letters.Goals as goal

-- a group is written, and what is left behind it
group : (out : List ℕ) (to a b c d : ℕ) (more : List ℕ) → sets (sets out to (a ∷ b ∷ c ∷ d ∷ [])) (to + 4) more ≡ sets out to (a ∷ b ∷ c ∷ d ∷ more)
group out to a b c d more =
    let e : to + 4 ≡ suc (suc (suc (suc to))) = omega arith in
    rw e

step :
    (out left rest new final : List ℕ) (to end a b c d : ℕ) → rest ≡ drop 3 left → 3 ≤ length left → new ≡ sets out to (a ∷ b ∷ c ∷ d ∷ []) →
    a ≡ letter_of (get_or left 0 0 / 4) → b ≡ letter_of (get_or left 0 0 % 4 * 16 + get_or left 1 0 / 16) →
    c ≡ letter_of (get_or left 1 0 % 16 * 4 + get_or left 2 0 / 64) → d ≡ letter_of (get_or left 2 0 % 64) →
    (to + length (base64 left) ≡ end) × (sets out to (base64 left) ≡ final) → (to + 4 + length (base64 rest) ≡ end) × (sets new (to + 4) (base64 rest) ≡ final)
step out left rest new final to end a b c d r h n p q s t inv =
    let e = three_left left 0 h in (
      rw r (omega (arith, ap length e, inv.0)),
      rw (r, n, p, q, s, t) (group out to _ _ _ _ (base64 (drop 3 left)) ∙ ap (sets out to) (sym e) ∙ inv.1),
    )

pub put_four-requires : goal.put_four-requires
put_four-requires c = omega (arith, length_base64 c.loop-left.left.now, c.loop-left.invariant.0)

pub loop-left-preserved : goal.loop-left-preserved
loop-left-preserved c =
    step c.loop-left.out c.loop-left.left.now _ _ _ c.loop-left.to _ _ _ _ _
    (take_rest c.loop-left.left.now 3)
    c.in-len3-up.len_at_least
    c.put_four.ensures
    c.letter.ensures
    c.letter-in-len3-up.ensures
    c.letter-in-len3-up-2.ensures
    c.letter-in-len3-up-3.ensures
    c.loop-left.invariant

pub put_four-requires-in-len2-up : goal.put_four-requires-in-len2-up
put_four-requires-in-len2-up c = omega (arith, length_base64 c.loop-left.left.now, c.loop-left.invariant.0)

pub put_four-requires-in-len1 : goal.put_four-requires-in-len1
put_four-requires-in-len1 c = omega (arith, length_base64 c.loop-left.left.now, c.loop-left.invariant.0)

pub returns-in-len2-up : goal.returns-in-len2-up
returns-in-len2-up c =
    let l = c.loop-left in
    let e = two_left l.left.now 0 (omega (arith, c.in_default.len_below, c.in-len2-up.len_at_least)) in
    record {
      place = omega (arith, ap length e, l.invariant.0);
      memory = rw (c.put_four-in-len2-up.ensures, c.letter-in-len2-up.ensures, c.letter-in-len2-up-2.ensures, c.letter-in-len2-up-3.ensures) (ap (sets l.out l.to) (sym e) ∙ l.invariant.1);
    }

pub returns-in-len1 : goal.returns-in-len1
returns-in-len1 c =
    let l = c.loop-left in
    let e = one_left l.left.now 0 (omega (arith, c.in-len1.len_below, c.in-len1.len_at_least)) in
    record {
      place = omega (arith, ap length e, l.invariant.0);
      memory = rw (c.put_four-in-len1.ensures, c.letter-in-len1.ensures, c.letter-in-len1-2.ensures) (ap (sets l.out l.to) (sym e) ∙ l.invariant.1);
    }

pub returns-in-empty : goal.returns-in-empty
returns-in-empty c =
    let l = c.loop-left in
    let e = none_left l.left.now 0 (omega (arith, c.in-empty.len_below)) in
    record {
      place = omega (arith, ap length e, l.invariant.0);
      memory = ap (sets l.out l.to) (sym e) ∙ l.invariant.1;
    }
