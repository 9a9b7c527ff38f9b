-- The bits are a stack: what is pushed is found again, and what lies below it stays.
use Rattle.std.specs.Prelude.{Bool, true, false, List, ◌∷◌, ◌≡◌, refl, ℕ, zero, suc, ◌+◌, ◌-◌, ◌*◌, ◌/◌, ◌%◌, ◌^◌, ◌≤◌, ◌<◌, eqb, length, get_or, set}
use Rattle.std.proofs.Common.{ap, sym, ◌∙◌, arith, eqb-true, eq-eqb, ne_eqb, lit<, length-set, get_or-set_same, get_or-set_other, set-set}
use Rattle.std.proofs.lemmas.Bool.{eqb-false}
use Rattle.std.proofs.lemmas.Nat.{mod-pow-add}
use Rattle.std.proofs.lemmas.List.{set_comm}
use Rattle.grammar.specs.declared.turn.Due.{Due}
use Rattle.grammar.specs.declared.turn.Due.TheVariants.{Root, Element, Key, Value, Nothing}
use Rattle.builder.specs.State.{due_of, bit_of, pushed_of, behind_of, push_of, pop_of, open_from}

-- a word further up doesn't count
above_none : (d : ℕ) (bits : List ℕ) (i x : ℕ) → d ≤ 64 * i → open_from d (set bits i x) ≡ open_from d bits
unfolding open_from pop_of
above_none zero bits i x h = refl
above_none (suc d) bits i x h =
    let k : i ≡ d / 64 → ⊥ = λ e. omega arith in
    let g : get_or (set bits i x) (d / 64) 0 ≡ get_or bits (d / 64) 0 = get_or-set_other bits i (d / 64) x 0 (λ e. k (sym e)) in
    rw (g, set_comm bits i (d / 64) x (get_or bits (d / 64) 0 / 2) k)
    (ap (λ (t : List Due). due_of (behind_of (get_or bits (d / 64) 0) d) ∷ t) (above_none d (set bits (d / 64) (get_or bits (d / 64) 0 / 2)) i x (omega arith)))

-- of a word only as many bits count as there are levels in it
behind_low : (w j d : ℕ) → behind_of (w % 2 ^ (j + 1)) d ≡ behind_of w d
unfolding behind_of
behind_low w j d =
    let e : w % 2 ^ (j + 1) % 2 ≡ w % 2 = omega (arith, mod-pow-add w j 1) in
    rw e

half_low : (w j : ℕ) → w % 2 ^ (j + 1) / 2 ≡ w / 2 % 2 ^ j
half_low w j = omega (arith, mod-pow-add w j 1)

length_pop : (bits : List ℕ) (d : ℕ) → length (pop_of bits d) ≡ length bits
unfolding pop_of
length_pop bits d = rw length-set

same : (d j : ℕ) (bits : List ℕ) → d / 64 < length bits → open_from d (set (pop_of bits d) (d / 64) (get_or (pop_of bits d) (d / 64) 0 % 2 ^ j)) ≡ open_from d (pop_of bits d) → open_from (suc d) (set bits (d / 64) (get_or bits (d / 64) 0 % 2 ^ (j + 1))) ≡ open_from (suc d) bits
unfolding open_from pop_of
same d j bits l ih =
    let i = d / 64 in
    let w = get_or bits (d / 64) 0 in
    let g : get_or (set bits i (w % 2 ^ (j + 1))) i 0 ≡ w % 2 ^ (j + 1) = get_or-set_same bits i (w % 2 ^ (j + 1)) 0 l in
    let p : get_or (set bits i (w / 2)) i 0 ≡ w / 2 = get_or-set_same bits i (w / 2) 0 l in
    let t : open_from d (set bits i (w / 2 % 2 ^ j)) ≡ open_from d (set bits i (w / 2)) = rw (p, set-set) at ih in
    rw (g, behind_low w j d, set-set, half_low w j) (ap (λ (x : List Due). due_of (behind_of w d) ∷ x) t)

bits_low : (d j : ℕ) (bits : List ℕ) → d % 64 ≤ j → d / 64 < length bits → open_from d (set bits (d / 64) (get_or bits (d / 64) 0 % 2 ^ j)) ≡ open_from d bits
bits_low zero j bits h l = above_none zero bits (0 / 64) _ (omega arith)
bits_low (suc d) j bits h l = go (eqb (suc d % 64) 0) refl (λ i t. bits_low d i t)
  where
    go : (b : Bool) → eqb (suc d % 64) 0 ≡ b → ((i : ℕ) (t : List ℕ) → d % 64 ≤ i → d / 64 < length t → open_from d (set t (d / 64) (get_or t (d / 64) 0 % 2 ^ i)) ≡ open_from d t) → open_from (suc d) (set bits (suc d / 64) (get_or bits (suc d / 64) 0 % 2 ^ j)) ≡ open_from (suc d) bits
    go true e ih =
        let z : suc d % 64 ≡ 0 = eqb-true (suc d % 64) 0 e in
        above_none (suc d) bits (suc d / 64) (get_or bits (suc d / 64) 0 % 2 ^ j) (omega arith)
    go false e ih =
        let n : suc d % 64 ≡ 0 → ⊥ = eqb-false (suc d % 64) 0 e in
        let q : suc d / 64 ≡ d / 64 = omega arith in
        let k : j ≡ (j - 1) + 1 = omega arith in
        let m : d / 64 < length bits = omega arith in
        ap (λ (i : ℕ). open_from (suc d) (set bits i (get_or bits i 0 % 2 ^ j))) q ∙ ap (λ (i : ℕ). open_from (suc d) (set bits (d / 64) (get_or bits (d / 64) 0 % 2 ^ i))) k ∙ same d (j - 1) bits m (ih (j - 1) (pop_of bits d) (omega arith) (rw length_pop m))

pub bit_low : (due : Due) → bit_of due < 2
unfolding bit_of
bit_low Root = lit< tt
bit_low Element = lit< tt
bit_low Key = lit< tt
bit_low Value = lit< tt
bit_low Nothing = lit< tt

half_pushed : (w : ℕ) (due : Due) → pushed_of w due / 2 ≡ w % 2 ^ 63
unfolding pushed_of
half_pushed w due = omega (arith, bit_low due)

-- a container more: what is due behind it, and all that was open before
pub push_open : (d : ℕ) (due : Due) (bits : List ℕ) → d / 64 < length bits → open_from (suc d) (push_of bits d due) ≡ due_of (behind_of (pushed_of (get_or bits (d / 64) 0) due) d) ∷ open_from d bits
unfolding open_from push_of pop_of
push_open d due bits l =
    let w = get_or bits (d / 64) 0 in
    let g : get_or (set bits (d / 64) (pushed_of w due)) (d / 64) 0 ≡ pushed_of w due = get_or-set_same bits (d / 64) (pushed_of w due) 0 l in
    rw (g, set-set, half_pushed w due) (ap (λ (x : List Due). due_of (behind_of (pushed_of w due) d) ∷ x) (bits_low d 63 bits (omega arith) l))

-- what a container may keep: nothing is due behind the outermost, an element or a key behind any other
abbrev pub Keeps : ℕ → Due → Type 0
Keeps d Root = ⊥
Keeps d Element = 0 < d
Keeps d Key = 0 < d
Keeps d Value = ⊥
Keeps d Nothing = d ≡ 0

found_again : (w d : ℕ) (due : Due) → Keeps d due → due_of (behind_of (pushed_of w due) d) ≡ due
unfolding due_of behind_of pushed_of bit_of
found_again w d Root h = absurd h
found_again w d Element h =
    let e : (w % 2 ^ 63 * 2 + 0) % 2 ≡ 0 = omega arith in
    rw (ne_eqb d 0 (omega arith), e)
found_again w d Key h =
    let e : (w % 2 ^ 63 * 2 + 1) % 2 ≡ 1 = omega arith in
    rw (ne_eqb d 0 (omega arith), e)
found_again w d Value h = absurd h
found_again w d Nothing h = rw (eq-eqb d 0 h)

-- so the stack behind a container's start has what is due behind it on top
pub pushed : (d : ℕ) (due : Due) (bits : List ℕ) → d / 64 < length bits → Keeps d due → open_from (suc d) (push_of bits d due) ≡ due ∷ open_from d bits
pushed d due bits l h = push_open d due bits l ∙ ap (λ (x : Due). x ∷ open_from d bits) (found_again (get_or bits (d / 64) 0) d due h)
