-- No refusal has the number 0, and none has 240 or above. So where an answer is one number, 0 and 240 to 255 are free for what is no refusal.
use Rattle.std.specs.Prelude.{◌≡◌, refl, ℕ, ◌<◌, ltb}
use Rattle.std.proofs.Common.{ltb-true}
use Rattle.number.specs.Among.{among, among_not, all_of, among_all}
use Rattle.event.specs.Numbers.{refusal_numbers, Listed}

pub listed_some : (n : ℕ) → Listed n → n ≡ 0 → ⊥
unfolding refusal_numbers among
listed_some n h = among_not refusal_numbers n 0 h refl

pub listed_low : (n : ℕ) → Listed n → n < 240
unfolding refusal_numbers all_of
listed_low n h = ltb-true n 240 (among_all (λ (m : ℕ). ltb m 240) refusal_numbers n refl h)
