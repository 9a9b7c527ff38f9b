-- The open containers of a state: how many, and which is the innermost. More than the limit count as the limit.
use Rattle.std.specs.Prelude.{List, ◌∷◌, ◌≡◌, refl, ℕ, zero, suc, ◌-◌, ◌*◌, ◌/◌, ◌<◌, min, length, get_or}
use Rattle.std.proofs.Common.{ap, arith}
use Rattle.event.specs.Format.{max_open}
use Rattle.builder.specs.State.{open_words, due_of, behind_of, pop_of, open_from, open_of}
use Rattle.builder.specs.declared.state.Builder.{Builder}

-- a bit for each container that may be open, and no more: who changes the limit changes the words
pub words_open : 64 * open_words ≡ max_open
words_open = refl

length_from : (d : ℕ) (bits : List ℕ) → length (open_from d bits) ≡ d
unfolding open_from
length_from zero bits = refl
length_from (suc d) bits = ap suc (length_from d (pop_of bits d))

-- how many are open
pub length_open : (b : Builder) → length (open_of b) ≡ min b.depth max_open
unfolding open_of
length_open b = length_from (min b.depth max_open) b.bits

-- the innermost of them
pub open_top : (d : ℕ) (bits : List ℕ) → 0 < d → open_from d bits ≡ due_of (behind_of (get_or bits ((d - 1) / 64) 0) (d - 1)) ∷ open_from (d - 1) (pop_of bits (d - 1))
unfolding open_from
open_top zero bits h = absurd (omega arith)
open_top (suc d) bits h =
    let e : suc d - 1 ≡ d = omega arith in
    rw e
