-- What is cleared is 0, and what stands before it is as it was.
use Rattle.std.specs.Prelude.{◌≡◌, ℕ, zero, suc, ◌+◌, ◌-◌, ◌<◌, ◌≤◌, List, length, replicate, slice_index, slice_set, refl}
use Rattle.std.proofs.Common.{ap, ◌∙◌, arith, length-set, get_or-set_other, get_or-set_same}
use Rattle.std.proofs.lemmas.List.Edits.{sets}
use Rattle.std.proofs.Math.Seq.{length-sets}
use Rattle.writer.specs.Columns.{cleared}

pub length_cleared : (w : List ℕ) (from to : ℕ) → length (cleared w from to) ≡ length w
unfolding cleared
length_cleared w from to = length-sets w from (replicate (to - from) 0)

-- word by word
pub cleared_turn : (w : List ℕ) (i to : ℕ) → i < to → cleared w i to ≡ cleared (slice_set w i 0) (suc i) to
unfolding cleared
cleared_turn w i to h =
    let e : to - i ≡ suc (to - suc i) = omega arith in
    ap (λ (m : ℕ). sets w i (replicate m 0)) e

pub cleared_done : (w : List ℕ) (i to : ℕ) → to ≤ i → cleared w i to ≡ w
unfolding cleared
cleared_done w i to h =
    let e : to - i ≡ 0 = omega arith in
    ap (λ (m : ℕ). sets w i (replicate m 0)) e

zeros_below : (m : ℕ) (w : List ℕ) (from i : ℕ) → i < from → slice_index (sets w from (replicate m 0)) i ≡ slice_index w i
zeros_below zero w from i h = refl
zeros_below (suc m) w from i h = zeros_below m (slice_set w from 0) (suc from) i (omega arith) ∙ get_or-set_other w from i 0 0 (λ e. omega arith)

zeros_in : (m : ℕ) (w : List ℕ) (from d : ℕ) → d < m → from + m ≤ length w → slice_index (sets w from (replicate m 0)) (from + d) ≡ 0
zeros_in zero w from d h k = absurd (omega arith)
zeros_in (suc m) w from zero h k =
    let e : from + 0 ≡ from = omega arith in
    rw e (zeros_below m (slice_set w from 0) (suc from) from (omega arith) ∙ get_or-set_same w from 0 0 (omega arith))
zeros_in (suc m) w from (suc d) h k =
    let e : from + suc d ≡ suc from + d = omega arith in
    rw e (zeros_in m (slice_set w from 0) (suc from) d (omega arith) (rw length-set (omega arith)))

pub cleared_in : (w : List ℕ) (from to i : ℕ) → from ≤ i → i < to → to ≤ length w → slice_index (cleared w from to) i ≡ 0
unfolding cleared
cleared_in w from to i h k l =
    let e : i ≡ from + (i - from) = omega arith in
    rw e (zeros_in (to - from) w from (i - from) (omega arith) (omega arith))

pub cleared_below : (w : List ℕ) (from to i : ℕ) → i < from → slice_index (cleared w from to) i ≡ slice_index w i
unfolding cleared
cleared_below w from to i h = zeros_below (to - from) w from i h
