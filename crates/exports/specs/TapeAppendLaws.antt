-- What the number of an append's answer stands for: how many bytes are held, or one of the three refusals; no tape is as long as 2^63.
use Rattle.std.specs.Prelude.{Bool, true, false, cond, List, ◌≡◌, refl, ℕ, ◌+◌, ◌≤◌, leb, eqb, length, None, Option, Some}
use Rattle.std.proofs.Common.{sym, ap, ◌∙◌, arith, leb-true, ne_eqb}
use Rattle.event.specs.Meaning.{Meaning}
use Rattle.tape.specs.Append.{Said, held, refused, fits, put_of, append_of}
use Rattle.tape.specs.Code.{allowed, bytes_for}
use Rattle.exports.specs.Codes.{Lent}
use Rattle.exports.specs.TapeAppend.{held_number, append_number}

-- what the tape says of a meaning, if there is one
unfoldable pub append_said : List ℕ → ℕ → Option Meaning → Option Said
append_said tape at (Some m) = Some (append_of tape at m)
append_said tape at None = None

-- the answer that a number stands for, of an event that would begin at a place
unfoldable pub append_from : ℕ → ℕ → Option Said
append_from at n =
    cond (eqb n 0xFFFFFFFFFFFFFFFF) (Some (refused 20 at))
    (cond (eqb n 0xFFFFFFFFFFFFFFFE) (Some (refused 27 at))
    (cond (eqb n 0xFFFFFFFFFFFFFFFD) None
    (Some (held n))))

-- the number tells the answer
pub append_again : (tape : List ℕ) (at : ℕ) (m : Option Meaning) → Lent tape → append_from at (append_number tape at m) ≡ append_said tape at m
unfolding append_from append_number append_said held_number append_of put_of fits
append_again tape at None h = refl
append_again tape at (Some m) h = go (allowed m) (leb (at + length (bytes_for m)) (length tape)) refl
  where
    go : (a b : Bool) → leb (at + length (bytes_for m)) (length tape) ≡ b →
        append_from at (held_number (cond a (cond b (held (at + length (bytes_for m))) (refused 27 at)) (refused 20 at))) ≡
        Some (cond a (cond b (held (at + length (bytes_for m))) (refused 27 at)) (refused 20 at))
    go false b e = refl
    go true false e = refl
    go true true e =
        let n = at + length (bytes_for m) in
        let l : n ≤ length tape = leb-true n (length tape) e in
        rw (ne_eqb n 0xFFFFFFFFFFFFFFFF (λ f. omega arith), ne_eqb n 0xFFFFFFFFFFFFFFFE (λ f. omega arith), ne_eqb n 0xFFFFFFFFFFFFFFFD (λ f. omega arith))

pub append_one : (tape : List ℕ) (at : ℕ) (m k : Option Meaning) → Lent tape → append_number tape at m ≡ append_number tape at k → append_said tape at m ≡ append_said tape at k
append_one tape at m k h e = sym (append_again tape at m h) ∙ ap (append_from at) e ∙ append_again tape at k h
