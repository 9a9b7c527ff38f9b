-- A line that was put into a memory from its start on is what a writer gets of it.
use Rattle.std.specs.Prelude.{Bool, true, false, List, ◌≡◌, refl, ℕ, ◌+◌, ◌≤◌, leb, length, take}
use Rattle.std.proofs.Common.{ap, ◌∙◌, arith, leb-true}
use Rattle.std.proofs.Math.Seq.{length-sets, take-append_seam}
use Rattle.std.proofs.lemmas.List.Edits.{sets, sets-eq}
use Rattle.digits.specs.Put.{put_end, put_into}
use Rattle.say.specs.Say.{printed, printed_line}

front : (vs out : List ℕ) → length vs ≤ length out → take (0 + length vs) (sets out 0 vs) ≡ vs
front vs out h =
    ap (λ n. take n (sets out 0 vs)) (omega arith) ∙ ap (take (length vs)) (sets-eq vs out 0 (omega arith)) ∙ take-append_seam vs _

pub printed_put : (out line : List ℕ) → printed (put_into out 0 line) (put_end out 0 line) ≡ printed_line out line
unfolding printed printed_line put_end put_into
printed_put out line = go (leb (length line) (length out)) (ap (λ n. leb n (length out)) (omega arith)) refl
  where
    go : (b : Bool) → leb (0 + length line) (length out) ≡ b → leb (length line) (length out) ≡ b → printed (put_into out 0 line) (put_end out 0 line) ≡ printed_line out line
    go true d e = rw (d, e, length-sets, d) (front line out (leb-true _ _ e))
    go false d e = rw (d, e) refl
