-- An event that was appended by its bytes, and counted.
use mathlib.Core.Bool.{Bool, true, false, cond}
use mathlib.Core.List.{List, []}
use mathlib.Core.Path.{◌≡◌, refl}
use Prim.Native.Nat.{ℕ, zero, suc, ◌+◌, ◌-◌}
use native.Mathlib.Omega.{arith}
use lib.ListN.{length}
use lib.Seq.{sets}
use Rattle.event.specs.Meaning.{Meaning}
use Rattle.tape.specs.Append.{fits, put_of, put_to}
use Rattle.tape.specs.Append as tape
use Rattle.tape.specs.Code.{bytes_for}
use Rattle.plainly.specs.One.{one_put, count_of}
use Rattle.plainly.specs.Plain.{put, going, refused_with}

-- with nothing left of the budget
pub over_one : (left held : ℕ) (tp : List ℕ) (m : Meaning) (place : ℕ) → left ≡ 0 → put (refused_with 37 [] 0) held tp ≡ one_put left held tp m place
unfolding one_put
over_one left held tp m place z = rw z

pub counted_one : (left held : ℕ) (tp : List ℕ) (m : Meaning) (place : ℕ) (x : tape.Said) (t : List ℕ) → (left ≡ 0 → ⊥) → x ≡ put_of tp held (bytes_for m) → t ≡ put_to tp held (bytes_for m) → count_of left held t place x ≡ one_put left held tp m place
unfolding count_of one_put put_of put_to
counted_one zero held tp m place x t h e f = absurd (h refl)
counted_one (suc left) held tp m place x t h e f = rw (e, f) (go (fits tp held (bytes_for m)))
  where
    one_less : suc left - 1 ≡ left
    one_less = omega arith

    go : (b : Bool) → count_of (suc left) held (cond b (sets tp held (bytes_for m)) tp) place (cond b (tape.held (held + length (bytes_for m))) (tape.refused 27 held))
        ≡ cond b (put (going place left) (held + length (bytes_for m)) (sets tp held (bytes_for m))) (put (refused_with 27 [] held) held tp)
    go true = rw one_less
    go false = refl
