-- A number that was put behind a space, and one behind a space and a label.
use mathlib.Core.List.{List}
use mathlib.Core.Path.{◌≡◌}
use Prim.Native.Nat.{ℕ, ◌+◌, ◌≤◌}
use native.Mathlib.Omega.{arith}
use lib.ListN.{length, set, length-set}
use Rattle.digits.specs.Digits.{decimal}
use Rattle.digits.specs.Put.{Written, put_into}
use Rattle.digits.specs.PutLaws.{put_written, written_cons}
use Rattle.line.specs.Line.{spaced, labelled}

pub spaced_written : (l : List ℕ) (at : ℕ) (number m : List ℕ) (size : ℕ) → at + length (spaced number) ≤ length l → m ≡ put_into (set l at 32) (at + 1) number → size ≡ length number → Written l at (spaced number) m (at + 1 + size)
unfolding spaced
spaced_written l at number m size h e s = rw (e, s) (written_cons l at 32 (put_written (set l at 32) (at + 1) number (rw length-set (omega arith))))

pub labelled_written : (l : List ℕ) (at label n : ℕ) (m : List ℕ) (size : ℕ) → at + length (labelled label n) ≤ length l → m ≡ put_into (set (set l at 32) (at + 1) label) (at + 2) (decimal n) → size ≡ length (decimal n) → Written l at (labelled label n) m (at + 2 + size)
unfolding labelled
labelled_written l at label n m size h e s =
    let f : at + 2 ≡ at + 1 + 1 = omega arith in
    rw (e, s, f) (written_cons l at 32 (written_cons (set l at 32) (at + 1) label (put_written (set (set l at 32) (at + 1) label) (at + 1 + 1) (decimal n) (rw (length-set, length-set) (omega arith)))))
