-- Bytes of the tape that pass its end, or lie within it.
use Rattle.std.specs.Prelude.{Some}
use mathlib.Core.List.{List, [], ◌∷◌}
use mathlib.Core.Path.{◌≡◌}
use Prim.Native.Nat.{ℕ, ◌+◌, ◌-◌, ◌≤◌, ◌<◌}
use native.Mathlib.Nat.{add-sub_cancel_left}
use borrow.Author.Tests.{le-leb, lt-leb}
use lib.ListN.{length, take, drop}
use Rattle.number.specs.PartLaws.{length_part}
use Rattle.encode.specs.Put.{eight_in, run_in}

-- the code's part ends at a sum
module _ (tape : List ℕ) (at : ℕ) where
  pub length_between : (n : ℕ) → at + n ≤ length tape → length (take (at + n - at) (drop at tape)) ≡ n
  length_between n h = rw add-sub_cancel_left (length_part tape at n h)

  module _ (marker : ℕ) where
    pub eight_past : length tape < at + 8 → [] ≡ eight_in tape at marker
    unfolding eight_in
    eight_past h = rw (lt-leb (at + 8) (length tape) h)

    pub eight_part : at + 8 ≤ length tape → marker ∷ take (at + 8 - at) (drop at tape) ≡ eight_in tape at marker
    unfolding eight_in
    eight_part h = rw (add-sub_cancel_left, le-leb (at + 8) (length tape) h)

  module _ (f : List ℕ → List ℕ) (n : ℕ) where
    pub run_past : length tape < at + n → [] ≡ run_in tape f (Some (n, at))
    unfolding run_in
    run_past h = rw (lt-leb (at + n) (length tape) h)

    pub run_part : at + n ≤ length tape → f (take (at + n - at) (drop at tape)) ≡ run_in tape f (Some (n, at))
    unfolding run_in
    run_part h = rw (add-sub_cancel_left, le-leb (at + n) (length tape) h)
