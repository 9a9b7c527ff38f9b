-- A file whose trailer lays it out is no longer than files may be.
use Prim.Native.Nat.{ℕ, ◌≤◌}
use mathlib.Core.List.{List, []}
use mathlib.Core.Path.{◌≡◌}
use native.Mathlib.Omega.{arith}
use borrow.Author.Tests.{ltb-false}
use lib.Dec.{ltb}
use lib.ListN.{length}
use Rattle.event.specs.Format.{max_length}
use Rattle.layout.specs.Trailer.{keeps, lays, trailer_of, trailer_in}
use Rattle.layout.specs.declared.layout.Layout.{Layout}
use Rattle.layout.specs.TestLaws.{second}

pub laid_short : (file : List ℕ) (l : Layout) (root : ℕ) → trailer_in file ≡ lays l root → length file ≤ max_length
unfolding trailer_in
laid_short file l root e =
    ltb-false _ _ (second (ltb max_length (length file)) (keeps 1 [] 0) (trailer_of file) (lays l root) e (λ f. let z : ◌≡◌ {A = ℕ} 0 1 = cc in omega arith)).0
