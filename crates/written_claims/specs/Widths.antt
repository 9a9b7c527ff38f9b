-- The size of a number as a width, and numbers below a bound.
use Rattle.std.specs.Prelude.{List, [], ◌∷◌, map, ◌≡◌, refl, ℕ, ◌*◌, ◌≤◌, ◌<◌, None, Option, Some}
use Rattle.std.proofs.Common.{arith}
use Rattle.number.specs.Size.{size_of}
use Rattle.number.specs.SizeLaws.{Sized, one, two, four, eight, sized}
use Rattle.number.specs.Width.{bytes_in, width_of}
use Rattle.number.specs.declared.width.Width.TheVariants.{One, Two, Three, Four, Eight}
use Rattle.number.specs.declared.width.Width.{Width}
use Rattle.utf.specs.Bounds.{Below}
use Rattle.written.specs.Graph.{Name}
use Rattle.written.proofs.NameLaws.{In, in_here, in_there}

unfoldable pub as_width : Option Width → Width
as_width (Some w) = w
as_width None = Eight

unfoldable pub width_for : ℕ → Width
width_for n = as_width (width_of (size_of n))

pub bytes_in_width_for : (n : ℕ) → bytes_in (width_for n) ≡ size_of n
unfolding width_for as_width width_of bytes_in
bytes_in_width_for n = go (size_of n) (sized n)
  where
    go : (w : ℕ) → Sized w → bytes_in (as_width (width_of w)) ≡ w
    go _ one = refl
    go _ two = refl
    go _ four = refl
    go _ eight = refl

-- so many of any width take as many bytes at least
pub times_size : (w : Width) (n : ℕ) → n ≤ n * bytes_in w
unfolding bytes_in
times_size One n = omega arith
times_size Two n = omega arith
times_size Three n = omega arith
times_size Four n = omega arith
times_size Eight n = omega arith

-- what names are given is below a bound
pub below_map : (k : ℕ) (f : Name → ℕ) (l : List Name) → ((x : Name) → In x l → f x < k) → Below k (map f l)
below_map k f [] h = tt
below_map k f (y ∷ l) h = (h y (in_here y l), below_map k f l (λ x i. h x (in_there x y l i)))
