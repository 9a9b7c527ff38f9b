-- Beginning with the magic, in the library's word.
use Rattle.std.proofs.Common.{ℕ, Bool, ◌&&◌, List, [], ◌∷◌, ◌≡◌, refl, ap, eqb}
use Rattle.std.specs.List.{starts_with}
use Rattle.event.specs.Format.{magic}
use Rattle.layout.specs.Trailer.{begins}

begins_starts : (m s : List ℕ) → starts_with eqb s m ≡ begins m s
unfolding begins
begins_starts [] s = refl
begins_starts (a ∷ m) [] = refl
begins_starts (a ∷ m) (b ∷ s) = ap (λ (t : Bool). eqb a b && t) (begins_starts m s)

pub has_magic : (s : List ℕ) → starts_with eqb s (0x62 ∷ 0x70 ∷ 0x6C ∷ 0x69 ∷ 0x73 ∷ 0x74 ∷ 0x30 ∷ 0x30 ∷ []) ≡ begins magic s
unfolding magic
has_magic s = begins_starts magic s
