-- Whether an object is among frames, in the library's word; and a number among numbers, by what was found before and what is left.
use Rattle.std.proofs.Common.{ℕ, suc, ◌+◌, ◌<◌, Bool, true, false, cond, ◌||◌, List, [], ◌∷◌, ◌≡◌, refl, ap, eqb, length, get_or, drop, add-one, drop-cons}
use Rattle.std.specs.List.{list_any}
use Rattle.layout.specs.declared.frame.Frame.{Frame}
use Rattle.number.specs.Among.{among}
use Rattle.reader.specs.State.{member_of}

pub any_member : (fs : List Frame) (n : ℕ) → member_of fs n ≡ list_any (λ (f : Frame). eqb f.object n) fs
unfolding member_of
any_member [] n = refl
any_member (f ∷ fs) n = ap (λ (b : Bool). eqb f.object n || b) (any_member fs n)

pub among_left : (s : List ℕ) (n i : ℕ) (found : Bool) → i < length s → ((found || eqb n (get_or s i 0)) || among (drop (i + 1) s) n) ≡ (found || among (drop i s) n)
unfolding among
among_left s n i found h = rw (add-one i, drop-cons s i 0 h) (go found (eqb n (get_or s i 0)))
  where
    go : (f e : Bool) → ((f || e) || among (drop (suc i) s) n) ≡ (f || cond e true (among (drop (suc i) s) n))
    go true e = refl
    go false true = refl
    go false false = refl
