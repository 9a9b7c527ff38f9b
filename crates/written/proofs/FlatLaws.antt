-- Objects' bytes one after the other: each stands where it is first met, and what is met again adds nothing.
use Rattle.std.specs.Prelude.{◌≡◌, Bool, ℕ, ◌+◌, ◌≤◌}
use Rattle.std.proofs.Math.Path.{refl}
use Rattle.std.proofs.Common.{sym, ap, ◌∙◌, true≢false, arith}
use Rattle.std.proofs.Math.Bool.{true, false, cond}
use Rattle.std.proofs.lemmas.Bool.{false≢true}
use mathlib.Core.List.{List, [], ◌∷◌, ◌++◌, append_assoc}
use Rattle.std.proofs.Math.ListN.{length, length-append}
use Rattle.written.specs.File.{flat, ahead, bytes_at, body}
use Rattle.written.specs.Graph.{Piece, Name, same, spoken, emission}
use Rattle.written.proofs.NameLaws.{In, same_sound, same_refl}
use Rattle.written.specs.Nub.{has, nub, nub_onto, nub_append}

module _ (f : Name → List ℕ) where
  pub flat_append : (l m : List Name) → flat f (l ++ m) ≡ flat f l ++ flat f m
  unfolding flat
  flat_append [] m = refl
  flat_append (x ∷ l) m = rw (flat_append l m) (sym (append_assoc (f x) (flat f l) (flat f m)))

  -- what is kept stays where it is
  pub ahead_kept : (x : Name) (l m : List Name) → In x l → (ahead f x (l ++ m) ≡ ahead f x l) × (ahead f x l + length (f x) ≤ length (flat f l))
  unfolding ahead flat has
  ahead_kept x [] m h = absurd (false≢true h)
  ahead_kept x (y ∷ l) m h = go (same x y) refl (ahead_kept x l m)
    where
      go : (b : Bool) → same x y ≡ b → (In x l → (ahead f x (l ++ m) ≡ ahead f x l) × (ahead f x l + length (f x) ≤ length (flat f l)))
          → (cond (same x y) 0 (length (f y) + ahead f x (l ++ m)) ≡ cond (same x y) 0 (length (f y) + ahead f x l)) × (cond (same x y) 0 (length (f y) + ahead f x l) + length (f x) ≤ length (f y ++ flat f l))
      go true e ih = rw e (refl, rw (same_sound x y e, length-append (f y) (flat f l)) (omega arith))
      go false e ih = let r = ih (simp (e, has) at h) in rw e (rw r.0, omega (arith, r.1, length-append (f y) (flat f l)))

  -- what is new stands at the end
  pub ahead_new : (x : Name) (l m : List Name) → has same x l ≡ false → ahead f x (l ++ (x ∷ m)) ≡ length (flat f l)
  unfolding ahead flat has
  ahead_new x [] m h = rw (same_refl x)
  ahead_new x (y ∷ l) m h = go (same x y) refl (ahead_new x l m)
    where
      go : (b : Bool) → same x y ≡ b → (has same x l ≡ false → ahead f x (l ++ (x ∷ m)) ≡ length (flat f l)) → cond (same x y) 0 (length (f y) + ahead f x (l ++ (x ∷ m))) ≡ length (f y ++ flat f l)
      go true e ih = absurd (true≢false (simp (e, has) at h))
      go false e ih = rw (e, ih (simp (e, has) at h)) (sym (length-append (f y) (flat f l)))

  -- what is named stands there
  pub flat_at : (x : Name) (l : List Name) → In x l → (p : List ℕ) × (q : List ℕ) × (flat f l ≡ p ++ (f x ++ q)) × (length p ≡ ahead f x l)
  unfolding flat ahead has
  flat_at x [] h = absurd (false≢true h)
  flat_at x (y ∷ l) h = go (same x y) refl (flat_at x l)
    where
      go : (b : Bool) → same x y ≡ b → (In x l → (p : List ℕ) × (q : List ℕ) × (flat f l ≡ p ++ (f x ++ q)) × (length p ≡ ahead f x l))
          → (p : List ℕ) × (q : List ℕ) × (f y ++ flat f l ≡ p ++ (f x ++ q)) × (length p ≡ cond (same x y) 0 (length (f y) + ahead f x l))
      go true e ih = ([], flat f l, rw (same_sound x y e), rw e)
      go false e ih =
          let r = ih (simp (e, has) at h) in
          (f y ++ r.0, r.1, rw r.2 (sym (append_assoc (f y) r.0 (f x ++ r.1))), rw (e, length-append (f y) r.0, r.3))

-- what is met in front is written in front
pub emission_front : (es : List Piece) (front back : List Name) → spoken 0 es ≡ front ++ back → (r : List Name) × (emission es ≡ nub_onto same [] front ++ r)
unfolding emission nub
emission_front es front back e = let r = nub_append same front back in (r.0, ap (nub same) e ∙ r.1)

pub front_le : (es : List Piece) (front back : List Name) → spoken 0 es ≡ front ++ back → length (flat (bytes_at es) (nub same front)) ≤ length (body es)
unfolding body nub
front_le es front back e =
    let r = emission_front es front back e in
    let q = ap (λ (l : List Name). length (flat (bytes_at es) l)) r.1 in
    omega (arith, q, ap length (flat_append (bytes_at es) (nub same front) r.0), length-append (flat (bytes_at es) (nub same front)) (flat (bytes_at es) r.0))
