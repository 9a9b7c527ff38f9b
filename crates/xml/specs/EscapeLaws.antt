-- Escaping is one to one, and leaves no `<`.
use Rattle.std.specs.Prelude.{Bool, List, [], ◌∷◌, ◌++◌, ◌≡◌, ℕ}
use Rattle.std.proofs.Math.Bool.{true, false}
use Rattle.std.proofs.Common.{append_assoc, sym, ap, ◌∙◌}
use Rattle.std.proofs.Math.Path.{refl}
use borrow.Author.Tests.{eqb-true}
use Rattle.std.proofs.Math.Dec.{eqb}
use Rattle.digits.specs.Each.{Each, each_append}
use Rattle.xml.specs.Shown.{body, unescape_from, unescape}
use Rattle.xml.specs.Xml.{entity, escape_of, escape}

-- no byte is `<`
abbrev pub NoLess : List ℕ → Type 0
NoLess s = Each (λ b. eqb b 60 ≡ false) s

-- what stands before the first `<` is known
pub body_is : (s r : List ℕ) → NoLess s → body (s ++ (60 ∷ r)) ≡ s
unfolding body
body_is [] r h = refl
body_is (b ∷ s) r h = rw (h.0, body, body_is s r h.1)

-- one character
module _ (b : ℕ) where
  record Escaped : Type 0 where
    free : NoLess (escape_of b)
    back : (r : List ℕ) → unescape_from 0 (escape_of b ++ r) ≡ b ∷ unescape_from 0 r

  escaped : Escaped
  unfolding escape_of entity unescape_from
  escaped = go (eqb b 38) (eqb b 60) (eqb b 62) refl refl refl
    where
      go : (p q r : Bool) → eqb b 38 ≡ p → eqb b 60 ≡ q → eqb b 62 ≡ r → Escaped
      go true q r e f g =
          let z : b ≡ 38 = eqb-true b 38 e in
          rw z (record { free = (refl, (refl, (refl, (refl, (refl, tt))))); back = λ r. refl })
      go false true r e f g =
          let z : b ≡ 60 = eqb-true b 60 f in
          rw z (record { free = (refl, (refl, (refl, (refl, tt)))); back = λ r. refl })
      go false false true e f g =
          let z : b ≡ 62 = eqb-true b 62 g in
          rw z (record { free = (refl, (refl, (refl, (refl, tt)))); back = λ r. refl })
      go false false false e f g = record { free = rw (e, f, g) (f, tt); back = λ r. rw (e, f, g, e, unescape_from) }

pub escape_free : (s : List ℕ) → NoLess (escape s)
unfolding escape
escape_free [] = tt
escape_free (b ∷ s) = each_append (λ b. eqb b 60 ≡ false) (escape_of b) (escape s) (escaped b).free (escape_free s)

-- the text comes back
again_from : (s : List ℕ) → unescape_from 0 (escape s) ≡ s
unfolding escape unescape_from
again_from [] = refl
again_from (b ∷ s) = (escaped b).back (escape s) ∙ ap (λ (t : List ℕ). b ∷ t) (again_from s)

pub escape_again : (s : List ℕ) → unescape (escape s) ≡ s
unfolding unescape
escape_again s = again_from s

-- so it is one to one
pub escape_one : (s t : List ℕ) → escape s ≡ escape t → s ≡ t
escape_one s t e = sym (escape_again s) ∙ ap unescape e ∙ escape_again t

-- one piece behind another
pub escape_append : (s t : List ℕ) → escape (s ++ t) ≡ escape s ++ escape t
unfolding escape
escape_append [] t = refl
escape_append (b ∷ s) t = ap (λ (r : List ℕ). escape_of b ++ r) (escape_append s t) ∙ sym (append_assoc (escape_of b) (escape s) (escape t))
