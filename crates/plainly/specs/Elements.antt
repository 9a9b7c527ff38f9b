-- The elements of a container that was entered, as the code goes through them: each of its references in turn, and then its end.
use Rattle.std.specs.Prelude.{List, ℕ, drop}
use Rattle.event.specs.Meaning.{close}
use Rattle.layout.specs.References.{references_of}
use Rattle.layout.specs.declared.layout.Layout.{Layout}
use Rattle.plainly.specs.Says.{Says, one, followed, each_of, object_says}

-- from a position on
unfoldable pub elements_from : List ℕ → Layout → ℕ → List ℕ → ℕ → ℕ → ℕ → ℕ → Says
elements_from file l left opened n offset place position =
    followed (each_of (λ p m. object_says file l left opened p m) place (drop position (references_of file l n))) (λ q. one close n offset q)

abbrev pub elements_say : List ℕ → Layout → ℕ → List ℕ → ℕ → ℕ → ℕ → Says
elements_say file l left opened n offset place = elements_from file l left opened n offset place 0
