-- A turn of the loop over a container's elements, as the code has it.
use mathlib.Core.List.{List, ◌∷◌}
use mathlib.Core.Path.{◌≡◌, sym, ap, ◌∙◌}
use Rattle.std.specs.Prelude.{Result, Ok, Err}
use Prim.Native.Nat.{ℕ, ◌+◌}
use lib.ListN.{length, drop}
use lib.Seq.{drop-length}
use Rattle.event.specs.Meaning.{close}
use Rattle.layout.specs.References.{references_of}
use Rattle.layout.specs.declared.layout.Layout.{Layout}
use Rattle.plainly.specs.Elements.{elements_from}
use Rattle.plainly.specs.One.{one_put}
use Rattle.plainly.specs.Plain.{put, going, over, say_onto}
use Rattle.plainly.specs.PlainLaws.{one_said, each_on, each_over, each_last}
use Rattle.plainly.specs.Said.{ending_said, went_said}
use Rattle.plainly.specs.Says.{object_says}
use Rattle.plainly.specs.declared.Far.{Far}
use Rattle.plainly.specs.declared.Reading.{Reading}

module _ (file : List ℕ) (l : Layout) (left : ℕ) (opened : List ℕ) (n offset position budget held : ℕ) (tape : List ℕ) (place : ℕ) where
  -- an element is due: it goes on behind it, or is over
  module _ (m : ℕ) (next : drop position (references_of file l n) ≡ m ∷ drop (position + 1) (references_of file l n))
      (r : Result Far Reading) (t : List ℕ) (said : went_said r t ≡ say_onto budget held tape (object_says file l left opened place m)) where
    pub from_on : (far : Far) → r ≡ Ok far → say_onto budget held tape (elements_from file l left opened n offset place position) ≡ say_onto far.left far.held t (elements_from file l left opened n offset far.place (position + 1))
    unfolding elements_from went_said
    from_on far e =
        let s : say_onto budget held tape (object_says file l left opened place m) ≡ put (going far.place far.left) far.held t = sym said ∙ ap (λ (x : Result Far Reading). went_said x t) e in
        rw next (each_on budget held tape _ place m _ _ far.place far.left far.held t s)

    pub from_over : (x : Reading) → r ≡ Err x → went_said (Err x) t ≡ say_onto budget held tape (elements_from file l left opened n offset place position)
    unfolding elements_from went_said
    from_over x e =
        let s : say_onto budget held tape (object_says file l left opened place m) ≡ put (over (ending_said x.ending)) x.held t = sym said ∙ ap (λ (y : Result Far Reading). went_said y t) e in
        rw next (sym (each_over budget held tape _ place m _ _ (ending_said x.ending) x.held t s))

  -- the end is due
  pub from_close : position ≡ length (references_of file l n) → say_onto budget held tape (elements_from file l left opened n offset place position) ≡ one_put budget held tape close place
  unfolding elements_from
  from_close e =
      rw (e, drop-length (references_of file l n)) (each_last budget held tape _ place _ ∙ one_said budget held tape close n offset place)
