-- What is looked up, from what was found at the object's entry.
use Rattle.std.specs.Prelude.{Some}
use Prim.Native.Nat.{ℕ, ◌<◌}
use mathlib.Core.List.{List}
use mathlib.Core.Path.{◌≡◌, sym, ap, ◌∙◌}
use borrow.Author.Tests.{lt-ltb}
use Rattle.object.specs.Object.{Found, object_at}
use Rattle.layout.specs.FoundLaws.{found_bytes, look_bytes}
use Rattle.layout.specs.Layout.{entry_at, look_in, look_from, look_of}
use Rattle.object.specs.Found
use Rattle.object.specs.Object
use Rattle.object.specs.Refusal
use Rattle.layout.specs.Bytes
use Rattle.layout.specs.FoundLaws
use Rattle.layout.specs.Layout
use Rattle.layout.specs.Looked
use Rattle.layout.specs.Said
use Rattle.layout.specs.Bytes.{looked_bytes}
use Rattle.layout.specs.Looked.{with_place}
use Rattle.layout.specs.declared.layout.Layout.{Layout}

module _ (file : List ℕ) (l : Layout) (n offset : ℕ) (known : n < l.count) (entry : entry_at file l n ≡ Some offset) where
  found_there : look_of file l n ≡ look_in offset (object_at file l.refs offset)
  unfolding look_of look_from
  found_there = rw (lt-ltb _ _ known, entry)

  -- what was found decides what is looked up, and where its bytes stand
  pub looks : (x : Found) → object_at file l.refs offset ≡ x → (place : ℕ) → (with_place place (look_in offset x) ≡ with_place place (look_of file l n)) × (found_bytes x ≡ looked_bytes file (look_of file l n))
  looks x e place = (
    ap (with_place place) (ap (look_in offset) (sym e) ∙ sym found_there),
    ap found_bytes (sym e) ∙ sym (look_bytes file l.refs offset) ∙ ap (looked_bytes file) (sym found_there),
  )

-- what a proof about the code of `look_up` opens, by one name
unfoldable pub looked : Unit {0}
unfolding Looked.with_place Layout.look_of Layout.look_from Layout.look_in Bytes.looked_bytes FoundLaws.found_bytes
    Said.look_said Said.look_bytes Said.span_said Said.shape_said Said.number_of Said.values_of
    Found.found_of Object.refused_by Refusal.number_of Refusal.values_of
looked = tt
