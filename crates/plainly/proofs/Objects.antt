-- Each case of an object, by what looking it up answered.
use mathlib.Core.Bool.{true, false, cond}
use mathlib.Core.List.{List, [], ◌∷◌, ◌++◌}
use mathlib.Core.Path.{◌≡◌, refl, sym, ap, ◌∙◌}
use Rattle.std.specs.Prelude.{Result, Ok, Err}
use Prim.Native.Nat.{ℕ, zero, suc, ◌+◌, ◌≤◌, ◌<◌}
use native.Mathlib.Numerals.{add-one}
use native.Mathlib.Omega.{arith}
use lib.ListN.{length, take, set}
use lib.Seq.{take-take, take-set-le, take-suc-set}
use Rattle.number.specs.Among.{among}
use Rattle.event.specs.Meaning.{meaning_of}
use Rattle.event.specs.declared.Event.{Event}
use Rattle.layout.specs.Bytes.{looked_bytes, event_asked}
use Rattle.layout.specs.Layout.{look_of}
use Rattle.layout.specs.LookLaws.{look_right, placed_scalar, placed_container, standing}
use Rattle.layout.specs.Looked.{Shape, Looked, barred, missing, faulty, scalar, container, with_place, start_of}
use Rattle.layout.specs.References.{references_of}
use Rattle.layout.specs.Said.{look_said, look_bytes, shape_said, span_said}
use Rattle.layout.specs.declared.layout.Layout.{Layout}
use Rattle.layout.specs.declared.lookup.Look.{Look}
use Rattle.layout.specs.declared.lookup.Look.TheVariants.{Scalar as ScalarLook, Container}
use Rattle.layout.specs.declared.lookup.Shape.{Shape as ShapeRead}
use Rattle.layout.specs.declared.lookup.Span.{Span}
use Rattle.reader.proofs.Inside.{event_in_law}
use Rattle.reader.specs.Meanings.{meaning_at}
use Rattle.plainly.specs.Elements.{elements_from, elements_say}
use Rattle.plainly.specs.ElementsLaws.{Entered}
use Rattle.plainly.specs.One.{one_put, Scalar, scalar_means}
use Rattle.plainly.specs.Plain.{stopped, put, refused_with, say_onto}
use Rattle.plainly.specs.PlainLaws.{one_said, refused_said, followed_on, followed_over}
use Rattle.plainly.specs.Said.{ending_said, went_said}
use Rattle.plainly.specs.Says.{Says, refusal, whole_of, by_look, object_says}
use Rattle.plainly.specs.declared.Far.{Far}
use Rattle.plainly.specs.declared.Reading.{Reading}

-- what is over with a refusal
pub over_refused : (x : Reading) (number : ℕ) (values : List ℕ) (place held : ℕ) (tape : List ℕ) → ending_said x.ending ≡ stopped number values place → x.held ≡ held
    → went_said (Err x) tape ≡ put (refused_with number values place) held tape
unfolding went_said
over_refused x number values place held tape e h = rw (e, h)

-- a level deeper: the numbers of the open containers, and what is left of them behind it
pub deeper_opened : (opened : List ℕ) (d n : ℕ) → d < length opened → take (d + 1) (set opened d n) ≡ take d opened ++ (n ∷ [])
deeper_opened opened d n h = rw add-one (take-suc-set opened d n h)

pub outer_opened : (opened after : List ℕ) (d n : ℕ) → take (d + 1) after ≡ take (d + 1) (set opened d n) → take d after ≡ take d opened
outer_opened opened after d n h =
    sym (take-take d (d + 1) after (omega arith)) ∙ ap (take d) h ∙ take-take d (d + 1) (set opened d n) (omega arith) ∙ take-set-le d opened d n (omega arith)

module _ (file : List ℕ) (l : Layout) (opened : List ℕ) (place n : ℕ) where
  -- a container that is not open yet, by how many more may be opened
  unfoldable inside_says : ℕ → Shape → ℕ → ℕ → Says
  inside_says zero shape k offset = refusal 15 [] offset
  inside_says (suc left) shape k offset = whole_of (λ p m. object_says file l left (opened ++ (n ∷ [])) p m) (meaning_of (start_of shape k) []) n offset (references_of file l n)

  abbrev looks : ℕ → Looked → Says
  looks left x = by_look file place n (λ shape k offset. cond (among opened n) (refusal 14 [] offset) (inside_says left shape k offset)) x

  object_is : (left : ℕ) → object_says file l left opened place n ≡ looks left (look_of file l n)
  unfolding object_says inside_says
  object_is zero = refl
  object_is (suc left) = refl

  refused_look : (left : ℕ) (x : Looked) (number : ℕ) (values : List ℕ) (at : ℕ) → with_place place x ≡ faulty number values at → looks left x ≡ refusal number values at
  unfolding with_place by_look
  refused_look left (barred a b) number values at h = let p : a ≡ number = cc in let q : b ≡ values = cc in let r : place ≡ at = cc in rw (p, q, r)
  refused_look left missing number values at h = let p : 17 ≡ number = cc in let q : [] ≡ values = cc in let r : 0 ≡ at = cc in rw (← p, ← q, ← r)
  refused_look left (faulty a b c) number values at h = let p : a ≡ number = cc in let q : b ≡ values = cc in let r : c ≡ at = cc in rw (p, q, r)
  refused_look left (scalar e o) number values at h = let z : ◌≡◌ {A = ℕ} 0 1 = cc in absurd (omega arith)
  refused_look left (container s k o) number values at h = let z : ◌≡◌ {A = ℕ} 0 1 = cc in absurd (omega arith)

  module _ (r : Look) (looked : look_said r ≡ with_place place (look_of file l n)) where
    -- it is refused
    pub object_refused : (left budget held : ℕ) (tape : List ℕ) (number : ℕ) (values : List ℕ) (at : ℕ) → look_said r ≡ faulty number values at → put (refused_with number values at) held tape ≡ say_onto budget held tape (object_says file l left opened place n)
    object_refused left budget held tape number values at e =
        sym (ap (say_onto budget held tape) (object_is left ∙ refused_look left (look_of file l n) number values at (sym looked ∙ e)) ∙ refused_said budget held tape number values at)

    -- a scalar
    module _ (v : Event) (span : Span) (offset : ℕ) (e : r ≡ ScalarLook v span offset) (bytes : look_bytes r ≡ looked_bytes file (look_of file l n)) where
      is_scalar_law : look_of file l n ≡ scalar v offset
      unfolding look_said
      is_scalar_law = placed_scalar place (look_of file l n) v offset (sym looked ∙ ap look_said e)

      span_is : event_asked file v offset ≡ span_said span
      unfolding look_bytes looked_bytes
      span_is = sym (sym (ap look_bytes e) ∙ bytes ∙ ap (looked_bytes file) is_scalar_law)

      pub scalar_stands : Scalar file v span
      scalar_stands = record { inside = rw span_is at (event_in_law file v offset); right = rw (is_scalar_law, span_is) at (look_right file l n) }

      pub object_scalar : (left budget held : ℕ) (tape : List ℕ) → one_put budget held tape (scalar_means file v span) offset ≡ say_onto budget held tape (object_says file l left opened place n)
      unfolding by_look meaning_at
      object_scalar left budget held tape =
          sym (ap (say_onto budget held tape) (object_is left ∙ rw (is_scalar_law, span_is)) ∙ one_said budget held tape (scalar_means file v span) n offset offset)

    -- a container
    module _ (shape : ShapeRead) (k offset : ℕ) (e : r ≡ Container shape k offset) where
      is_container : look_of file l n ≡ container (shape_said shape) k offset
      unfolding look_said
      is_container = placed_container place (look_of file l n) (shape_said shape) k offset (sym looked ∙ ap look_said e)

      pub is_entered : Entered file l n k offset
      is_entered = record { shape = shape_said shape; look = is_container }

      pub is_numbered : n < l.count
      is_numbered = (standing file l n (shape_said shape) k offset is_container).numbered

      pub is_short : k ≤ length file
      is_short = omega (arith, (standing file l n (shape_said shape) k offset is_container).lies.few)

      module _ (budget held : ℕ) (tape : List ℕ) where
        pub object_again : (left : ℕ) → among opened n ≡ true → put (refused_with 14 [] offset) held tape ≡ say_onto budget held tape (object_says file l left opened place n)
        unfolding by_look
        object_again left m = sym (ap (say_onto budget held tape) (object_is left ∙ rw (is_container, m)) ∙ refused_said budget held tape 14 [] offset)

        pub object_deep : (left : ℕ) → left ≡ 0 → among opened n ≡ false → put (refused_with 15 [] offset) held tape ≡ say_onto budget held tape (object_says file l left opened place n)
        unfolding by_look inside_says
        object_deep left z m = sym (ap (say_onto budget held tape) (object_is left ∙ rw (is_container, m, z)) ∙ refused_said budget held tape 15 [] offset)

        -- its start was put
        module _ (left less : ℕ) (z : left ≡ suc less) (m : among opened n ≡ false) (w : Result Far Reading) (t : List ℕ) (said : went_said w t ≡ one_put budget held tape (meaning_of (start_of (shape_said shape) k) []) offset) where
          inside_is : object_says file l left opened place n ≡ whole_of (λ p m. object_says file l less (opened ++ (n ∷ [])) p m) (meaning_of (start_of (shape_said shape) k) []) n offset (references_of file l n)
          unfolding by_look inside_says
          inside_is = object_is left ∙ rw (is_container, m, z)

          pub object_over : (x : Reading) → w ≡ Err x → went_said (Err x) t ≡ say_onto budget held tape (object_says file l left opened place n)
          unfolding whole_of went_said
          object_over x f =
              sym (ap (say_onto budget held tape) inside_is
              ∙ followed_over budget held tape _ _ (ending_said x.ending) x.held t (one_said budget held tape _ n offset offset ∙ sym said ∙ ap (λ (y : Result Far Reading). went_said y t) f))

          pub object_on : (far : Far) → w ≡ Ok far → say_onto far.left far.held t (elements_say file l less (opened ++ (n ∷ [])) n offset far.place) ≡ say_onto budget held tape (object_says file l left opened place n)
          unfolding whole_of went_said elements_from
          object_on far f =
              sym (ap (say_onto budget held tape) inside_is
              ∙ followed_on budget held tape _ _ far.place far.left far.held t (one_said budget held tape _ n offset offset ∙ sym said ∙ ap (λ (y : Result Far Reading). went_said y t) f))
