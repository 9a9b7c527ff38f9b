-- Refusal 14 comes exactly when the next reference of the innermost container names an open one, and its place is that one's offset.
use Rattle.std.proofs.Math.Option.{some}
use mathlib.Core.List.{List, []}
use Rattle.std.specs.Prelude.{◌↔◌, ◌≡◌, ℕ, suc, ◌<◌, Some}
use Rattle.std.proofs.Math.Path.{refl, sym, ap}
use Rattle.std.proofs.Common.{◌∙◌, arith}
use Rattle.std.proofs.Math.ListN.{get_elem?}
use Rattle.layout.specs.Layout.{entry_at, due_of, source_of}
use Rattle.layout.specs.References.{references_of}
use Rattle.layout.specs.Trailer.{lays, trailer_of}
use Rattle.layout.specs.declared.layout.Due.TheVariants.{Member}
use Rattle.layout.specs.declared.layout.Layout.{Layout}
use Rattle.reader.specs.Calls.{runs, answer_of}
use Rattle.reader.specs.Machine.{Step, refused, refuse, enter, arrive, follow}
use Rattle.reader.specs.Next.{next_of}
use Rattle.reader.specs.State.{open_of, innermost}
use Rattle.reader.specs.declared.state.Reader.{Reader}
use Rattle.claims.specs.Call.{inner, next_follow}
use Rattle.claims.specs.Depth.{while_open}
use Rattle.claims.specs.Element.{element_due, due_names, due_element}
use Rattle.claims.specs.Fair.{Recurs, Refusing, fair}
use Rattle.claims.specs.Members.{member_in}
use Rattle.claims.specs.Open.{frame_at, Open}

-- The trailer gives a layout and a root; the reference of the innermost container at its position, the next one, is an open container; and
-- a place is that container's offset
pub record Recursive (file : List ℕ) (r : Reader) (place : ℕ) : Type 0 where
  pub layout : Layout
  pub root : ℕ
  pub says : trailer_of file ≡ lays layout root
  pub depth : ℕ
  pub below : depth < r.depth
  pub named : get_elem? (references_of file layout (innermost r).object) (innermost r).position ≡ some (frame_at r.frames depth).object
  pub stands : entry_at file layout (frame_at r.frames depth).object ≡ Some place

module _ (file : List ℕ) (r : Reader) (o : Open file r) where
  -- then looking that object up gives a container, since it is open, and the call is refused at its offset
  pub recursion_refused : (place : ℕ) → Recursive file r place → next_of file r ≡ refuse 14 [] place
  unfolding follow source_of arrive enter open_of element_due
  recursion_refused place c =
      let s : lays c.layout c.root ≡ lays o.layout o.root = sym c.says ∙ o.says in
      let q : c.layout ≡ o.layout = cc in
      let n = (frame_at r.frames c.depth).object in
      let t = o.stack.opened c.depth c.below in
      let d : due_of file o.layout (innermost r) ≡ Member n = due_element file o.layout (innermost r) (inner file r o) ∙ ap (element_due (innermost r).offset) (rw q at c.named) in
      let e : Some (frame_at r.frames c.depth).offset ≡ Some place = sym t.standing.entry ∙ rw q at c.stands in
      let p : (frame_at r.frames c.depth).offset ≡ place = cc in
      let m = member_in r.frames r.depth n c.depth c.below (omega arith) refl in
      next_follow file r o ∙ rw (d, t.look, m, p)

  -- and a state whose due reference names an open object is such a one
  recursive : Recurs file r → (place : ℕ) × Recursive file r place
  recursive c =
      let s : lays c.layout c.root ≡ lays o.layout o.root = sym c.says ∙ o.says in
      let q : c.layout ≡ o.layout = cc in
      let t = o.stack.opened c.at.depth c.at.below in (
        (frame_at r.frames c.at.depth).offset,
        record {
          layout = o.layout;
          root = o.root;
          says = o.says;
          depth = c.at.depth;
          below = c.at.below;
          named = rw c.at.is (due_names file o.layout (innermost r) c.object (rw q at c.due));
          stands = t.standing.entry;
        },
      )

module _ (file : List ℕ) (n : ℕ) where
  -- it is refused with 14 only there, whatever the values
  pub recursion_only : (values : List ℕ) (place : ℕ) → answer_of file n ≡ refused 14 values place → Recursive file (runs file n) place
  unfolding answer_of
  recursion_only values place e =
      let h : Refusing file (runs file n) (runs file (suc n)) 14 = rw e at (fair file n) in
      let c = h.recursive refl in
      let o = while_open file n (omega (arith, c.at.below)) in
      let t = recursive file (runs file n) o c in
      let a : refused 14 [] t.0 ≡ refused 14 values place = sym (ap (λ (s : Step). s.answer) (recursion_refused file (runs file n) o t.0 t.1)) ∙ e in
      let p : t.0 ≡ place = cc in
      rw p at t.1

  -- and there it is
  pub recursion_then : (place : ℕ) → Recursive file (runs file n) place → answer_of file n ≡ refused 14 [] place
  unfolding answer_of
  recursion_then place c =
      ap (λ (s : Step). s.answer) (recursion_refused file (runs file n) (while_open file n (omega (arith, c.below))) place c)

  pub recursion_exactly : (place : ℕ) → (answer_of file n ≡ refused 14 [] place) ↔ Recursive file (runs file n) place
  recursion_exactly place = (recursion_only [] place, recursion_then place)
