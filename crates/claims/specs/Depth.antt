-- The open containers are different objects, each named by the one around it; so there are never more than the file has objects.
use Rattle.std.proofs.Math.Option.{some}
use Rattle.std.specs.Prelude.{List, ◌≡◌, ℕ, suc, ◌-◌, ◌≤◌, ◌<◌}
use Rattle.std.proofs.Common.{arith}
use Rattle.std.proofs.Math.ListN.{get_elem?}
use Rattle.layout.specs.References.{references_of}
use Rattle.layout.specs.Trailer.{lays, eight_at, trailer_of}
use Rattle.layout.specs.declared.layout.Layout.{Layout}
use Rattle.reader.specs.Calls.{runs}
use Rattle.reader.specs.declared.state.Reader.{Reader}
use Rattle.claims.specs.Element.{due_names}
use Rattle.claims.specs.Open.{frame_at, before, Open, Reached, fresh, over, within}
use Rattle.claims.specs.Pigeon.{pigeonhole, pigeonhole_free}
use Rattle.claims.specs.Reached.{reached}
use Rattle.layout.specs.TrailerLaws.{Laying, tells}

-- where a container is open after calls of a fresh reader, `Open` holds
pub while_open : (file : List ℕ) (n : ℕ) → 0 < (runs file n).depth → Open file (runs file n)
while_open file n h = go (reached file n)
  where
    go : Reached file (runs file n) → Open file (runs file n)
    go (fresh e) = let z : 0 < 0 = rw e at h in absurd (omega arith)
    go (over e) = let z : 0 < 0 = rw e at h in absurd (omega arith)
    go (within o) = o

module _ (file : List ℕ) (r : Reader) (o : Open file r) where
  object_at_depth : ℕ → ℕ
  object_at_depth i = (frame_at r.frames i).object

  -- the open containers are different objects, all below the count, so they are at most as many
  pub open_few : r.depth ≤ r.count
  unfolding object_at_depth
  open_few = rw o.count (pigeonhole object_at_depth r.depth o.stack.distinct o.layout.count (λ i h. (o.stack.opened i h).standing.numbered))

  -- and fewer where an object isn't open
  pub open_fewer : (n : ℕ) → n < o.layout.count → ((i : ℕ) → i < r.depth → (frame_at r.frames i).object ≡ n → ⊥) → r.depth < o.layout.count
  unfolding object_at_depth
  open_fewer n h f = pigeonhole_free object_at_depth r.depth o.stack.distinct o.layout.count (λ i h. (o.stack.opened i h).standing.numbered) n h f

  -- the count is the trailer's
  pub count_is : o.layout.count ≡ eight_at file 8
  count_is = let t : Laying file o.layout o.root = rw o.says at (tells file) in t.counts

-- What is open in a state, in the words of the file: the trailer gives a layout and a root; the outermost container is the root; each other
-- is the reference of the one around it just before that one's position, which is above 0; all are different objects, at most as many as
-- the trailer counts
pub record Nested (file : List ℕ) (r : Reader) : Type 0 where
  pub layout : Layout
  pub root : ℕ
  pub says : trailer_of file ≡ lays layout root
  pub outermost : (frame_at r.frames 0).object ≡ root
  pub above : (i : ℕ) → suc i < r.depth → 0 < (frame_at r.frames i).position
  pub inside : (i : ℕ) → suc i < r.depth
      → get_elem? (references_of file layout (frame_at r.frames i).object) ((frame_at r.frames i).position - 1) ≡ some (frame_at r.frames (suc i)).object
  pub different : (i j : ℕ) → i < j → j < r.depth → (frame_at r.frames i).object ≡ (frame_at r.frames j).object → ⊥
  pub few : r.depth ≤ layout.count

nested_open : (file : List ℕ) (r : Reader) → Open file r → Nested file r
unfolding before
nested_open file r o =
    record {
      layout = o.layout;
      root = o.root;
      says = o.says;
      outermost = o.stack.outermost;
      above = o.stack.handed;
      inside = λ i h. due_names file o.layout (before (frame_at r.frames i)) (frame_at r.frames (suc i)).object (o.stack.named i h);
      different = o.stack.distinct;
      few = rw (← o.count) (open_few file r o);
    }

-- so it is after any number of calls of a fresh reader on one file, where something is open
pub nested : (file : List ℕ) (n : ℕ) → 0 < (runs file n).depth → Nested file (runs file n)
nested file n h = nested_open file (runs file n) (while_open file n h)
