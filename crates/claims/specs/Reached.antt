-- Every state that a fresh reader comes to by calls on one file is fresh, ended, or as `Open` says.
use Rattle.std.specs.Prelude.{false, List, ◌⊎◌, refl, ℕ, zero, suc, ◌+◌, ◌-◌, ◌≤◌, ◌<◌, length, set}
use Rattle.std.proofs.Common.{inl, inr, sym, ap, ◌∙◌, eq-eqb, ne_eqb}
use Rattle.std.proofs.Math.Path.{◌≡◌}
use native.Mathlib.Omega.{arith}
use Rattle.layout.specs.Layout.{due_of, look_of}
use Rattle.layout.specs.Looked.{container, Shape}
use Rattle.layout.specs.Frame.{new_frame, no_frame, next_in}
use Rattle.layout.specs.Trailer.{lays, trailer_of}
use Rattle.layout.specs.declared.layout.Due.TheVariants.{Member}
use Rattle.layout.specs.declared.layout.Layout.{Layout}
use Rattle.layout.specs.declared.frame.Frame.{Frame}
use Rattle.reader.specs.Calls.{runs}
use Rattle.reader.specs.CallsLaws.{runs_none, runs_more}
use Rattle.reader.specs.Machine.{Step}
use Rattle.reader.specs.Next.{laid_out, next_of}
use Rattle.reader.specs.NextLaws.{next_ended}
use Rattle.reader.specs.State.{max_open, max_length, fresh_reader, ended_reader, moved, open_of, innermost, member_of, advanced, passed, entered, closed}
use Rattle.reader.specs.declared.state.Reader.{Reader}
use Rattle.claims.specs.Call as call
use Rattle.claims.specs.Call.{Call, First, first}
use Rattle.claims.specs.Members.{member_in}
use Rattle.claims.specs.Open.{frame_at, Stack, Open, Reached, fresh, over, within}
use Rattle.claims.specs.Stack.{same_or_not, before_next, next_position, on_top, on_object, stack_on, stack_off, opened_new, stack_onto, stack_root}
use Rattle.layout.specs.TrailerLaws.{Laying, tells}

module _ (file : List ℕ) (r : Reader) (o : Open file r) where
  open_moved : (place depth : ℕ) (frames : List Frame) → Stack file o.layout o.root depth frames → Open file (moved r place depth frames)
  open_moved place depth frames s =
      record {
        old = o.old;
        sized = o.sized;
        short = o.short;
        layout = o.layout;
        root = o.root;
        says = o.says;
        laid = o.laid;
        offsets = o.offsets;
        refs = o.refs;
        count = o.count;
        table = o.table;
        stack = s;
      }

  abbrev next_top : List Frame
  next_top = set r.frames (r.depth - 1) (next_in (frame_at r.frames (r.depth - 1)))

  pub advanced_is : advanced r ≡ next_top
  unfolding advanced innermost
  advanced_is = rw (ne_eqb r.depth 0 (λ e. omega arith))

  pub passed_is : (place : ℕ) → passed r place ≡ moved r place r.depth next_top
  unfolding passed
  passed_is place = rw (ne_eqb r.depth 0 (λ e. omega arith), advanced_is)

  pub entered_is : (n k place : ℕ) → entered r n k place ≡ moved r place (r.depth + 1) (set next_top r.depth (new_frame n k place))
  unfolding entered
  entered_is n k place = rw advanced_is

  pub closed_is : 1 < r.depth → closed r ≡ moved r r.place (r.depth - 1) (set r.frames (r.depth - 1) no_frame)
  unfolding closed
  closed_is h = rw (ne_eqb r.depth 1 (λ e. omega arith))

  module _ (n : ℕ) (due : due_of file o.layout (innermost r) ≡ Member n) where
    pub due_top : due_of file o.layout (frame_at r.frames (r.depth - 1)) ≡ Member n
    unfolding innermost
    due_top = due

    on_stack : Stack file o.layout o.root r.depth next_top
    on_stack = stack_on file o.layout o.root r.depth r.frames o.stack n due_top

    pub open_passed : (place : ℕ) → Open file (passed r place)
    open_passed place = rw passed_is (open_moved place r.depth next_top on_stack)

    -- an object that isn't among the open ones
    pub not_open : member_of (open_of r) n ≡ false → (i : ℕ) → i < r.depth → (frame_at r.frames i).object ≡ n → ⊥
    unfolding open_of
    not_open e i h q =
        let m = member_in r.frames r.depth n i h (omega arith) q in
        let z : ◌≡◌ {A = ℕ} 0 1 = cc in
        omega arith

    pub open_entered : member_of (open_of r) n ≡ false → r.depth < max_open → (s : Shape) (k offset : ℕ) → look_of file o.layout n ≡ container s k offset → Open file (entered r n k offset)
    open_entered e few s k offset look =
        let fs = r.frames in
        let t = on_top file o.layout o.root r.depth fs o.stack n due_top in
        rw entered_is (open_moved offset (r.depth + 1) _
        (stack_onto file o.layout o.root r.depth next_top on_stack (new_frame n k offset)
        (opened_new file o.layout n s k offset look)
        (λ i h q. not_open e i h (sym (on_object file o.layout o.root r.depth fs o.stack n due_top i) ∙ q))
        (rw (t, next_position) (omega arith))
        (rw (t, before_next) due_top)
        few))

  pub open_closed : 1 < r.depth → Open file (closed r)
  open_closed h = rw (closed_is h) (open_moved r.place (r.depth - 1) _ (stack_off file o.layout o.root r.depth r.frames o.stack h))

  pub closed_last : r.depth ≡ 1 → closed r ≡ ended_reader
  unfolding closed
  closed_last e = rw (eq-eqb _ _ e)

  reached_closed : Reached file (closed r)
  reached_closed = go (same_or_not r.depth 1)
    where
      go : (r.depth ≡ 1) ⊎ (r.depth ≡ 1 → ⊥) → Reached file (closed r)
      go (inl e) = over (closed_last e)
      go (inr d) = within (open_closed (omega (arith, o.stack.some)))

  open_step : Call file o.layout r → Reached file (next_of file r).state
  open_step (call.closing e) = rw e reached_closed
  open_step (call.refusing number values place h e) = rw e (over refl)
  open_step (call.passing n d v offset a e) = rw e (within (open_passed n d offset))
  open_step (call.again n d m offset e) = rw e (over refl)
  open_step (call.deep n d m h k offset e) = rw e (over refl)
  open_step (call.entering n d m few s k offset look e) = rw e (within (open_entered n d m few s k offset look))

-- the first call
pub open_first : (file : List ℕ) → length file ≤ max_length → (l : Layout) (root : ℕ) → trailer_of file ≡ lays l root → (s : Shape) (k offset : ℕ) → look_of file l root ≡ container s k offset → Open file (entered (laid_out file l) root k offset)
unfolding entered laid_out advanced
open_first file short l root says s k offset look =
    let t : Laying file l root = rw says at (tells file) in
    record {
      old = refl;
      sized = refl;
      short = short;
      layout = l;
      root = root;
      says = says;
      laid = t.laid;
      offsets = refl;
      refs = refl;
      count = refl;
      table = refl;
      stack = stack_root file l root k offset (opened_new file l root s k offset look);
    }

first_step : (file : List ℕ) → First file → Reached file (next_of file fresh_reader).state
first_step file (call.keeping number values place h e) = rw e (fresh refl)
first_step file (call.refusing number values place h e) = rw e (over refl)
first_step file (call.passing short l root says v offset look e) = rw e (over refl)
first_step file (call.entering short l root says s k offset look e) = rw e (within (open_first file short l root says s k offset look))

pub reached_step : (file : List ℕ) (r : Reader) → Reached file r → Reached file (next_of file r).state
reached_step file r (fresh e) = rw e (first_step file (first file))
reached_step file r (over e) = rw e (over (ap (λ (s : Step). s.state) (next_ended file ended_reader refl refl)))
reached_step file r (within o) = open_step file r o (call.call file r o)

-- the invariant
pub reached : (file : List ℕ) (n : ℕ) → Reached file (runs file n)
reached file zero = fresh (runs_none file)
reached file (suc n) = rw runs_more (reached_step file (runs file n) (reached file n))
