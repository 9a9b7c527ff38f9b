-- The changes of the reader's state, on a state with k + 1 open containers.
use Rattle.std.specs.Prelude.{false, List, [], ◌∷◌, ◌≡◌, refl, ℕ, zero, suc, ◌-◌, ◌<◌, set, take}
use Rattle.std.proofs.Math.Path.{ap}
use Rattle.std.proofs.Common.{add-one, arith}
use borrow.Author.Tests.{eq-eqb, ne_eqb, lt-leb}
use Rattle.std.proofs.Math.ListN.{length, get_or}
use Rattle.event.specs.declared.Event.{Event}
use Rattle.event.specs.declared.Event.TheVariants.{EndCollection}
use Rattle.layout.specs.Looked.{Source, Shape, scalar, container, start_of}
use Rattle.layout.specs.Frame.{new_frame, no_frame, next_in}
use Rattle.layout.specs.declared.layout.Due.TheVariants.{Close, Member}
use Rattle.layout.specs.declared.frame.Frame.{Frame}
use Rattle.reader.specs.Machine.{origin, event_at, step, enter, arrive, follow, step_of}
use Rattle.reader.specs.State.{max_open, ended_reader, moved, open_of, innermost, member_of, advanced, passed, entered, closed}
use Rattle.reader.specs.declared.state.Reader.{Reader}

pub less_one : (k : ℕ) → suc k - 1 ≡ k
less_one k = omega arith

pub no_member : (fr : List Frame) (h n : ℕ) → ((i : ℕ) → i < h → (get_or fr i no_frame).object ≡ n → ⊥) → member_of (take h fr) n ≡ false
unfolding member_of
no_member fr zero n d = refl
no_member [] (suc h) n d = refl
no_member (f ∷ fr) (suc h) n d = rw (ne_eqb f.object n (d 0 (omega arith))) (no_member fr h n (λ i l e. d (suc i) (omega arith) e))

module _ (base : Reader) (q k : ℕ) (fr : List Frame) where
  abbrev pub inside : Reader
  inside = moved base q (suc k) fr

  abbrev pub onward : List Frame
  onward = set fr k (next_in (get_or fr k no_frame))

  pub innermost_is : innermost inside ≡ get_or fr k no_frame
  unfolding innermost
  innermost_is = ap (λ (i : ℕ). get_or fr i no_frame) (less_one k)

  pub advanced_is : advanced inside ≡ onward
  unfolding advanced
  advanced_is = rw (ne_eqb (suc k) 0 (λ e. omega arith), innermost_is, less_one k)

  pub passed_is : (place : ℕ) → passed inside place ≡ moved base place (suc k) onward
  unfolding passed
  passed_is place = rw (ne_eqb (suc k) 0 (λ e. omega arith), advanced_is)

  pub entered_is : (object length place : ℕ) → entered inside object length place ≡ moved base place (suc (suc k)) (set onward (suc k) (new_frame object length place))
  unfolding entered
  entered_is object length place = rw (advanced_is, add-one)

  -- a scalar is due
  pub step_scalar : (src : Source) (n : ℕ) (e : Event) (at : ℕ) → src.due (get_or fr k no_frame) ≡ Member n → src.look n ≡ scalar e at → step_of src inside ≡ step (moved base at (suc k) onward) (event_at e (origin n at))
  unfolding step_of follow arrive
  step_scalar src n e at d l = rw (innermost_is, d, l, passed_is)

  -- a container is due, and it is none of those that are open
  pub step_start : (src : Source) (n : ℕ) (s : Shape) (len at : ℕ) → src.due (get_or fr k no_frame) ≡ Member n → src.look n ≡ container s len at
      → ((i : ℕ) → i < suc k → (get_or fr i no_frame).object ≡ n → ⊥) → suc k < max_open
      → step_of src inside ≡ step (moved base at (suc (suc k)) (set onward (suc k) (new_frame n len at))) (event_at (start_of s len) (origin n at))
  unfolding step_of follow arrive enter open_of
  step_start src n s len at d l o h = rw (innermost_is, d, l, no_member fr (suc k) n o, lt-leb max_open (suc k) h, entered_is)

-- the end of a container is due: of the outermost, and of another
pub step_last : (base : Reader) (q : ℕ) (fr : List Frame) (src : Source) (n at : ℕ) → (get_or fr 0 no_frame).object ≡ n → src.due (get_or fr 0 no_frame) ≡ Close at
    → step_of src (inside base q 0 fr) ≡ step ended_reader (event_at EndCollection (origin n at))
unfolding step_of follow closed
step_last base q fr src n at o d = rw (innermost_is base q 0 fr, d, innermost_is base q 0 fr, o)

pub step_end : (base : Reader) (q k : ℕ) (fr : List Frame) (src : Source) (n at : ℕ) → (get_or fr (suc k) no_frame).object ≡ n → src.due (get_or fr (suc k) no_frame) ≡ Close at
    → step_of src (inside base q (suc k) fr) ≡ step (inside base q k (set fr (suc k) no_frame)) (event_at EndCollection (origin n at))
unfolding step_of follow closed
step_end base q k fr src n at o d = rw (innermost_is base q (suc k) fr, d, innermost_is base q (suc k) fr, o, ne_eqb (suc (suc k)) 1 (λ e. omega arith), less_one (suc k))

-- the root, where nothing is open
pub root_scalar : (r : Reader) (n : ℕ) (e : Event) (at : ℕ) → r.depth ≡ 0 → arrive r n (scalar e at) ≡ step ended_reader (event_at e (origin n at))
unfolding arrive passed
root_scalar r n e at z = rw (eq-eqb r.depth 0 z)

pub root_start : (base : Reader) (q n : ℕ) (fr : List Frame) (s : Shape) (len at : ℕ) → arrive (moved base q 0 fr) n (container s len at) ≡ step (inside base at 0 (set fr 0 (new_frame n len at))) (event_at (start_of s len) (origin n at))
unfolding arrive enter open_of member_of entered advanced
root_start base q n fr s len at = refl
