-- A call of a reader with an open container: what is due in the innermost one, and what that names, decide. A record holds what is known at
-- a place of the code, and the laws say what the call answers from there.
use Prim.Native.Nat.{ℕ, ◌+◌, ◌-◌, ◌^◌, ◌≤◌, ◌<◌}
use mathlib.Core.Bool.{true, false}
use mathlib.Core.List.{List, []}
use mathlib.Core.Path.{◌≡◌, sym, ap, ◌∙◌}
use native.Mathlib.Omega.{arith}
use borrow.Author.Tests.{eq-eqb, ne_eqb, le-leb, lt-leb}
use lib.ListN.{length, set}
use Rattle.number.specs.Among.{among}
use Rattle.event.specs.declared.Event.{Event}
use Rattle.event.specs.declared.Event.TheVariants.{EndCollection}
use Rattle.layout.proofs.Counts.{counted, numbered, measured, stands_before}
use Rattle.layout.specs.Frame.{new_frame, no_frame, next_in}
use Rattle.layout.specs.Layout.{due_of, look_of, source_of}
use Rattle.layout.specs.ListedLaws.{scalar_seen}
use Rattle.layout.specs.LookLaws.{look_right, placed_scalar, placed_container}
use Rattle.layout.specs.Refusals.{file_refusals}
use Rattle.layout.specs.Looked.{Looked, with_place, faulty, scalar, container, Shape, start_of}
use Rattle.layout.specs.declared.frame.Frame.{Frame}
use Rattle.layout.specs.declared.layout.Due.{Due}
use Rattle.layout.specs.declared.layout.Due.TheVariants.{Wrong, Close, Member}
use Rattle.layout.specs.declared.layout.Layout.{Layout}
use Rattle.reader.specs.Machine.{Step, origin, event_at, step, refuse, wrong_file, enter, arrive, follow}
use Rattle.reader.specs.Next.{next_of}
use Rattle.reader.specs.NextLaws.{arrive_refused, arrive_missing}
use Rattle.reader.specs.State.{max_open, max_length, ended_reader, moved, open_of, innermost, member_of, advanced, passed, entered, closed}
use Rattle.reader.specs.declared.state.Reader.{Reader}

-- a call that goes by what is due
pub record Going : Type 0 where
  pub file : List ℕ
  pub reader : Reader
  pub layout : Layout
  pub short : length file ≤ max_length
  pub few : layout.count < 2 ^ 32
  pub some : reader.depth ≡ 0 → ⊥
  pub on : next_of file reader ≡ follow (source_of file layout) reader (due_of file layout (innermost reader))

module _ (x : Going) where
  abbrev pub due : Due
  due = due_of x.file x.layout (innermost x.reader)

  abbrev pub call : Step
  call = next_of x.file x.reader

  pub is_wrong : due ≡ Wrong → wrong_file x.reader ≡ call
  unfolding follow
  is_wrong d = sym (x.on ∙ ap (follow (source_of x.file x.layout) x.reader) d)

  module _ (offset : ℕ) (d : due ≡ Close offset) where
    call_close : call ≡ step (closed x.reader) (event_at EndCollection (origin (innermost x.reader).object offset))
    unfolding follow
    call_close = x.on ∙ ap (follow (source_of x.file x.layout) x.reader) d

    pub is_last : x.reader.depth - 1 ≡ 0 → step ended_reader (event_at EndCollection (origin (innermost x.reader).object offset)) ≡ call
    unfolding closed
    is_last e =
        let z : x.reader.depth ≡ 1 = omega (arith, x.some) in
        sym (call_close ∙ rw (eq-eqb _ _ z))

    pub closes : (x.reader.depth - 1 ≡ 0 → ⊥) → step (moved x.reader x.reader.place (x.reader.depth - 1) (set x.reader.frames (x.reader.depth - 1) no_frame)) (event_at EndCollection (origin (innermost x.reader).object offset)) ≡ call
    unfolding closed
    closes e =
        let z : x.reader.depth ≡ 1 → ⊥ = λ h. e (omega arith) in
        sym (call_close ∙ rw (ne_eqb _ _ z))

-- an object is due
pub record Named : Type 0 where
  pub going : Going
  pub object : ℕ
  pub is : due going ≡ Member object

module _ (y : Named) where
  abbrev r : Reader
  r = y.going.reader

  abbrev found : Looked
  found = look_of y.going.file y.going.layout y.object

  -- what it is looked up to be, with the place that was sought last
  abbrev pub looked : Looked
  looked = with_place r.place found

  -- the innermost container with one reference more handed out
  abbrev frames : List Frame
  frames = set r.frames (r.depth - 1) (next_in (innermost r))

  call_arrive : call y.going ≡ arrive r y.object found
  unfolding follow source_of
  call_arrive = y.going.on ∙ ap (follow (source_of y.going.file y.going.layout) r) y.is

  pub is_missing : looked ≡ faulty 17 [] 0 → wrong_file r ≡ call y.going
  is_missing e = sym (call_arrive ∙ arrive_missing y.going.file y.going.layout r y.object found (look_right y.going.file y.going.layout y.object) e)

  pub is_refused : (number : ℕ) (values : List ℕ) (place : ℕ) → among file_refusals number ≡ true → looked ≡ faulty number values place → refuse number values place ≡ call y.going
  is_refused number values place n e = sym (call_arrive ∙ arrive_refused y.going.file y.going.layout r y.object number values place n found e)

  pub passes : (e : Event) (offset : ℕ) → looked ≡ scalar e offset → step (moved r offset r.depth frames) (event_at e (origin y.object offset)) ≡ call y.going
  unfolding arrive passed advanced
  passes e offset h = sym (call_arrive ∙ rw (placed_scalar r.place found e offset h, ne_eqb _ _ y.going.some))

  -- the number of a scalar stays within 32 bits
  pub scalar_number : (e : Event) (offset : ℕ) → looked ≡ scalar e offset → y.object < 2 ^ 32
  scalar_number e offset h = omega (arith, y.going.few, (scalar_seen y.going.file y.going.layout y.object e offset (placed_scalar r.place found e offset h)).numbered)

  -- the innermost container's position can be counted on
  pub counts : (innermost r).position + 1 < 2 ^ 32
  counts = counted y.going.file y.going.short y.object y.going.layout (innermost r) y.is

-- it is a container
pub record Holding : Type 0 where
  pub named : Named
  pub shape : Shape
  pub count : ℕ
  pub offset : ℕ
  pub is : looked named ≡ container shape count offset

module _ (z : Holding) where
  abbrev y : Named
  y = z.named

  holds : found y ≡ container z.shape z.count z.offset
  holds = placed_container (r y).place (found y) z.shape z.count z.offset z.is

  call_enter : call y.going ≡ enter (r y) y.object z.shape z.count z.offset
  unfolding arrive
  call_enter = call_arrive y ∙ rw holds

  pub is_again : member_of (open_of (r y)) y.object ≡ true → refuse 14 [] z.offset ≡ call y.going
  unfolding enter
  is_again m = sym (call_enter ∙ rw m)

  module _ (m : member_of (open_of (r y)) y.object ≡ false) where
    pub is_deep : max_open ≤ (r y).depth → refuse 15 [] z.offset ≡ call y.going
    unfolding enter
    is_deep h = sym (call_enter ∙ rw (m, le-leb _ _ h))

    pub enters : (r y).depth < max_open → step (moved (r y) z.offset ((r y).depth + 1) (set (frames y) (r y).depth (new_frame y.object z.count z.offset))) (event_at (start_of z.shape z.count) (origin y.object z.offset)) ≡ call y.going
    unfolding enter entered advanced
    enters h = sym (call_enter ∙ rw (m, lt-leb _ _ h, ne_eqb _ _ y.going.some))

  -- its number and its length stay within 32 bits
  pub short_number : y.object < 2 ^ 32
  short_number = omega (arith, y.going.few, numbered y.going.file y.going.layout y.object z.shape z.count z.offset holds)

  pub short_count : z.count < 2 ^ 32
  short_count = omega (arith, y.going.short, measured y.going.file y.going.layout y.object z.shape z.count z.offset holds)

  pub short_offset : z.offset < 2 ^ 32
  short_offset = omega (arith, y.going.short, stands_before y.going.file y.going.layout y.object z.shape z.count z.offset holds)
