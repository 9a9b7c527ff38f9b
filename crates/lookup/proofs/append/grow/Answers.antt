-- `grow`: the keys move up, then the count, the length and the key are written.
use mathlib.Core.Bool.{false}
use mathlib.Core.List.{List}
use mathlib.Core.Path.{◌≡◌, refl, sym, ap, ◌∙◌}
use Prim.Native.Nat.{ℕ, ◌+◌, ◌-◌, ◌≤◌}
use native.Mathlib.Omega.{arith}
use borrow.Author.Tests.{ltb-false}
use lib.Dec.{ltb}
use lib.ListN.{length, take, drop}
use Rattle.tape.specs.Seven.{seven}
use Rattle.tape.specs.SevenLaws.{seven_few}
use Rattle.lookup.specs.Append.{grown}
use Rattle.std.specs.Prelude.{Ok}
use Rattle.lookup.proofs.Growing.{moved_is, grow_not, grow_held, grow_all}
use Rattle.lookup.proofs.append.grow.Goals as goal
use Rattle.lookup.proofs.append.grow.Goals.{After-groups-length_end, Else-lacks_room}

-- both numbers are made: what is lent, and what is written
module _ (x : After-groups-length_end) where
  abbrev held_of : ℕ
  held_of = x.args.held

  abbrev first_of : ℕ
  first_of = x.args.first

  abbrev count : List ℕ
  count = seven (x.args.count + 1)

  abbrev measure : List ℕ
  measure = seven (length x.args.key.now)

  abbrev up : ℕ
  up = x.groups-count_end.result - 1 - first_of

  count-few : length count ≤ 10
  count-few = seven_few (x.args.count + 1)

  measure-few : length measure ≤ 10
  measure-few = seven_few (length x.args.key.now)

  is_up : first_of + up ≡ length count
  is_up = omega (arith, x.groups-count_end.ensures.value, x.requires.longer)

  is_start : held_of + up + x.groups-length_end.result - 1 ≡ held_of + up + length measure
  is_start = omega (arith, x.groups-length_end.ensures.value)

  sum : held_of + up + x.groups-length_end.result - 1 + length x.args.key.now ≡ held_of + up + length measure + length x.args.key.now
  sum = ap (λ (n : ℕ). n + length x.args.key.now) is_start

pub overflow_add-at : goal.overflow_add-at
overflow_add-at c = let x = (goal.at.overflow_add-at c).After-groups-length_end in omega (arith, is_up x, count-few x, c.requires.inside)

pub overflow_add-start : goal.overflow_add-start
overflow_add-start c =
    let x = (goal.at.overflow_add-start c).After-groups-length_end in
    omega (arith, is_up x, count-few x, c.requires.inside, is_start x, measure-few x, c.groups-length_end.ensures.value)

pub returns-then-lacks_room : goal.returns-then-lacks_room
unfolding grown
returns-then-lacks_room c =
    let x = (goal.at.returns-then-lacks_room c).After-groups-length_end in
    let both = grow_not c.args.path.now c.args.held c.args.first (up x) (count x) (measure x) c.args.key.now c.requires.within c.requires.inside (is_up x)
    (sym (ap (ltb (length c.args.path.now)) (sum x)) ∙ sym c.lacks_room.ensures ∙ c.if-lacks_room.true) in
    record { value = both.0; path_after = both.1 }

-- there is room
module _ (y : Else-lacks_room) where
  abbrev made : After-groups-length_end
  made = (goal.at.Else-lacks_room y).After-groups-length_end

  fits : ltb (length y.args.path.now) (y.args.held + up made + length (measure made) + length y.args.key.now) ≡ false
  fits = sym (ap (ltb (length y.args.path.now)) (sum made)) ∙ sym y.lacks_room.ensures ∙ y.if-lacks_room.false

  room : y.args.held + up made + length (measure made) + length y.args.key.now ≤ length y.args.path.now
  room = ltb-false _ _ fits

  -- the keys go up to where their new count ends
  rises : y.args.held + up made ≤ length y.args.path.now
  rises = omega (arith, room)

pub copy_within-requires : goal.copy_within-requires
copy_within-requires c =
    let y = (goal.at.copy_within-requires c).Else-lacks_room in
    record { start_le_end = c.requires.within; in_bounds = c.requires.inside; dest_in_bounds = omega (arith, rises y, c.requires.within); not_exhausted = tt }

pub slice_bounds-write_bytes-end : goal.slice_bounds-write_bytes-end
slice_bounds-write_bytes-end c = omega (arith, c.groups-count_end.ensures.value, count-few (goal.at.slice_bounds-write_bytes-end c).After-groups-length_end)

pub slice_bounds-write_bytes-end-2 : goal.slice_bounds-write_bytes-end-2
slice_bounds-write_bytes-end-2 c =
    omega (arith, c.groups-length_end.ensures.value, measure-few (goal.at.slice_bounds-write_bytes-end-2 c).After-groups-length_end)

pub overflow_add-result : goal.overflow_add-result
overflow_add-result c =
    let y = (goal.at.overflow_add-result c).Else-lacks_room in
    omega (arith, room y, is_start (made y))

pub returns : goal.returns
unfolding grown
returns c =
    let y = (goal.at.returns c).Else-lacks_room in
    let x = made y in
    let m = c.args.path.now in
    let g = c.groups-count_end in
    let h = c.groups-length_end in
    let n : g.result - 1 ≡ length (count x) = omega (arith, g.ensures.value) in
    let o : h.result - 1 ≡ length (measure x) = omega (arith, h.ensures.value) in
    record {
      value = ap Ok (sum x) ∙ grow_held m c.args.held c.args.first (up x) (count x) (measure x) c.args.key.now c.requires.within c.requires.inside (is_up x) (fits y);
      path_after = grow_all m c.args.held c.args.first (up x) (count x) (measure x) c.args.key.now c.requires.within c.requires.inside (is_up x) (fits y) _ _ _ _ _ _ _ _
          (c.copy_within.ensures.after ∙ moved_is m c.args.first c.args.held (up x) c.requires.within (rises y))
          c.write_bytes.ensures
          (ap (λ (k : ℕ). take k (drop 1 g.new.memory)) n ∙ g.ensures.n_after)
          c.write_bytes-2.ensures
          refl
          (ap (λ (k : ℕ). take k (drop 1 h.new.memory)) o ∙ h.ensures.n_after)
          c.write_bytes-3.ensures
          (is_start x);
    }
