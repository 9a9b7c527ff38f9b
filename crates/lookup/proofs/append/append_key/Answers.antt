-- `append_key`: what is held is read, then the path grows.
use Rattle.std.specs.Prelude.{Some}
use mathlib.Core.List.{List}
use mathlib.Core.Path.{◌≡◌, sym, ◌∙◌}
use Prim.Native.Nat.{ℕ, ◌≤◌, ◌<◌}
use native.Mathlib.Omega.{arith}
use borrow.Author.Rules.{rules}
use lib.ListN.{length, take}
use lib.Seq.{length-take-le}
use Rattle.number.specs.BeLaws.{Bytes, bytes_of_law}
use Rattle.tape.specs.Value.{number_at}
use Rattle.lookup.specs.Path.{keys_of}
use Rattle.lookup.specs.AppendLaws.{held_none, begun, held_long, held_uncounted, held_bad, keys_known, held_grows, grown_is}
use Rattle.lookup.proofs.append.append_key.Goals as goal
use Rattle.lookup.proofs.append.append_key.Goals.{After-has_keys, Else-not-has_keys}

-- the count is read, and the keys looked for
module _ (x : After-has_keys) where
  abbrev count_of : ℕ
  count_of = x.in-Some.count

  abbrev first_of : ℕ
  first_of = x.in-Some.first

  good : Bytes x.args.path.now
  good = bytes_of_law x.args.path.now (λ (i : ℕ). omega (arith, x.slice_known-1.given i))

  inside : x.args.held ≤ length x.args.path.now
  inside = omega arith

  short : length x.args.path.now < 0x8000000000000000
  short = search rules

  number : number_at (take x.args.held x.args.path.now) 0 ≡ Some (count_of, first_of)
  number = sym x.number_at.ensures ∙ x.in-Some.is

pub grow-requires : goal.grow-requires
grow-requires c = held_none _

pub returns-then-held-eq0 : goal.returns-then-held-eq0
returns-then-held-eq0 c =
    let a = c.args in
    let b = begun a.path.now a.key.now in
    rw c.if-held-eq0.true (record { value = c.grow.ensures.value ∙ b.0; path_after = c.grow.ensures.path_after ∙ b.1 })

pub returns-then-path-held : goal.returns-then-path-held
returns-then-path-held c =
    let a = c.args in
    let both = held_long a.path.now a.key.now a.held c.if-held-eq0.false c.if-path-held.true in record { value = both.0; path_after = both.1 }

pub slice_bounds-number_at-end-2 : goal.slice_bounds-number_at-end-2
slice_bounds-number_at-end-2 c = sym (length-take-le _ _ (omega arith))

pub returns-in_default : goal.returns-in_default
returns-in_default c =
    let a = c.args in
    let both = held_uncounted a.path.now a.key.now a.held c.if-held-eq0.false (omega arith) (sym c.number_at.ensures ∙ c.in_default.is) in record { value = both.0; path_after = both.1 }

pub slice_bounds-has_keys-end-2 : goal.slice_bounds-has_keys-end-2
slice_bounds-has_keys-end-2 c = sym (length-take-le _ _ (omega arith))

pub returns-then-not-has_keys : goal.returns-then-not-has_keys
returns-then-not-has_keys c =
    let a = c.args in
    let x = (goal.at.returns-then-not-has_keys c).After-has_keys in
    let both = held_bad a.path.now a.key.now a.held c.if-held-eq0.false (inside x) (good x) (count_of x) (first_of x) (number x) (sym c.has_keys.ensures ∙ c.if-not-has_keys.true) in
    record { value = both.0; path_after = both.1 }

-- the keys are there
module _ (y : Else-not-has_keys) where
  abbrev read : After-has_keys
  read = (goal.at.Else-not-has_keys y).After-has_keys

  known : (keys : List (List ℕ)) × (keys_of (take y.args.held y.args.path.now) ≡ Some keys)
  known = keys_known y.args.path.now y.args.key.now y.args.held y.if-held-eq0.false (inside read) (good read) (count_of read) (first_of read) (number read) (sym y.has_keys.ensures ∙ y.if-not-has_keys.false)

pub grow-requires-2 : goal.grow-requires-2
grow-requires-2 c =
    let a = c.args in
    let y = (goal.at.grow-requires-2 c).Else-not-has_keys in
    let x = read y in
    let k = known y in
    held_grows a.path.now a.key.now a.held c.if-held-eq0.false (inside x) (good x) (count_of x) (first_of x) (number x) k.0 k.1 (short x)

pub returns : goal.returns
returns c =
    let a = c.args in
    let y = (goal.at.returns c).Else-not-has_keys in
    let x = read y in
    let k = known y in
    let i = grown_is a.path.now a.key.now a.held c.if-held-eq0.false (inside x) (good x) (count_of x) (first_of x) (number x) k.0 k.1 in
    record { value = c.grow-2.ensures.value ∙ i.0; path_after = c.grow-2.ensures.path_after ∙ i.1 }
