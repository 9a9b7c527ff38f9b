-- A number of 16 bytes is below 2 ^ 64 exactly where its high half is zero.
use mathlib.Core.List.{List}
use mathlib.Core.Path.{◌≡◌}
use Prim.Native.Nat.{ℕ, ◌+◌, ◌^◌, ◌≤◌, ◌<◌}
use native.Mathlib.Omega.{arith}
use borrow.Author.Tests.{lt-ltb, le-ltb}
use lib.ListN.{length}
use Rattle.number.specs.Be.{be}
use Rattle.event.specs.declared.Event.TheVariants.{Integer}
use Rattle.event.specs.declared.Integer.TheVariants.{Unsigned}
use Rattle.number.specs.Part.{part}
use Rattle.object.specs.declared.refusal.Refusal.TheVariants.{IntegerOutOfRange}
use Rattle.object.specs.Object.{refused_by, scalar, wide_in}
use Rattle.number.specs.PartLaws.{be_part_add}

module _ (file : List ℕ) (at : ℕ) (fits : at + 16 ≤ length file) where
  pub wide_high : (be (part file at 8) ≡ 0 → ⊥) → wide_in (part file at 16) ≡ refused_by IntegerOutOfRange
  unfolding wide_in
  wide_high n =
      let e = be_part_add file at 8 8 (omega arith) in
      let h : 2 ^ 64 ≤ be (part file at 16) = omega arith in
      rw (le-ltb _ _ h)

  pub wide_low : be (part file at 8) ≡ 0 → be (part file (at + 8) 8) < 2 ^ 64 → wide_in (part file at 16) ≡ scalar (Integer (Unsigned (be (part file (at + 8) 8))))
  unfolding wide_in
  wide_low z h =
      let e = rw z at (be_part_add file at 8 8 (omega arith)) in
      let n : be (part file at 16) ≡ be (part file (at + 8) 8) = omega arith in
      rw (n, lt-ltb _ _ h)
