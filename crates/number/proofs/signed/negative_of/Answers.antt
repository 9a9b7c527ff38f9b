-- `negative_of` is -1 - k where k is below 2^63.
use Prim.Native.Nat.{◌<◌, ◌^◌}
use native.Mathlib.Omega.{arith}
use borrow.Author.Tests.{lt-ltb, le-ltb}
use lib.IntN.{negsuc}
use mir.Syntax.{w64}
use mir.Val.{SFits}
use mir.Facts.{to_z_pos, to_z-of_z}
use Rattle.number.specs.Signed.{negative_of}
use Rattle.number.proofs.Minus.{minus_pos}
use Rattle.number.proofs.signed.negative_of.Goals as goal

pub returns-then-k-lt9223372036854775808 : goal.returns-then-k-lt9223372036854775808
unfolding negative_of
returns-then-k-lt9223372036854775808 c =
    let h : c.args.k < 2 ^ 63 = omega arith in
    let f : SFits w64 (negsuc c.args.k) = record { sfits = h } in
    rw (to_z_pos w64 h, minus_pos, to_z-of_z f, lt-ltb c.args.k 0x8000_0000_0000_0000 (omega arith))

pub returns-else-k-lt9223372036854775808 : goal.returns-else-k-lt9223372036854775808
unfolding negative_of
returns-else-k-lt9223372036854775808 c = rw (le-ltb c.args.k 0x8000_0000_0000_0000 (omega arith))
