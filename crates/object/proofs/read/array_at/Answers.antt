-- `array_at`: the number of elements, where its content has room.
use mathlib.Core.Path.{sym, ◌∙◌}
use Prim.Native.Nat.{◌≤◌}
use native.Mathlib.Omega.{arith}
use borrow.Author.Rules.{rules}
use Rattle.number.specs.WidthLaws.{bytes_in_pos, bytes_in_le}
use Rattle.object.specs.Found.{found_of}
use Rattle.object.specs.Object.{array_in}
use Rattle.object.proofs.read.array_at.Goals as goal

pub content_at-requires : goal.content_at-requires
content_at-requires c =
    let h : c.bytes_in.result ≤ 8 = rw c.bytes_in.ensures (bytes_in_le _) in
    (search rules, rw c.bytes_in.ensures (bytes_in_pos _), omega arith)

pub returns-in-Refused : goal.returns-in-Refused
unfolding found_of array_in
returns-in-Refused c = rw (← c.bytes_in.ensures, sym c.content_at.ensures ∙ c.in-Refused.is)

pub returns-in-Fits : goal.returns-in-Fits
unfolding found_of array_in
returns-in-Fits c = rw (← c.bytes_in.ensures, sym c.content_at.ensures ∙ c.in-Fits.is)
