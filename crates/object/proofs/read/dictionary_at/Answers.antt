-- `dictionary_at`: the number of pairs, where keys and values end at or before T.
use mathlib.Core.Path.{sym, ◌∙◌}
use Prim.Native.Nat.{◌<◌, ◌≤◌}
use native.Mathlib.Omega.{arith}
use borrow.Author.Rules.{rules}
use Rattle.number.specs.WidthLaws.{bytes_in_pos, bytes_in_le}
use Rattle.object.specs.Found.{found_of}
use Rattle.object.specs.Object.{dictionary_in}
use Rattle.object.proofs.read.dictionary_at.Goals as goal

pub overflow_mul-bytes_in : goal.overflow_mul-bytes_in
overflow_mul-bytes_in c =
    let h : c.bytes_in.result ≤ 8 = rw c.bytes_in.ensures (bytes_in_le _) in
    omega arith

pub content_at-requires : goal.content_at-requires
content_at-requires c =
    let h : 0 < c.bytes_in.result = rw c.bytes_in.ensures (bytes_in_pos _) in
    let g : c.bytes_in.result ≤ 8 = rw c.bytes_in.ensures (bytes_in_le _) in
    (search rules, omega arith, omega arith)

pub returns-in-Refused : goal.returns-in-Refused
unfolding found_of dictionary_in
returns-in-Refused c = rw (← c.bytes_in.ensures, sym c.content_at.ensures ∙ c.in-Refused.is)

pub returns-in-Fits : goal.returns-in-Fits
unfolding found_of dictionary_in
returns-in-Fits c = rw (← c.bytes_in.ensures, sym c.content_at.ensures ∙ c.in-Fits.is)
