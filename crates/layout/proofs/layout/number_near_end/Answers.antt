-- `number_near_end` reads a number of 1 to 8 bytes where it lies within the file.
use mathlib.Core.Path.{◌∙◌}
use Prim.Native.Nat.{◌+◌, ◌<◌, ◌≤◌}
use native.Mathlib.Omega.{arith}
use borrow.Author.Tests.{le-leb, lt-leb}
use lib.ListN.{length}
use Rattle.number.specs.PartLaws.{number_part}
use Rattle.layout.proofs.layout.number_near_end.Goals as goal

pub returns-then-file-bytes : goal.returns-then-file-bytes
returns-then-file-bytes c =
    let a = c.args in
    let h : length a.file.now < a.at + a.bytes = omega arith in
    rw (lt-leb _ _ h)

pub returns-then-file-bytes-2 : goal.returns-then-file-bytes-2
returns-then-file-bytes-2 c =
    let a = c.args in
    let h : length a.file.now < a.at + a.bytes = omega arith in
    rw (lt-leb _ _ h)

pub returns : goal.returns
returns c =
    let a = c.args in
    let p = c.requires in
    let h : a.at + a.bytes ≤ length a.file.now = omega arith in
    rw (le-leb _ _ h) (c.read_be.ensures ∙ number_part a.file.now a.at a.bytes h p.0 p.1)
