-- `eight_at` reads the part of 8 bytes.
use mathlib.Core.Path.{◌≡◌, ap, ◌∙◌}
use Prim.Native.Nat.{◌+◌, ◌≤◌}
use native.Mathlib.Nat.{add-sub_cancel_left}
use native.Mathlib.Omega.{arith}
use borrow.Author.Tests.{le-leb, lt-leb}
use lib.ListN.{length}
use lib.Seq.{take_all}
use Rattle.number.specs.Be.{be}
use Rattle.number.specs.PartLaws.{length_part}
use Rattle.number.specs.Part.{part}
use Rattle.tape.specs.Value.{eight_at}
use Rattle.tape.proofs.value.eight_at.Goals as goal

pub returns-then-tape-lt8 : goal.returns-then-tape-lt8
unfolding eight_at
returns-then-tape-lt8 c =
    let a = c.args in
    rw (lt-leb (a.at + 8) (length a.tape.now) (omega arith))

pub returns-then-tape-at : goal.returns-then-tape-at
unfolding eight_at
returns-then-tape-at c =
    let a = c.args in
    rw (lt-leb (a.at + 8) (length a.tape.now) (omega arith))

pub returns : goal.returns
unfolding eight_at
returns c =
    let a = c.args in
    let h : a.at + 8 ≤ length a.tape.now = omega arith in
    let q : c.read_eight-n.result ≡ be (part a.tape.now a.at 8) =
    rw add-sub_cancel_left at c.read_eight-n.ensures ∙ ap be (take_all 8 (part a.tape.now a.at 8) (omega (arith, length_part a.tape.now a.at 8 h))) in
    rw (le-leb (a.at + 8) (length a.tape.now) h, q)
