-- `put_eight` writes the kind and the 8 bytes, where there is room.
use mathlib.Core.List.{List}
use mathlib.Core.Path.{◌≡◌, ap, ◌∙◌}
use Prim.Native.Nat.{◌+◌, ◌-◌, ◌≤◌, ◌<◌, ℕ}
use native.Mathlib.Omega.{arith}
use borrow.Rule.Slice.PartMut.{put_mid, mid_len}
use lib.ListN.{length, length-set, set}
use Rattle.number.specs.Be.{bytes_of}
use Rattle.number.specs.BeLaws.{length_bytes_of}
use Rattle.tape.specs.Append.{said}
use Rattle.tape.proofs.AppendLaws.{put_none, put_room, put_part}
use Rattle.tape.proofs.Tests.{lacks, has}
use Rattle.tape.proofs.unchecked.put_eight.Goals as goal

pub returns-then-lacks_room : goal.returns-then-lacks_room
unfolding said
returns-then-lacks_room c =
    let a = c.args in
    let l : length a.tape.now < a.held + 9 = lacks _ _ _ c.lacks_room.ensures c.if-lacks_room.true in
    put_none a.tape.now a.held a.kind (bytes_of 8 a.bits) (omega (arith, length_bytes_of 8 a.bits))

pub returns : goal.returns
unfolding said
returns c =
    let a = c.args in
    let room : a.held + 9 ≤ length a.tape.now = has _ _ _ c.lacks_room.ensures c.if-lacks_room.false in
    let l : List ℕ = set a.tape.now a.held a.kind in
    let h : a.held + 9 ≤ length l = simp length-set room in
    let n : length (bytes_of 8 a.bits) ≡ 8 = length_bytes_of 8 a.bits in
    let w : a.held + 9 - (a.held + 1) ≡ 8 = omega arith in
    let b : c.write_be.new.part ≡ bytes_of 8 a.bits = c.write_be.ensures ∙ ap (λ (k : ℕ). bytes_of k a.bits) (mid_len (a.held + 1) (a.held + 9) l h ∙ w) in
    put_room a.tape.now a.held a.kind (bytes_of 8 a.bits) (omega arith) (omega arith)
    (ap (put_mid (a.held + 1) (a.held + 9 - (a.held + 1)) l) b ∙ put_part l (a.held + 1) (a.held + 9) (bytes_of 8 a.bits) (omega arith) h)
