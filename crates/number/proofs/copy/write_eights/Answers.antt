-- `write_eights` copies eight bytes a turn, and at the end the last eight: what it has written are the first bytes.
use Rattle.std.proofs.Common.{ℕ, ◌≡◌, ◌∙◌, ◌+◌, ◌-◌, ◌*◌, ◌≤◌, List, length, take, drop, length-drop, arith}
use Rattle.std.proofs.Math.Seq.{take_all}
use Rattle.number.proofs.Copies.{sets_onward, overlapped}
use Rattle.number.proofs.copy.write_eights.Goals as goal

pub loop-k-preserved : goal.loop-k-preserved
loop-k-preserved c =
    let a = c.args in
    let l = c.loop-k in
    let q : 8 * l.k + 8 - 8 * l.k ≡ 8 = omega arith in
    let n : 8 * (l.k + 1) ≡ 8 * l.k + 8 = omega arith in
    c.write_eight.ensures ∙ rw (q, n, l.invariant) (sets_onward (8 * l.k) 8 a.bytes.now a.out.now a.at (omega arith))

-- the last eight bytes are all behind their start
last-eight : (s : List ℕ) → 8 ≤ length s → take (length s - (length s - 8)) (drop (length s - 8) s) ≡ drop (length s - 8) s
last-eight s h = take_all (length s - (length s - 8)) (drop (length s - 8) s) (rw length-drop (omega arith))

pub returns : goal.returns
returns c =
    let a = c.args in
    let l = c.loop-k in
    let s = a.bytes.now in
    c.write_eight-2.ensures ∙
    rw (last-eight s c.requires.0, l.invariant)
    (overlapped (8 * l.k) (length s - 8) s a.out.now a.at (omega arith) (omega arith))
