-- `write_between` writes the digits into the part.
use mathlib.Core.Path.{◌≡◌, refl, ap, ◌∙◌}
use Prim.Native.Nat.{ℕ, ◌-◌}
use native.Mathlib.Omega.{arith}
use borrow.Rule.Slice.PartMut.{put_mid, mid_len}
use Rattle.number.specs.Be.{bytes_of}
use Rattle.number.specs.BeLaws.{length_bytes_of}
use Rattle.tape.proofs.AppendLaws.{put_part}
use Rattle.encode.proofs.put.write_between.Goals as goal

pub returns : goal.returns
returns c =
    let a = c.args in
    let l = a.out.now in
    let n = length_bytes_of (a.end - a.at) a.n in
    let b : c.write_be.new.part ≡ bytes_of (a.end - a.at) a.n = c.write_be.ensures ∙ ap (λ (k : ℕ). bytes_of k a.n) (mid_len a.at a.end l (omega arith)) in
    (record { value = refl; out_after = ap (put_mid a.at (a.end - a.at) l) b ∙ put_part l a.at a.end (bytes_of (a.end - a.at) a.n) (omega arith) (omega arith) })
