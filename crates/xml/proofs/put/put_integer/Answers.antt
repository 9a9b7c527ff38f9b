-- `put_integer` writes the digits between their tags.
use mathlib.Core.Path.{ap}
use Prim.Native.Nat.{ℕ, ◌+◌}
use Rattle.xml.specs.PutLaws.{placed, placed_put, placed_append}
use Rattle.xml.specs.Xml.{start_tag, end_tag, line, element}
use Rattle.xml.proofs.put.put_integer.Goals as goal

pub returns : goal.returns
unfolding element start_tag end_tag line
returns c =
    let write-piece = c.write_piece-start in
    let digits = placed_put c.put_signed.ensures.out_after (ap (λ (n : ℕ). write-piece.result + n) c.signed_length.ensures.value) in
    placed_append (placed write-piece.ensures) (placed_append digits (placed c.write_piece.ensures))
