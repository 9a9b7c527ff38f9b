-- `put_data` writes the letters between their tags.
use mathlib.Core.Path.{ap}
use Prim.Native.Nat.{ℕ, ◌+◌}
use native.Mathlib.Omega.{arith}
use Rattle.radix64.specs.Base64Laws.{length_base64}
use Rattle.xml.specs.PutLaws.{placed, placed_put, placed_append}
use Rattle.xml.specs.Xml.{start_tag, end_tag, line, element}
use Rattle.xml.proofs.put.put_data.Goals as goal

pub overflow_add-start : goal.overflow_add-start
overflow_add-start c =
    let write-piece = c.write_piece-start in
    omega (arith, write-piece.ensures.place, c.base64_length.ensures, length_base64 c.args.bytes.now, c.requires.0, c.requires.1)

pub write_piece-requires : goal.write_piece-requires
write_piece-requires c =
    let write-piece = c.write_piece-start in
    omega (arith, write-piece.ensures.place, c.base64_length.ensures, length_base64 c.args.bytes.now, c.requires.0, c.requires.1)

pub returns : goal.returns
unfolding element start_tag end_tag line
returns c =
    let write-piece = c.write_piece-start in
    let letters = placed_put c.put_base64.ensures.out_after (ap (λ (n : ℕ). write-piece.result + n) c.base64_length.ensures) in
    placed_append (placed write-piece.ensures) (placed_append letters (placed c.write_piece.ensures))
