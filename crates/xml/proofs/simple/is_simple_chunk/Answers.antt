-- `is_simple_chunk`: the eight bytes as one number.
use Rattle.std.proofs.Common.{ℕ, ◌≡◌, ◌<◌, length, get_or, sym, ◌∙◌, rules}
use Rattle.utf.specs.Bounds.{below_all}
use Rattle.xml.proofs.Chunks.{little_eight}
use Rattle.xml.proofs.simple.is_simple_chunk.Goals as goal

pub returns : goal.returns
returns c =
    let t = c.args.eight.now in
    let n : length t ≡ 8 = search rules in
    let fits : (k : ℕ) → get_or t k 0 < 256 = search rules in
    c.are_eight_simple.ensures.tells t n (below_all 256 t fits) (little_eight t n ∙ sym c.from_le_bytes.ensures)
