-- `write_eight`: simple bytes are their own XML.
use Rattle.xml.specs.SimpleLaws.{simple_escape}
use Rattle.xml.proofs.text.write_eight.Goals as goal

pub returns-then-is_simple_chunk : goal.returns-then-is_simple_chunk
returns-then-is_simple_chunk c =
    rw (simple_escape c.args.eight.now (c.is_simple_chunk.ensures c.if-is_simple_chunk.true)) c.write_piece.ensures
