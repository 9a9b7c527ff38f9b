-- The bytes of an event stand between two words.
use Rattle.writer.proofs.find.is_same.Goals as goal

pub returns : goal.returns
returns c = rw (← c.word-to.ensures.0, ← c.word-from.ensures.0) c.same_bytes.ensures
