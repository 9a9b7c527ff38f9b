-- The head, then the references.
use Rattle.std.proofs.Common.{length, ◌∙◌}
use Rattle.encode.specs.Put.{base_of}
use Rattle.written.specs.Encoding.{head_bytes}
use Rattle.writer.specs.Speak.{Wrote}
use Rattle.writer.proofs.Objects.{list_head, list_each, list_wrote}
use Rattle.writer.proofs.put.put_array.Goals as goal

pub put_head_at-head-requires : goal.put_head_at-head-requires
unfolding base_of
put_head_at-head-requires c =
    rw (c.word-members.ensures.0 ∙ c.requires.1.members) (list_head c.requires.1)

pub put_each-requires : goal.put_each-requires
unfolding base_of
put_each-requires c =
    (c.requires.0, list_each c.requires.1 (rw (c.word-members.ensures.0 ∙ c.requires.1.members) at c.put_head_at-head.ensures))

pub returns : goal.returns
unfolding base_of
returns c =
    λ ks o.
    let m = c.word-members.ensures.0 ∙ o.members in
    let h : Wrote _ _ (head_bytes 0xA0 (length ks)) _ _ = rw m at c.put_head_at-head.ensures in
    list_wrote o h (c.put_each.ensures ks (list_each o h))
