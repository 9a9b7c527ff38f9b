-- The head, then the references to the keys, then those to the values.
use Rattle.std.proofs.Common.{ℕ, ◌/◌, length, ap, ◌∙◌}
use Rattle.encode.specs.Put.{base_of}
use Rattle.written.specs.Encoding.{head_bytes}
use Rattle.writer.specs.Speak.{Wrote}
use Rattle.writer.proofs.Objects.{pairs_head, pairs_keys, pairs_values, pairs_wrote}
use Rattle.writer.proofs.put.put_dictionary.Goals as goal

pub put_head_at-head-requires : goal.put_head_at-head-requires
unfolding base_of
put_head_at-head-requires c =
    rw (ap (λ (m : ℕ). m / 2) c.word-members.ensures.0 ∙ c.requires.2.members) (pairs_head c.requires.2)

pub put_each-values-requires : goal.put_each-values-requires
unfolding base_of
put_each-values-requires c =
    let m = ap (λ (m : ℕ). m / 2) c.word-members.ensures.0 ∙ c.requires.2.members in
    (c.requires.0, pairs_keys c.requires.2 (rw m at c.put_head_at-head.ensures))

pub put_each-requires : goal.put_each-requires
unfolding base_of
put_each-requires c =
    let o = c.requires.2 in
    let m = ap (λ (m : ℕ). m / 2) c.word-members.ensures.0 ∙ o.members in
    let h : Wrote _ _ (head_bytes 0xD0 (length c.requires.0)) _ _ = rw m at c.put_head_at-head.ensures in
    (c.requires.1, pairs_values o h (c.put_each-values.ensures c.requires.0 (pairs_keys o h)))

pub returns : goal.returns
unfolding base_of
returns c =
    λ ks vs o.
    let m = ap (λ (m : ℕ). m / 2) c.word-members.ensures.0 ∙ o.members in
    let h : Wrote _ _ (head_bytes 0xD0 (length ks)) _ _ = rw m at c.put_head_at-head.ensures in
    let k = c.put_each-values.ensures ks (pairs_keys o h) in
    pairs_wrote o h k (c.put_each.ensures vs (pairs_values o h k))
