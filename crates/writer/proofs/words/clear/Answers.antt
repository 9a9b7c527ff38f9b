-- A part is filled.
use Rattle.std.proofs.Common.{◌≡◌, ℕ, ◌-◌, length, replicate, slice_range, ap, ◌∙◌, arith}
use Rattle.std.proofs.lemmas.List.{length-replicate}
use Rattle.std.proofs.lemmas.List.Edits.{length-between}
use Rattle.tape.proofs.AppendLaws.{put_part}
use Rattle.writer.specs.Columns.{cleared}
use borrow.Rule.Slice.PartMut.{put_mid}
use Rattle.writer.proofs.words.clear.Goals as goal

pub returns : goal.returns
unfolding cleared
returns c =
    let a = c.args in
    let n : length (slice_range a.work.now a.from a.to) ≡ a.to - a.from = length-between a.work.now a.from a.to c.requires.1 in
    ap (put_mid a.from (a.to - a.from) a.work.now) (c.fill.ensures.after (λ y e. e) ∙ ap (λ (k : ℕ). replicate k 0) n) ∙
    put_part a.work.now a.from a.to (replicate (a.to - a.from) 0) (rw length-replicate (omega arith)) c.requires.1
