-- `finish`: 32, or what the writer does with the bytes held.
use mathlib.Core.Path.{refl, sym}
use borrow.Author.Tests.{lt-ltb, le-ltb}
use lib.Seq.{length-take-le}
use Rattle.writer.specs.Write.{written_said}
use Rattle.builder.specs.Finish.{finished_said, finish_of, finish_output, finish_used}
use Rattle.builder.proofs.finish.finish.Goals as goal

pub returns-then-tape-held : goal.returns-then-tape-held
unfolding finished_said finish_of finish_output finish_used
returns-then-tape-held c =
    let e = lt-ltb _ _ c.if-tape-held.true in
    (record { result_value = rw e; out_after = rw e; work_unchanged = refl })

pub slice_bounds-write_file-end : goal.slice_bounds-write_file-end
slice_bounds-write_file-end c = sym (length-take-le _ _ c.if-tape-held.false)

pub returns-in-Ok : goal.returns-in-Ok
unfolding finished_said finish_of finish_output finish_used written_said
returns-in-Ok c =
    let e = le-ltb _ _ c.if-tape-held.false in
    let w = rw c.in-Ok.is at c.write_file.ensures.result_value in
    (record { result_value = rw e w; out_after = rw e c.write_file.ensures.out_after; work_unchanged = rw e c.write_file.ensures.work_unchanged })

pub returns-in-Err : goal.returns-in-Err
unfolding finished_said finish_of finish_output finish_used
returns-in-Err c =
    let e = le-ltb _ _ c.if-tape-held.false in
    let w = rw c.in-Err.is at c.write_file.ensures.result_value in
    (record { result_value = rw e w; out_after = rw e c.write_file.ensures.out_after; work_unchanged = rw e c.write_file.ensures.work_unchanged })
