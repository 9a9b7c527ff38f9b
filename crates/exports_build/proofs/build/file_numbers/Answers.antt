-- `file_numbers`: 32, or what the writer answers, as numbers.
use Rattle.writer.specs.Write.{written_said}
use Rattle.builder.specs.Finish.{finished_said}
use Rattle.exports.specs.Computed.{written}
use Rattle.exports_build.proofs.build.file_numbers.Goals as goal

pub returns-in-Ok : goal.returns-in-Ok
unfolding finished_said written_said
returns-in-Ok c = rw c.in-Ok.is c.written_numbers.ensures

pub returns-in-Err-Writer : goal.returns-in-Err-Writer
unfolding finished_said
returns-in-Err-Writer c =
    let e = rw c.in-Err-Writer.is at c.in-Err-Writer.field-0-is in
    rw (c.in-Err-Writer.is, e) c.written_numbers-in-Err-Writer.ensures

pub returns-in-Err-TapeShrank : goal.returns-in-Err-TapeShrank
unfolding finished_said written
returns-in-Err-TapeShrank c =
    let e = rw c.in-Err-TapeShrank.is at c.in-Err-TapeShrank.field-0-is in
    rw (c.in-Err-TapeShrank.is, e) c.plain.ensures
