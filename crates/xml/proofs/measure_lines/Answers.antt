-- `measure_lines` tells where the lines would end, and the footer behind them.
use mathlib.Core.Path.{refl}
use Rattle.xml.specs.Said.{answer_said}
use Rattle.xml.proofs.Wholly.{is_measured, is_barred}
use Rattle.xml.proofs.measure_lines.Goals as goal

pub returns-in-Ok : goal.returns-in-Ok
unfolding answer_said
returns-in-Ok c =
    is_measured c.args.tape.now c.requires c.put_lines.ensures refl c.in-Ok.is

pub returns-in-Err : goal.returns-in-Err
unfolding answer_said
returns-in-Err c =
    is_barred c.args.tape.now c.requires c.put_lines.ensures c.in-Err.is
