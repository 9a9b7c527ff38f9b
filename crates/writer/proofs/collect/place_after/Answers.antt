-- Where an event stands, the place is where it ends.
use Rattle.writer.specs.CollectLaws.{after_at, after_none}
use Rattle.writer.proofs.collect.place_after.Goals as goal

pub returns-in_default : goal.returns-in_default
returns-in_default c m next e =
    let a = c.args in
    absurd (after_none a.tape.now a.at c.end_of.result c.end_of.ensures m next e c.in_default.is)

pub returns : goal.returns
returns c m next e =
    let a = c.args in
    after_at a.tape.now a.at c.end_of.result c.end_of.ensures m next e c.in-Some.end c.in-Some.is
