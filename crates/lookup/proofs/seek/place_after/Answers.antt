-- Where an event stands, the place is where it ends.
use Rattle.lookup.proofs.Walking.{after_at, after_none}
use Rattle.lookup.proofs.seek.place_after.Goals as goal

pub returns-in_default : goal.returns-in_default
returns-in_default c m next e = absurd (after_none _ _ c.end_of.ensures m next e c.in_default.is)

pub returns : goal.returns
returns c m next e = after_at _ _ c.end_of.ensures m next e c.in-Some.next c.in-Some.is
