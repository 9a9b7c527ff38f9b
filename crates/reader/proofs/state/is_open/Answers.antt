-- `is_open` asks each of the first frames.
use Rattle.std.proofs.Common.{rules, tests, eqb}
use Rattle.std.proofs.lemmas.Iterator.{YieldsList-from_slice, YieldsList-from_take}
use Rattle.std.proofs.lemmas.Iterator.Search.{any_from_yields_List}
use Rattle.layout.specs.declared.frame.Frame.{Frame}
use Rattle.reader.proofs.Frames.{any_member}
use Rattle.reader.proofs.state.is_open.Goals as goal

pub returns : goal.returns
returns c =
    rw any_member
    (any_from_yields_List (λ (f : Frame). eqb f.object c.args.object) _ _ _ c.any.ensures.ran (YieldsList-from_take c.args.depth (YieldsList-from_slice c.args.frames cc) cc) (λ x b q k. search (rules, tests)))
