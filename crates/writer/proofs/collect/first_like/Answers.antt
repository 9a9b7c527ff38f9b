-- A scalar is sought; a start or an end is the first of its name.
use Rattle.std.proofs.Common.{arith, rules}
use Rattle.writer.specs.CollectLaws.{turn_within, turn_sought, turn_scalar, turn_other, turn_passed}
use Rattle.writer.proofs.collect.first_like.Goals as goal

pub bounds-events-at : goal.bounds-events-at
bounds-events-at c = omega (arith, turn_within c.requires)

pub slice_bounds-find-count : goal.slice_bounds-find-count
slice_bounds-find-count c = omega (arith, turn_within c.requires)

pub slice_bounds-find-start : goal.slice_bounds-find-start
slice_bounds-find-start c = let w = turn_within c.requires in search rules

pub slice_bounds-find-end : goal.slice_bounds-find-end
slice_bounds-find-end c = let w = turn_within c.requires in search rules

pub find-requires : goal.find-requires
find-requires c = turn_sought c.requires c.if-events-at-lt10.true

pub returns-then-events-at-lt10 : goal.returns-then-events-at-lt10
returns-then-events-at-lt10 c =
    let f = c.find in
    (record { first_of = turn_scalar c.requires f.result c.if-events-at-lt10.true c.find.ensures.value; entered = c.find.ensures.entered })

pub returns : goal.returns
returns c = (record { first_of = turn_other c.requires c.if-events-at-lt10.false; entered = turn_passed c.requires c.if-events-at-lt10.false })
