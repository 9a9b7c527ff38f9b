-- No event that the search met has the bytes; where it ends, event e is the first that has them.
use Rattle.std.proofs.Common.{◌≡◌, arith}
use Rattle.writer.specs.FindLaws.{sought_fits, search_start, search_room, met_fits, met_within, met_here, met_entered, search_on, free_here, free_entered}
use Rattle.writer.proofs.find.find.Goals as goal

pub overflow_mul-slot : goal.overflow_mul-slot
overflow_mul-slot c = omega (arith, sought_fits c.requires)

pub bucket_of-requires : goal.bucket_of-requires
bucket_of-requires c = let f = sought_fits c.requires in (c.hash_of-hash.ensures.1, omega arith, f.0)

pub overflow_add-slot : goal.overflow_add-slot
overflow_add-slot c = omega (arith, sought_fits c.requires)

pub read-met-requires : goal.read-met-requires
read-met-requires c = omega (arith, sought_fits c.requires)

pub loop-met-init : goal.loop-met-init
loop-met-init c =
    let hash = c.hash_of-hash in
    let bucket = c.bucket_of in
    search_start c.requires hash.result bucket.result c.read-met.result hash.ensures.0 bucket.ensures.0 bucket.ensures.1 c.read-met.ensures.0

pub is_same-requires : goal.is_same-requires
is_same-requires c = met_within c.requires c.loop-met.invariant c.loop-met-test.true

pub returns-then-is_same : goal.returns-then-is_same
returns-then-is_same c =
    let h = c.requires in
    let x = c.loop-met.invariant in
    let some = c.loop-met-test.true in
    let same = c.is_same in
    (record { value = met_here h x some same.result same.ensures c.if-is_same.true; entered = met_entered h x some same.result same.ensures c.if-is_same.true })

-- all numbers fit
pub overflow_mul-slot-in-loop-met : goal.overflow_mul-slot-in-loop-met
overflow_mul-slot-in-loop-met c = omega (arith, met_fits c.requires c.loop-met.invariant c.loop-met-test.true)

pub overflow_add-slot-in-loop-met : goal.overflow_add-slot-in-loop-met
overflow_add-slot-in-loop-met c = omega (arith, met_fits c.requires c.loop-met.invariant c.loop-met-test.true)

pub overflow_add-slot-in-loop-met-2 : goal.overflow_add-slot-in-loop-met-2
overflow_add-slot-in-loop-met-2 c = omega (arith, met_fits c.requires c.loop-met.invariant c.loop-met-test.true)

pub overflow_add-slot-in-loop-met-3 : goal.overflow_add-slot-in-loop-met-3
overflow_add-slot-in-loop-met-3 c = omega (arith, met_fits c.requires c.loop-met.invariant c.loop-met-test.true)

pub read-met-requires-in-loop-met : goal.read-met-requires-in-loop-met
read-met-requires-in-loop-met c = let f = met_fits c.requires c.loop-met.invariant c.loop-met-test.true in omega (arith, sought_fits c.requires)

pub overflow_add-steps : goal.overflow_add-steps
overflow_add-steps c = omega (arith, met_fits c.requires c.loop-met.invariant c.loop-met-test.true)

pub loop-met-smaller : goal.loop-met-smaller
loop-met-smaller c = omega (arith, met_fits c.requires c.loop-met.invariant c.loop-met-test.true)

pub loop-met-preserved : goal.loop-met-preserved
loop-met-preserved c =
    let same = c.is_same in
    let hash = c.hash_of-hash in
    let side = c.side_of in
    search_on c.requires c.loop-met.invariant c.loop-met-test.true same.result same.ensures c.if-is_same.false
    hash.result side.result c.read-met-in-loop-met.result hash.ensures.0 side.ensures.0 side.ensures.1 c.read-met-in-loop-met.ensures.0

pub overflow_add-e : goal.overflow_add-e
overflow_add-e c = omega (arith, sought_fits c.requires)

pub write-requires : goal.write-requires
write-requires c = (search_room c.requires c.loop-met.invariant, omega (arith, sought_fits c.requires))

pub returns : goal.returns
returns c =
    let h = c.requires in
    let l = c.loop-met in
    let free : l.met ≡ 0 = omega arith in
    (record { value = free_here h l.invariant free; entered = free_entered h l.invariant free c.write.new.work c.write.ensures })
