-- `planned` computes the plan; no sum passes 64 bits, since sizes are 8 at most.
use Rattle.std.proofs.Common.{arith}
use Rattle.writer.specs.PlanLaws.{times_size}
use Rattle.writer.proofs.plan.planned.Goals as goal

-- the references, then the offsets
pub overflow_mul-table : goal.overflow_mul-table
overflow_mul-table c = omega (arith, times_size c.args.sums.members c.size_for-width.result _ c.size_for-width.ensures)

pub overflow_add-table-2 : goal.overflow_add-table-2
overflow_add-table-2 c = omega (arith, times_size c.args.sums.members c.size_for-width.result _ c.size_for-width.ensures)

pub overflow_mul-length : goal.overflow_mul-length
overflow_mul-length c = omega (arith, times_size c.args.count c.size_for.result _ c.size_for.ensures)

pub overflow_add-length : goal.overflow_add-length
overflow_add-length c =
    omega (arith, times_size c.args.sums.members c.size_for-width.result _ c.size_for-width.ensures, times_size c.args.count c.size_for.result _ c.size_for.ensures)

pub overflow_add-length-2 : goal.overflow_add-length-2
overflow_add-length-2 c =
    omega (arith, times_size c.args.sums.members c.size_for-width.result _ c.size_for-width.ensures, times_size c.args.count c.size_for.result _ c.size_for.ensures)
