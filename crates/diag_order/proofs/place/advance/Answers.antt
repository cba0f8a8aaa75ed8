use Rattle.std.proofs.Common.{arith}
use Rattle.diag_order.proofs.Steps.{col_small}
use Rattle.diag_order.proofs.place.advance.Goals as goal

pub overflow_add-place-else-text-place-eq10 : goal.overflow_add-place-else-text-place-eq10
overflow_add-place-else-text-place-eq10 c = omega (arith, col_small c.args.text.now c.loop-place.place.offset)
