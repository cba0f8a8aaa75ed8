use Rattle.std.proofs.Common.{arith}
use Rattle.std.proofs.lemmas.Int.{ints, to_z-of_z, wrapping_add_is}
use Rattle.std.specs.Int.{w128}
use Rattle.int_ops.proofs.Beyond.{sum_below, sum_above}
use Rattle.int_ops.proofs.exact.exact_sum.Goals as goal

pub returns-in-None : goal.returns-in-None
returns-in-None c = (
  sum_below _ _ c.ranges.a c.ranges.b
      (λ fits. c.in-None.ensures (rw (to_z-of_z w128 c.args.a c.ranges.a, to_z-of_z w128 c.args.b c.ranges.b) fits))
      (omega (arith, ints)),
  wrapping_add_is w128 _ _ c.ranges.a c.ranges.b,
)

pub returns-in-None-2 : goal.returns-in-None-2
returns-in-None-2 c = (
  sum_above _ _ c.ranges.a c.ranges.b
      (λ fits. c.in-None.ensures (rw (to_z-of_z w128 c.args.a c.ranges.a, to_z-of_z w128 c.args.b c.ranges.b) fits))
      (omega (arith, ints)),
  wrapping_add_is w128 _ _ c.ranges.a c.ranges.b,
)
