use Rattle.std.proofs.Common.{arith, sym, unsigned_abs}
use Rattle.std.proofs.lemmas.Int.{ints}
use Rattle.int_ops.proofs.Rounding.{halved_far, halved_far_below}
use Rattle.int_ops.proofs.shift.halved.Goals as goal

pub returns-then-a-lt0 : goal.returns-then-a-lt0
returns-then-a-lt0 c = sym (halved_far_below c.args.a (unsigned_abs c.args.amount) c.ranges.a (omega (arith, ints)) (omega (arith, ints)))

pub returns-else-a-lt0 : goal.returns-else-a-lt0
returns-else-a-lt0 c = sym (halved_far c.args.a (unsigned_abs c.args.amount) c.ranges.a (omega (arith, ints)) (omega (arith, ints)))
