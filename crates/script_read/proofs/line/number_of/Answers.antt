use Rattle.std.proofs.Common.{arith}
use Rattle.script_read.proofs.Numbers.{front_is_small}
use Rattle.script_read.proofs.line.number_of.Goals as goal

pub overflow_mul-n : goal.overflow_mul-n
overflow_mul-n c = omega (arith, front_is_small c.args.digits.now c.loop-digit.digit-index c.requires.digits (omega arith))

pub overflow_add-n : goal.overflow_add-n
overflow_add-n c = omega (arith, front_is_small c.args.digits.now c.loop-digit.digit-index c.requires.digits (omega arith))
