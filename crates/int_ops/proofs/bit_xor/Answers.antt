use Rattle.std.proofs.Common.{rules}
use Rattle.int_ops.specs.Bits.{int_xor}
use Rattle.int_ops.proofs.Causes.{overflow_cause}
use Rattle.int_ops.proofs.InRange.{answer_in}
use Rattle.int_ops.proofs.bit_xor.Goals as goal

pub returns-clause-exact : goal.returns-clause-exact
returns-clause-exact c = search rules

pub returns-clause-in_range : goal.returns-clause-in_range
returns-clause-in_range c = answer_in c.answer.result (int_xor c.args.a c.args.b) c.args.t c.args.mode (returns-clause-exact c)

pub returns-clause-overflow : goal.returns-clause-overflow
returns-clause-overflow c = overflow_cause c.answer.result (int_xor c.args.a c.args.b) c.args.t c.args.mode (returns-clause-exact c)
