use Rattle.std.proofs.Common.{rules, unsigned_abs, ◌^◌}
use Rattle.int_ops.specs.Division.{floor_by}
use Rattle.int_ops.proofs.Causes.{shift_cause, shift_overflow_cause}
use Rattle.int_ops.proofs.InRange.{shift_in}
use Rattle.int_ops.proofs.shr.Goals as goal

pub returns-else-is_bad_shift-clause-exact : goal.returns-else-is_bad_shift-clause-exact
returns-else-is_bad_shift-clause-exact c = search rules

pub returns-else-is_bad_shift-clause-in_range : goal.returns-else-is_bad_shift-clause-in_range
returns-else-is_bad_shift-clause-in_range c = shift_in c.answer.result c.args.b (floor_by c.args.a (2 ^ unsigned_abs c.args.b)) c.args.t c.args.mode (returns-else-is_bad_shift-clause-exact c)

pub returns-else-is_bad_shift-clause-bad_shift : goal.returns-else-is_bad_shift-clause-bad_shift
returns-else-is_bad_shift-clause-bad_shift c = shift_cause c.answer.result c.args.b (floor_by c.args.a (2 ^ unsigned_abs c.args.b)) c.args.t c.args.mode (returns-else-is_bad_shift-clause-exact c)

pub returns-else-is_bad_shift-clause-overflow : goal.returns-else-is_bad_shift-clause-overflow
returns-else-is_bad_shift-clause-overflow c = shift_overflow_cause c.answer.result c.args.b (floor_by c.args.a (2 ^ unsigned_abs c.args.b)) c.args.t c.args.mode (returns-else-is_bad_shift-clause-exact c)
