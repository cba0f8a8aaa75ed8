use Rattle.std.proofs.Common.{rules}
use Rattle.int_ops.specs.Division.{int_floor_div}
use Rattle.int_ops.proofs.Causes.{zero_cause, division_overflow_cause}
use Rattle.int_ops.proofs.InRange.{division_in}
use Rattle.int_ops.proofs.div_floor.Goals as goal

pub returns-else-b-eq0-clause-exact : goal.returns-else-b-eq0-clause-exact
returns-else-b-eq0-clause-exact c = search rules

pub returns-else-b-eq0-clause-in_range : goal.returns-else-b-eq0-clause-in_range
returns-else-b-eq0-clause-in_range c = division_in c.answer.result c.args.b (int_floor_div c.args.a c.args.b) c.args.t c.args.mode (returns-else-b-eq0-clause-exact c)

pub returns-else-b-eq0-clause-div_by_zero : goal.returns-else-b-eq0-clause-div_by_zero
returns-else-b-eq0-clause-div_by_zero c = zero_cause c.answer.result c.args.b (int_floor_div c.args.a c.args.b) c.args.t c.args.mode (returns-else-b-eq0-clause-exact c)

pub returns-else-b-eq0-clause-overflow : goal.returns-else-b-eq0-clause-overflow
returns-else-b-eq0-clause-overflow c = division_overflow_cause c.answer.result c.args.b (int_floor_div c.args.a c.args.b) c.args.t c.args.mode (returns-else-b-eq0-clause-exact c)
