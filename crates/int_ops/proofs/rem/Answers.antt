use Rattle.std.proofs.Common.{pos, ap, of_z, ◌≡◌, ◌≢◌, ◌∙◌, int_rem, FitsSigned}
use Rattle.std.proofs.lemmas.Int.{to_z-of_z}
use Rattle.std.specs.Int.{w128}
use Rattle.int_ops.specs.IntOut.{outcome}
use Rattle.int_ops.proofs.Causes.{unless_zero_else}
use Rattle.int_ops.proofs.Causes.{zero_cause, division_overflow_cause}
use Rattle.int_ops.proofs.InRange.{division_in}
use Rattle.int_ops.proofs.rem.Goals as goal

pub returns-else-b-eq0-clause-exact : goal.returns-else-b-eq0-clause-exact
returns-else-b-eq0-clause-exact c =
    let nonzero : c.args.b ≢ pos 0 = λ e. c.if-b-eq0.false (ap (of_z w128) e) in
    let fits : FitsSigned w128 c.remainder.result = record { sfits = c.remainder.type_inv } in
    let value : c.remainder.result ≡ int_rem c.args.a c.args.b = rw (to_z-of_z w128 c.args.a c.ranges.a, to_z-of_z w128 c.args.b c.ranges.b) at c.remainder.ensures.value in
    rw (unless_zero_else c.args.b (outcome (int_rem c.args.a c.args.b) c.args.t c.args.mode) nonzero)
    (c.answer.ensures (int_rem c.args.a c.args.b) (to_z-of_z w128 c.remainder.result fits ∙ value))

pub returns-else-b-eq0-clause-in_range : goal.returns-else-b-eq0-clause-in_range
returns-else-b-eq0-clause-in_range c = division_in c.answer.result c.args.b (int_rem c.args.a c.args.b) c.args.t c.args.mode (returns-else-b-eq0-clause-exact c)

pub returns-else-b-eq0-clause-div_by_zero : goal.returns-else-b-eq0-clause-div_by_zero
returns-else-b-eq0-clause-div_by_zero c = zero_cause c.answer.result c.args.b (int_rem c.args.a c.args.b) c.args.t c.args.mode (returns-else-b-eq0-clause-exact c)

pub returns-else-b-eq0-clause-overflow : goal.returns-else-b-eq0-clause-overflow
returns-else-b-eq0-clause-overflow c = division_overflow_cause c.answer.result c.args.b (int_rem c.args.a c.args.b) c.args.t c.args.mode (returns-else-b-eq0-clause-exact c)
