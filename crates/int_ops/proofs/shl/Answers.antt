use Rattle.std.proofs.Common.{rules, pos, unsigned_abs, ◌*ℤ◌, ◌^◌}
use Rattle.std.proofs.Common.{arith, sym, false, ◌≡◌, ◌∙◌}
use Rattle.std.proofs.lemmas.Int.{ints, to_z-of_z}
use Rattle.std.specs.Int.{w128}
use Rattle.int_ops.specs.IntOut.{is_bad_shift}
use Rattle.int_ops.proofs.Shifts.{far_answer}
use Rattle.int_ops.proofs.Causes.{shift_cause, shift_overflow_cause}
use Rattle.int_ops.proofs.InRange.{shift_in}
use Rattle.int_ops.proofs.shl.Goals as goal

pub returns-then-b-lt127-clause-exact : goal.returns-then-b-lt127-clause-exact
returns-then-b-lt127-clause-exact c = search rules

pub returns-then-b-lt127-clause-in_range : goal.returns-then-b-lt127-clause-in_range
returns-then-b-lt127-clause-in_range c = shift_in c.answer.result c.args.b (c.args.a *ℤ pos (2 ^ unsigned_abs c.args.b)) c.args.t c.args.mode (returns-then-b-lt127-clause-exact c)

pub returns-then-b-lt127-clause-bad_shift : goal.returns-then-b-lt127-clause-bad_shift
returns-then-b-lt127-clause-bad_shift c = shift_cause c.answer.result c.args.b (c.args.a *ℤ pos (2 ^ unsigned_abs c.args.b)) c.args.t c.args.mode (returns-then-b-lt127-clause-exact c)

pub returns-then-b-lt127-clause-overflow : goal.returns-then-b-lt127-clause-overflow
returns-then-b-lt127-clause-overflow c = shift_overflow_cause c.answer.result c.args.b (c.args.a *ℤ pos (2 ^ unsigned_abs c.args.b)) c.args.t c.args.mode (returns-then-b-lt127-clause-exact c)

pub returns-else-b-lt127-clause-exact : goal.returns-else-b-lt127-clause-exact
returns-else-b-lt127-clause-exact c =
    let good : is_bad_shift c.args.b c.args.t ≡ false = sym (rw (to_z-of_z w128 c.args.b c.ranges.b) at c.is_bad_shift.ensures) ∙ c.if-is_bad_shift.false in
    far_answer c.doubled_far.result c.args.a c.args.b c.args.t c.args.mode (omega (arith, ints)) good
    (rw (to_z-of_z w128 c.args.a c.ranges.a, to_z-of_z w128 c.args.b c.ranges.b) at c.doubled_far.ensures c.args.mode)

pub returns-else-b-lt127-clause-in_range : goal.returns-else-b-lt127-clause-in_range
returns-else-b-lt127-clause-in_range c = shift_in c.doubled_far.result c.args.b (c.args.a *ℤ pos (2 ^ unsigned_abs c.args.b)) c.args.t c.args.mode (returns-else-b-lt127-clause-exact c)

pub returns-else-b-lt127-clause-bad_shift : goal.returns-else-b-lt127-clause-bad_shift
returns-else-b-lt127-clause-bad_shift c = shift_cause c.doubled_far.result c.args.b (c.args.a *ℤ pos (2 ^ unsigned_abs c.args.b)) c.args.t c.args.mode (returns-else-b-lt127-clause-exact c)

pub returns-else-b-lt127-clause-overflow : goal.returns-else-b-lt127-clause-overflow
returns-else-b-lt127-clause-overflow c = shift_overflow_cause c.doubled_far.result c.args.b (c.args.a *ℤ pos (2 ^ unsigned_abs c.args.b)) c.args.t c.args.mode (returns-else-b-lt127-clause-exact c)
