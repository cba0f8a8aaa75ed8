use Rattle.std.proofs.Common.{rules}
use Rattle.int_ops.proofs.InRange.{residue_along}
use Rattle.int_ops.proofs.range.wrapped_into.Goals as goal

pub returns-then-residue-power_of_two-clause-value : goal.returns-then-residue-power_of_two-clause-value
returns-then-residue-power_of_two-clause-value c = search rules

pub returns-then-residue-power_of_two-clause-same_residue : goal.returns-then-residue-power_of_two-clause-same_residue
returns-then-residue-power_of_two-clause-same_residue c = residue_along c.args.t _ c.args.left (returns-then-residue-power_of_two-clause-value c)

pub returns-else-residue-power_of_two-clause-value : goal.returns-else-residue-power_of_two-clause-value
returns-else-residue-power_of_two-clause-value c = search rules

pub returns-else-residue-power_of_two-clause-same_residue : goal.returns-else-residue-power_of_two-clause-same_residue
returns-else-residue-power_of_two-clause-same_residue c = residue_along c.args.t _ c.args.left (returns-else-residue-power_of_two-clause-value c)

pub returns-in-Unsigned-clause-value : goal.returns-in-Unsigned-clause-value
returns-in-Unsigned-clause-value c = search rules

pub returns-in-Unsigned-clause-same_residue : goal.returns-in-Unsigned-clause-same_residue
returns-in-Unsigned-clause-same_residue c = residue_along c.args.t _ c.args.left (returns-in-Unsigned-clause-value c)
