use Rattle.std.proofs.Common.{◌≡◌, length}
use Rattle.zir_astgen.specs.Outline.{brace_of}
use Rattle.zir_scope.specs.Syntax.{row_in}
use Rattle.zir_astgen.proofs.outline.brace_of.Given as goal

abbrev pub invariant-loop-rest : goal.invariant-loop-rest
invariant-loop-rest l = brace_of (row_in l.outline l.rest) ≡ brace_of (row_in l.outline l.row)

abbrev pub decreases-loop-rest : goal.decreases-loop-rest
decreases-loop-rest l = length l.rest
