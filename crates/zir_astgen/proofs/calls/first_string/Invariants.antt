use Rattle.std.proofs.Common.{◌≡◌, length}
use Rattle.zir_astgen.specs.Calls.{first_string}
use Rattle.zir_scope.specs.Syntax.{row_in}
use Rattle.zir_astgen.proofs.calls.first_string.Given as goal

abbrev pub invariant-loop-rest : goal.invariant-loop-rest
invariant-loop-rest l = first_string (row_in l.outline l.rest) ≡ first_string (row_in l.outline l.row)

abbrev pub decreases-loop-rest : goal.decreases-loop-rest
decreases-loop-rest l = length l.rest
