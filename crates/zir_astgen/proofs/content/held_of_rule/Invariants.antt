use Rattle.std.proofs.Common.{◌≡◌, length}
use Rattle.zir_astgen.specs.Files.{inside_of_rule}
use Rattle.zir_scope.specs.Syntax.{row_in}
use Rattle.zir_astgen.proofs.content.held_of_rule.Given as goal

abbrev pub invariant-loop-rest : goal.invariant-loop-rest
invariant-loop-rest l = inside_of_rule l.wanted (row_in l.outline l.rest) ≡ inside_of_rule l.wanted (row_in l.outline l.row)

abbrev pub decreases-loop-rest : goal.decreases-loop-rest
decreases-loop-rest l = length l.rest
