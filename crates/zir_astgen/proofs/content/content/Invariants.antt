use Rattle.std.proofs.Common.{◌≡◌, length}
use Rattle.zir_astgen.specs.Files.{content_of, content_rule}
use Rattle.zir_scope.specs.Syntax.{row_in}
use Rattle.zir_astgen.proofs.content.content.Given as goal

abbrev pub invariant-loop-rest : goal.invariant-loop-rest
invariant-loop-rest l = record {
  rule : content_rule (row_in l.outline l.rest) ≡ content_rule (row_in l.outline l.row);
  held : content_of (row_in l.outline l.rest) ≡ content_of (row_in l.outline l.row);
}

abbrev pub decreases-loop-rest : goal.decreases-loop-rest
decreases-loop-rest l = length l.rest
