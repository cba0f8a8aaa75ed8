use Rattle.std.proofs.Common.{◌≡◌, length}
use Rattle.zir_astgen.specs.Pieces.{Below}
use Rattle.zir_astgen.specs.Parts.{tree_of_rule}
use Rattle.zir_astgen.specs.Writing.{parts, trees}
use Rattle.zir_astgen.proofs.writer.Writer.line_of_rule.Given as goal

abbrev pub invariant-loop-rest : goal.invariant-loop-rest
invariant-loop-rest l = record {
  same : tree_of_rule l.wanted (parts l.self l.rest) ≡ tree_of_rule l.wanted (parts l.self l.row);
  below : Below (length (trees l.self)) l.rest;
}

abbrev pub decreases-loop-rest : goal.decreases-loop-rest
decreases-loop-rest l = length l.rest
