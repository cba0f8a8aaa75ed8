use Rattle.std.proofs.Common.{◌≡◌, length}
use Rattle.zir_astgen.specs.Pieces.{Below}
use Rattle.zir_astgen.specs.Parts.{first_tree}
use Rattle.zir_astgen.specs.Writing.{parts, trees}
use Rattle.zir_astgen.proofs.writer.Writer.first_line.Given as goal

abbrev pub invariant-loop-rest : goal.invariant-loop-rest
invariant-loop-rest l = record {
  same : first_tree (parts l.self l.rest) ≡ first_tree (parts l.self l.row);
  below : Below (length (trees l.self)) l.rest;
}

abbrev pub decreases-loop-rest : goal.decreases-loop-rest
decreases-loop-rest l = length l.rest
