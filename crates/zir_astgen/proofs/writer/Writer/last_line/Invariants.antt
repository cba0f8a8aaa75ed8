use Rattle.std.proofs.Common.{◌≡◌, ◌<◌, length}
use Rattle.zir_astgen.specs.Pieces.{Below}
use Rattle.zir_form.specs.Core as core
use Rattle.zir_form.specs.Lines.{tree_at}
use Rattle.zir_astgen.specs.Parts.{last_tree}
use Rattle.zir_astgen.specs.Writing.{parts, trees}
use Rattle.zir_astgen.proofs.writer.Writer.last_line.Given as goal

abbrev pub invariant-loop-rest : goal.invariant-loop-rest
invariant-loop-rest l = record {
  same : last_tree (tree_at (trees l.self) l.last) (parts l.self l.rest) ≡ last_tree core.absent (parts l.self l.row);
  inside : l.last < length (trees l.self);
  below : Below (length (trees l.self)) l.rest;
}

abbrev pub decreases-loop-rest : goal.decreases-loop-rest
decreases-loop-rest l = length l.rest
