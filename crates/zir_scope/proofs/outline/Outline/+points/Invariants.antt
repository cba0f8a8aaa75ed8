use Rattle.std.proofs.Common.{◌≡◌, length, true}
use Rattle.zig_tree.specs.Nodes.{are_earlier}
use Rattle.zir_scope.specs.Changes as spec
use Rattle.zir_scope.specs.Syntax.{row_in}
use Rattle.zir_scope.proofs.outline.Outline.+points.Given as goal

abbrev pub decreases-points : goal.decreases-points
decreases-points l = l.before

abbrev pub invariant-loop-rest : goal.invariant-loop-rest
invariant-loop-rest l = record {
  same : spec.points (row_in l.self l.rest) ≡ spec.points (row_in l.self l.row);
  earlier : are_earlier l.before l.rest ≡ true;
}

abbrev pub decreases-loop-rest : goal.decreases-loop-rest
decreases-loop-rest l = length l.rest
