use Rattle.std.proofs.Common.{◌≡◌, ◌+◌, ◌≤◌, length}
use Rattle.zir_astgen.specs.Calls.{node_count}
use Rattle.zir_scope.specs.Syntax.{row_in}
use Rattle.zir_astgen.proofs.calls.node_count.Given as goal

abbrev pub invariant-loop-rest : goal.invariant-loop-rest
invariant-loop-rest l = record {
  count : l.count + node_count (row_in l.outline l.rest) ≡ node_count (row_in l.outline l.row);
  bound : l.count + length l.rest ≤ length l.row;
}

abbrev pub decreases-loop-rest : goal.decreases-loop-rest
decreases-loop-rest l = length l.rest
