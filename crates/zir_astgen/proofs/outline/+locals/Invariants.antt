use Rattle.std.proofs.Common.{◌≡◌, ◌++◌, ◌+◌, ◌*◌, length, true}
use Rattle.zig_tree.specs.Nodes.{are_earlier}
use Rattle.zir_astgen.specs.Outline.{own_locals}
use Rattle.zir_scope.specs.Syntax.{row_in}
use Rattle.zir_astgen.proofs.outline.+locals.Given as goal

abbrev pub decreases-node_locals : goal.decreases-node_locals
decreases-node_locals l = 2 * l.node + 1

abbrev pub decreases-own_locals : goal.decreases-own_locals
decreases-own_locals l = 2 * l.before

abbrev pub invariant-own_locals-loop-rest : goal.invariant-own_locals-loop-rest
invariant-own_locals-loop-rest l = record {
  counted : l.found.items ++ own_locals (row_in l.outline l.rest) ≡ l.initial.found.items ++ own_locals (row_in l.outline l.row);
  earlier : are_earlier l.before l.rest ≡ true;
}

abbrev pub decreases-own_locals-loop-rest : goal.decreases-own_locals-loop-rest
decreases-own_locals-loop-rest l = length l.rest
