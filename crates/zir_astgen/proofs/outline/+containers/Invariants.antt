use Rattle.std.proofs.Common.{◌≡◌, ◌++◌, ◌+◌, ◌*◌, length, true}
use Rattle.zig_tree.specs.Nodes.{are_earlier}
use Rattle.zir_astgen.specs.Outline.{own_containers}
use Rattle.zir_scope.specs.Syntax.{row_in}
use Rattle.zir_astgen.proofs.outline.+containers.Given as goal

abbrev pub decreases-node_containers : goal.decreases-node_containers
decreases-node_containers l = 2 * l.node + 1

abbrev pub decreases-own_containers : goal.decreases-own_containers
decreases-own_containers l = 2 * l.before

abbrev pub invariant-own_containers-loop-rest : goal.invariant-own_containers-loop-rest
invariant-own_containers-loop-rest l = record {
  counted : l.found.items ++ own_containers (row_in l.outline l.rest) ≡ l.initial.found.items ++ own_containers (row_in l.outline l.row);
  earlier : are_earlier l.before l.rest ≡ true;
}

abbrev pub decreases-own_containers-loop-rest : goal.decreases-own_containers-loop-rest
decreases-own_containers-loop-rest l = length l.rest
