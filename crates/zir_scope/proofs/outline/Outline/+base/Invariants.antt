use Rattle.std.proofs.Common.{◌≡◌, ◌+◌, ◌*◌, length, true}
use Rattle.zig_tree.specs.Nodes.{are_earlier}
use Rattle.zir_scope.specs.Changes as spec
use Rattle.zir_scope.specs.Syntax.{row_in}
use Rattle.zir_scope.proofs.outline.Outline.+base.Given as goal

abbrev pub decreases-atom_base : goal.decreases-atom_base
decreases-atom_base l = 2 * l.before + 1

abbrev pub decreases-base : goal.decreases-base
decreases-base l = 2 * l.before

abbrev pub invariant-base-loop-rest : goal.invariant-base-loop-rest
invariant-base-loop-rest l = record {
  same : spec.base l.self.facts.now (row_in l.self l.rest) ≡ spec.base l.self.facts.now (row_in l.self l.row);
  earlier : are_earlier l.before l.rest ≡ true;
}

abbrev pub decreases-base-loop-rest : goal.decreases-base-loop-rest
decreases-base-loop-rest l = length l.rest
