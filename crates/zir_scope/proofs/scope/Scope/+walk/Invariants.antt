use Rattle.std.proofs.Common.{◌≡◌, ◌++◌, ◌+◌, ◌*◌, length, true}
use Rattle.zig_tree.specs.Nodes.{are_earlier}
use Rattle.zir_scope.specs.Scoping.{walk}
use Rattle.zir_scope.specs.State.{seen, place, Extends}
use Rattle.zir_scope.specs.Syntax.{row_in}
use Rattle.zir_scope.proofs.scope.Scope.+walk.Given as goal

abbrev pub decreases-visit : goal.decreases-visit
decreases-visit l = 2 * l.node + 1

abbrev pub decreases-walk : goal.decreases-walk
decreases-walk l = 2 * l.before

abbrev pub invariant-walk-loop-rest : goal.invariant-walk-loop-rest
invariant-walk-loop-rest l = record {
  events : (seen l.self).events ++ walk l.outline.facts.now (place l.outline (seen l.self) l.now) (row_in l.outline l.rest)
      ≡ (seen l.initial.self).events ++ walk l.outline.facts.now (place l.outline (seen l.initial.self) l.fn.context) (row_in l.outline l.row);
  members : (seen l.self).members ≡ (seen l.initial.self).members;
  exits : (seen l.self).exits ≡ (seen l.initial.self).exits;
  locals : Extends (seen l.initial.self).locals (seen l.self).locals;
  earlier : are_earlier l.before l.rest ≡ true;
}

abbrev pub decreases-walk-loop-rest : goal.decreases-walk-loop-rest
decreases-walk-loop-rest l = length l.rest
