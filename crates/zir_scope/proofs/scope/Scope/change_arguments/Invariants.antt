use Rattle.std.proofs.Common.{◌≡◌, ◌++◌, length}
use Rattle.zir_scope.specs.Changes.{argument_bases}
use Rattle.zir_scope.specs.Scoping.{changed}
use Rattle.zir_scope.specs.State.{seen}
use Rattle.zir_scope.specs.Syntax.{row_in}
use Rattle.zir_scope.proofs.scope.Scope.change_arguments.Given as goal

abbrev pub invariant-loop-rest : goal.invariant-loop-rest
invariant-loop-rest l = record {
  others : seen l.self ≡ record (seen l.initial.self) { events = (seen l.self).events };
  same : (seen l.self).events ++ changed l.outline.facts.now (seen l.initial.self).locals (seen l.initial.self).members (argument_bases l.outline.facts.now l.left (row_in l.outline l.rest))
      ≡ (seen l.initial.self).events ++ changed l.outline.facts.now (seen l.initial.self).locals (seen l.initial.self).members (argument_bases l.outline.facts.now l.flags (row_in l.outline l.row));
}

abbrev pub decreases-loop-rest : goal.decreases-loop-rest
decreases-loop-rest l = length l.rest
