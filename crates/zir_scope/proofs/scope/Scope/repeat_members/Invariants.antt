use Rattle.std.proofs.Common.{◌≡◌, ◌++◌, [], length}
use Rattle.zir_scope.specs.Binders.{members_in}
use Rattle.zir_scope.specs.Scoping.{repeated}
use Rattle.zir_scope.specs.State.{seen}
use Rattle.zir_scope.specs.Syntax.{row_in}
use Rattle.zir_scope.proofs.scope.Scope.repeat_members.Given as goal

abbrev pub invariant-loop-rest : goal.invariant-loop-rest
invariant-loop-rest l = record {
  others : seen l.self ≡ record (seen l.initial.self) { events = (seen l.self).events };
  same : (seen l.self).events ++ repeated l.outline.facts.now l.self.scratch.entries (members_in (row_in l.outline l.rest))
      ≡ (seen l.initial.self).events ++ repeated l.outline.facts.now [] (members_in (row_in l.outline l.row));
}

abbrev pub decreases-loop-rest : goal.decreases-loop-rest
decreases-loop-rest l = length l.rest
