use Rattle.std.proofs.Common.{◌≡◌, length}
use Rattle.zir_scope.specs.Binders.{declarations_in}
use Rattle.zir_scope.specs.Scoping.{with_members}
use Rattle.zir_scope.specs.State.{seen}
use Rattle.zir_scope.specs.Syntax.{row_in}
use Rattle.zir_scope.proofs.scope.Scope.bind_members.Given as goal

abbrev pub invariant-loop-rest : goal.invariant-loop-rest
invariant-loop-rest l = record {
  others : seen l.self ≡ record (seen l.initial.self) { members = (seen l.self).members };
  same : with_members l.outline.facts.now l.begin (seen l.self).members (declarations_in (row_in l.outline l.rest))
      ≡ with_members l.outline.facts.now l.begin (seen l.initial.self).members (declarations_in (row_in l.outline l.row));
}

abbrev pub decreases-loop-rest : goal.decreases-loop-rest
decreases-loop-rest l = length l.rest
