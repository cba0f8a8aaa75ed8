use Rattle.std.proofs.Common.{◌≡◌, ◌++◌, length}
use Rattle.zir_scope.specs.declared.event.Sort.TheVariants as sort
use Rattle.zir_scope.specs.Binders.{names_in}
use Rattle.zir_scope.specs.Scoping.{declare}
use Rattle.zir_scope.specs.State.{seen, Extends}
use Rattle.zir_scope.specs.Syntax.{row_in}
use Rattle.zir_scope.proofs.scope.Scope.declare_names.Given as goal

abbrev pub invariant-loop-rest : goal.invariant-loop-rest
invariant-loop-rest l = record {
  members : (seen l.self).members ≡ (seen l.initial.self).members;
  exits : (seen l.self).exits ≡ (seen l.initial.self).exits;
  same : (seen l.self).events ++ declare l.outline.facts.now sort.Constant (seen l.initial.self).members (seen l.self).locals (names_in (row_in l.outline l.rest))
      ≡ (seen l.initial.self).events ++ declare l.outline.facts.now sort.Constant (seen l.initial.self).members (seen l.initial.self).locals (names_in (row_in l.outline l.row));
  locals : Extends (seen l.initial.self).locals (seen l.self).locals;
}

abbrev pub decreases-loop-rest : goal.decreases-loop-rest
decreases-loop-rest l = length l.rest
