use Rattle.std.proofs.Common.{◌≡◌, length}
use Rattle.zir_scope.specs.Binders.{names_in}
use Rattle.zir_scope.specs.Scoping.{bind}
use Rattle.zir_scope.specs.State.{seen}
use Rattle.zir_scope.specs.Syntax.{row_in}
use Rattle.zir_scope.proofs.scope.Scope.bind_row.Given as goal

abbrev pub invariant-loop-rest : goal.invariant-loop-rest
invariant-loop-rest l = record {
  others : seen l.self ≡ record (seen l.initial.self) { locals = (seen l.self).locals };
  same : bind l.outline.facts.now (seen l.initial.self).members (seen l.self).locals (names_in (row_in l.outline l.rest))
      ≡ bind l.outline.facts.now (seen l.initial.self).members (seen l.initial.self).locals (names_in (row_in l.outline l.row));
}

abbrev pub decreases-loop-rest : goal.decreases-loop-rest
decreases-loop-rest l = length l.rest
