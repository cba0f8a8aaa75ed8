use Rattle.std.proofs.Common.{◌≡◌, ◌++◌, ◌+◌, length}
use Rattle.zir_form.specs.Names.{first_names}
use Rattle.zir_scope.specs.Facts.{facts_from}
use Rattle.zir_scope.proofs.facts.facts_of.Given as goal

abbrev pub invariant-loop-rest : goal.invariant-loop-rest
invariant-loop-rest l = record {
  found : l.facts.items ++ facts_from l.text (first_names l.text l.tokens) l.at l.rest ≡ facts_from l.text (first_names l.text l.tokens) 0 l.tokens;
  count : l.at + length l.rest ≡ length l.tokens;
}

abbrev pub decreases-loop-rest : goal.decreases-loop-rest
decreases-loop-rest l = length l.rest
