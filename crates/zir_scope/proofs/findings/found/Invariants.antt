use Rattle.std.proofs.Common.{◌≡◌, ◌++◌, length}
use Rattle.zir_scope.specs.Findings.{found_from, uses, changes}
use Rattle.zir_scope.proofs.findings.found.Given as goal

abbrev pub invariant-loop-rest : goal.invariant-loop-rest
invariant-loop-rest l = record {
  found : l.findings.found.items ++ found_from l.tokens l.findings.used.entries l.findings.changed.entries l.rest
      ≡ found_from l.tokens (uses l.events) (changes l.events) l.events;
}

abbrev pub decreases-loop-rest : goal.decreases-loop-rest
decreases-loop-rest l = length l.rest
