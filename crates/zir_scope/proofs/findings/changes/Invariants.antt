use Rattle.std.proofs.Common.{◌≡◌, ◌++◌, length}
use Rattle.zir_scope.specs.Findings.{changes}
use Rattle.zir_scope.proofs.findings.changes.Given as goal

abbrev pub invariant-loop-rest : goal.invariant-loop-rest
invariant-loop-rest l = l.changed.entries ++ changes l.rest ≡ changes l.events

abbrev pub decreases-loop-rest : goal.decreases-loop-rest
decreases-loop-rest l = length l.rest
