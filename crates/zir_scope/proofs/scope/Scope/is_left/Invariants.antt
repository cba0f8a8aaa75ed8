use Rattle.std.proofs.Common.{◌≡◌, length, false}
use Rattle.zir_scope.specs.Scoping.{is_left}
use Rattle.zir_scope.proofs.scope.Scope.is_left.Given as goal

abbrev pub invariant-loop-rest : goal.invariant-loop-rest
invariant-loop-rest l = is_left l.on l.label l.outer l.rest ≡ is_left l.on l.label false l.self.exits.items

abbrev pub decreases-loop-rest : goal.decreases-loop-rest
decreases-loop-rest l = length l.rest
