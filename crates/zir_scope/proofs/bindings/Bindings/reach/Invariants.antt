use Rattle.std.proofs.Common.{◌≡◌, ◌+◌, ◌-◌}
use Rattle.zir_scope.proofs.bindings.Bindings.reach.Given as goal

abbrev pub invariant-loop-self : goal.invariant-loop-self
invariant-loop-self l = l.self.entries ≡ l.initial.self.entries

abbrev pub decreases-loop-self : goal.decreases-loop-self
decreases-loop-self l = l.name + 1 - l.self.names
