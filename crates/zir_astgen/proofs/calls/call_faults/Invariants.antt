use Rattle.std.proofs.Common.{◌≡◌, ◌++◌, length}
use Rattle.std.specs.List.{filter_map}
use Rattle.zir_astgen.specs.Calls.{call_fault}
use Rattle.zir_astgen.proofs.calls.call_faults.Given as goal

abbrev pub invariant-loop-rest : goal.invariant-loop-rest
invariant-loop-rest l = l.found.items ++ filter_map (call_fault l.tokens) l.rest ≡ filter_map (call_fault l.tokens) l.calls

abbrev pub decreases-loop-rest : goal.decreases-loop-rest
decreases-loop-rest l = length l.rest
