use Rattle.std.proofs.Common.{◌≡◌, length}
use Rattle.wasm_link.specs.Exports.{double_name}
use Rattle.wasm_link.proofs.exports.double_name.Given as goal

abbrev pub invariant-loop-rest : goal.invariant-loop-rest
invariant-loop-rest l = double_name l.rest ≡ double_name l.exports

abbrev pub decreases-loop-rest : goal.decreases-loop-rest
decreases-loop-rest l = length l.rest
