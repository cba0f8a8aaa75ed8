use Rattle.std.proofs.Common.{◌≡◌, ◌+◌, ◌++◌, drop}
use Rattle.wasm_link.specs.Exports.{exports_from}
use Rattle.wasm_link.proofs.exports.exports_from.Given as goal

abbrev pub invariant-loop-k : goal.invariant-loop-k
invariant-loop-k l = l.exports.items ++ exports_from (l.first + l.k) (drop l.k l.functions) ≡ exports_from l.first l.functions
