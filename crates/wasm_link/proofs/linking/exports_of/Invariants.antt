use Rattle.std.proofs.Common.{◌≡◌}
use Rattle.wasm_link.specs.Link.{exports_of}
use Rattle.wasm_link.proofs.linking.exports_of.Given as goal

abbrev pub invariant-loop-export : goal.invariant-loop-export
invariant-loop-export l = l.list.items ≡ exports_of l.yielded
