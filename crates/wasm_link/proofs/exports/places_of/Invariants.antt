use Rattle.std.proofs.Common.{◌≡◌}
use Rattle.wasm_link.specs.Exports.{places_of}
use Rattle.wasm_link.proofs.exports.places_of.Given as goal

abbrev pub invariant-loop-function : goal.invariant-loop-function
invariant-loop-function l = l.places.items ≡ places_of l.name l.yielded
