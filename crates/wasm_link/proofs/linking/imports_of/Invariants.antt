use Rattle.std.proofs.Common.{◌≡◌, map}
use Rattle.wasm_link.specs.Link.{import_of}
use Rattle.wasm_link.proofs.linking.imports_of.Given as goal

abbrev pub invariant-loop-host : goal.invariant-loop-host
invariant-loop-host l = l.list.items ≡ map (import_of l.types) l.yielded
