use Rattle.std.proofs.Common.{◌≡◌, map, take}
use Rattle.wasm_link.specs.declared.named.Function.{Function}
use Rattle.wasm_link.specs.Link.{type_index}
use Rattle.wasm_link.proofs.linking.type_indices.Given as goal

abbrev pub invariant-loop-function : goal.invariant-loop-function
invariant-loop-function l = l.list.items ≡ map (λ (f : Function). type_index l.types f.code.kind) (take l.function-index l.functions)
