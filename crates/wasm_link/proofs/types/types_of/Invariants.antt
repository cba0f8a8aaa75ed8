use Rattle.std.proofs.Common.{◌≡◌, [], map, take}
use Rattle.std.specs.List.{fold}
use Rattle.wasm_form.specs.Binary.{fn_type_bytes}
use Rattle.wasm_form.specs.declared.linked.ExternFunction.{ExternFunction}
use Rattle.wasm_link.specs.declared.named.Function.{Function}
use Rattle.wasm_link.specs.Names.{with_new}
use Rattle.wasm_link.proofs.types.types_of.Given as goal

abbrev pub invariant-loop-host : goal.invariant-loop-host
invariant-loop-host l = l.types ≡ fold (with_new fn_type_bytes) [] (map (λ (e : ExternFunction). e.kind) (take l.host-index l.imports))

abbrev pub invariant-loop-function : goal.invariant-loop-function
invariant-loop-function l = l.types ≡ fold (with_new fn_type_bytes) l.initial.types (map (λ (f : Function). f.code.kind) (take l.function-index l.functions))
