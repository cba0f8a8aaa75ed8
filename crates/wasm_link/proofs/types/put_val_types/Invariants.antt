use Rattle.std.proofs.Common.{◌≡◌, ◌++◌, take}
use Rattle.std.specs.List.{flat_map}
use Rattle.wasm_form.specs.Binary.{val_type_bytes}
use Rattle.wasm_link.proofs.types.put_val_types.Given as goal

abbrev pub invariant-loop-kind : goal.invariant-loop-kind
invariant-loop-kind l = l.out.bytes ≡ l.initial.out.bytes ++ flat_map val_type_bytes (take l.kind-index l.kinds)
