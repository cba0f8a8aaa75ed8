use Rattle.std.proofs.Common.{◌≡◌, []}
use Rattle.std.specs.List.{fold}
use Rattle.wasm_link.specs.Operands.{with_item}
use Rattle.wasm_link.proofs.bytes.data_bytes.Given as goal

abbrev pub invariant-loop-item : goal.invariant-loop-item
invariant-loop-item l = l.laid.items ≡ fold (with_item l.targets) [] l.yielded
