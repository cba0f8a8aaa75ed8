use Rattle.std.proofs.Common.{◌≡◌, take}
use Rattle.std.specs.List.{fold}
use Rattle.wasm_link.specs.Operands.{bytes_filled}
use Rattle.wasm_link.proofs.bytes.item_bytes.Given as goal

abbrev pub invariant-loop-reloc : goal.invariant-loop-reloc
invariant-loop-reloc l = l.filled.items ≡ fold (bytes_filled l.targets) l.initial.filled.items (take l.reloc-index l.reloc-items)
