use Rattle.std.proofs.Common.{◌≡◌, take}
use Rattle.std.specs.List.{fold}
use Rattle.wasm_link.specs.Operands.{body_filled}
use Rattle.wasm_link.proofs.code.fill_body.Given as goal

abbrev pub invariant-loop-reloc : goal.invariant-loop-reloc
invariant-loop-reloc l = l.body.items ≡ fold (body_filled l.targets) l.initial.body.items (take l.reloc-index l.relocs)
