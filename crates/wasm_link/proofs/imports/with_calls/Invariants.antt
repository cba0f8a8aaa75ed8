use Rattle.std.proofs.Common.{◌≡◌, drop}
use Rattle.std.specs.List.{flat_map, fold}
use Rattle.wasm_link.specs.Imports.{reloc_externs, with_extern}
use Rattle.wasm_link.proofs.imports.with_calls.Given as goal

abbrev pub invariant-loop-reloc : goal.invariant-loop-reloc
invariant-loop-reloc l = fold with_extern l.called (flat_map reloc_externs (drop l.reloc-index l.relocs)) ≡ fold with_extern l.initial.called (flat_map reloc_externs l.relocs)
