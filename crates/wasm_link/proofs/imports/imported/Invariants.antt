use Rattle.std.proofs.Common.{◌≡◌, [], drop}
use Rattle.std.specs.List.{flat_map, fold}
use Rattle.wasm_link.specs.Imports.{function_externs, with_extern}
use Rattle.wasm_link.proofs.imports.imported.Given as goal

abbrev pub invariant-loop-function : goal.invariant-loop-function
invariant-loop-function l = fold with_extern l.called (flat_map function_externs (drop l.function-index l.functions)) ≡ fold with_extern [] (flat_map function_externs l.functions)
