use Rattle.std.proofs.Common.{◌≡◌, ◌++◌, take}
use Rattle.std.specs.List.{flat_map}
use Rattle.wasm_form.proofs.parts.put_all.Given as goal

-- the entries so far have been appended
abbrev pub invariant-loop-entry : goal.invariant-loop-entry
invariant-loop-entry g l = l.out.bytes ≡ l.initial.out.bytes ++ flat_map g.T.Encode.bytes (take l.entry-index l.entries)
