use Rattle.std.proofs.Common.{◌≡◌, map, take}
use Rattle.wasm_link.proofs.spelled.names_of.Given as goal

abbrev pub invariant-loop-value : goal.invariant-loop-value
invariant-loop-value g l = l.names ≡ map g.T.Spelled.spelling (take l.value-index l.values)
