use Rattle.std.proofs.Common.{◌≡◌, ◌++◌, drop}
use Rattle.wasm_link.specs.Link.{grouped_after}
use Rattle.wasm_link.proofs.code.grouped_after.Given as goal

abbrev pub invariant-loop-kind : goal.invariant-loop-kind
invariant-loop-kind l = l.groups.items ++ grouped_after l.group (drop l.kind-index l.kinds) ≡ grouped_after l.fn.first l.kinds
