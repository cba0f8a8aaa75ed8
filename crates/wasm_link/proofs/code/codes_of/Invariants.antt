use Rattle.std.proofs.Common.{◌≡◌, map}
use Rattle.wasm_link.specs.declared.named.Function.{Function}
use Rattle.wasm_link.specs.Link.{linked_code}
use Rattle.wasm_link.proofs.code.codes_of.Given as goal

abbrev pub invariant-loop-function : goal.invariant-loop-function
invariant-loop-function l = l.codes.items ≡ map (λ (f : Function). linked_code l.targets f.code) l.yielded
