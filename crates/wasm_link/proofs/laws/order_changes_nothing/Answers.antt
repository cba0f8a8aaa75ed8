use Rattle.wasm_link.proofs.Law.{linked-permutation}
use Rattle.wasm_link.proofs.laws.order_changes_nothing.Goals as goal

pub returns : goal.returns
returns c = linked-permutation
