use Rattle.std.proofs.Common.{subst, sym}
use Rattle.wasm_link.specs.NameTable.{AreNumbered}
use Rattle.wasm_link.proofs.NameLemmas.{AreNumbered-empty}
use Rattle.wasm_link.proofs.names.Names.new.Goals as goal

pub invariant_of-result : goal.invariant_of-result
invariant_of-result c = subst (AreNumbered c.new-2.result) (sym c.new.ensures.items) (AreNumbered-empty c.new-2.result c.new-2.ensures.empty)
