use Rattle.std.proofs.Common.{arith}
use Rattle.std.specs.BTreeMap.{get}
use Rattle.std.specs.Ordering.{nat_cmp}
use Rattle.zir_astgen.specs.Indexed.{items_of}
use Rattle.zir_astgen.proofs.IndexLemmas.{locals_done, locals_step}
use Rattle.zir_astgen.proofs.captured.locals_of.Goals as goal

pub loop-rest-preserved : goal.loop-rest-preserved
loop-rest-preserved c q =
    locals_step q c.loop-rest.rest.now (record { container = 0; local = 0 }) (items_of (get nat_cmp c.loop-rest.locals q)) (items_of (get nat_cmp c.enter.new.locals q)) _ (omega arith) (c.in_ok-enter.ensures q) (c.loop-rest.invariant q)

pub returns : goal.returns
returns c q = locals_done q c.loop-rest.rest.now (items_of (get nat_cmp c.loop-rest.locals q)) _ c.in_default.len_below (c.loop-rest.invariant q)
