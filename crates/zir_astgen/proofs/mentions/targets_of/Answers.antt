use Rattle.std.proofs.Common.{arith}
use Rattle.std.specs.BTreeMap.{get}
use Rattle.std.specs.Ordering.{nat_cmp}
use Rattle.zir_scope.specs.declared.event.Event.TheVariants.{Mentions}
use Rattle.zir_scope.specs.declared.event.Target.TheVariants.{Local}
use Rattle.zir_astgen.proofs.IndexLemmas.{target_done, target_step}
use Rattle.zir_astgen.proofs.mentions.targets_of.Goals as goal

pub loop-rest-preserved : goal.loop-rest-preserved
loop-rest-preserved c q =
    target_step q c.loop-rest.rest.now (Mentions 0 (Local 0)) (get nat_cmp c.loop-rest.targets q) (get nat_cmp c.enter.new.targets q) _ (omega arith) (c.in_ok-enter.ensures q) (c.loop-rest.invariant q)

pub returns : goal.returns
returns c q = target_done q c.loop-rest.rest.now (get nat_cmp c.loop-rest.targets q) _ c.in_default.len_below (c.loop-rest.invariant q)
