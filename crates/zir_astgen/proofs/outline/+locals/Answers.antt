use Rattle.std.proofs.Common.{arith}
use Rattle.std.proofs.lemmas.Grind.{common_steps}
use Rattle.zir_scope.proofs.Trees.{earlier_steps}
use Rattle.zir_astgen.specs.Held.{locals_of}
use Rattle.zir_astgen.specs.Outline.{own_locals}
use Rattle.zir_astgen.proofs.CountLemmas.{count_done, count_node, count_token}
use Rattle.zir_astgen.proofs.HeldLemmas.{locals_count}
use Rattle.zir_astgen.proofs.outline.+locals.Goals as goal

pub own_locals-loop-rest-preserved-in-Token : goal.own_locals-loop-rest-preserved-in-Token
own_locals-loop-rest-preserved-in-Token t c = record {
  counted = count_token own_locals locals_of c.args.outline.now c.loop-rest.rest.now _ c.in-Token.field-0 c.loop-rest.found.items _ locals_count (omega arith) c.in-Token.is c.loop-rest.invariant.counted;
  earlier = grind (arith, common_steps, earlier_steps);
}

pub own_locals-loop-rest-preserved : goal.own_locals-loop-rest-preserved
own_locals-loop-rest-preserved t c = record {
  counted = count_node own_locals locals_of c.args.outline.now c.loop-rest.rest.now _ c.in-Node.node c.loop-rest.found.items c.node_locals.new.found.items _ locals_count (omega arith) c.in-Node.is c.in_ok-node_locals-in-Node.ensures c.loop-rest.invariant.counted;
  earlier = grind (arith, common_steps, earlier_steps);
}

pub own_locals-returns : goal.own_locals-returns
own_locals-returns t c = count_done own_locals locals_of c.args.outline.now c.loop-rest.rest.now c.loop-rest.found.items _ locals_count c.in_default.len_below c.loop-rest.invariant.counted
