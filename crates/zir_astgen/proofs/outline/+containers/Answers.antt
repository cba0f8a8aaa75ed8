use Rattle.std.proofs.Common.{arith}
use Rattle.std.proofs.lemmas.Grind.{common_steps}
use Rattle.zir_scope.proofs.Trees.{earlier_steps}
use Rattle.zir_astgen.specs.Held.{containers_of}
use Rattle.zir_astgen.specs.Outline.{own_containers}
use Rattle.zir_astgen.proofs.CountLemmas.{count_done, count_node, count_token}
use Rattle.zir_astgen.proofs.HeldLemmas.{containers_count}
use Rattle.zir_astgen.proofs.outline.+containers.Goals as goal

pub own_containers-loop-rest-preserved-in-Token : goal.own_containers-loop-rest-preserved-in-Token
own_containers-loop-rest-preserved-in-Token t c = record {
  counted = count_token own_containers containers_of c.args.outline.now c.loop-rest.rest.now _ c.in-Token.field-0 c.loop-rest.found.items _ containers_count (omega arith) c.in-Token.is c.loop-rest.invariant.counted;
  earlier = grind (arith, common_steps, earlier_steps);
}

pub own_containers-loop-rest-preserved : goal.own_containers-loop-rest-preserved
own_containers-loop-rest-preserved t c = record {
  counted = count_node own_containers containers_of c.args.outline.now c.loop-rest.rest.now _ c.in-Node.node c.loop-rest.found.items c.node_containers.new.found.items _ containers_count (omega arith) c.in-Node.is c.in_ok-node_containers-in-Node.ensures c.loop-rest.invariant.counted;
  earlier = grind (arith, common_steps, earlier_steps);
}

pub own_containers-returns : goal.own_containers-returns
own_containers-returns t c = count_done own_containers containers_of c.args.outline.now c.loop-rest.rest.now c.loop-rest.found.items _ containers_count c.in_default.len_below c.loop-rest.invariant.counted
