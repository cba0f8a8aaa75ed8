use Rattle.std.proofs.Common.{arith}
use Rattle.std.proofs.lemmas.Grind.{common_steps}
use Rattle.zir_scope.proofs.Trees.{earlier_steps}
use Rattle.zir_astgen.specs.Calls.{calls_in, node_calls}
use Rattle.zir_astgen.proofs.CountLemmas.{count_done, count_node, count_token}
use Rattle.zir_astgen.proofs.CallLemmas.{calls_count}
use Rattle.zir_astgen.proofs.file.FileSource.+calls.Goals as goal

pub calls_in-loop-rest-preserved-in-Token : goal.calls_in-loop-rest-preserved-in-Token
calls_in-loop-rest-preserved-in-Token t c =
    let text = c.args.self.now.text.now in
    let tokens = c.args.self.now.outline.now.tokens.now in
    record {
      counted = count_token (calls_in text tokens) (node_calls text tokens) c.args.self.now.outline.now c.loop-rest.rest.now _ c.in-Token.field-0 c.loop-rest.calls.items _ (calls_count text tokens) (omega arith) c.in-Token.is c.loop-rest.invariant.counted;
      earlier = grind (arith, common_steps, earlier_steps);
    }

pub calls_in-loop-rest-preserved : goal.calls_in-loop-rest-preserved
calls_in-loop-rest-preserved t c =
    let text = c.args.self.now.text.now in
    let tokens = c.args.self.now.outline.now.tokens.now in
    record {
      counted = count_node (calls_in text tokens) (node_calls text tokens) c.args.self.now.outline.now c.loop-rest.rest.now _ c.in-Node.node c.loop-rest.calls.items c.node_calls.new.calls.items _ (calls_count text tokens) (omega arith) c.in-Node.is c.in_ok-node_calls-in-Node.ensures c.loop-rest.invariant.counted;
      earlier = grind (arith, common_steps, earlier_steps);
    }

pub calls_in-returns : goal.calls_in-returns
calls_in-returns t c =
    let text = c.args.self.now.text.now in
    let tokens = c.args.self.now.outline.now.tokens.now in
    count_done (calls_in text tokens) (node_calls text tokens) c.args.self.now.outline.now c.loop-rest.rest.now c.loop-rest.calls.items _ (calls_count text tokens) c.in_default.len_below c.loop-rest.invariant.counted
