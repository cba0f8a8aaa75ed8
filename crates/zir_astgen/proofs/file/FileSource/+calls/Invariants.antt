use Rattle.std.proofs.Common.{◌≡◌, ◌++◌, ◌+◌, ◌*◌, length, true}
use Rattle.zig_tree.specs.Nodes.{are_earlier}
use Rattle.zir_astgen.specs.Calls.{calls_in}
use Rattle.zir_scope.specs.Syntax.{row_in}
use Rattle.zir_astgen.proofs.file.FileSource.+calls.Given as goal

abbrev pub decreases-node_calls : goal.decreases-node_calls
decreases-node_calls l = 2 * l.node + 1

abbrev pub decreases-calls_in : goal.decreases-calls_in
decreases-calls_in l = 2 * l.before

abbrev pub invariant-calls_in-loop-rest : goal.invariant-calls_in-loop-rest
invariant-calls_in-loop-rest l = record {
  counted : l.calls.items ++ calls_in l.self.text.now l.self.outline.now.tokens.now (row_in l.self.outline.now l.rest) ≡ l.initial.calls.items ++ calls_in l.self.text.now l.self.outline.now.tokens.now (row_in l.self.outline.now l.row);
  earlier : are_earlier l.before l.rest ≡ true;
}

abbrev pub decreases-calls_in-loop-rest : goal.decreases-calls_in-loop-rest
decreases-calls_in-loop-rest l = length l.rest
