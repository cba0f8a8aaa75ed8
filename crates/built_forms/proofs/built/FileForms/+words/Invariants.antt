use Rattle.std.proofs.Common.{◌≡◌, ◌+◌, ◌*◌, length, true}
use Rattle.zig_tree.specs.Nodes.{are_earlier}
use Rattle.built_forms.specs.Unbuilt.{first_word}
use Rattle.zir_scope.specs.Syntax.{row_in}
use Rattle.built_forms.proofs.built.FileForms.+words.Given as goal

abbrev pub decreases-first_at : goal.decreases-first_at
decreases-first_at l = 2 * l.node + 1

abbrev pub decreases-first_word : goal.decreases-first_word
decreases-first_word l = 2 * l.before

abbrev pub invariant-first_word-loop-rest : goal.invariant-first_word-loop-rest
invariant-first_word-loop-rest l = record {
  same : first_word (row_in l.self.outline.now l.rest) ≡ first_word (row_in l.self.outline.now l.row);
  earlier : are_earlier l.before l.rest ≡ true;
}

abbrev pub decreases-first_word-loop-rest : goal.decreases-first_word-loop-rest
decreases-first_word-loop-rest l = length l.rest
