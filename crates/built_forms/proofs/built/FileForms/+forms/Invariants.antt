use Rattle.std.proofs.Common.{◌≡◌, ◌+◌, ◌*◌, length, true}
use Rattle.zig_tree.specs.Nodes.{are_earlier}
use Rattle.built_forms.specs.Built.{words_of}
use Rattle.built_forms.specs.Unbuilt.{unbuilt_in}
use Rattle.zir_scope.specs.Syntax.{row_in}
use Rattle.built_forms.proofs.built.FileForms.+forms.Given as goal

abbrev pub decreases-unbuilt_at : goal.decreases-unbuilt_at
decreases-unbuilt_at l = 2 * l.node + 1

abbrev pub decreases-unbuilt_in : goal.decreases-unbuilt_in
decreases-unbuilt_in l = 2 * l.before

abbrev pub invariant-unbuilt_in-loop-rest : goal.invariant-unbuilt_in-loop-rest
invariant-unbuilt_in-loop-rest l = record {
  same : unbuilt_in (words_of l.self) l.around (row_in l.self.outline.now l.rest) ≡ unbuilt_in (words_of l.self) l.around (row_in l.self.outline.now l.row);
  earlier : are_earlier l.before l.rest ≡ true;
}

abbrev pub decreases-unbuilt_in-loop-rest : goal.decreases-unbuilt_in-loop-rest
decreases-unbuilt_in-loop-rest l = length l.rest
