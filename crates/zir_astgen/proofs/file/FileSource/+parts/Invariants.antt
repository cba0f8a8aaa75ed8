use Rattle.std.proofs.Common.{◌≡◌, ◌+◌, ◌*◌, length, true}
use Rattle.zig_tree.specs.Nodes.{are_earlier}
use Rattle.zir_scope.specs.Syntax.{row_in}
use Rattle.zir_astgen.specs.Entering.{Within, filed}
use Rattle.zir_astgen.specs.Filing.{file_known, where_of}
use Rattle.zir_astgen.specs.Outline.{entries}
use Rattle.zir_astgen.proofs.EntryLemmas.{filed_with}
use Rattle.zir_astgen.proofs.file.FileSource.+parts.Given as goal

abbrev pub decreases-declaration_parts : goal.decreases-declaration_parts
decreases-declaration_parts l = 4 * l.node + 1

abbrev pub decreases-container_parts : goal.decreases-container_parts
decreases-container_parts l = 4 * l.node + 1

abbrev pub decreases-node_parts : goal.decreases-node_parts
decreases-node_parts l = 4 * l.node + 2

abbrev pub decreases-row_parts : goal.decreases-row_parts
decreases-row_parts l = 4 * l.before

abbrev pub invariant-row_parts-loop-rest : goal.invariant-row_parts-loop-rest
invariant-row_parts-loop-rest l = record {
  within : Within l.tables;
  counted : filed_with (file_known l.self) (filed l.tables) (entries (where_of l.at) (row_in l.self.outline.now l.rest)) ≡ filed_with (file_known l.self) (filed l.initial.tables) (entries (where_of l.at) (row_in l.self.outline.now l.row));
  earlier : are_earlier l.before l.rest ≡ true;
}

abbrev pub decreases-row_parts-loop-rest : goal.decreases-row_parts-loop-rest
decreases-row_parts-loop-rest l = length l.rest
