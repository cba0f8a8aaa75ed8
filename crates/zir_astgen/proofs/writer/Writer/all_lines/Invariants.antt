use Rattle.std.proofs.Common.{◌≡◌, ◌++◌, length, map}
use Rattle.zir_form.specs.Lines.{tree_at}
use Rattle.zir_astgen.specs.Parts.{all_trees}
use Rattle.zir_astgen.specs.Writing.{parts, trees}
use Rattle.zir_astgen.proofs.writer.Writer.all_lines.Given as goal

abbrev pub invariant-loop-rest : goal.invariant-loop-rest
invariant-loop-rest l = map (tree_at (trees l.self)) l.lines.items ++ all_trees (parts l.self l.rest) ≡ all_trees (parts l.self l.row)

abbrev pub decreases-loop-rest : goal.decreases-loop-rest
decreases-loop-rest l = length l.rest
