use Rattle.std.proofs.Common.{◌≡◌, ◌++◌, length, map}
use Rattle.zir_form.specs.Lines.{tree_at}
use Rattle.zir_astgen.specs.Statements.{fields_in}
use Rattle.zir_astgen.specs.Writing.{parts, trees}
use Rattle.zir_astgen.proofs.writer.Writer.field_lines.Given as goal

abbrev pub invariant-loop-rest : goal.invariant-loop-rest
invariant-loop-rest l = map (tree_at (trees l.self)) l.lines.items ++ fields_in (parts l.self l.rest) ≡ fields_in (parts l.self l.row)

abbrev pub decreases-loop-rest : goal.decreases-loop-rest
decreases-loop-rest l = length l.rest
