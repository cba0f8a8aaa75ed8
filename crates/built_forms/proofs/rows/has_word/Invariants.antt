use Rattle.std.proofs.Common.{◌≡◌, length}
use Rattle.built_forms.specs.Built.{has_word}
use Rattle.zir_scope.specs.Syntax.{row_in}
use Rattle.built_forms.proofs.rows.has_word.Given as goal

abbrev pub invariant-loop-rest : goal.invariant-loop-rest
invariant-loop-rest l = has_word l.wanted (row_in l.outline l.rest) ≡ has_word l.wanted (row_in l.outline l.row)

abbrev pub decreases-loop-rest : goal.decreases-loop-rest
decreases-loop-rest l = length l.rest
