use Rattle.std.proofs.Common.{◌≡◌, ◌++◌, length}
use Rattle.zir_form.specs.Tables.{exported_names}
use Rattle.zir_form.proofs.exports.exported_names.Given as goal

abbrev pub invariant-loop-rest : goal.invariant-loop-rest
invariant-loop-rest l = l.names.items ++ exported_names l.rest ≡ exported_names l.rows

abbrev pub decreases-loop-rest : goal.decreases-loop-rest
decreases-loop-rest l = length l.rest
