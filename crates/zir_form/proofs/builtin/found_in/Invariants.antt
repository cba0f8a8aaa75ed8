use Rattle.std.proofs.Common.{◌≡◌, length}
use Rattle.zir_form.specs.Builtins.{found_in, written}
use Rattle.zir_form.proofs.builtin.found_in.Given as goal

abbrev pub invariant-loop-rest : goal.invariant-loop-rest
invariant-loop-rest l = found_in (written l.rest) l.name ≡ found_in (written l.rows) l.name

abbrev pub decreases-loop-rest : goal.decreases-loop-rest
decreases-loop-rest l = length l.rest
