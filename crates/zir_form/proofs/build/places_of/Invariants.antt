use Rattle.std.proofs.Common.{◌≡◌, ℕ, length}
use Rattle.std.specs.Option.{option_or}
use Rattle.zir_form.specs.Tables.{is_container_row, last_from, number_in}
use Rattle.zir_form.proofs.build.places_of.Given as goal

abbrev pub invariant-loop-rest : goal.invariant-loop-rest
invariant-loop-rest l = (q : ℕ) → option_or (last_from l.at (is_container_row q) l.rest) (number_in l.places q) ≡ last_from 0 (is_container_row q) l.rows

abbrev pub decreases-loop-rest : goal.decreases-loop-rest
decreases-loop-rest l = length l.rest
