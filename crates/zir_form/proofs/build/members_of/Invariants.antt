use Rattle.std.proofs.Common.{◌≡◌, ℕ, List, length}
use Rattle.std.specs.Option.{option_or}
use Rattle.zir_form.specs.Tables.{is_row, last_from, member_in}
use Rattle.zir_form.proofs.build.members_of.Given as goal

abbrev pub invariant-loop-rest : goal.invariant-loop-rest
invariant-loop-rest l = (c : ℕ) (cs : List ℕ) → option_or (last_from l.at (is_row c cs) l.rest) (member_in l.members c cs) ≡ last_from 0 (is_row c cs) l.rows

abbrev pub decreases-loop-rest : goal.decreases-loop-rest
decreases-loop-rest l = length l.rest
