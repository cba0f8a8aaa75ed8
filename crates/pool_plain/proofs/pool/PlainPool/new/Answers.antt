use Rattle.std.proofs.Common.{subst, sym}
use Rattle.pool_plain.specs.Rows.{Matches}
use Rattle.pool_plain.proofs.RowLemmas.{Matches-empty}
use Rattle.pool_plain.proofs.pool.PlainPool.new.Goals as goal

pub invariant_of-result : goal.invariant_of-result
invariant_of-result c = subst (Matches c.new.result) (sym c.new-2.ensures.items) (Matches-empty c.new.result c.new.ensures.empty)
