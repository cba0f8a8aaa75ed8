use Rattle.pool_seat.proofs.Kept.{IsSeatOf-later}
use Rattle.pool_seat.proofs.seat.PoolSeatKeys.key_into.Goals as goal

pub invariant_of-self : goal.invariant_of-self
invariant_of-self g c = IsSeatOf-later _ c.self.inside.seat c.key_into.new.seat c.self.inside.fulls c.key_into.ensures.rows c.self.invariant
