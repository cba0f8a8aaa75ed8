use Rattle.pool_seat.proofs.Kept.{IsSeatOf-later}
use Rattle.pool_seat.proofs.seat.PoolSeatKeys.find.Goals as goal

pub invariant_of-self : goal.invariant_of-self
invariant_of-self g c = IsSeatOf-later _ c.self.inside.seat c.find.new.seat c.self.inside.fulls c.find.ensures.rows c.self.invariant
