use Rattle.pool_seat.proofs.Kept.{IsSeatOf-later}
use Rattle.pool_seat.proofs.seat.PoolSeat.meet.Goals as goal

pub invariant_of-self : goal.invariant_of-self
invariant_of-self g c = IsSeatOf-later _ c.self.inside.seat c.join.new.seat c.self.inside.fulls c.join.ensures.rows c.self.invariant
