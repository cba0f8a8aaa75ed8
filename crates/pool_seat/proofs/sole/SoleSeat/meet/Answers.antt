use Rattle.pool_seat.proofs.Kept.{KeepsFull-later}
use Rattle.pool_seat.proofs.sole.SoleSeat.meet.Goals as goal

pub invariant_of-self : goal.invariant_of-self
invariant_of-self c = KeepsFull-later c.self.inside.rows c.join.new.self c.self.inside.fulls c.join.ensures.rows c.self.invariant
