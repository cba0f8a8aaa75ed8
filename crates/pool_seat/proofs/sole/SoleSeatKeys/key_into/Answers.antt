use Rattle.pool_seat.proofs.Kept.{KeepsFull-later}
use Rattle.pool_seat.proofs.sole.SoleSeatKeys.key_into.Goals as goal

pub invariant_of-self : goal.invariant_of-self
invariant_of-self c = KeepsFull-later c.self.inside.rows c.key_into.new.self c.self.inside.fulls c.key_into.ensures.rows c.self.invariant
