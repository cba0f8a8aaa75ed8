use Rattle.pool_seat.proofs.Kept.{IsSeatOf-later, IsSeatOf-full}
use Rattle.pool_seat.proofs.seat.PoolSeatInterner.intern.Goals as goal

pub invariant_of-self : goal.invariant_of-self
invariant_of-self g c = IsSeatOf-later _ c.self.inside.seat c.intern.new.seat c.self.inside.fulls c.intern.ensures.rows c.self.invariant

pub invariant_of-self-in-Err : goal.invariant_of-self-in-Err
invariant_of-self-in-Err g c =
    let f = c.in-Err.ensures.full in
    IsSeatOf-full _ c.self.inside.seat c.intern.new.seat c.saturating_add-self-inside.result c.self.inside.fulls c.in-Err.full.shard c.args.key.now c.intern.ensures.rows c.self.invariant f.0 c.requires.few f.1
