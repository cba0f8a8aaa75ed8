use Rattle.pool_seat.proofs.Kept.{KeepsFull-later, KeepsFull-at}
use Rattle.pool_seat.proofs.sole.SoleSeatInterner.intern.Goals as goal

pub invariant_of-self : goal.invariant_of-self
invariant_of-self c = KeepsFull-later c.self.inside.rows c.intern.new.self c.self.inside.fulls c.intern.ensures.rows c.self.invariant

pub invariant_of-self-in-Err : goal.invariant_of-self-in-Err
invariant_of-self-in-Err c =
    let f = c.in-Err.ensures.full in
    KeepsFull-at c.self.inside.rows c.intern.new.self c.saturating_add-self-inside.result c.in-Err.full.shard c.args.key.now c.intern.ensures.rows f.0 c.requires.few f.1
