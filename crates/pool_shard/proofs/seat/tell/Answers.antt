use Rattle.pool_shard.proofs.Sharing.{Keeps-joined}
use Rattle.pool_shard.proofs.seat.tell.Goals as goal

pub returns-clause-keeps : goal.returns-clause-keeps
returns-clause-keeps c = Keeps-joined c.args.seat.now c.join.new.seat c.load.new.seat c.args.other.me.0 c.join.ensures.2 c.load.ensures.shown
