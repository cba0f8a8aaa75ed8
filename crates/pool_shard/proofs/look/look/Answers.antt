use Rattle.pool_shard.proofs.Keeping.{Keeps-shown}
use Rattle.pool_shard.proofs.look.look.Goals as goal

pub returns-clause-keeps : goal.returns-clause-keeps
returns-clause-keeps c = Keeps-shown c.args.seat.now.me.0 c.load.new.seat.me.0 c.load.ensures.shown
