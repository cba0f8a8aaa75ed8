use Rattle.pool_words.proofs.Members.{In-extends}
use Rattle.pool_shard.proofs.Keeping.{Keeps-trans}
use Rattle.pool_shard.proofs.find.find_by.Goals as goal

pub returns-in-Ok-clause-keeps : goal.returns-in-Ok-clause-keeps
returns-in-Ok-clause-keeps c = Keeps-trans c.args.seat.now.me.0 c.look-at.new.seat.me.0 c.probe.new.seat.me.0 c.look-at.ensures.keeps c.probe.ensures.keeps

pub returns-in-Err-clause-keeps : goal.returns-in-Err-clause-keeps
returns-in-Err-clause-keeps c = Keeps-trans c.args.seat.now.me.0 c.look-at.new.seat.me.0 c.probe.new.seat.me.0 c.look-at.ensures.keeps c.probe.ensures.keeps

pub returns-in-Err-clause-absent : goal.returns-in-Err-clause-absent
returns-in-Err-clause-absent c i o = c.in-Err.ensures.absent i (In-extends (i, c.args.key.now) c.args.seat.now.me.0.log c.look-at.new.seat.me.0.log c.look-at.ensures.keeps.later.grows o)
