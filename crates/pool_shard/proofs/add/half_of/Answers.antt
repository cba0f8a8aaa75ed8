use Rattle.std.proofs.Common.{arith}
use Rattle.pool_words.proofs.Places.{halves}
use Rattle.pool_shard.proofs.add.half_of.Goals as goal

pub returns : goal.returns
returns c = let e = c.slots_of.ensures in let h = halves c.args.level in omega arith
