use Rattle.pool_words.proofs.Places.{level_low, width_shift}
use Rattle.pool_shard.proofs.look.slots_of.Goals as goal

pub overflow_shl-result : goal.overflow_shl-result
overflow_shl-result c = level_low c.args.layout.now c.args.level c.requires.laid c.requires.level

pub returns : goal.returns
returns c = width_shift c.args.layout.now c.args.level c.requires.laid c.requires.level
