use Rattle.std.proofs.Common.{refl}
use Rattle.pool_words.specs.Layout.{base}
use Rattle.pool_shard.proofs.find.base_of.Goals as goal

pub returns-clause-base : goal.returns-clause-base
unfolding base
returns-clause-base c = refl
