use Rattle.std.proofs.Common.{ap, ◌%◌}
use Rattle.pool_words.specs.Layout.{shard_of}
use Rattle.pool_shard.proofs.find.shard_by.Goals as goal

pub returns-clause-shard : goal.returns-clause-shard
unfolding shard_of
returns-clause-shard c key e = ap (λ h. h % c.args.layout.now.shards) e
