use Rattle.std.proofs.Common.{◌≡◌, drop}
use Rattle.pool_words.specs.Layout.{hash_from}
use Rattle.pool_shard.proofs.hash.hash_key.Given as goal

abbrev pub invariant-loop-word : goal.invariant-loop-word
invariant-loop-word l = hash_from l.hash (drop l.word-index l.key) ≡ hash_from 0xcbf2_9ce4_8422_2325 l.key
