use Rattle.std.proofs.Common.{lit<, lit≤}
use Rattle.pool_words.specs.Layout.{level_at}
use Rattle.pool_words.proofs.tests.opens_with_every_word_0.Goals as goal

pub open-requires-clause-laid : goal.open-requires-clause-laid
unfolding level_at
open-requires-clause-laid g c = record { some = lit< tt; few = lit≤ tt; fits = lit≤ tt; left_over = lit< tt; small = lit< tt; large = lit≤ tt; quarter = lit≤ tt; most = lit< tt }
