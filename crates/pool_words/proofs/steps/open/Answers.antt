use Rattle.std.proofs.Common.{[]}
use Rattle.pool_words.proofs.Opening.{opens}
use Rattle.pool_words.proofs.steps.open.Goals as goal

pub of_words-requires : goal.of_words-requires
of_words-requires c = opens c.args.layout.now c.args.zeros.now [] c.requires.laid c.requires.zeros
