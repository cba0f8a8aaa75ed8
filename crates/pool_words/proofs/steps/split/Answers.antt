use Rattle.pool_words.proofs.Splits.{splits, Shares-reader}
use Rattle.pool_words.specs.Views.{reader}
use Rattle.pool_words.proofs.steps.split.Goals as goal

pub split_seat-requires : goal.split_seat-requires
split_seat-requires c =
    let s = c.args.seat.now in
    (c.requires.of, c.requires.some, splits c.args.words.now.shared.key s.id s.me.0 s.me.0 (reader s.me.0) c.requires.live (Shares-reader s.me.0))
