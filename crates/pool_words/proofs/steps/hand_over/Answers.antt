use Rattle.pool_words.proofs.Splits.{splits, Shares-first}
use Rattle.pool_words.specs.Views.{with_first, with_others}
use Rattle.pool_words.proofs.steps.hand_over.Goals as goal

pub split_seat-requires : goal.split_seat-requires
split_seat-requires c =
    let s = c.args.seat.now in
    (c.requires.of, c.requires.some, splits c.args.words.now.shared.key s.id s.me.0 (with_others s.me.0) (with_first s.me.0) c.requires.live (Shares-first s.me.0))
