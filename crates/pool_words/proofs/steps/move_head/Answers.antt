use Rattle.pool_words.proofs.Turns.{move_allowed}
use Rattle.pool_words.proofs.steps.move_head.Goals as goal

pub store-requires : goal.store-requires
store-requires c =
    let s = c.args.seat.now in
    let t = c.args.words.now.shared in
    (c.requires.of, c.requires.inside, move_allowed t.key t.table_id.slots s.id s.me c.requires.live c.args.head c.args.level c.requires.whole)
