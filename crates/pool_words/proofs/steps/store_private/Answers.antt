use Rattle.pool_words.proofs.Turns.{store_allowed}
use Rattle.pool_words.proofs.steps.store_private.Goals as goal

pub store-requires : goal.store-requires
store-requires c =
    let s = c.args.seat.now in
    let t = c.args.words.now.shared in
    (c.requires.of, c.requires.inside, store_allowed t.key t.table_id.slots s.id s.me c.requires.live c.args.word c.args.value c.requires.behind)
