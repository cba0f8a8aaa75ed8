use Rattle.pool_words.proofs.Turns.{publish_allowed}
use Rattle.pool_words.proofs.steps.publish.Goals as goal

pub store-requires : goal.store-requires
store-requires c =
    let s = c.args.seat.now in
    let t = c.args.words.now.shared in
    let r = c.requires.ready in
    (c.requires.of, c.requires.inside, publish_allowed t.key t.table_id.slots s.id s.me c.requires.live c.args.slot c.args.value r.0 r.1 r.2)
