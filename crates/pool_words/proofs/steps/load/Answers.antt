use Rattle.pool_words.proofs.Turns.{load_allowed}
use Rattle.pool_words.proofs.steps.load.Goals as goal

pub load-requires : goal.load-requires
load-requires c =
    let s = c.args.seat.now in
    let t = c.args.words.now.shared in
    (c.requires.of, c.requires.inside, load_allowed t.key t.table_id.slots s.id s.me c.requires.live c.args.word)
