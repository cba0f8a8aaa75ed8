use Rattle.pool_words.proofs.Gathering.{gathers}
use Rattle.pool_words.proofs.steps.gather.Goals as goal

pub join_seat-requires : goal.join_seat-requires
join_seat-requires c =
    let s = c.args.seat.now in
    let o = c.args.other in
    let r = c.requires in
    (r.of, r.other_of, r.writes.1, r.some, gathers c.args.words.now.shared.key s.id s.me.0 o.id o.me.0 r.live r.other_live r.writes.0)
