use Rattle.pool_words.proofs.Joins.{joins}
use Rattle.pool_words.proofs.steps.join.Goals as goal

pub join_seat-requires : goal.join_seat-requires
join_seat-requires c =
    let s = c.args.seat.now in
    let o = c.args.other in
    let r = c.requires in
    (r.of, r.other_of, r.reads.1, r.some, joins c.args.words.now.shared.key s.id s.me.0 o.id o.me.0 r.live r.other_live r.reads.0)
