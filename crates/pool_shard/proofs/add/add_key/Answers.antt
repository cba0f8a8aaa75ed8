use Rattle.std.proofs.Common.{◌≡◌, ◌-◌, length, refl, ap, subst, arith}
use Rattle.pool_words.specs.Layout.{Row, rows_of}
use Rattle.pool_words.specs.Rule.{In}
use Rattle.pool_words.proofs.Members.{rows_of-In}
use Rattle.pool_shard.proofs.Counting.{by_rows, by_words}
use Rattle.pool_shard.proofs.Publishing.{Adds-touched}
use Rattle.pool_shard.proofs.add.add_key.Goals as goal
use Rattle.pool_shard.proofs.add.add_key.Goals.{then-count-half_of-via-then-count-half_of, then-count-half_of-via-else-count-half_of+then-left-key}

pub returns-then-count-half_of-clause-full : goal.returns-then-count-half_of-clause-full
returns-then-count-half_of-clause-full c =
    let z = c.args.layout.now in
    let v = c.args.seat.now.me.0 in
    let s = c.args.shard in
    let n = length c.args.key.now in
    let pool = c.requires.seat.pool in (
      refl,
      elim c.then-count-half_of.branch [
        | then-count-half_of-via-then-count-half_of w ↦ by_rows z v s n c.args.count c.args.taken pool c.requires.ours.1 c.requires.part (let t = w.if-count-half_of.true in let e = c.half_of.ensures in omega arith)
        | then-count-half_of-via-else-count-half_of+then-left-key w ↦ by_words z v s n c.args.count c.args.taken (z.size - c.start_of.result - c.args.taken) pool c.requires.ours.1 c.requires.part (ap (λ k. z.size - k - c.args.taken) c.start_of.ensures.start) w.if-left-key.true
      ],
    )

pub add_row-requires-clause-new : goal.add_row-requires-clause-new
add_row-requires-clause-new c j m =
    let z = c.args.layout.now in
    let v = c.args.seat.now.me.0 in
    let w = c.open_slot-slot.new.seat.me.0 in
    let s = c.args.shard in
    let rows : rows_of z s w.log ≡ rows_of z s v.log = subst (λ y. rows_of y s w.log ≡ rows_of y s v.log) c.requires.seat.layout (c.open_slot-slot.ensures.touches.rows s c.requires.ours.0) in
    c.requires.new j (rows_of-In z s (j, c.args.key.now) v.log (subst (In (j, c.args.key.now)) rows m)).0

pub returns-clause-adds : goal.returns-clause-adds
returns-clause-adds c =
    let r : Row = (c.add_row.result, c.args.key.now) in
    Adds-touched c.args.shard r c.args.seat.now.me.0 c.open_slot-slot.new.seat.me.0 c.add_row.new.seat.me.0 c.requires.ours.0 c.open_slot-slot.ensures.touches c.add_row.ensures.adds
