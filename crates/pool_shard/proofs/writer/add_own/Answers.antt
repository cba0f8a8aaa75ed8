use Rattle.std.proofs.Common.{◌≡◌, ◌+◌, length, sym, subst, arith}
use Rattle.pool_words.specs.Layout.{Row, rows_of}
use Rattle.pool_words.specs.Rule.{In}
use Rattle.pool_words.proofs.Members.{In-last, rows_of-In}
use Rattle.pool_shard.specs.Looks.{IsWriter}
use Rattle.pool_shard.proofs.Counting.{few_rows}
use Rattle.pool_shard.proofs.Filling.{Touches-refl}
use Rattle.pool_shard.proofs.Sharing.{IsWriter-adds}
use Rattle.pool_shard.proofs.writer.add_own.Goals as goal

pub overflow_add-count : goal.overflow_add-count
overflow_add-count c = let f = few_rows c.args.layout.now c.args.count.now c.requires.writer.seat.laid c.in-Ok.ensures.fits.0 in record { fits = omega arith }

pub returns-clause-writer : goal.returns-clause-writer
returns-clause-writer c =
    let h = c.requires.writer in
    let s = c.args.shard in
    let r : Row = (c.in-Ok.place, c.args.key.now) in
    let e : c.args.sum.now + length c.args.key.now + 1 ≡ c.args.sum.now + (length c.args.key.now + 1) = omega arith in
    subst (IsWriter c.args.layout.now c.args.words.now.shared.table_id c.add_key-answer.new.seat s (c.args.count.now + 1)) e
    (IsWriter-adds c.args.layout.now c.args.words.now.shared.table_id c.args.seat.now c.add_key-answer.new.seat c.args.seat.now.me.0 s c.args.count.now c.args.sum.now r h c.add_key-answer.ensures.seat (Touches-refl c.args.layout.now s c.args.seat.now.me.0 h.seat.layout h.seat.pool) c.in-Ok.ensures.adds c.add_key-answer.ensures.slots)

pub returns-clause-place : goal.returns-clause-place
returns-clause-place c =
    let w = c.args.seat.now.me.0 in
    let x = c.add_key-answer.new.seat.me.0 in
    let r : Row = (c.in-Ok.place, c.args.key.now) in
    (rows_of-In w.layout c.args.shard r x.log (subst (In r) (sym c.in-Ok.ensures.adds.added) (In-last r (rows_of w.layout c.args.shard w.log)))).0
