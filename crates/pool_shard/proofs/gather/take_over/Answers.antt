use Rattle.std.proofs.Common.{ap, ◌∙◌, length, ◌+◌}
use Rattle.pool_shard.proofs.Sharing.{IsGathered-keeps, gathered_is, gathered_more}
use Rattle.pool_shard.proofs.gather.take_over.Goals as goal

pub returns-clause-gathered : goal.returns-clause-gathered
returns-clause-gathered g c =
    let z = c.args.layout.now in
    let t = c.args.words.now.shared.table_id in
    let w = c.writer.inside in
    let q = c.settle.new.seat in
    let h = IsGathered-keeps z t c.args.seat.now q c.args.counts.now.items c.args.sums.now.items c.requires.gathered c.settle.ensures.seat c.settle.ensures.keeps c.settle.ensures.slots in
    gathered_is z t q c.settle.new.other c.gather.new.seat c.load.new.seat c.args.counts.now.items c.args.sums.now.items w.shard w.count w.sum h c.settle.ensures.other c.settle.ensures.rows c.gather.ensures.0 c.gather.ensures.2 c.load.ensures.seat.0 c.load.ensures.seat.2 c.load.ensures.shown c.load.ensures.order

pub returns-clause-more : goal.returns-clause-more
returns-clause-more g c =
    let z = c.args.layout.now in
    let t = c.args.words.now.shared.table_id in
    let w = c.writer.inside in
    let q = c.settle.new.seat in
    let h = IsGathered-keeps z t c.args.seat.now q c.args.counts.now.items c.args.sums.now.items c.requires.gathered c.settle.ensures.seat c.settle.ensures.keeps c.settle.ensures.slots in
    gathered_more z t q c.settle.new.other c.gather.new.seat c.load.new.seat c.args.counts.now.items c.args.sums.now.items w.shard w.count w.sum h c.settle.ensures.other c.settle.ensures.rows c.gather.ensures.0 c.gather.ensures.2 c.load.ensures.seat.0 c.load.ensures.seat.2 c.load.ensures.shown c.load.ensures.order
    ∙ ap (λ xs. length xs + 1) c.settle.ensures.keeps.writes
