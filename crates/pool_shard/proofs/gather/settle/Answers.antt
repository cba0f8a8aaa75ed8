use Rattle.std.proofs.Common.{◌∙◌, sym}
use Rattle.pool_shard.proofs.Sharing.{IsWriter-me, IsWriter-keeps, settled_rows}
use Rattle.pool_shard.proofs.gather.settle.Goals as goal

pub returns-clause-other : goal.returns-clause-other
returns-clause-other c =
    let z = c.args.layout.now in
    let t = c.args.words.now.shared.table_id in
    let o = c.copy-news.new.seat in
    let a = IsWriter-me z t c.args.other.now o c.args.shard c.args.count c.args.sum c.requires.other (c.copy-news.ensures.seat.of ∙ sym c.requires.other.seat.of) c.copy-news.ensures.same in
    IsWriter-keeps z t o c.tell-2.new.seat c.args.shard c.args.count c.args.sum a c.tell-2.ensures.seat c.tell-2.ensures.keeps c.tell-2.ensures.slots

pub returns-clause-rows : goal.returns-clause-rows
returns-clause-rows c =
    settled_rows c.args.layout.now c.args.words.now.shared.table_id c.args.shard c.args.count c.args.sum c.args.other.now c.copy-news.new.seat c.copy-news.result c.tell.new.seat c.copy-news-2.new.seat c.copy-news-2.result c.tell-2.new.seat
    c.requires.other c.copy-news.ensures.same c.copy-news.ensures.reads c.tell.ensures.told c.copy-news-2.ensures.same c.copy-news-2.ensures.reads c.tell-2.ensures.told c.tell-2.ensures.keeps
