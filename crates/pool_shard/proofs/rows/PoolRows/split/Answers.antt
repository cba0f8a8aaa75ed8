use Rattle.std.proofs.Common.{ap}
use Rattle.atomic_table.specs.Table.{Me}
use Rattle.pool_words.specs.declared.view.View.{View}
use Rattle.pool_shard.proofs.Counting.{IsRows-keeps}
use Rattle.pool_shard.proofs.Sharing.{Keeps-me}
use Rattle.pool_shard.proofs.rows.PoolRows.split.Goals as goal

pub invariant_of-self : goal.invariant_of-self
invariant_of-self c =
    let p = c.self.inside in
    let t = p.words.shared.table_id in
    let r = c.copy.new.seat in
    IsRows-keeps p.layout t p.seat r p.counts.items p.sums.items c.self.invariant c.copy.ensures.seat (Keeps-me p.layout t p.seat r c.self.invariant.seat c.copy.ensures.same) (ap (λ (m : Me (Unit {0}) View). m.1) c.copy.ensures.same)
