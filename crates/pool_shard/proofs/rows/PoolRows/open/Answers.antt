use Rattle.pool_shard.proofs.Starting.{IsRows-open}
use Rattle.pool_shard.proofs.rows.PoolRows.open.Goals as goal

pub invariant_of-result : goal.invariant_of-result
invariant_of-result c =
    let w = c.in_ok-words in
    IsRows-open c.layout_of-layout.result w.words.shared.table_id w.seat c.in_ok-counts.counts.items c.in_ok-sums.sums.items c.layout_of-layout.ensures.laid w.ensures.seat.0 w.ensures.words w.ensures.seat.1
    (c.in_ok-counts.ensures.items_if_clones_equal (λ y h. h)) (c.in_ok-sums.ensures.items_if_clones_equal (λ y h. h))
