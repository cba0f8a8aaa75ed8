use Rattle.std.proofs.Common.{◌≡◌, ◌+◌, ◌-◌, List, slice_index, ap, ◌∙◌, sym, subst, arith}
use Rattle.pool_words.specs.Layout.{Row}
use Rattle.pool_words.specs.Rule.{Extends}
use Rattle.pool_words.specs.Views.{below}
use Rattle.pool_words.proofs.Members.{Extends-refl}
use Rattle.pool_shard.specs.Pairs.{Rows}
use Rattle.pool_shard.proofs.Counting.{GoesOn-seat}
use Rattle.pool_shard.proofs.Sharing.{IsPart-pool}
use Rattle.pool_shard.proofs.pool.Pool.share.Goals as goal

pub loop-done-preserved : goal.loop-done-preserved
loop-done-preserved g c =
    let i = c.loop-done.invariant in
    let z = c.rows.inside.layout in
    let v = c.loop-done.seat.me.0 in
    let w = c.part-writer.new.seat.me.0 in
    let e = c.part-writer.ensures.same in
    let n : z.shards - 1 - c.loop-done.done ≡ z.shards - (c.loop-done.done + 1) = omega arith in
    record {
      seat = c.part-writer.ensures.seat;
      slots = c.part-writer.ensures.slots;
      left = subst (λ k. w.writes ≡ below k) n c.part-writer.ensures.rest;
      parts = λ s l. IsPart-pool z v w s (slice_index c.rows.inside.counts.items s) (slice_index c.rows.inside.sums.items s) e.0 e.1 (i.parts s (omega arith));
      log = e.1 ∙ i.log;
      pushed = let a = c.push_reserved.ensures.len in let b = i.pushed in omega arith;
      room = c.push_reserved.ensures.capacity ∙ i.room;
    }

pub returns-clause-rows : goal.returns-clause-rows
returns-clause-rows g c =
    let i = c.loop-done.invariant in
    let p = c.rows.inside in
    let w = c.loop-done.seat.me.0 in
    let log : w.log ≡ p.seat.me.0.log = i.log ∙ ap (λ (r : Rows). r.view.log) (sym c.rows.view_is) in
    GoesOn-seat p.layout p.words.shared.table_id p.seat c.loop-done.seat c.args.rows c.rows.view_is c.rows.invariant.seat i.seat (subst (λ (l : List Row). Extends p.seat.me.0.log l) (sym log) (Extends-refl p.seat.me.0.log))
