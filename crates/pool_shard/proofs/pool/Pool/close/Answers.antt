use Rattle.std.proofs.Common.{◌≡◌, ◌<◌, length, vec_len, sym, subst, arith}
use Rattle.pool_words.specs.declared.view.Layout.{Layout}
use Rattle.pool_words.specs.Rule.{Extends}
use Rattle.pool_shard.specs.Pairs.{Rows}
use Rattle.pool_shard.proofs.Counting.{GoesOn-seat}
use Rattle.pool_shard.proofs.Knowing.{pool_injective, known_grows}
use Rattle.pool_shard.proofs.Sharing.{seat_named, gathered_whole}
use Rattle.pool_shard.proofs.pool.Pool.close.Goals as goal

pub invariant_of-result : goal.invariant_of-result
invariant_of-result g c =
    let i = c.loop-lock.invariant in
    let p = c.self.inside in
    let none : vec_len c.loop-lock.locks ≡ 0 = c.in_default.ensures.cases.0 in
    let left = i.left in
    let all : length c.loop-lock.seat.me.0.writes ≡ p.layout.shards = omega arith in
    gathered_whole p.layout p.words.shared.table_id c.loop-lock.seat c.loop-lock.counts.items c.loop-lock.sums.items i.gathered all

pub returns-clause-rows : goal.returns-clause-rows
returns-clause-rows g c =
    let i = c.loop-lock.invariant in
    let p = c.self.inside in
    let q = c.seat.inside.seat in
    let s = seat_named _ p.layout p.words.shared.table_id _ _ _ c.args.seat q c.self.invariant c.seat.view_is c.requires.of c.seat.invariant in
    GoesOn-seat p.layout p.words.shared.table_id q c.loop-lock.seat c.args.seat c.seat.view_is s i.gathered.seat (subst (λ (r : Rows). Extends r.view.log c.loop-lock.seat.me.0.log) (sym c.seat.view_is) i.log)

pub returns-clause-grows : goal.returns-clause-grows
returns-clause-grows g c =
    let i = c.loop-lock.invariant in
    let w = c.loop-lock.seat.me.0 in
    known_grows c.self.inside.layout w.words c.args.seat.view.log w.log i.gathered.seat.pool i.log

pub returns-clause-agrees : goal.returns-clause-agrees
returns-clause-agrees g c = let w = c.loop-lock.seat.me.0 in pool_injective c.self.inside.layout w.words w.log c.loop-lock.invariant.gathered.seat.pool

pub returns-clause-whole : goal.returns-clause-whole
returns-clause-whole g c s l =
    let i = c.loop-lock.invariant in
    let p = c.self.inside in
    let none : vec_len c.loop-lock.locks ≡ 0 = c.in_default.ensures.cases.0 in
    let left = i.left in
    let all : length c.loop-lock.seat.me.0.writes ≡ p.layout.shards = omega arith in
    (gathered_whole p.layout p.words.shared.table_id c.loop-lock.seat c.loop-lock.counts.items c.loop-lock.sums.items i.gathered all).owns s (subst (λ (y : Layout). s < y.shards) i.gathered.seat.layout l)
