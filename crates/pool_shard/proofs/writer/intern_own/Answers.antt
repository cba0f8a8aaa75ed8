use Rattle.std.proofs.Common.{inl, refl, sym, subst}
use Rattle.pool_words.specs.Rule.{In}
use Rattle.pool_shard.proofs.Keeping.{still_new}
use Rattle.pool_shard.proofs.writer.intern_own.Goals as goal

pub add_own-requires-clause-new : goal.add_own-requires-clause-new
add_own-requires-clause-new c =
    let h = c.requires.writer in
    let v = c.look-at.new.seat.me.0 in
    let own = subst (λ s. In s v.writes) c.requires.hash.1 (subst (In c.args.shard) (sym c.look-at.ensures.keeps.writes) (subst (In c.args.shard) (sym h.one) (inl refl))) in
    still_new v c.probe.new.seat.me.0 c.args.layout.now c.args.key.now c.look-at.ensures.seat.layout c.probe.ensures.keeps own c.in-Err.ensures.absent
