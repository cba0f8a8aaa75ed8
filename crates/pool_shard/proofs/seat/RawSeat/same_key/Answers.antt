use Rattle.std.proofs.Common.{subst}
use Rattle.type_form.specs.Known.{IsInjective}
use Rattle.pool_shard.specs.Pairs.{Rows, known}
use Rattle.pool_shard.proofs.Knowing.{pool_injective, one_key_at}
use Rattle.pool_shard.proofs.seat.RawSeat.same_key.Goals as goal

pub returns-clause-key : goal.returns-clause-key
returns-clause-key c =
    let v = c.self.inside.seat.me.0 in
    let once = subst (λ (p : Rows). IsInjective (known p)) c.self.view_is (pool_injective v.layout v.words v.log c.self.invariant.seat.pool) in
    one_key_at (known c.args.self.now) c.args.i c.args.j once c.requires.first
