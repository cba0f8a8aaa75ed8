use Rattle.type_form.specs.Means.{ty_at}
use Rattle.type_form.proofs.MeansLemmas.{IsTy-keyed, IsTyOf-key}
use Rattle.type_form.proofs.LayerLemmas.{out-IsTyOf}
use Rattle.type_keys.proofs.reads.ty_key.Goals as goal

pub key_behind-requires : goal.key_behind-requires
key_behind-requires g c = IsTy-keyed (g.P.Keys.known c.args.p.now) c.args.i c.requires

pub returns-clause-ty : goal.returns-clause-ty
returns-clause-ty g c = IsTyOf-key (g.P.Keys.known c.args.p.now) c.args.i c.key_behind.result c.key_behind.ensures.key c.requires

pub returns-clause-layer : goal.returns-clause-layer
returns-clause-layer g c = out-IsTyOf (g.P.Keys.known c.args.p.now) c.key_behind.result (ty_at (g.P.Keys.known c.args.p.now) c.args.i) (IsTyOf-key (g.P.Keys.known c.args.p.now) c.args.i c.key_behind.result c.key_behind.ensures.key c.requires)
