use Rattle.type_form.specs.Means.{value_at}
use Rattle.type_form.proofs.MeansLemmas.{IsValue-keyed, IsValueOf-key}
use Rattle.type_form.proofs.LayerLemmas.{out-IsValueOf}
use Rattle.type_keys.proofs.reads.value_key.Goals as goal

pub key_behind-requires : goal.key_behind-requires
key_behind-requires g c = IsValue-keyed (g.P.Keys.known c.args.p.now) c.args.i c.requires

pub returns-clause-value : goal.returns-clause-value
returns-clause-value g c = IsValueOf-key (g.P.Keys.known c.args.p.now) c.args.i c.key_behind.result c.key_behind.ensures.key c.requires

pub returns-clause-layer : goal.returns-clause-layer
returns-clause-layer g c = out-IsValueOf (g.P.Keys.known c.args.p.now) c.key_behind.result (value_at (g.P.Keys.known c.args.p.now) c.args.i) (IsValueOf-key (g.P.Keys.known c.args.p.now) c.args.i c.key_behind.result c.key_behind.ensures.key c.requires)
