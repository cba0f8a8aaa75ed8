use Rattle.type_form.specs.Means.{arg_at}
use Rattle.type_form.proofs.MeansLemmas.{IsArg-keyed, IsArgOf-key}
use Rattle.type_form.proofs.LayerLemmas.{out-IsArgOf}
use Rattle.type_keys.proofs.reads.arg_key.Goals as goal

pub key_behind-requires : goal.key_behind-requires
key_behind-requires g c = IsArg-keyed (g.P.Keys.known c.args.p.now) c.args.i c.requires

pub returns-clause-arg : goal.returns-clause-arg
returns-clause-arg g c = IsArgOf-key (g.P.Keys.known c.args.p.now) c.args.i c.key_behind.result c.key_behind.ensures.key c.requires

pub returns-clause-layer : goal.returns-clause-layer
returns-clause-layer g c = out-IsArgOf (g.P.Keys.known c.args.p.now) c.key_behind.result (arg_at (g.P.Keys.known c.args.p.now) c.args.i) (IsArgOf-key (g.P.Keys.known c.args.p.now) c.args.i c.key_behind.result c.key_behind.ensures.key c.requires)
