use Rattle.type_form.proofs.MeansLemmas.{IsInstance-keyed, IsInstanceOf-key}
use Rattle.type_keys.proofs.reads.instance_key.Goals as goal

pub key_behind-requires : goal.key_behind-requires
key_behind-requires g c = IsInstance-keyed (g.P.Keys.known c.args.p.now) c.args.i c.requires

pub returns-clause-instance : goal.returns-clause-instance
returns-clause-instance g c = IsInstanceOf-key (g.P.Keys.known c.args.p.now) c.args.i c.key_behind.result c.key_behind.ensures.key c.requires
