use Rattle.type_form.proofs.MeansLemmas.{IsList-keyed, IsListOf-key}
use Rattle.type_keys.proofs.reads.list_key.Goals as goal

pub key_behind-requires : goal.key_behind-requires
key_behind-requires g c = IsList-keyed (g.P.Keys.known c.args.p.now) c.args.i c.requires

pub returns-clause-list : goal.returns-clause-list
returns-clause-list g c = IsListOf-key (g.P.Keys.known c.args.p.now) c.args.i c.key_behind.result c.key_behind.ensures.key c.requires
