use Rattle.type_form.specs.Means.{decl_at}
use Rattle.type_form.proofs.MeansLemmas.{IsDecl-keyed, IsDeclOf-key}
use Rattle.type_form.proofs.LayerLemmas.{out-IsDeclOf}
use Rattle.type_keys.proofs.reads.decl_key.Goals as goal

pub key_behind-requires : goal.key_behind-requires
key_behind-requires g c = IsDecl-keyed (g.P.Keys.known c.args.p.now) c.args.i c.requires

pub returns-clause-decl : goal.returns-clause-decl
returns-clause-decl g c = IsDeclOf-key (g.P.Keys.known c.args.p.now) c.args.i c.key_behind.result c.key_behind.ensures.key c.requires

pub returns-clause-layer : goal.returns-clause-layer
returns-clause-layer g c = out-IsDeclOf (g.P.Keys.known c.args.p.now) c.key_behind.result (decl_at (g.P.Keys.known c.args.p.now) c.args.i) (IsDeclOf-key (g.P.Keys.known c.args.p.now) c.args.i c.key_behind.result c.key_behind.ensures.key c.requires)
