use Rattle.type_form.specs.declared.tree.Arg.TheViews.{size-Ty, size-DeclPath}
use Rattle.type_form.specs.Means.{ty_at, decl_at}
use Rattle.trace_log.proofs.answers.Answers.+stands.Given as goal

abbrev pub decreases-place : goal.decreases-place
decreases-place g l = size-Ty (ty_at (g.P.Keys.known l.p.now) l.ty)

abbrev pub decreases-declared_place : goal.decreases-declared_place
decreases-declared_place g l = size-DeclPath (decl_at (g.P.Keys.known l.p.now) l.decl)
