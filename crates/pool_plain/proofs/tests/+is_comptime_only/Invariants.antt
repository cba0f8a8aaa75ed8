use Rattle.type_form.specs.declared.tree.Arg.TheViews.{size-Ty}
use Rattle.type_form.specs.Means.{ty_at}
use Rattle.pool_plain.proofs.tests.+is_comptime_only.Given as goal

-- the size of the type
abbrev pub decreases-is_comptime_only : goal.decreases-is_comptime_only
decreases-is_comptime_only g l = size-Ty (ty_at (g.P.Keys.known l.p.now) l.ty)
