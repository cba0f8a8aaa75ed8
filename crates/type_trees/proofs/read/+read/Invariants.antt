use denote.Param.Weighed.{most}
use Rattle.std.proofs.Common.{◌≡◌, ◌+◌, ◌*◌, max, take}
use Rattle.type_form.specs.Known.{IsInjective}
use Rattle.type_form.specs.Means.{ty_at, tys_at, decl_at, arg_at, args_at, value_at, values_at}
use Rattle.type_form.specs.Pool.{Reads}
use Rattle.type_form.specs.declared.tree.Arg.TheViews.{size-Ty, size-Value, size-DeclPath, size-Arg}
use Rattle.type_trees.proofs.read.+read.Given as goal

-- what is so far in the list is read
abbrev pub invariant-read_tys-loop-number : goal.invariant-read_tys-loop-number
invariant-read_tys-loop-number g l = record {
  reads : Reads g.P.Keys.known g.P.Keys.home g.P.Keys.fulls l.fn.p l.p;
  agrees : IsInjective (g.P.Keys.known l.p);
  trees : l.tys ≡ take l.number-index (tys_at (g.P.Keys.known l.fn.p) l.fn.list);
}

abbrev pub invariant-read_args-loop-number : goal.invariant-read_args-loop-number
invariant-read_args-loop-number g l = record {
  reads : Reads g.P.Keys.known g.P.Keys.home g.P.Keys.fulls l.fn.p l.p;
  agrees : IsInjective (g.P.Keys.known l.p);
  trees : l.args ≡ take l.number-index (args_at (g.P.Keys.known l.fn.p) l.fn.list);
}

abbrev pub invariant-read_values-loop-number : goal.invariant-read_values-loop-number
invariant-read_values-loop-number g l = record {
  reads : Reads g.P.Keys.known g.P.Keys.home g.P.Keys.fulls l.fn.p l.p;
  agrees : IsInjective (g.P.Keys.known l.p);
  trees : l.values ≡ take l.number-index (values_at (g.P.Keys.known l.fn.p) l.fn.list);
}

-- three times the size of a tree, one more for a list of trees, and two more for what reads parts of a tree
abbrev pub decreases-read_ty : goal.decreases-read_ty
decreases-read_ty g l = 3 * size-Ty (ty_at (g.P.Keys.known l.p.now) l.i)

abbrev pub decreases-ty_of_child : goal.decreases-ty_of_child
decreases-ty_of_child g l = 3 * size-Ty (ty_at (g.P.Keys.known l.p.now) l.child) + 2

abbrev pub decreases-read_error_union : goal.decreases-read_error_union
decreases-read_error_union g l = 3 * max (size-Ty (ty_at (g.P.Keys.known l.p.now) l.set)) (size-Ty (ty_at (g.P.Keys.known l.p.now) l.payload)) + 2

abbrev pub decreases-read_container : goal.decreases-read_container
decreases-read_container g l = 3 * max (size-DeclPath (decl_at (g.P.Keys.known l.p.now) l.decl)) (most size-Arg (args_at (g.P.Keys.known l.p.now) l.captures)) + 2

abbrev pub decreases-read_function : goal.decreases-read_function
decreases-read_function g l = 3 * max (most size-Ty (tys_at (g.P.Keys.known l.p.now) l.params)) (size-Ty (ty_at (g.P.Keys.known l.p.now) l.returned)) + 2

abbrev pub decreases-read_tys : goal.decreases-read_tys
decreases-read_tys g l = 3 * most size-Ty (tys_at (g.P.Keys.known l.p.now) l.list) + 1

abbrev pub decreases-read_decl : goal.decreases-read_decl
decreases-read_decl g l = 3 * size-DeclPath (decl_at (g.P.Keys.known l.p.now) l.i)

abbrev pub decreases-read_arg : goal.decreases-read_arg
decreases-read_arg g l = 3 * size-Arg (arg_at (g.P.Keys.known l.p.now) l.i)

abbrev pub decreases-read_args : goal.decreases-read_args
decreases-read_args g l = 3 * most size-Arg (args_at (g.P.Keys.known l.p.now) l.list) + 1

abbrev pub decreases-value_of_bytes : goal.decreases-value_of_bytes
decreases-value_of_bytes g l = 3 * size-Ty (ty_at (g.P.Keys.known l.p.now) l.ty) + 2

abbrev pub decreases-value_of_value : goal.decreases-value_of_value
decreases-value_of_value g l = 3 * max (size-Ty (ty_at (g.P.Keys.known l.p.now) l.ty)) (size-Value (value_at (g.P.Keys.known l.p.now) l.value)) + 2

abbrev pub decreases-read_value : goal.decreases-read_value
decreases-read_value g l = 3 * size-Value (value_at (g.P.Keys.known l.p.now) l.i)

abbrev pub decreases-read_values : goal.decreases-read_values
decreases-read_values g l = 3 * most size-Value (values_at (g.P.Keys.known l.p.now) l.list) + 1
