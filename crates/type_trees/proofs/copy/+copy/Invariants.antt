use Rattle.std.proofs.Common.{◌≡◌, ◌+◌, ◌*◌, max, take}
use Rattle.type_form.specs.declared.tree.Arg.TheViews.{size-Ty, size-Value}
use Rattle.type_trees.proofs.copy.+copy.Given as goal

-- what is so far in the list is copied
abbrev pub invariant-copy_tys-loop-ty : goal.invariant-copy_tys-loop-ty
invariant-copy_tys-loop-ty l = l.copies ≡ take l.ty-index l.tys

abbrev pub invariant-copy_args-loop-arg : goal.invariant-copy_args-loop-arg
invariant-copy_args-loop-arg l = l.copies ≡ take l.arg-index l.args

abbrev pub invariant-copy_values-loop-value : goal.invariant-copy_values-loop-value
invariant-copy_values-loop-value l = l.copies ≡ take l.value-index l.values

-- twice the size of a tree, and one more for what goes over its parts
abbrev pub decreases-copy_ty : goal.decreases-copy_ty
decreases-copy_ty l = 2 * goal.size-copy_ty l

abbrev pub decreases-boxed_ty : goal.decreases-boxed_ty
decreases-boxed_ty l = 2 * goal.size-boxed_ty l + 1

abbrev pub decreases-copy_tys : goal.decreases-copy_tys
decreases-copy_tys l = 2 * goal.size-copy_tys l + 1

abbrev pub decreases-copy_decl : goal.decreases-copy_decl
decreases-copy_decl l = 2 * goal.size-copy_decl l

abbrev pub decreases-boxed_decl : goal.decreases-boxed_decl
decreases-boxed_decl l = 2 * goal.size-boxed_decl l + 1

abbrev pub decreases-copy_arg : goal.decreases-copy_arg
decreases-copy_arg l = 2 * goal.size-copy_arg l

abbrev pub decreases-copy_args : goal.decreases-copy_args
decreases-copy_args l = 2 * goal.size-copy_args l + 1

abbrev pub decreases-copy_value : goal.decreases-copy_value
decreases-copy_value l = 2 * goal.size-copy_value l

abbrev pub decreases-copy_values : goal.decreases-copy_values
decreases-copy_values l = 2 * goal.size-copy_values l + 1

abbrev pub decreases-copy_of_bytes : goal.decreases-copy_of_bytes
decreases-copy_of_bytes l = 2 * goal.size-copy_of_bytes l + 1

abbrev pub decreases-copy_of_value : goal.decreases-copy_of_value
decreases-copy_of_value l = 2 * max (size-Ty l.ty.now) (size-Value l.value.now) + 1

abbrev pub decreases-copy_tagged : goal.decreases-copy_tagged
decreases-copy_tagged l = 2 * max (size-Ty l.ty.now) (size-Value l.payload.now) + 1
