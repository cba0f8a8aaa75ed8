use Rattle.std.proofs.Common.{ap}
use Rattle.type_form.specs.Means.{ty_at, value_at, decl_at, instance_at, list_at}
use Rattle.type_form.proofs.LayerLemmas.{ty_at-injective, value_at-injective, decl_at-injective, instance_at-injective, list_at-injective}
use Rattle.type_form.proofs.laws.equal_trees_have_one_index.Goals as goal

pub returns-clause-ty : goal.returns-clause-ty
returns-clause-ty c = λ k i j g a b. (ty_at-injective k i j g a b, ap (ty_at k))

pub returns-clause-value : goal.returns-clause-value
returns-clause-value c = λ k i j g a b. (value_at-injective k i j g a b, ap (value_at k))

pub returns-clause-decl : goal.returns-clause-decl
returns-clause-decl c = λ k i j g a b. (decl_at-injective k i j g a b, ap (decl_at k))

pub returns-clause-instance : goal.returns-clause-instance
returns-clause-instance c = λ k i j g a b. (instance_at-injective k i j g a b, ap (instance_at k))

pub returns-clause-list : goal.returns-clause-list
returns-clause-list c = λ k i j g a b. (list_at-injective k i j g a b, ap (list_at k))
