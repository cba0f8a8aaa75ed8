-- A tree that a list holds is no larger than the largest there.
use denote.Param.Weighed.{most, at_most}
use Rattle.std.proofs.Common.{◌≡◌, ◌∙◌, ℕ, ◌<◌, ◌≤◌, length, get_or, ap, subst, sym, arith}
use Rattle.type_form.specs.declared.index.Index.{Index}
use Rattle.type_form.specs.declared.tree.Ty.{Ty}
use Rattle.type_form.specs.declared.tree.Value.{Value}
use Rattle.type_form.specs.declared.tree.Arg.{Arg}
use Rattle.type_form.specs.declared.tree.Ty.TheVariants as ty
use Rattle.type_form.specs.declared.tree.Value.TheVariants as value
use Rattle.type_form.specs.declared.tree.Arg.TheVariants as arg
use Rattle.type_form.specs.declared.tree.SimpleTy.TheVariants as simple
use Rattle.type_form.specs.declared.tree.Arg.TheViews.{size-Ty, size-Value, size-Arg}
use Rattle.type_form.specs.Known.{Known}
use Rattle.type_form.specs.Words.{index_of}
use Rattle.type_form.specs.Means.{AreTys, tys_at, ty_at, AreValues, values_at, value_at, AreArgs, args_at, arg_at, list_at, Grows}
use Rattle.type_trees.proofs.ReadLemmas.{ty_item, tys_length, value_item, values_length, arg_item, args_length}

pub ty_item-size : (k l : Known) (list : Index) (j n : ℕ) → Grows k l → AreTys k list → j < length (list_at k list) → n ≡ get_or (list_at k list) j 0
    → size-Ty (ty_at l (index_of n)) ≤ most size-Ty (tys_at k list)
ty_item-size k l list j n g h lt e =
    let d : Ty = ty.Simple simple.Bool in
    let is : ty_at l (index_of (get_or (list_at k list) j 0)) ≡ get_or (tys_at k list) j d = (ty_item k l list j d g h lt).is in
    let same : ty_at l (index_of n) ≡ get_or (tys_at k list) j d = ap (λ (m : ℕ). ty_at l (index_of m)) e ∙ is in
    let long : length (list_at k list) ≡ length (tys_at k list) = tys_length k list h in
    let most_there : size-Ty (get_or (tys_at k list) j d) ≤ most size-Ty (tys_at k list) = at_most size-Ty (tys_at k list) j d (omega arith) in
    subst (λ (t : Ty). size-Ty t ≤ most size-Ty (tys_at k list)) (sym same) most_there

pub value_item-size : (k l : Known) (list : Index) (j n : ℕ) → Grows k l → AreValues k list → j < length (list_at k list) → n ≡ get_or (list_at k list) j 0
    → size-Value (value_at l (index_of n)) ≤ most size-Value (values_at k list)
value_item-size k l list j n g h lt e =
    let d : Value = value.OfType (ty.Simple simple.Bool) in
    let is : value_at l (index_of (get_or (list_at k list) j 0)) ≡ get_or (values_at k list) j d = (value_item k l list j d g h lt).is in
    let same : value_at l (index_of n) ≡ get_or (values_at k list) j d = ap (λ (m : ℕ). value_at l (index_of m)) e ∙ is in
    let long : length (list_at k list) ≡ length (values_at k list) = values_length k list h in
    let most_there : size-Value (get_or (values_at k list) j d) ≤ most size-Value (values_at k list) = at_most size-Value (values_at k list) j d (omega arith) in
    subst (λ (t : Value). size-Value t ≤ most size-Value (values_at k list)) (sym same) most_there

pub arg_item-size : (k l : Known) (list : Index) (j n : ℕ) → Grows k l → AreArgs k list → j < length (list_at k list) → n ≡ get_or (list_at k list) j 0
    → size-Arg (arg_at l (index_of n)) ≤ most size-Arg (args_at k list)
arg_item-size k l list j n g h lt e =
    let d : Arg = arg.Typed (ty.Simple simple.Bool) in
    let is : arg_at l (index_of (get_or (list_at k list) j 0)) ≡ get_or (args_at k list) j d = (arg_item k l list j d g h lt).is in
    let same : arg_at l (index_of n) ≡ get_or (args_at k list) j d = ap (λ (m : ℕ). arg_at l (index_of m)) e ∙ is in
    let long : length (list_at k list) ≡ length (args_at k list) = args_length k list h in
    let most_there : size-Arg (get_or (args_at k list) j d) ≤ most size-Arg (args_at k list) = at_most size-Arg (args_at k list) j d (omega arith) in
    subst (λ (t : Arg). size-Arg t ≤ most size-Arg (args_at k list)) (sym same) most_there
