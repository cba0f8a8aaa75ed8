-- What was moved is the same type, value, declaration, instance or list of numbers.
use Rattle.std.proofs.Common.{ℕ, [], IsSome, unwrap_or, option_and_then, sym, ap, ◌∙◌, subst}
use Rattle.type_form.specs.Known.{Known}
use Rattle.type_form.specs.Words.{index_of}
use Rattle.type_form.specs.Denote.{as_ty, as_value, as_decl, as_instance, as_list, ty_in, value_in, decl_in, instance_in, list_in}
use Rattle.type_form.specs.declared.tree.Ty.TheVariants as ty
use Rattle.type_form.specs.declared.tree.Value.TheVariants as value
use Rattle.type_form.specs.declared.tree.DeclPath.TheVariants as decl
use Rattle.type_form.specs.declared.tree.SimpleTy.TheVariants as simple
use Rattle.type_form.specs.Means.{IsTy, ty_at, DenotesTy, IsValue, value_at, DenotesValue, IsDecl, decl_at, DenotesDecl, IsInstance, instance_at, DenotesInstance, IsList, list_at, DenotesList}
use Rattle.pool_seat.specs.Moves.{IsSame}

pub moved_ty : (k l : Known) (i j : ℕ) → IsSame k l i j → IsTy k (index_of i) → DenotesTy l (index_of j) (ty_at k (index_of i))
unfolding IsTy ty_at ty_in
moved_ty k l i j s h = let e = ap (option_and_then as_ty) (s.after ∙ sym s.before) in record { known = subst (λ o. IsSome o) (sym e) h; is = ap (λ o. unwrap_or o (ty.Simple simple.Bool)) e }

pub moved_value : (k l : Known) (i j : ℕ) → IsSame k l i j → IsValue k (index_of i) → DenotesValue l (index_of j) (value_at k (index_of i))
unfolding IsValue value_at value_in
moved_value k l i j s h = let e = ap (option_and_then as_value) (s.after ∙ sym s.before) in record { known = subst (λ o. IsSome o) (sym e) h; is = ap (λ o. unwrap_or o (value.OfType (ty.Simple simple.Bool))) e }

pub moved_decl : (k l : Known) (i j : ℕ) → IsSame k l i j → IsDecl k (index_of i) → DenotesDecl l (index_of j) (decl_at k (index_of i))
unfolding IsDecl decl_at decl_in
moved_decl k l i j s h = let e = ap (option_and_then as_decl) (s.after ∙ sym s.before) in record { known = subst (λ o. IsSome o) (sym e) h; is = ap (λ o. unwrap_or o (decl.Comptime [] 0)) e }

pub moved_instance : (k l : Known) (i j : ℕ) → IsSame k l i j → IsInstance k (index_of i) → DenotesInstance l (index_of j) (instance_at k (index_of i))
unfolding IsInstance instance_at instance_in
moved_instance k l i j s h = let e = ap (option_and_then as_instance) (s.after ∙ sym s.before) in record { known = subst (λ o. IsSome o) (sym e) h; is = ap (λ o. unwrap_or o (record { decl = decl.Comptime [] 0; args = [] })) e }

pub moved_list : (k l : Known) (i j : ℕ) → IsSame k l i j → IsList k (index_of i) → DenotesList l (index_of j) (list_at k (index_of i))
unfolding IsList list_at list_in
moved_list k l i j s h = let e = ap (option_and_then as_list) (s.after ∙ sym s.before) in record { known = subst (λ o. IsSome o) (sym e) h; is = ap (λ o. unwrap_or o []) e }
