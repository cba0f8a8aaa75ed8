-- Lists of numbers that are indices of types, of values, of lists or of arguments.
use Rattle.std.proofs.Common.{◌≡◌, ℕ, zero, suc, ◌+◌, ◌<◌, ◌≤◌, ◌++◌, List, [], ◌∷◌, length, get_or, Option, Some, None, option_and_then, option_map, refl, sym, ap, ap₂, ◌∙◌, subst, arith}
use Rattle.type_form.specs.declared.index.Index.{Index}
use Rattle.type_form.specs.declared.tree.Ty.{Ty}
use Rattle.type_form.specs.declared.tree.Value.{Value}
use Rattle.type_form.specs.declared.tree.DeclPath.{DeclPath}
use Rattle.type_form.specs.declared.tree.Arg.{Arg}
use Rattle.type_form.specs.declared.unit.Instance.{Instance}
use Rattle.type_form.specs.declared.tree.Ty.TheVariants as ty
use Rattle.type_form.specs.declared.tree.Value.TheVariants as value
use Rattle.type_form.specs.declared.tree.DeclPath.TheVariants as decl
use Rattle.type_form.specs.declared.tree.Arg.TheVariants as arg
use Rattle.type_form.specs.Known.{Known, Keeps}
use Rattle.type_form.specs.Words.{index_of}
use Rattle.type_form.specs.Denote.{Node, OfTy, OfValue, OfDecl, OfArg, OfInstance, OfList, Reading, option_map2, option_map3, node_of, reading, denoted, end_of, more_of, as_ty, as_value, as_decl, as_instance, as_list, as_arg, is_byte, bytes_of, each, each_in, arg_in, ty_in, value_in, decl_in, instance_in, list_in, bytes_in, names_in, tys_in, values_in, args_in}
use Rattle.type_form.specs.Means.{IsTy, ty_at, IsValue, value_at, IsDecl, decl_at, IsArg, arg_at, IsInstance, instance_at, IsList, list_at, IsBytes, bytes_at, AreNames, names_at, AreTys, tys_at, AreValues, values_at, AreArgs, args_at, DenotesTy, DenotesValue, DenotesDecl, DenotesArg, DenotesInstance, DenotesList, DenotesBytes, DenotesNames, DenotesTys, DenotesValues, DenotesArgs, HasKey, KeepsAll, Stays, Grows, IsTyOf, IsValueOf, IsDeclOf, IsArgOf, IsInstanceOf, IsListOf}
use Rattle.type_form.specs.Means.{ListNames, ListTys, ListValues, ListArgs}
use Rattle.type_form.proofs.Options.{two_tells, then_tells, each_lower}
use Rattle.type_form.proofs.KeyKinds.{ty_in-lower, value_in-lower, list_in-lower, bytes_in-lower, arg_in-lower}
use Rattle.type_form.proofs.Depth.{denoted-grows}
use Rattle.type_form.proofs.MeansLemmas.{ty_part, ty_whole, value_part, value_whole, list_part, list_whole, tys_part, tys_whole, values_part, values_whole, names_part, names_whole, args_part, args_whole, arg_part, arg_whole, bytes_part, bytes_whole}

each_push : {A : Type 0} (f : Index → Option A) (ns : List ℕ) (n : ℕ) (xs : List A) (x : A) → each f ns ≡ Some xs → f (index_of n) ≡ Some x → each f (ns ++ n ∷ []) ≡ Some (xs ++ x ∷ [])
each_push f [] n [] x e h = ap (λ o. option_map2 (λ y ys. y ∷ ys) o (Some [])) h
each_push f [] n (y ∷ ys) x e h = cc
each_push f (m ∷ ms) n xs x e h =
    let t = two_tells (λ y ys. y ∷ ys) (f (index_of m)) (each f ms) xs e in
    ap (λ o. option_map2 (λ y ys. y ∷ ys) o (each f (ms ++ n ∷ []))) t.2
    ∙ ap (option_map (λ ys. t.0 ∷ ys)) (each_push f ms n t.1 x t.3 h)
    ∙ ap (λ zs. Some (zs ++ x ∷ [])) t.4

each_length : {A : Type 0} (f : Index → Option A) (ns : List ℕ) (xs : List A) → each f ns ≡ Some xs → length ns ≡ length xs
each_length f [] [] e = refl
each_length f [] (x ∷ xs) e = cc
each_length f (n ∷ ns) xs e =
    let t = two_tells (λ y ys. y ∷ ys) (f (index_of n)) (each f ns) xs e in
    ap suc (each_length f ns t.1 t.3) ∙ ap length t.4

each_at : {A : Type 0} (f : Index → Option A) (ns : List ℕ) (xs : List A) → each f ns ≡ Some xs → (j : ℕ) → j < length ns → (d : A) → f (index_of (get_or ns j 0)) ≡ Some (get_or xs j d)
each_at f [] xs e j h d = absurd (omega (arith, h))
each_at f (n ∷ ns) xs e zero h d =
    let t = two_tells (λ y ys. y ∷ ys) (f (index_of n)) (each f ns) xs e in
    t.2 ∙ ap (λ zs. Some (get_or zs 0 d)) t.4
each_at f (n ∷ ns) xs e (suc j) h d =
    let t = two_tells (λ y ys. y ∷ ys) (f (index_of n)) (each f ns) xs e in
    each_at f ns t.1 t.3 j (omega (arith, h)) d ∙ ap (λ zs. Some (get_or zs (suc j) d)) t.4

in_list : {A : Type 0} (f : Index → Option A) (r : Reading) (l : Index) (ns : List ℕ) (xs : List A) → list_in r l ≡ Some ns → each f ns ≡ Some xs → each_in f r l ≡ Some xs
unfolding each_in
in_list f r l ns xs e h = ap (option_and_then (each f)) e ∙ h

in_list_tells : {A : Type 0} (f : Index → Option A) (r : Reading) (l : Index) (xs : List A) → each_in f r l ≡ Some xs → (ns : List ℕ) × (list_in r l ≡ Some ns) × (each f ns ≡ Some xs)
unfolding each_in
in_list_tells f r l xs e = then_tells (each f) (list_in r l) xs e

pub ListNames-nil : (k : Known) → ListNames k [] []
ListNames-nil k = record { is = refl }

pub ListNames-grows : (k l : Known) (ns : List ℕ) (xs : List (List ℕ)) → Grows k l → ListNames k ns xs → ListNames l ns xs
ListNames-grows k l ns xs g h = record { is = each_lower _ _ (bytes_in-lower (denoted k) (denoted l) (denoted-grows k l g.kept.keeps)) ns xs h.is }

pub ListNames-length : (k : Known) (ns : List ℕ) (xs : List (List ℕ)) → ListNames k ns xs → length ns ≡ length xs
ListNames-length k ns xs h = each_length (bytes_in (denoted k)) ns xs h.is

-- a list whose numbers are such indices
pub DenotesNames-list : (k : Known) (l : Index) (ns : List ℕ) (xs : List (List ℕ)) → DenotesList k l ns → ListNames k ns xs → DenotesNames k l xs
unfolding names_in
DenotesNames-list k l ns xs d h = let p = names_part k l xs (in_list (bytes_in (denoted k)) (denoted k) l ns xs (list_whole k l d.known ∙ ap Some d.is) h.is) in record { known = p.0; is = sym p.1 }

tells_names : (k : Known) (l : Index) → AreNames k l → (ns : List ℕ) × (list_in (denoted k) l ≡ Some ns) × (each (bytes_in (denoted k)) ns ≡ Some (names_at k l))
unfolding names_in
tells_names k l h = in_list_tells (bytes_in (denoted k)) (denoted k) l (names_at k l) (names_whole k l h)

pub AreNames-list : (k : Known) (l : Index) → AreNames k l → IsList k l
AreNames-list k l h = let t = tells_names k l h in (list_part k l t.0 t.1).0

pub AreNames-ListNames : (k : Known) (l : Index) → AreNames k l → ListNames k (list_at k l) (names_at k l)
AreNames-ListNames k l h = let t = tells_names k l h in record { is = subst (λ ns. each (bytes_in (denoted k)) ns ≡ Some (names_at k l)) (list_part k l t.0 t.1).1 t.2 }

pub list-AreNames : (k : Known) (l : Index) (xs : List (List ℕ)) → IsList k l → ListNames k (list_at k l) xs → DenotesNames k l xs
list-AreNames k l xs i h = DenotesNames-list k l (list_at k l) xs (record { known = i; is = refl }) h

pub ListNames-push : (k : Known) (ns : List ℕ) (xs : List (List ℕ)) (i : Index) (x : List ℕ) → ListNames k ns xs → DenotesBytes k i x → ListNames k (ns ++ i.0 ∷ []) (xs ++ x ∷ [])
ListNames-push k ns xs i x h d = record { is = each_push (bytes_in (denoted k)) ns i.0 xs x h.is (bytes_whole k i d.known ∙ ap Some d.is) }

-- what stands at a place
pub ListNames-at : (k : Known) (ns : List ℕ) (xs : List (List ℕ)) → ListNames k ns xs → (j : ℕ) → j < length ns → (d : List ℕ) → DenotesBytes k (index_of (get_or ns j 0)) (get_or xs j d)
ListNames-at k ns xs h j lt d = let p = bytes_part k (index_of (get_or ns j 0)) (get_or xs j d) (each_at (bytes_in (denoted k)) ns xs h.is j lt d) in record { known = p.0; is = sym p.1 }

pub ListTys-nil : (k : Known) → ListTys k [] []
ListTys-nil k = record { is = refl }

pub ListTys-grows : (k l : Known) (ns : List ℕ) (xs : List (Ty)) → Grows k l → ListTys k ns xs → ListTys l ns xs
ListTys-grows k l ns xs g h = record { is = each_lower _ _ (ty_in-lower (denoted k) (denoted l) (denoted-grows k l g.kept.keeps)) ns xs h.is }

pub ListTys-length : (k : Known) (ns : List ℕ) (xs : List (Ty)) → ListTys k ns xs → length ns ≡ length xs
ListTys-length k ns xs h = each_length (ty_in (denoted k)) ns xs h.is

-- a list whose numbers are such indices
pub DenotesTys-list : (k : Known) (l : Index) (ns : List ℕ) (xs : List (Ty)) → DenotesList k l ns → ListTys k ns xs → DenotesTys k l xs
unfolding tys_in
DenotesTys-list k l ns xs d h = let p = tys_part k l xs (in_list (ty_in (denoted k)) (denoted k) l ns xs (list_whole k l d.known ∙ ap Some d.is) h.is) in record { known = p.0; is = sym p.1 }

tells_tys : (k : Known) (l : Index) → AreTys k l → (ns : List ℕ) × (list_in (denoted k) l ≡ Some ns) × (each (ty_in (denoted k)) ns ≡ Some (tys_at k l))
unfolding tys_in
tells_tys k l h = in_list_tells (ty_in (denoted k)) (denoted k) l (tys_at k l) (tys_whole k l h)

pub AreTys-list : (k : Known) (l : Index) → AreTys k l → IsList k l
AreTys-list k l h = let t = tells_tys k l h in (list_part k l t.0 t.1).0

pub AreTys-ListTys : (k : Known) (l : Index) → AreTys k l → ListTys k (list_at k l) (tys_at k l)
AreTys-ListTys k l h = let t = tells_tys k l h in record { is = subst (λ ns. each (ty_in (denoted k)) ns ≡ Some (tys_at k l)) (list_part k l t.0 t.1).1 t.2 }

pub list-AreTys : (k : Known) (l : Index) (xs : List (Ty)) → IsList k l → ListTys k (list_at k l) xs → DenotesTys k l xs
list-AreTys k l xs i h = DenotesTys-list k l (list_at k l) xs (record { known = i; is = refl }) h

pub ListTys-push : (k : Known) (ns : List ℕ) (xs : List (Ty)) (i : Index) (x : Ty) → ListTys k ns xs → DenotesTy k i x → ListTys k (ns ++ i.0 ∷ []) (xs ++ x ∷ [])
ListTys-push k ns xs i x h d = record { is = each_push (ty_in (denoted k)) ns i.0 xs x h.is (ty_whole k i d.known ∙ ap Some d.is) }

-- what stands at a place
pub ListTys-at : (k : Known) (ns : List ℕ) (xs : List (Ty)) → ListTys k ns xs → (j : ℕ) → j < length ns → (d : Ty) → DenotesTy k (index_of (get_or ns j 0)) (get_or xs j d)
ListTys-at k ns xs h j lt d = let p = ty_part k (index_of (get_or ns j 0)) (get_or xs j d) (each_at (ty_in (denoted k)) ns xs h.is j lt d) in record { known = p.0; is = sym p.1 }

pub ListValues-nil : (k : Known) → ListValues k [] []
ListValues-nil k = record { is = refl }

pub ListValues-grows : (k l : Known) (ns : List ℕ) (xs : List (Value)) → Grows k l → ListValues k ns xs → ListValues l ns xs
ListValues-grows k l ns xs g h = record { is = each_lower _ _ (value_in-lower (denoted k) (denoted l) (denoted-grows k l g.kept.keeps)) ns xs h.is }

pub ListValues-length : (k : Known) (ns : List ℕ) (xs : List (Value)) → ListValues k ns xs → length ns ≡ length xs
ListValues-length k ns xs h = each_length (value_in (denoted k)) ns xs h.is

-- a list whose numbers are such indices
pub DenotesValues-list : (k : Known) (l : Index) (ns : List ℕ) (xs : List (Value)) → DenotesList k l ns → ListValues k ns xs → DenotesValues k l xs
unfolding values_in
DenotesValues-list k l ns xs d h = let p = values_part k l xs (in_list (value_in (denoted k)) (denoted k) l ns xs (list_whole k l d.known ∙ ap Some d.is) h.is) in record { known = p.0; is = sym p.1 }

tells_values : (k : Known) (l : Index) → AreValues k l → (ns : List ℕ) × (list_in (denoted k) l ≡ Some ns) × (each (value_in (denoted k)) ns ≡ Some (values_at k l))
unfolding values_in
tells_values k l h = in_list_tells (value_in (denoted k)) (denoted k) l (values_at k l) (values_whole k l h)

pub AreValues-list : (k : Known) (l : Index) → AreValues k l → IsList k l
AreValues-list k l h = let t = tells_values k l h in (list_part k l t.0 t.1).0

pub AreValues-ListValues : (k : Known) (l : Index) → AreValues k l → ListValues k (list_at k l) (values_at k l)
AreValues-ListValues k l h = let t = tells_values k l h in record { is = subst (λ ns. each (value_in (denoted k)) ns ≡ Some (values_at k l)) (list_part k l t.0 t.1).1 t.2 }

pub list-AreValues : (k : Known) (l : Index) (xs : List (Value)) → IsList k l → ListValues k (list_at k l) xs → DenotesValues k l xs
list-AreValues k l xs i h = DenotesValues-list k l (list_at k l) xs (record { known = i; is = refl }) h

pub ListValues-push : (k : Known) (ns : List ℕ) (xs : List (Value)) (i : Index) (x : Value) → ListValues k ns xs → DenotesValue k i x → ListValues k (ns ++ i.0 ∷ []) (xs ++ x ∷ [])
ListValues-push k ns xs i x h d = record { is = each_push (value_in (denoted k)) ns i.0 xs x h.is (value_whole k i d.known ∙ ap Some d.is) }

-- what stands at a place
pub ListValues-at : (k : Known) (ns : List ℕ) (xs : List (Value)) → ListValues k ns xs → (j : ℕ) → j < length ns → (d : Value) → DenotesValue k (index_of (get_or ns j 0)) (get_or xs j d)
ListValues-at k ns xs h j lt d = let p = value_part k (index_of (get_or ns j 0)) (get_or xs j d) (each_at (value_in (denoted k)) ns xs h.is j lt d) in record { known = p.0; is = sym p.1 }

pub ListArgs-nil : (k : Known) → ListArgs k [] []
ListArgs-nil k = record { is = refl }

pub ListArgs-grows : (k l : Known) (ns : List ℕ) (xs : List (Arg)) → Grows k l → ListArgs k ns xs → ListArgs l ns xs
ListArgs-grows k l ns xs g h = record { is = each_lower _ _ (arg_in-lower (denoted k) (denoted l) (denoted-grows k l g.kept.keeps)) ns xs h.is }

pub ListArgs-length : (k : Known) (ns : List ℕ) (xs : List (Arg)) → ListArgs k ns xs → length ns ≡ length xs
ListArgs-length k ns xs h = each_length (arg_in (denoted k)) ns xs h.is

-- a list whose numbers are such indices
pub DenotesArgs-list : (k : Known) (l : Index) (ns : List ℕ) (xs : List (Arg)) → DenotesList k l ns → ListArgs k ns xs → DenotesArgs k l xs
unfolding args_in
DenotesArgs-list k l ns xs d h = let p = args_part k l xs (in_list (arg_in (denoted k)) (denoted k) l ns xs (list_whole k l d.known ∙ ap Some d.is) h.is) in record { known = p.0; is = sym p.1 }

tells_args : (k : Known) (l : Index) → AreArgs k l → (ns : List ℕ) × (list_in (denoted k) l ≡ Some ns) × (each (arg_in (denoted k)) ns ≡ Some (args_at k l))
unfolding args_in
tells_args k l h = in_list_tells (arg_in (denoted k)) (denoted k) l (args_at k l) (args_whole k l h)

pub AreArgs-list : (k : Known) (l : Index) → AreArgs k l → IsList k l
AreArgs-list k l h = let t = tells_args k l h in (list_part k l t.0 t.1).0

pub AreArgs-ListArgs : (k : Known) (l : Index) → AreArgs k l → ListArgs k (list_at k l) (args_at k l)
AreArgs-ListArgs k l h = let t = tells_args k l h in record { is = subst (λ ns. each (arg_in (denoted k)) ns ≡ Some (args_at k l)) (list_part k l t.0 t.1).1 t.2 }

pub list-AreArgs : (k : Known) (l : Index) (xs : List (Arg)) → IsList k l → ListArgs k (list_at k l) xs → DenotesArgs k l xs
list-AreArgs k l xs i h = DenotesArgs-list k l (list_at k l) xs (record { known = i; is = refl }) h

pub ListArgs-push : (k : Known) (ns : List ℕ) (xs : List (Arg)) (i : Index) (x : Arg) → ListArgs k ns xs → DenotesArg k i x → ListArgs k (ns ++ i.0 ∷ []) (xs ++ x ∷ [])
ListArgs-push k ns xs i x h d = record { is = each_push (arg_in (denoted k)) ns i.0 xs x h.is (arg_whole k i d.known ∙ ap Some d.is) }

-- what stands at a place
pub ListArgs-at : (k : Known) (ns : List ℕ) (xs : List (Arg)) → ListArgs k ns xs → (j : ℕ) → j < length ns → (d : Arg) → DenotesArg k (index_of (get_or ns j 0)) (get_or xs j d)
ListArgs-at k ns xs h j lt d = let p = arg_part k (index_of (get_or ns j 0)) (get_or xs j d) (each_at (arg_in (denoted k)) ns xs h.is j lt d) in record { known = p.0; is = sym p.1 }
