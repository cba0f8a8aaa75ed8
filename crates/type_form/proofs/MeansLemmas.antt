-- What a key says of what its index denotes, and back; that what is denoted stays.
use Rattle.std.proofs.Common.{◌≡◌, ℕ, zero, suc, ◌+◌, ◌<◌, ◌≤◌, ◌==◌, ◌++◌, Bool, true, false, if◌then◌else◌, List, [], ◌∷◌, length, Option, Some, None, IsSome, is_some, unwrap_or, option_and_then, option_map, refl, sym, ap, ap₂, ◌∙◌, subst, arith, eqb-true, nat_le, nat_lt}
use Rattle.std.specs.List.{list_all}
use Rattle.std.proofs.lemmas.List.Elements.{All-append}
use Rattle.std.proofs.lemmas.List.Sums.{AllPass-from_list_all, list_all-from_AllPass}
use Rattle.type_form.specs.declared.index.Index.{Index}
use Rattle.type_form.specs.declared.key.Key.{Key}
use Rattle.type_form.specs.declared.key.Key.TheVariants as key
use Rattle.type_form.specs.declared.tree.Ty.{Ty}
use Rattle.type_form.specs.declared.tree.Value.{Value}
use Rattle.type_form.specs.declared.tree.DeclPath.{DeclPath}
use Rattle.type_form.specs.declared.tree.Arg.{Arg}
use Rattle.type_form.specs.declared.unit.Instance.{Instance}
use Rattle.type_form.specs.declared.tree.Ty.TheVariants as ty
use Rattle.type_form.specs.declared.tree.Value.TheVariants as value
use Rattle.type_form.specs.declared.tree.DeclPath.TheVariants as decl
use Rattle.type_form.specs.declared.tree.Arg.TheVariants as arg
use Rattle.type_form.specs.Known.{Known, words_at, key_at, Keeps, IsInjective}
use Rattle.type_form.specs.Words.{key_of, words_of, Fits}
use Rattle.type_form.specs.Denote.{Node, OfTy, OfValue, OfDecl, OfArg, OfInstance, OfList, Reading, option_map2, option_map3, node_of, reading, denoted, end_of, more_of, as_ty, as_value, as_decl, as_instance, as_list, as_arg, is_byte, bytes_of, each, each_in, arg_in, ty_in, value_in, decl_in, instance_in, list_in, bytes_in, names_in, tys_in, values_in, args_in}
use Rattle.type_form.specs.Means.{IsTy, ty_at, IsValue, value_at, IsDecl, decl_at, IsArg, arg_at, IsInstance, instance_at, IsList, list_at, IsBytes, bytes_at, AreNames, names_at, AreTys, tys_at, AreValues, values_at, AreArgs, args_at, DenotesTy, DenotesValue, DenotesDecl, DenotesArg, DenotesInstance, DenotesList, DenotesBytes, DenotesNames, DenotesTys, DenotesValues, DenotesArgs, AreBytes, HasKey, KeepsAll, Stays, Grows, IsTyOf, IsValueOf, IsDeclOf, IsArgOf, IsInstanceOf, IsListOf}
use Rattle.type_form.proofs.Options.{one_tells, two_tells, three_tells, then_tells, part, whole, some_lower, unwrap_lower, lower_refl, ap₃}
use Rattle.type_form.proofs.KeyKinds.{Below, node_of-lower, ty_in-lower, value_in-lower, decl_in-lower, arg_in-lower, instance_in-lower, list_in-lower, bytes_in-lower, names_in-lower, tys_in-lower, values_in-lower, args_in-lower}
use Rattle.type_form.proofs.Depth.{denoted-is, denoted-grows}
use Rattle.type_form.proofs.WordLemmas.{key_of-words_of}

pub ty_part : (k : Known) (i : Index) (x : Ty) → ty_in (denoted k) i ≡ Some x → IsTy k i × (x ≡ ty_at k i)
unfolding IsTy ty_at
ty_part k i x e = part _ _ x e

pub ty_whole : (k : Known) (i : Index) → IsTy k i → ty_in (denoted k) i ≡ Some (ty_at k i)
unfolding IsTy ty_at
ty_whole k i h = whole _ _ h

pub value_part : (k : Known) (i : Index) (x : Value) → value_in (denoted k) i ≡ Some x → IsValue k i × (x ≡ value_at k i)
unfolding IsValue value_at
value_part k i x e = part _ _ x e

pub value_whole : (k : Known) (i : Index) → IsValue k i → value_in (denoted k) i ≡ Some (value_at k i)
unfolding IsValue value_at
value_whole k i h = whole _ _ h

pub decl_part : (k : Known) (i : Index) (x : DeclPath) → decl_in (denoted k) i ≡ Some x → IsDecl k i × (x ≡ decl_at k i)
unfolding IsDecl decl_at
decl_part k i x e = part _ _ x e

pub decl_whole : (k : Known) (i : Index) → IsDecl k i → decl_in (denoted k) i ≡ Some (decl_at k i)
unfolding IsDecl decl_at
decl_whole k i h = whole _ _ h

pub arg_part : (k : Known) (i : Index) (x : Arg) → arg_in (denoted k) i ≡ Some x → IsArg k i × (x ≡ arg_at k i)
unfolding IsArg arg_at
arg_part k i x e = part _ _ x e

pub arg_whole : (k : Known) (i : Index) → IsArg k i → arg_in (denoted k) i ≡ Some (arg_at k i)
unfolding IsArg arg_at
arg_whole k i h = whole _ _ h

pub instance_part : (k : Known) (i : Index) (x : Instance) → instance_in (denoted k) i ≡ Some x → IsInstance k i × (x ≡ instance_at k i)
unfolding IsInstance instance_at
instance_part k i x e = part _ _ x e

pub instance_whole : (k : Known) (i : Index) → IsInstance k i → instance_in (denoted k) i ≡ Some (instance_at k i)
unfolding IsInstance instance_at
instance_whole k i h = whole _ _ h

pub list_part : (k : Known) (i : Index) (x : List ℕ) → list_in (denoted k) i ≡ Some x → IsList k i × (x ≡ list_at k i)
unfolding IsList list_at
list_part k i x e = part _ _ x e

pub list_whole : (k : Known) (i : Index) → IsList k i → list_in (denoted k) i ≡ Some (list_at k i)
unfolding IsList list_at
list_whole k i h = whole _ _ h

pub bytes_part : (k : Known) (i : Index) (x : List ℕ) → bytes_in (denoted k) i ≡ Some x → IsBytes k i × (x ≡ bytes_at k i)
unfolding IsBytes bytes_at
bytes_part k i x e = part _ _ x e

pub bytes_whole : (k : Known) (i : Index) → IsBytes k i → bytes_in (denoted k) i ≡ Some (bytes_at k i)
unfolding IsBytes bytes_at
bytes_whole k i h = whole _ _ h

pub names_part : (k : Known) (i : Index) (x : List (List ℕ)) → names_in (denoted k) i ≡ Some x → AreNames k i × (x ≡ names_at k i)
unfolding AreNames names_at
names_part k i x e = part _ _ x e

pub names_whole : (k : Known) (i : Index) → AreNames k i → names_in (denoted k) i ≡ Some (names_at k i)
unfolding AreNames names_at
names_whole k i h = whole _ _ h

pub tys_part : (k : Known) (i : Index) (x : List Ty) → tys_in (denoted k) i ≡ Some x → AreTys k i × (x ≡ tys_at k i)
unfolding AreTys tys_at
tys_part k i x e = part _ _ x e

pub tys_whole : (k : Known) (i : Index) → AreTys k i → tys_in (denoted k) i ≡ Some (tys_at k i)
unfolding AreTys tys_at
tys_whole k i h = whole _ _ h

pub values_part : (k : Known) (i : Index) (x : List Value) → values_in (denoted k) i ≡ Some x → AreValues k i × (x ≡ values_at k i)
unfolding AreValues values_at
values_part k i x e = part _ _ x e

pub values_whole : (k : Known) (i : Index) → AreValues k i → values_in (denoted k) i ≡ Some (values_at k i)
unfolding AreValues values_at
values_whole k i h = whole _ _ h

pub args_part : (k : Known) (i : Index) (x : List Arg) → args_in (denoted k) i ≡ Some x → AreArgs k i × (x ≡ args_at k i)
unfolding AreArgs args_at
args_part k i x e = part _ _ x e

pub args_whole : (k : Known) (i : Index) → AreArgs k i → args_in (denoted k) i ≡ Some (args_at k i)
unfolding AreArgs args_at
args_whole k i h = whole _ _ h

pub ty_from : (r : Reading) (i : Index) (x : Ty) → r i ≡ Some (OfTy x) → ty_in r i ≡ Some x
unfolding ty_in
ty_from r i x e = ap (option_and_then as_ty) e

as_ty-is : (n : Node) (x : Ty) → as_ty n ≡ Some x → n ≡ OfTy x
as_ty-is (OfTy y) x e = cc
as_ty-is (OfValue y) x e = cc
as_ty-is (OfDecl y) x e = cc
as_ty-is (OfArg y) x e = cc
as_ty-is (OfInstance y) x e = cc
as_ty-is (OfList y) x e = cc

pub ty_node : (r : Reading) (i : Index) (x : Ty) → ty_in r i ≡ Some x → r i ≡ Some (OfTy x)
unfolding ty_in
ty_node r i x e = let t = then_tells as_ty (r i) x e in t.1 ∙ ap Some (as_ty-is t.0 x t.2)

pub value_from : (r : Reading) (i : Index) (x : Value) → r i ≡ Some (OfValue x) → value_in r i ≡ Some x
unfolding value_in
value_from r i x e = ap (option_and_then as_value) e

as_value-is : (n : Node) (x : Value) → as_value n ≡ Some x → n ≡ OfValue x
as_value-is (OfTy y) x e = cc
as_value-is (OfValue y) x e = cc
as_value-is (OfDecl y) x e = cc
as_value-is (OfArg y) x e = cc
as_value-is (OfInstance y) x e = cc
as_value-is (OfList y) x e = cc

pub value_node : (r : Reading) (i : Index) (x : Value) → value_in r i ≡ Some x → r i ≡ Some (OfValue x)
unfolding value_in
value_node r i x e = let t = then_tells as_value (r i) x e in t.1 ∙ ap Some (as_value-is t.0 x t.2)

pub decl_from : (r : Reading) (i : Index) (x : DeclPath) → r i ≡ Some (OfDecl x) → decl_in r i ≡ Some x
unfolding decl_in
decl_from r i x e = ap (option_and_then as_decl) e

as_decl-is : (n : Node) (x : DeclPath) → as_decl n ≡ Some x → n ≡ OfDecl x
as_decl-is (OfTy y) x e = cc
as_decl-is (OfValue y) x e = cc
as_decl-is (OfDecl y) x e = cc
as_decl-is (OfArg y) x e = cc
as_decl-is (OfInstance y) x e = cc
as_decl-is (OfList y) x e = cc

pub decl_node : (r : Reading) (i : Index) (x : DeclPath) → decl_in r i ≡ Some x → r i ≡ Some (OfDecl x)
unfolding decl_in
decl_node r i x e = let t = then_tells as_decl (r i) x e in t.1 ∙ ap Some (as_decl-is t.0 x t.2)

pub arg_from : (r : Reading) (i : Index) (x : Arg) → r i ≡ Some (OfArg x) → arg_in r i ≡ Some x
unfolding arg_in
arg_from r i x e = ap (option_and_then as_arg) e

as_arg-is : (n : Node) (x : Arg) → as_arg n ≡ Some x → n ≡ OfArg x
as_arg-is (OfTy y) x e = cc
as_arg-is (OfValue y) x e = cc
as_arg-is (OfDecl y) x e = cc
as_arg-is (OfArg y) x e = cc
as_arg-is (OfInstance y) x e = cc
as_arg-is (OfList y) x e = cc

pub arg_node : (r : Reading) (i : Index) (x : Arg) → arg_in r i ≡ Some x → r i ≡ Some (OfArg x)
unfolding arg_in
arg_node r i x e = let t = then_tells as_arg (r i) x e in t.1 ∙ ap Some (as_arg-is t.0 x t.2)

pub instance_from : (r : Reading) (i : Index) (x : Instance) → r i ≡ Some (OfInstance x) → instance_in r i ≡ Some x
unfolding instance_in
instance_from r i x e = ap (option_and_then as_instance) e

as_instance-is : (n : Node) (x : Instance) → as_instance n ≡ Some x → n ≡ OfInstance x
as_instance-is (OfTy y) x e = cc
as_instance-is (OfValue y) x e = cc
as_instance-is (OfDecl y) x e = cc
as_instance-is (OfArg y) x e = cc
as_instance-is (OfInstance y) x e = cc
as_instance-is (OfList y) x e = cc

pub instance_node : (r : Reading) (i : Index) (x : Instance) → instance_in r i ≡ Some x → r i ≡ Some (OfInstance x)
unfolding instance_in
instance_node r i x e = let t = then_tells as_instance (r i) x e in t.1 ∙ ap Some (as_instance-is t.0 x t.2)

pub list_from : (r : Reading) (i : Index) (x : List ℕ) → r i ≡ Some (OfList x) → list_in r i ≡ Some x
unfolding list_in
list_from r i x e = ap (option_and_then as_list) e

as_list-is : (n : Node) (x : List ℕ) → as_list n ≡ Some x → n ≡ OfList x
as_list-is (OfTy y) x e = cc
as_list-is (OfValue y) x e = cc
as_list-is (OfDecl y) x e = cc
as_list-is (OfArg y) x e = cc
as_list-is (OfInstance y) x e = cc
as_list-is (OfList y) x e = cc

pub list_node : (r : Reading) (i : Index) (x : List ℕ) → list_in r i ≡ Some x → r i ≡ Some (OfList x)
unfolding list_in
list_node r i x e = let t = then_tells as_list (r i) x e in t.1 ∙ ap Some (as_list-is t.0 x t.2)

pub bytes_of-is : (ns x : List ℕ) → bytes_of ns ≡ Some x → (ns ≡ x) × (list_all is_byte ns ≡ true)
unfolding bytes_of
bytes_of-is ns x e = by_test (list_all is_byte ns) refl
  where
    by_test : (b : Bool) → list_all is_byte ns ≡ b → (ns ≡ x) × (list_all is_byte ns ≡ true)
    by_test true t = let f = sym (ap (λ u. if u then Some ns else None) t) ∙ e in (cc, t)
    by_test false t = let f = sym (ap (λ u. if u then Some ns else None) t) ∙ e in cc

bytes_of-made : (ns : List ℕ) → list_all is_byte ns ≡ true → bytes_of ns ≡ Some ns
unfolding bytes_of
bytes_of-made ns e = ap (λ u. if u then Some ns else None) e

-- bytes are a list of numbers
pub bytes_list : (r : Reading) (i : Index) (x : List ℕ) → bytes_in r i ≡ Some x → list_in r i ≡ Some x
unfolding bytes_in
bytes_list r i x e = let t = then_tells bytes_of (list_in r i) x e in t.1 ∙ ap Some (bytes_of-is t.0 x t.2).0

byte_is : (n : ℕ) → is_byte n ≡ true → n < 256
byte_is n e = grind arith

is_byte_of : (n : ℕ) → n < 256 → is_byte n ≡ true
is_byte_of n h = grind arith

all_bytes : (ns : List ℕ) → list_all is_byte ns ≡ true → AreBytes ns
all_bytes ns e = record { are = λ k d l. byte_is _ (AllPass-from_list_all is_byte ns e k d l) }

bytes_all : (ns : List ℕ) → AreBytes ns → list_all is_byte ns ≡ true
bytes_all ns h = list_all-from_AllPass is_byte ns (λ k d l. is_byte_of _ (h.are k d l))

-- a list of bytes is a list of numbers, and these are bytes
pub IsBytes-list : (k : Known) (i : Index) → IsBytes k i → DenotesList k i (bytes_at k i)
IsBytes-list k i h = let p = list_part k i (bytes_at k i) (bytes_list (denoted k) i (bytes_at k i) (bytes_whole k i h)) in record { known = p.0; is = sym p.1 }

pub IsBytes-bytes : (k : Known) (i : Index) → IsBytes k i → AreBytes (bytes_at k i)
unfolding bytes_in
IsBytes-bytes k i h = let t = then_tells bytes_of (list_in (denoted k) i) (bytes_at k i) (bytes_whole k i h) in let b = bytes_of-is t.0 (bytes_at k i) t.2 in subst AreBytes b.0 (all_bytes t.0 b.1)

-- a list of numbers that are bytes
pub DenotesBytes-list : (k : Known) (i : Index) (x : List ℕ) → DenotesList k i x → AreBytes x → DenotesBytes k i x
unfolding bytes_in
DenotesBytes-list k i x d h = let p = bytes_part k i x (ap (option_and_then bytes_of) (list_whole k i d.known ∙ ap Some d.is) ∙ bytes_of-made x (bytes_all x h)) in record { known = p.0; is = sym p.1 }

pub AreBytes-append : (xs ys : List ℕ) → AreBytes xs → AreBytes ys → AreBytes (xs ++ ys)
AreBytes-append xs ys h g = record { are = All-append (λ n. n < 256) xs ys h.are g.are }

-- what a node is, as a key says it
abbrev pub IsNodeOf : Known → Key → Node → Type 0
IsNodeOf k key (OfTy x) = IsTyOf k key x
IsNodeOf k key (OfValue x) = IsValueOf k key x
IsNodeOf k key (OfDecl x) = IsDeclOf k key x
IsNodeOf k key (OfArg x) = IsArgOf k key x
IsNodeOf k key (OfInstance x) = IsInstanceOf k key x
IsNodeOf k key (OfList x) = IsListOf k key x

pub end_tells : (ns : List ℕ) (n : Node) → end_of ns ≡ Some n → (length ns ≤ 60) × (OfList ns ≡ n)
end_tells ns n e = by_test (nat_le (length ns) 60) refl
  where
    by_test : (b : Bool) → nat_le (length ns) 60 ≡ b → (length ns ≤ 60) × (OfList ns ≡ n)
    by_test true t = let f = sym (ap (λ u. if u then Some (OfList ns) else None) t) ∙ e in (grind arith, cc)
    by_test false t = let f = sym (ap (λ u. if u then Some (OfList ns) else None) t) ∙ e in cc

end_made : (ns : List ℕ) → length ns ≤ 60 → end_of ns ≡ Some (OfList ns)
end_made ns h = grind arith

pub more_tells : (ns ms : List ℕ) (n : Node) → more_of ns ms ≡ Some n → (length ns ≡ 60) × (0 < length ms) × (OfList (ns ++ ms) ≡ n)
more_tells ns [] n e = cc
more_tells ns (m ∷ ms) n e = by_test (length ns == 60) refl
  where
    by_test : (b : Bool) → (length ns == 60) ≡ b → (length ns ≡ 60) × (0 < length (m ∷ ms)) × (OfList (ns ++ m ∷ ms) ≡ n)
    by_test true t = let f = sym (ap (λ u. if u then Some (OfList (ns ++ m ∷ ms)) else None) t) ∙ e in (eqb-true _ _ t, omega arith, cc)
    by_test false t = let f = sym (ap (λ u. if u then Some (OfList (ns ++ m ∷ ms)) else None) t) ∙ e in cc

more_made : (ns ms : List ℕ) → length ns ≡ 60 → 0 < length ms → more_of ns ms ≡ Some (OfList (ns ++ ms))
more_made ns [] h g = absurd (omega (arith, g))
more_made ns (m ∷ ms) h g = ap (λ b. if b then Some (OfList (ns ++ m ∷ ms)) else None) (ap (λ n. n == 60) h)

pub tells : (k : Known) (key : Key) (n : Node) → node_of (denoted k) key ≡ Some n → IsNodeOf k key n
tells k (key.SimpleType s) m e = let h : OfTy (ty.Simple s) ≡ m = cc in subst (IsNodeOf k (key.SimpleType s)) h refl
tells k (key.IntType b n) m e = let h : OfTy (ty.Int b n) ≡ m = cc in subst (IsNodeOf k (key.IntType b n)) h refl
tells k (key.ErrorSetType l) m e = let h = one_tells (λ (l' : List (List ℕ)). OfTy (ty.ErrorSet l')) (names_in (denoted k) l) m e in let p0 = names_part k l h.0 h.1 in subst (IsNodeOf k (key.ErrorSetType l)) h.2 (p0.0, ap (λ (l' : List (List ℕ)). ty.ErrorSet l') p0.1)
tells k (key.PointerType b i) m e = let h = one_tells (λ (i' : Ty). OfTy (ty.Pointer b i')) (ty_in (denoted k) i) m e in let p0 = ty_part k i h.0 h.1 in subst (IsNodeOf k (key.PointerType b i)) h.2 (p0.0, ap (λ (i' : Ty). ty.Pointer b i') p0.1)
tells k (key.SliceType b i) m e = let h = one_tells (λ (i' : Ty). OfTy (ty.Slice b i')) (ty_in (denoted k) i) m e in let p0 = ty_part k i h.0 h.1 in subst (IsNodeOf k (key.SliceType b i)) h.2 (p0.0, ap (λ (i' : Ty). ty.Slice b i') p0.1)
tells k (key.ArrayType n i) m e = let h = one_tells (λ (i' : Ty). OfTy (ty.Array n i')) (ty_in (denoted k) i) m e in let p0 = ty_part k i h.0 h.1 in subst (IsNodeOf k (key.ArrayType n i)) h.2 (p0.0, ap (λ (i' : Ty). ty.Array n i') p0.1)
tells k (key.TerminatedType n) m e = let h : OfTy (ty.Terminated n) ≡ m = cc in subst (IsNodeOf k (key.TerminatedType n)) h refl
tells k (key.OptionalType i) m e = let h = one_tells (λ (i' : Ty). OfTy (ty.Optional i')) (ty_in (denoted k) i) m e in let p0 = ty_part k i h.0 h.1 in subst (IsNodeOf k (key.OptionalType i)) h.2 (p0.0, ap (λ (i' : Ty). ty.Optional i') p0.1)
tells k (key.ErrorUnionType i j) m e = let h = two_tells (λ (i' : Ty) (j' : Ty). OfTy (ty.ErrorUnion i' j')) (ty_in (denoted k) i) (ty_in (denoted k) j) m e in let p0 = ty_part k i h.0 h.2 in let p1 = ty_part k j h.1 h.3 in subst (IsNodeOf k (key.ErrorUnionType i j)) h.4 (p0.0, p1.0, ap₂ (λ (i' : Ty) (j' : Ty). ty.ErrorUnion i' j') p0.1 p1.1)
tells k (key.FileType l) m e = let h = one_tells (λ (l' : List ℕ). OfTy (ty.File l')) (bytes_in (denoted k) l) m e in let p0 = bytes_part k l h.0 h.1 in subst (IsNodeOf k (key.FileType l)) h.2 (p0.0, ap (λ (l' : List ℕ). ty.File l') p0.1)
tells k (key.ContainerType d n l) m e = let h = two_tells (λ (d' : DeclPath) (l' : List Arg). OfTy (ty.Container d' n l')) (decl_in (denoted k) d) (args_in (denoted k) l) m e in let p0 = decl_part k d h.0 h.2 in let p1 = args_part k l h.1 h.3 in subst (IsNodeOf k (key.ContainerType d n l)) h.4 (p0.0, p1.0, ap₂ (λ (d' : DeclPath) (l' : List Arg). ty.Container d' n l') p0.1 p1.1)
tells k (key.FunctionType l i) m e = let h = two_tells (λ (l' : List Ty) (i' : Ty). OfTy (ty.Function l' i')) (tys_in (denoted k) l) (ty_in (denoted k) i) m e in let p0 = tys_part k l h.0 h.2 in let p1 = ty_part k i h.1 h.3 in subst (IsNodeOf k (key.FunctionType l i)) h.4 (p0.0, p1.0, ap₂ (λ (l' : List Ty) (i' : Ty). ty.Function l' i') p0.1 p1.1)
tells k (key.UnionTagType i) m e = let h = one_tells (λ (i' : Ty). OfTy (ty.UnionTag i')) (ty_in (denoted k) i) m e in let p0 = ty_part k i h.0 h.1 in subst (IsNodeOf k (key.UnionTagType i)) h.2 (p0.0, ap (λ (i' : Ty). ty.UnionTag i') p0.1)
tells k (key.SimpleValue i s) m e = let h = one_tells (λ (i' : Ty). OfValue (value.Simple i' s)) (ty_in (denoted k) i) m e in let p0 = ty_part k i h.0 h.1 in subst (IsNodeOf k (key.SimpleValue i s)) h.2 (p0.0, ap (λ (i' : Ty). value.Simple i' s) p0.1)
tells k (key.IntValue i z) m e = let h = one_tells (λ (i' : Ty). OfValue (value.Int i' z)) (ty_in (denoted k) i) m e in let p0 = ty_part k i h.0 h.1 in subst (IsNodeOf k (key.IntValue i z)) h.2 (p0.0, ap (λ (i' : Ty). value.Int i' z) p0.1)
tells k (key.TagValue i l) m e = let h = two_tells (λ (i' : Ty) (l' : List ℕ). OfValue (value.Tag i' l')) (ty_in (denoted k) i) (bytes_in (denoted k) l) m e in let p0 = ty_part k i h.0 h.2 in let p1 = bytes_part k l h.1 h.3 in subst (IsNodeOf k (key.TagValue i l)) h.4 (p0.0, p1.0, ap₂ (λ (i' : Ty) (l' : List ℕ). value.Tag i' l') p0.1 p1.1)
tells k (key.ErrorValue i l) m e = let h = two_tells (λ (i' : Ty) (l' : List ℕ). OfValue (value.Error i' l')) (ty_in (denoted k) i) (bytes_in (denoted k) l) m e in let p0 = ty_part k i h.0 h.2 in let p1 = bytes_part k l h.1 h.3 in subst (IsNodeOf k (key.ErrorValue i l)) h.4 (p0.0, p1.0, ap₂ (λ (i' : Ty) (l' : List ℕ). value.Error i' l') p0.1 p1.1)
tells k (key.SomeValue i j) m e = let h = two_tells (λ (i' : Ty) (j' : Value). OfValue (value.Some i' j')) (ty_in (denoted k) i) (value_in (denoted k) j) m e in let p0 = ty_part k i h.0 h.2 in let p1 = value_part k j h.1 h.3 in subst (IsNodeOf k (key.SomeValue i j)) h.4 (p0.0, p1.0, ap₂ (λ (i' : Ty) (j' : Value). value.Some i' j') p0.1 p1.1)
tells k (key.GoodValue i j) m e = let h = two_tells (λ (i' : Ty) (j' : Value). OfValue (value.Good i' j')) (ty_in (denoted k) i) (value_in (denoted k) j) m e in let p0 = ty_part k i h.0 h.2 in let p1 = value_part k j h.1 h.3 in subst (IsNodeOf k (key.GoodValue i j)) h.4 (p0.0, p1.0, ap₂ (λ (i' : Ty) (j' : Value). value.Good i' j') p0.1 p1.1)
tells k (key.ListValue i l) m e = let h = two_tells (λ (i' : Ty) (l' : List Value). OfValue (value.List i' l')) (ty_in (denoted k) i) (values_in (denoted k) l) m e in let p0 = ty_part k i h.0 h.2 in let p1 = values_part k l h.1 h.3 in subst (IsNodeOf k (key.ListValue i l)) h.4 (p0.0, p1.0, ap₂ (λ (i' : Ty) (l' : List Value). value.List i' l') p0.1 p1.1)
tells k (key.TextValue i l) m e = let h = two_tells (λ (i' : Ty) (l' : List ℕ). OfValue (value.Text i' l')) (ty_in (denoted k) i) (bytes_in (denoted k) l) m e in let p0 = ty_part k i h.0 h.2 in let p1 = bytes_part k l h.1 h.3 in subst (IsNodeOf k (key.TextValue i l)) h.4 (p0.0, p1.0, ap₂ (λ (i' : Ty) (l' : List ℕ). value.Text i' l') p0.1 p1.1)
tells k (key.TaggedValue i l j) m e = let h = three_tells (λ (i' : Ty) (l' : List ℕ) (j' : Value). OfValue (value.Tagged i' l' j')) (ty_in (denoted k) i) (bytes_in (denoted k) l) (value_in (denoted k) j) m e in let p0 = ty_part k i h.0 h.3 in let p1 = bytes_part k l h.1 h.4 in let p2 = value_part k j h.2 h.5 in subst (IsNodeOf k (key.TaggedValue i l j)) h.6 (p0.0, p1.0, p2.0, ap₃ (λ (i' : Ty) (l' : List ℕ) (j' : Value). value.Tagged i' l' j') p0.1 p1.1 p2.1)
tells k (key.TypeValue i) m e = let h = one_tells (λ (i' : Ty). OfValue (value.OfType i')) (ty_in (denoted k) i) m e in let p0 = ty_part k i h.0 h.1 in subst (IsNodeOf k (key.TypeValue i)) h.2 (p0.0, ap (λ (i' : Ty). value.OfType i') p0.1)
tells k (key.FunctionValue d) m e = let h = one_tells (λ (d' : DeclPath). OfValue (value.Function d')) (decl_in (denoted k) d) m e in let p0 = decl_part k d h.0 h.1 in subst (IsNodeOf k (key.FunctionValue d)) h.2 (p0.0, ap (λ (d' : DeclPath). value.Function d') p0.1)
tells k (key.AddressValue i d) m e = let h = two_tells (λ (i' : Ty) (d' : DeclPath). OfValue (value.Address i' d')) (ty_in (denoted k) i) (decl_in (denoted k) d) m e in let p0 = ty_part k i h.0 h.2 in let p1 = decl_part k d h.1 h.3 in subst (IsNodeOf k (key.AddressValue i d)) h.4 (p0.0, p1.0, ap₂ (λ (i' : Ty) (d' : DeclPath). value.Address i' d') p0.1 p1.1)
tells k (key.ConstantValue i j) m e = let h = two_tells (λ (i' : Ty) (j' : Value). OfValue (value.Constant i' j')) (ty_in (denoted k) i) (value_in (denoted k) j) m e in let p0 = ty_part k i h.0 h.2 in let p1 = value_part k j h.1 h.3 in subst (IsNodeOf k (key.ConstantValue i j)) h.4 (p0.0, p1.0, ap₂ (λ (i' : Ty) (j' : Value). value.Constant i' j') p0.1 p1.1)
tells k (key.PlaceValue i n) m e = let h = one_tells (λ (i' : Ty). OfValue (value.Place i' n)) (ty_in (denoted k) i) m e in let p0 = ty_part k i h.0 h.1 in subst (IsNodeOf k (key.PlaceValue i n)) h.2 (p0.0, ap (λ (i' : Ty). value.Place i' n) p0.1)
tells k (key.PartValue i j n c) m e = let h = two_tells (λ (i' : Ty) (j' : Value). OfValue (value.Part i' j' n c)) (ty_in (denoted k) i) (value_in (denoted k) j) m e in let p0 = ty_part k i h.0 h.2 in let p1 = value_part k j h.1 h.3 in subst (IsNodeOf k (key.PartValue i j n c)) h.4 (p0.0, p1.0, ap₂ (λ (i' : Ty) (j' : Value). value.Part i' j' n c) p0.1 p1.1)
tells k (key.SliceValue i j lo hi) m e = let h = two_tells (λ (i' : Ty) (j' : Value). OfValue (value.Slice i' j' lo hi)) (ty_in (denoted k) i) (value_in (denoted k) j) m e in let p0 = ty_part k i h.0 h.2 in let p1 = value_part k j h.1 h.3 in subst (IsNodeOf k (key.SliceValue i j lo hi)) h.4 (p0.0, p1.0, ap₂ (λ (i' : Ty) (j' : Value). value.Slice i' j' lo hi) p0.1 p1.1)
tells k (key.NamedDecl i l) m e = let h = two_tells (λ (i' : Ty) (l' : List ℕ). OfDecl (decl.Named i' l')) (ty_in (denoted k) i) (bytes_in (denoted k) l) m e in let p0 = ty_part k i h.0 h.2 in let p1 = bytes_part k l h.1 h.3 in subst (IsNodeOf k (key.NamedDecl i l)) h.4 (p0.0, p1.0, ap₂ (λ (i' : Ty) (l' : List ℕ). decl.Named i' l') p0.1 p1.1)
tells k (key.ComptimeDecl l n) m e = let h = one_tells (λ (l' : List ℕ). OfDecl (decl.Comptime l' n)) (bytes_in (denoted k) l) m e in let p0 = bytes_part k l h.0 h.1 in subst (IsNodeOf k (key.ComptimeDecl l n)) h.2 (p0.0, ap (λ (l' : List ℕ). decl.Comptime l' n) p0.1)
tells k (key.KnownArg j) m e = let h = one_tells (λ (j' : Value). OfArg (arg.Known j')) (value_in (denoted k) j) m e in let p0 = value_part k j h.0 h.1 in subst (IsNodeOf k (key.KnownArg j)) h.2 (p0.0, ap (λ (j' : Value). arg.Known j') p0.1)
tells k (key.FunctionArg i d) m e = let h = two_tells (λ (i' : Ty) (d' : DeclPath). OfArg (arg.Function i' d')) (ty_in (denoted k) i) (decl_in (denoted k) d) m e in let p0 = ty_part k i h.0 h.2 in let p1 = decl_part k d h.1 h.3 in subst (IsNodeOf k (key.FunctionArg i d)) h.4 (p0.0, p1.0, ap₂ (λ (i' : Ty) (d' : DeclPath). arg.Function i' d') p0.1 p1.1)
tells k (key.TypedArg i) m e = let h = one_tells (λ (i' : Ty). OfArg (arg.Typed i')) (ty_in (denoted k) i) m e in let p0 = ty_part k i h.0 h.1 in subst (IsNodeOf k (key.TypedArg i)) h.2 (p0.0, ap (λ (i' : Ty). arg.Typed i') p0.1)
tells k (key.Instance d l) m e = let h = two_tells (λ (d' : DeclPath) (l' : List Arg). OfInstance (record { decl = d'; args = l' })) (decl_in (denoted k) d) (args_in (denoted k) l) m e in let p0 = decl_part k d h.0 h.2 in let p1 = args_part k l h.1 h.3 in subst (IsNodeOf k (key.Instance d l)) h.4 (p0.0, p1.0, ap₂ (λ (d' : DeclPath) (l' : List Arg). record { decl = d'; args = l' }) p0.1 p1.1)
tells k (key.End ns) m e = let h = end_tells ns m e in subst (IsNodeOf k (key.End ns)) h.1 (h.0, refl)
tells k (key.More ns i) m e = let t = then_tells (more_of ns) (list_in (denoted k) i) m e in let p = list_part k i t.0 t.1 in let h = more_tells ns t.0 m t.2 in subst (IsNodeOf k (key.More ns i)) h.2 (p.0, h.0, subst (λ ms. 0 < length ms) p.1 h.1, ap (λ ms. ns ++ ms) p.1)

pub made_ty : (k : Known) (key : Key) (x : Ty) → IsTyOf k key x → node_of (denoted k) key ≡ Some (OfTy x)
made_ty k (key.SimpleType s) x h = ap (λ y. Some (OfTy y)) (sym h)
made_ty k (key.IntType b n) x h = ap (λ y. Some (OfTy y)) (sym h)
made_ty k (key.ErrorSetType l) x h = ap (option_map (λ (l' : List (List ℕ)). OfTy (ty.ErrorSet l'))) (names_whole k l h.0) ∙ ap (λ y. Some (OfTy y)) (sym h.1)
made_ty k (key.PointerType b i) x h = ap (option_map (λ (i' : Ty). OfTy (ty.Pointer b i'))) (ty_whole k i h.0) ∙ ap (λ y. Some (OfTy y)) (sym h.1)
made_ty k (key.SliceType b i) x h = ap (option_map (λ (i' : Ty). OfTy (ty.Slice b i'))) (ty_whole k i h.0) ∙ ap (λ y. Some (OfTy y)) (sym h.1)
made_ty k (key.ArrayType n i) x h = ap (option_map (λ (i' : Ty). OfTy (ty.Array n i'))) (ty_whole k i h.0) ∙ ap (λ y. Some (OfTy y)) (sym h.1)
made_ty k (key.TerminatedType n) x h = ap (λ y. Some (OfTy y)) (sym h)
made_ty k (key.OptionalType i) x h = ap (option_map (λ (i' : Ty). OfTy (ty.Optional i'))) (ty_whole k i h.0) ∙ ap (λ y. Some (OfTy y)) (sym h.1)
made_ty k (key.ErrorUnionType i j) x h = ap (λ q. option_map2 (λ (i' : Ty) (j' : Ty). OfTy (ty.ErrorUnion i' j')) q (ty_in (denoted k) j)) (ty_whole k i h.0) ∙ ap (option_map ((λ (i' : Ty) (j' : Ty). OfTy (ty.ErrorUnion i' j')) (ty_at k i))) (ty_whole k j h.1) ∙ ap (λ y. Some (OfTy y)) (sym h.2)
made_ty k (key.FileType l) x h = ap (option_map (λ (l' : List ℕ). OfTy (ty.File l'))) (bytes_whole k l h.0) ∙ ap (λ y. Some (OfTy y)) (sym h.1)
made_ty k (key.ContainerType d n l) x h = ap (λ q. option_map2 (λ (d' : DeclPath) (l' : List Arg). OfTy (ty.Container d' n l')) q (args_in (denoted k) l)) (decl_whole k d h.0) ∙ ap (option_map ((λ (d' : DeclPath) (l' : List Arg). OfTy (ty.Container d' n l')) (decl_at k d))) (args_whole k l h.1) ∙ ap (λ y. Some (OfTy y)) (sym h.2)
made_ty k (key.FunctionType l i) x h = ap (λ q. option_map2 (λ (l' : List Ty) (i' : Ty). OfTy (ty.Function l' i')) q (ty_in (denoted k) i)) (tys_whole k l h.0) ∙ ap (option_map ((λ (l' : List Ty) (i' : Ty). OfTy (ty.Function l' i')) (tys_at k l))) (ty_whole k i h.1) ∙ ap (λ y. Some (OfTy y)) (sym h.2)
made_ty k (key.UnionTagType i) x h = ap (option_map (λ (i' : Ty). OfTy (ty.UnionTag i'))) (ty_whole k i h.0) ∙ ap (λ y. Some (OfTy y)) (sym h.1)
made_ty k _ x h = absurd h

pub made_value : (k : Known) (key : Key) (x : Value) → IsValueOf k key x → node_of (denoted k) key ≡ Some (OfValue x)
made_value k (key.SimpleValue i s) x h = ap (option_map (λ (i' : Ty). OfValue (value.Simple i' s))) (ty_whole k i h.0) ∙ ap (λ y. Some (OfValue y)) (sym h.1)
made_value k (key.IntValue i z) x h = ap (option_map (λ (i' : Ty). OfValue (value.Int i' z))) (ty_whole k i h.0) ∙ ap (λ y. Some (OfValue y)) (sym h.1)
made_value k (key.TagValue i l) x h = ap (λ q. option_map2 (λ (i' : Ty) (l' : List ℕ). OfValue (value.Tag i' l')) q (bytes_in (denoted k) l)) (ty_whole k i h.0) ∙ ap (option_map ((λ (i' : Ty) (l' : List ℕ). OfValue (value.Tag i' l')) (ty_at k i))) (bytes_whole k l h.1) ∙ ap (λ y. Some (OfValue y)) (sym h.2)
made_value k (key.ErrorValue i l) x h = ap (λ q. option_map2 (λ (i' : Ty) (l' : List ℕ). OfValue (value.Error i' l')) q (bytes_in (denoted k) l)) (ty_whole k i h.0) ∙ ap (option_map ((λ (i' : Ty) (l' : List ℕ). OfValue (value.Error i' l')) (ty_at k i))) (bytes_whole k l h.1) ∙ ap (λ y. Some (OfValue y)) (sym h.2)
made_value k (key.SomeValue i j) x h = ap (λ q. option_map2 (λ (i' : Ty) (j' : Value). OfValue (value.Some i' j')) q (value_in (denoted k) j)) (ty_whole k i h.0) ∙ ap (option_map ((λ (i' : Ty) (j' : Value). OfValue (value.Some i' j')) (ty_at k i))) (value_whole k j h.1) ∙ ap (λ y. Some (OfValue y)) (sym h.2)
made_value k (key.GoodValue i j) x h = ap (λ q. option_map2 (λ (i' : Ty) (j' : Value). OfValue (value.Good i' j')) q (value_in (denoted k) j)) (ty_whole k i h.0) ∙ ap (option_map ((λ (i' : Ty) (j' : Value). OfValue (value.Good i' j')) (ty_at k i))) (value_whole k j h.1) ∙ ap (λ y. Some (OfValue y)) (sym h.2)
made_value k (key.ListValue i l) x h = ap (λ q. option_map2 (λ (i' : Ty) (l' : List Value). OfValue (value.List i' l')) q (values_in (denoted k) l)) (ty_whole k i h.0) ∙ ap (option_map ((λ (i' : Ty) (l' : List Value). OfValue (value.List i' l')) (ty_at k i))) (values_whole k l h.1) ∙ ap (λ y. Some (OfValue y)) (sym h.2)
made_value k (key.TextValue i l) x h = ap (λ q. option_map2 (λ (i' : Ty) (l' : List ℕ). OfValue (value.Text i' l')) q (bytes_in (denoted k) l)) (ty_whole k i h.0) ∙ ap (option_map ((λ (i' : Ty) (l' : List ℕ). OfValue (value.Text i' l')) (ty_at k i))) (bytes_whole k l h.1) ∙ ap (λ y. Some (OfValue y)) (sym h.2)
made_value k (key.TaggedValue i l j) x h = ap (λ q. option_map3 (λ (i' : Ty) (l' : List ℕ) (j' : Value). OfValue (value.Tagged i' l' j')) q (bytes_in (denoted k) l) (value_in (denoted k) j)) (ty_whole k i h.0) ∙ ap (λ q. option_map2 ((λ (i' : Ty) (l' : List ℕ) (j' : Value). OfValue (value.Tagged i' l' j')) (ty_at k i)) q (value_in (denoted k) j)) (bytes_whole k l h.1) ∙ ap (option_map ((λ (i' : Ty) (l' : List ℕ) (j' : Value). OfValue (value.Tagged i' l' j')) (ty_at k i) (bytes_at k l))) (value_whole k j h.2) ∙ ap (λ y. Some (OfValue y)) (sym h.3)
made_value k (key.TypeValue i) x h = ap (option_map (λ (i' : Ty). OfValue (value.OfType i'))) (ty_whole k i h.0) ∙ ap (λ y. Some (OfValue y)) (sym h.1)
made_value k (key.FunctionValue d) x h = ap (option_map (λ (d' : DeclPath). OfValue (value.Function d'))) (decl_whole k d h.0) ∙ ap (λ y. Some (OfValue y)) (sym h.1)
made_value k (key.AddressValue i d) x h = ap (λ q. option_map2 (λ (i' : Ty) (d' : DeclPath). OfValue (value.Address i' d')) q (decl_in (denoted k) d)) (ty_whole k i h.0) ∙ ap (option_map ((λ (i' : Ty) (d' : DeclPath). OfValue (value.Address i' d')) (ty_at k i))) (decl_whole k d h.1) ∙ ap (λ y. Some (OfValue y)) (sym h.2)
made_value k (key.ConstantValue i j) x h = ap (λ q. option_map2 (λ (i' : Ty) (j' : Value). OfValue (value.Constant i' j')) q (value_in (denoted k) j)) (ty_whole k i h.0) ∙ ap (option_map ((λ (i' : Ty) (j' : Value). OfValue (value.Constant i' j')) (ty_at k i))) (value_whole k j h.1) ∙ ap (λ y. Some (OfValue y)) (sym h.2)
made_value k (key.PlaceValue i n) x h = ap (option_map (λ (i' : Ty). OfValue (value.Place i' n))) (ty_whole k i h.0) ∙ ap (λ y. Some (OfValue y)) (sym h.1)
made_value k (key.PartValue i j n c) x h = ap (λ q. option_map2 (λ (i' : Ty) (j' : Value). OfValue (value.Part i' j' n c)) q (value_in (denoted k) j)) (ty_whole k i h.0) ∙ ap (option_map ((λ (i' : Ty) (j' : Value). OfValue (value.Part i' j' n c)) (ty_at k i))) (value_whole k j h.1) ∙ ap (λ y. Some (OfValue y)) (sym h.2)
made_value k (key.SliceValue i j lo hi) x h = ap (λ q. option_map2 (λ (i' : Ty) (j' : Value). OfValue (value.Slice i' j' lo hi)) q (value_in (denoted k) j)) (ty_whole k i h.0) ∙ ap (option_map ((λ (i' : Ty) (j' : Value). OfValue (value.Slice i' j' lo hi)) (ty_at k i))) (value_whole k j h.1) ∙ ap (λ y. Some (OfValue y)) (sym h.2)
made_value k _ x h = absurd h

pub made_decl : (k : Known) (key : Key) (x : DeclPath) → IsDeclOf k key x → node_of (denoted k) key ≡ Some (OfDecl x)
made_decl k (key.NamedDecl i l) x h = ap (λ q. option_map2 (λ (i' : Ty) (l' : List ℕ). OfDecl (decl.Named i' l')) q (bytes_in (denoted k) l)) (ty_whole k i h.0) ∙ ap (option_map ((λ (i' : Ty) (l' : List ℕ). OfDecl (decl.Named i' l')) (ty_at k i))) (bytes_whole k l h.1) ∙ ap (λ y. Some (OfDecl y)) (sym h.2)
made_decl k (key.ComptimeDecl l n) x h = ap (option_map (λ (l' : List ℕ). OfDecl (decl.Comptime l' n))) (bytes_whole k l h.0) ∙ ap (λ y. Some (OfDecl y)) (sym h.1)
made_decl k _ x h = absurd h

pub made_arg : (k : Known) (key : Key) (x : Arg) → IsArgOf k key x → node_of (denoted k) key ≡ Some (OfArg x)
made_arg k (key.KnownArg j) x h = ap (option_map (λ (j' : Value). OfArg (arg.Known j'))) (value_whole k j h.0) ∙ ap (λ y. Some (OfArg y)) (sym h.1)
made_arg k (key.FunctionArg i d) x h = ap (λ q. option_map2 (λ (i' : Ty) (d' : DeclPath). OfArg (arg.Function i' d')) q (decl_in (denoted k) d)) (ty_whole k i h.0) ∙ ap (option_map ((λ (i' : Ty) (d' : DeclPath). OfArg (arg.Function i' d')) (ty_at k i))) (decl_whole k d h.1) ∙ ap (λ y. Some (OfArg y)) (sym h.2)
made_arg k (key.TypedArg i) x h = ap (option_map (λ (i' : Ty). OfArg (arg.Typed i'))) (ty_whole k i h.0) ∙ ap (λ y. Some (OfArg y)) (sym h.1)
made_arg k _ x h = absurd h

pub made_instance : (k : Known) (key : Key) (x : Instance) → IsInstanceOf k key x → node_of (denoted k) key ≡ Some (OfInstance x)
made_instance k (key.Instance d l) x h = ap (λ q. option_map2 (λ (d' : DeclPath) (l' : List Arg). OfInstance (record { decl = d'; args = l' })) q (args_in (denoted k) l)) (decl_whole k d h.0) ∙ ap (option_map ((λ (d' : DeclPath) (l' : List Arg). OfInstance (record { decl = d'; args = l' })) (decl_at k d))) (args_whole k l h.1) ∙ ap (λ y. Some (OfInstance y)) (sym h.2)
made_instance k _ x h = absurd h

pub made_list : (k : Known) (key : Key) (x : List ℕ) → IsListOf k key x → node_of (denoted k) key ≡ Some (OfList x)
made_list k (key.End ns) x h = end_made ns h.0 ∙ ap (λ y. Some (OfList y)) (sym h.1)
made_list k (key.More ns i) x h = ap (option_and_then (more_of ns)) (list_whole k i h.0) ∙ more_made ns (list_at k i) h.1 h.2 ∙ ap (λ y. Some (OfList y)) (sym h.3)
made_list k _ x h = absurd h

-- an index with a key denotes what the key denotes
with_key : (k : Known) (i : Index) (key : Key) → HasKey k i key → denoted k i ≡ node_of (denoted k) key
with_key k i key h = denoted-is k i ∙ ap (option_and_then (node_of (denoted k))) h.is

-- what denotes something has a key
key_behind : (k : Known) (i : Index) (n : Node) → denoted k i ≡ Some n → (key : Key) × HasKey k i key
key_behind k i n e = let t = then_tells (node_of (denoted k)) (key_at k i) n (sym (denoted-is k i) ∙ e) in (t.0, record { is = t.1 })

pub DenotesTy-of : (k : Known) (i : Index) (key : Key) (x : Ty) → HasKey k i key → IsTyOf k key x → DenotesTy k i x
DenotesTy-of k i key x h o = let p = ty_part k i x (ty_from (denoted k) i x (with_key k i key h ∙ made_ty k key x o)) in record { known = p.0; is = sym p.1 }

pub IsTyOf-key : (k : Known) (i : Index) (key : Key) → HasKey k i key → IsTy k i → IsTyOf k key (ty_at k i)
IsTyOf-key k i key h o = tells k key (OfTy (ty_at k i)) (sym (with_key k i key h) ∙ ty_node (denoted k) i (ty_at k i) (ty_whole k i o))

pub IsTy-has_key : (k : Known) (i : Index) → IsTy k i → (key : Key) × HasKey k i key
IsTy-has_key k i o = key_behind k i (OfTy (ty_at k i)) (ty_node (denoted k) i (ty_at k i) (ty_whole k i o))

pub IsTyOf-grows : (k l : Known) → Grows k l → (key : Key) (x : Ty) → IsTyOf k key x → IsTyOf l key x
IsTyOf-grows k l g key x o = tells l key (OfTy x) (node_of-lower (denoted k) (denoted l) (denoted-grows k l g.kept.keeps) key (OfTy x) (made_ty k key x o))

pub DenotesValue-of : (k : Known) (i : Index) (key : Key) (x : Value) → HasKey k i key → IsValueOf k key x → DenotesValue k i x
DenotesValue-of k i key x h o = let p = value_part k i x (value_from (denoted k) i x (with_key k i key h ∙ made_value k key x o)) in record { known = p.0; is = sym p.1 }

pub IsValueOf-key : (k : Known) (i : Index) (key : Key) → HasKey k i key → IsValue k i → IsValueOf k key (value_at k i)
IsValueOf-key k i key h o = tells k key (OfValue (value_at k i)) (sym (with_key k i key h) ∙ value_node (denoted k) i (value_at k i) (value_whole k i o))

pub IsValue-has_key : (k : Known) (i : Index) → IsValue k i → (key : Key) × HasKey k i key
IsValue-has_key k i o = key_behind k i (OfValue (value_at k i)) (value_node (denoted k) i (value_at k i) (value_whole k i o))

pub IsValueOf-grows : (k l : Known) → Grows k l → (key : Key) (x : Value) → IsValueOf k key x → IsValueOf l key x
IsValueOf-grows k l g key x o = tells l key (OfValue x) (node_of-lower (denoted k) (denoted l) (denoted-grows k l g.kept.keeps) key (OfValue x) (made_value k key x o))

pub DenotesDecl-of : (k : Known) (i : Index) (key : Key) (x : DeclPath) → HasKey k i key → IsDeclOf k key x → DenotesDecl k i x
DenotesDecl-of k i key x h o = let p = decl_part k i x (decl_from (denoted k) i x (with_key k i key h ∙ made_decl k key x o)) in record { known = p.0; is = sym p.1 }

pub IsDeclOf-key : (k : Known) (i : Index) (key : Key) → HasKey k i key → IsDecl k i → IsDeclOf k key (decl_at k i)
IsDeclOf-key k i key h o = tells k key (OfDecl (decl_at k i)) (sym (with_key k i key h) ∙ decl_node (denoted k) i (decl_at k i) (decl_whole k i o))

pub IsDecl-has_key : (k : Known) (i : Index) → IsDecl k i → (key : Key) × HasKey k i key
IsDecl-has_key k i o = key_behind k i (OfDecl (decl_at k i)) (decl_node (denoted k) i (decl_at k i) (decl_whole k i o))

pub IsDeclOf-grows : (k l : Known) → Grows k l → (key : Key) (x : DeclPath) → IsDeclOf k key x → IsDeclOf l key x
IsDeclOf-grows k l g key x o = tells l key (OfDecl x) (node_of-lower (denoted k) (denoted l) (denoted-grows k l g.kept.keeps) key (OfDecl x) (made_decl k key x o))

pub DenotesArg-of : (k : Known) (i : Index) (key : Key) (x : Arg) → HasKey k i key → IsArgOf k key x → DenotesArg k i x
DenotesArg-of k i key x h o = let p = arg_part k i x (arg_from (denoted k) i x (with_key k i key h ∙ made_arg k key x o)) in record { known = p.0; is = sym p.1 }

pub IsArgOf-key : (k : Known) (i : Index) (key : Key) → HasKey k i key → IsArg k i → IsArgOf k key (arg_at k i)
IsArgOf-key k i key h o = tells k key (OfArg (arg_at k i)) (sym (with_key k i key h) ∙ arg_node (denoted k) i (arg_at k i) (arg_whole k i o))

pub IsArg-has_key : (k : Known) (i : Index) → IsArg k i → (key : Key) × HasKey k i key
IsArg-has_key k i o = key_behind k i (OfArg (arg_at k i)) (arg_node (denoted k) i (arg_at k i) (arg_whole k i o))

pub IsArgOf-grows : (k l : Known) → Grows k l → (key : Key) (x : Arg) → IsArgOf k key x → IsArgOf l key x
IsArgOf-grows k l g key x o = tells l key (OfArg x) (node_of-lower (denoted k) (denoted l) (denoted-grows k l g.kept.keeps) key (OfArg x) (made_arg k key x o))

pub DenotesInstance-of : (k : Known) (i : Index) (key : Key) (x : Instance) → HasKey k i key → IsInstanceOf k key x → DenotesInstance k i x
DenotesInstance-of k i key x h o = let p = instance_part k i x (instance_from (denoted k) i x (with_key k i key h ∙ made_instance k key x o)) in record { known = p.0; is = sym p.1 }

pub IsInstanceOf-key : (k : Known) (i : Index) (key : Key) → HasKey k i key → IsInstance k i → IsInstanceOf k key (instance_at k i)
IsInstanceOf-key k i key h o = tells k key (OfInstance (instance_at k i)) (sym (with_key k i key h) ∙ instance_node (denoted k) i (instance_at k i) (instance_whole k i o))

pub IsInstance-has_key : (k : Known) (i : Index) → IsInstance k i → (key : Key) × HasKey k i key
IsInstance-has_key k i o = key_behind k i (OfInstance (instance_at k i)) (instance_node (denoted k) i (instance_at k i) (instance_whole k i o))

pub IsInstanceOf-grows : (k l : Known) → Grows k l → (key : Key) (x : Instance) → IsInstanceOf k key x → IsInstanceOf l key x
IsInstanceOf-grows k l g key x o = tells l key (OfInstance x) (node_of-lower (denoted k) (denoted l) (denoted-grows k l g.kept.keeps) key (OfInstance x) (made_instance k key x o))

pub DenotesList-of : (k : Known) (i : Index) (key : Key) (x : List ℕ) → HasKey k i key → IsListOf k key x → DenotesList k i x
DenotesList-of k i key x h o = let p = list_part k i x (list_from (denoted k) i x (with_key k i key h ∙ made_list k key x o)) in record { known = p.0; is = sym p.1 }

pub IsListOf-key : (k : Known) (i : Index) (key : Key) → HasKey k i key → IsList k i → IsListOf k key (list_at k i)
IsListOf-key k i key h o = tells k key (OfList (list_at k i)) (sym (with_key k i key h) ∙ list_node (denoted k) i (list_at k i) (list_whole k i o))

pub IsList-has_key : (k : Known) (i : Index) → IsList k i → (key : Key) × HasKey k i key
IsList-has_key k i o = key_behind k i (OfList (list_at k i)) (list_node (denoted k) i (list_at k i) (list_whole k i o))

pub IsListOf-grows : (k l : Known) → Grows k l → (key : Key) (x : List ℕ) → IsListOf k key x → IsListOf l key x
IsListOf-grows k l g key x o = tells l key (OfList x) (node_of-lower (denoted k) (denoted l) (denoted-grows k l g.kept.keeps) key (OfList x) (made_list k key x o))

-- from words alone
pub Grows-keeps : (k l : Known) → Keeps k l → (IsInjective k → IsInjective l) → Grows k l
unfolding IsTy ty_at IsValue value_at IsDecl decl_at IsArg arg_at IsInstance instance_at IsList list_at IsBytes bytes_at AreNames names_at AreTys tys_at AreValues values_at AreArgs args_at
Grows-keeps k l h g =
    let below = denoted-grows k l h in
    record {
      kept = record { keeps = h; injective = g };
      stays = record {
        is_ty = λ i o. some_lower _ _ (ty_in-lower (denoted k) (denoted l) below i) o;
        ty = λ i o. unwrap_lower _ _ _ (ty_in-lower (denoted k) (denoted l) below i) o;
        is_value = λ i o. some_lower _ _ (value_in-lower (denoted k) (denoted l) below i) o;
        value = λ i o. unwrap_lower _ _ _ (value_in-lower (denoted k) (denoted l) below i) o;
        is_decl = λ i o. some_lower _ _ (decl_in-lower (denoted k) (denoted l) below i) o;
        decl = λ i o. unwrap_lower _ _ _ (decl_in-lower (denoted k) (denoted l) below i) o;
        is_arg = λ i o. some_lower _ _ (arg_in-lower (denoted k) (denoted l) below i) o;
        arg = λ i o. unwrap_lower _ _ _ (arg_in-lower (denoted k) (denoted l) below i) o;
        is_instance = λ i o. some_lower _ _ (instance_in-lower (denoted k) (denoted l) below i) o;
        instance = λ i o. unwrap_lower _ _ _ (instance_in-lower (denoted k) (denoted l) below i) o;
        is_list = λ i o. some_lower _ _ (list_in-lower (denoted k) (denoted l) below i) o;
        list = λ i o. unwrap_lower _ _ _ (list_in-lower (denoted k) (denoted l) below i) o;
        is_bytes = λ i o. some_lower _ _ (bytes_in-lower (denoted k) (denoted l) below i) o;
        bytes = λ i o. unwrap_lower _ _ _ (bytes_in-lower (denoted k) (denoted l) below i) o;
        is_names = λ i o. some_lower _ _ (names_in-lower (denoted k) (denoted l) below i) o;
        names = λ i o. unwrap_lower _ _ _ (names_in-lower (denoted k) (denoted l) below i) o;
        is_tys = λ i o. some_lower _ _ (tys_in-lower (denoted k) (denoted l) below i) o;
        tys = λ i o. unwrap_lower _ _ _ (tys_in-lower (denoted k) (denoted l) below i) o;
        is_values = λ i o. some_lower _ _ (values_in-lower (denoted k) (denoted l) below i) o;
        values = λ i o. unwrap_lower _ _ _ (values_in-lower (denoted k) (denoted l) below i) o;
        is_args = λ i o. some_lower _ _ (args_in-lower (denoted k) (denoted l) below i) o;
        args = λ i o. unwrap_lower _ _ _ (args_in-lower (denoted k) (denoted l) below i) o;
      };
    }

pub Grows-refl : (k : Known) → Grows k k
Grows-refl k = Grows-keeps k k (record { words = λ i ws e. e }) (λ h. h)

pub Grows-trans : (k l m : Known) → Grows k l → Grows l m → Grows k m
Grows-trans k l m g h = Grows-keeps k m (record { words = λ i ws e. h.kept.keeps.words i ws (g.kept.keeps.words i ws e) }) (λ j. h.kept.injective (g.kept.injective j))

-- the words of a key that fits show it
pub HasKey-words : (k : Known) (i : Index) (key : Key) → Fits key → words_at k i ≡ Some (words_of key) → HasKey k i key
unfolding key_at
HasKey-words k i key f e = record { is = ap (option_and_then key_of) e ∙ key_of-words_of key f }

pub HasKey-read : (k : Known) (i : Index) (ws : List ℕ) (key : Key) → words_at k i ≡ Some ws → key_of ws ≡ Some key → HasKey k i key
unfolding key_at
HasKey-read k i ws key e f = record { is = ap (option_and_then key_of) e ∙ f }

pub IsTy-keyed : (k : Known) (i : Index) → IsTy k i → IsSome (key_at k i)
IsTy-keyed k i o = let t = IsTy-has_key k i o in ap is_some t.1.is

pub IsValue-keyed : (k : Known) (i : Index) → IsValue k i → IsSome (key_at k i)
IsValue-keyed k i o = let t = IsValue-has_key k i o in ap is_some t.1.is

pub IsDecl-keyed : (k : Known) (i : Index) → IsDecl k i → IsSome (key_at k i)
IsDecl-keyed k i o = let t = IsDecl-has_key k i o in ap is_some t.1.is

pub IsArg-keyed : (k : Known) (i : Index) → IsArg k i → IsSome (key_at k i)
IsArg-keyed k i o = let t = IsArg-has_key k i o in ap is_some t.1.is

pub IsInstance-keyed : (k : Known) (i : Index) → IsInstance k i → IsSome (key_at k i)
IsInstance-keyed k i o = let t = IsInstance-has_key k i o in ap is_some t.1.is

pub IsList-keyed : (k : Known) (i : Index) → IsList k i → IsSome (key_at k i)
IsList-keyed k i o = let t = IsList-has_key k i o in ap is_some t.1.is

-- an index with a key has words
pub keyed-words : (k : Known) (i : Index) → IsSome (key_at k i) → IsSome (words_at k i)
unfolding key_at
keyed-words k i h = some_of (words_at k i) h
  where
    some_of : (o : Option (List ℕ)) → IsSome (option_and_then key_of o) → IsSome o
    some_of None h = h
    some_of (Some ws) h = refl

-- the key that words hold, where an index has a key
pub keyed-read : (k : Known) (i : Index) (ws : List ℕ) → IsSome (key_at k i) → words_at k i ≡ Some ws → IsSome (key_of ws)
unfolding key_at
keyed-read k i ws h e = subst (λ o. IsSome (option_and_then key_of o)) e h
