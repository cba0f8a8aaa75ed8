-- The words of a key that are indices: what is read at them, and that a key with others in their place, at which the same is read, denotes the same.
use Rattle.std.proofs.Common.{◌≡◌, ◌⊎◌, inl, inr, ⊎_elim, ℕ, zero, suc, ◌/◌, ◌%◌, ◌^◌, ◌<◌, ◌≤◌, ◌==◌, nat_lt, Bool, true, false, if◌then◌else◌, List, [], ◌∷◌, length, get_or, slice_index, drop, Option, Some, None, IsSome, pos, negsuc, option_map, option_and_then, refl, sym, ap, ap₂, ◌∙◌, subst, arith}
use Rattle.std.specs.List.{AllByRecursion}
use Rattle.std.proofs.lemmas.Bool.{cases_lt, lt-ltb, le-ltb, ne_eqb, eqb-true}
use Rattle.std.proofs.lemmas.List.{ext_get_or}
use Rattle.type_form.specs.declared.index.Index.{Index}
use Rattle.type_form.specs.declared.key.Key.{Key}
use Rattle.type_form.specs.declared.key.Key.TheVariants as key
use Rattle.type_form.specs.declared.tree.Ty.{Ty}
use Rattle.type_form.specs.declared.tree.Value.{Value}
use Rattle.type_form.specs.declared.tree.DeclPath.{DeclPath}
use Rattle.type_form.specs.declared.tree.Arg.{Arg}
use Rattle.type_form.specs.declared.tree.Ty.TheVariants as ty
use Rattle.type_form.specs.declared.tree.Value.TheVariants as value
use Rattle.type_form.specs.declared.tree.DeclPath.TheVariants as decl
use Rattle.type_form.specs.declared.tree.Arg.TheVariants as arg
use Rattle.type_form.specs.Words.{index_of, words_of, word_of_bool, word_of_simple, word_of_known, Fits}
use Rattle.type_form.specs.Denote.{Node, OfTy, OfValue, OfDecl, OfArg, OfInstance, Reading, option_map2, option_map3, as_ty, as_value, as_decl, as_list, as_arg, bytes_of, more_of, each, ty_in, value_in, decl_in, list_in, bytes_in, arg_in, each_in, names_in, tys_in, values_in, args_in, node_of}
use Rattle.type_form.proofs.Options.{one_tells, two_tells, three_tells, then_tells, ap₃}
use Rattle.type_form.proofs.MeansLemmas.{bytes_list}
use Rattle.type_form.specs.declared.roles.Role.{Role}
use Rattle.type_form.specs.declared.roles.Role.TheVariants as role
use Rattle.type_form.specs.Roles.{four, roles_of_other, roles_of_value, roles_of, role_in_list, role_at}
use Rattle.type_form.specs.Parts.{kind_of, rest_of, PartOf, AllTurn, Turns, Made, PartsDenote, PartsTurn}

some_then : {A B : Type 0} (f : A → Option B) (o : Option A) (n : B) → option_and_then f o ≡ Some n → IsSome o
some_then f None n e = cc
some_then f (Some x) n e = refl

pub ty_in_some : (r : Reading) (i : Index) (x : Ty) → ty_in r i ≡ Some x → IsSome (r (index_of i.0))
unfolding ty_in
ty_in_some r i x e = some_then as_ty (r i) x e

value_in_some : (r : Reading) (i : Index) (x : Value) → value_in r i ≡ Some x → IsSome (r (index_of i.0))
unfolding value_in
value_in_some r i x e = some_then as_value (r i) x e

decl_in_some : (r : Reading) (i : Index) (x : DeclPath) → decl_in r i ≡ Some x → IsSome (r (index_of i.0))
unfolding decl_in
decl_in_some r i x e = some_then as_decl (r i) x e

pub list_in_some : (r : Reading) (i : Index) (x : List ℕ) → list_in r i ≡ Some x → IsSome (r (index_of i.0))
unfolding list_in
list_in_some r i x e = some_then as_list (r i) x e

arg_in_some : (r : Reading) (i : Index) (x : Arg) → arg_in r i ≡ Some x → IsSome (r (index_of i.0))
unfolding arg_in
arg_in_some r i x e = some_then as_arg (r i) x e

bytes_in_some : (r : Reading) (i : Index) (x : List ℕ) → bytes_in r i ≡ Some x → IsSome (r (index_of i.0))
bytes_in_some r i x e = list_in_some r i x (bytes_list r i x e)

each_some : {A : Type 0} (f : Index → Option A) (r : Reading) → ((i : Index) (x : A) → f i ≡ Some x → IsSome (r (index_of i.0))) → (ns : List ℕ) (xs : List A) → each f ns ≡ Some xs → AllByRecursion (λ n. IsSome (r (index_of n))) ns
each_some f r h [] xs e = tt
each_some {A} f r h (n ∷ ns) xs e =
    let t = two_tells (λ (x : A) (xs : List A). x ∷ xs) (f (index_of n)) (each f ns) xs e in
    (h (index_of n) t.0 t.2, each_some f r h ns t.1 t.3)

names_in_some : (r : Reading) (l : Index) (xs : List (List ℕ)) → names_in r l ≡ Some xs → PartOf r role.List l.0
unfolding names_in each_in
names_in_some r l xs e = let t = then_tells (each (bytes_in r)) (list_in r l) xs e in (t.0, t.1, each_some (bytes_in r) r (bytes_in_some r) t.0 xs t.2)

tys_in_some : (r : Reading) (l : Index) (xs : List Ty) → tys_in r l ≡ Some xs → PartOf r role.List l.0
unfolding tys_in each_in
tys_in_some r l xs e = let t = then_tells (each (ty_in r)) (list_in r l) xs e in (t.0, t.1, each_some (ty_in r) r (ty_in_some r) t.0 xs t.2)

values_in_some : (r : Reading) (l : Index) (xs : List Value) → values_in r l ≡ Some xs → PartOf r role.List l.0
unfolding values_in each_in
values_in_some r l xs e = let t = then_tells (each (value_in r)) (list_in r l) xs e in (t.0, t.1, each_some (value_in r) r (value_in_some r) t.0 xs t.2)

args_in_some : (r : Reading) (l : Index) (xs : List Arg) → args_in r l ≡ Some xs → PartOf r role.List l.0
unfolding args_in each_in
args_in_some r l xs e = let t = then_tells (each (arg_in r)) (list_in r l) xs e in (t.0, t.1, each_some (arg_in r) r (arg_in_some r) t.0 xs t.2)

by_four : (r : Reading) (a b c d : Role) (ws : List ℕ) → PartOf r a (slice_index ws 0) → PartOf r b (slice_index ws 1) → PartOf r c (slice_index ws 2) → PartOf r d (slice_index ws 3) → (p : ℕ) → PartOf r (get_or (four a b c d) p role.Number) (slice_index ws p)
by_four r a b c d ws x y z w zero = x
by_four r a b c d ws x y z w (suc zero) = y
by_four r a b c d ws x y z w (suc (suc zero)) = z
by_four r a b c d ws x y z w (suc (suc (suc zero))) = w
by_four r a b c d ws x y z w (suc (suc (suc (suc p)))) = tt

-- where a key that is no list denotes something, so does what it holds
pub parts : (r : Reading) (k : Key) (m : Node) → node_of r k ≡ Some m → (p : ℕ) → PartOf r (get_or (roles_of (kind_of k)) p role.Number) (slice_index (rest_of k) p)
parts r (key.SimpleType s) m e = by_four r role.Number role.Number role.Number role.Number (word_of_simple s ∷ []) tt tt tt tt
parts r (key.IntType b n) m e = by_four r role.Number role.Number role.Number role.Number (word_of_bool b ∷ n ∷ []) tt tt tt tt
parts r (key.ErrorSetType l) m e = let h = one_tells (λ (l' : List (List ℕ)). OfTy (ty.ErrorSet l')) (names_in r l) m e in by_four r role.List role.Number role.Number role.Number (l.0 ∷ []) (names_in_some r l h.0 h.1) tt tt tt
parts r (key.PointerType b i) m e = let h = one_tells (λ (i' : Ty). OfTy (ty.Pointer b i')) (ty_in r i) m e in by_four r role.Number role.Part role.Number role.Number (word_of_bool b ∷ i.0 ∷ []) tt (ty_in_some r i h.0 h.1) tt tt
parts r (key.SliceType b i) m e = let h = one_tells (λ (i' : Ty). OfTy (ty.Slice b i')) (ty_in r i) m e in by_four r role.Number role.Part role.Number role.Number (word_of_bool b ∷ i.0 ∷ []) tt (ty_in_some r i h.0 h.1) tt tt
parts r (key.ArrayType n i) m e = let h = one_tells (λ (i' : Ty). OfTy (ty.Array n i')) (ty_in r i) m e in by_four r role.Number role.Part role.Number role.Number (n ∷ i.0 ∷ []) tt (ty_in_some r i h.0 h.1) tt tt
parts r (key.TerminatedType n) m e = by_four r role.Number role.Number role.Number role.Number (n ∷ []) tt tt tt tt
parts r (key.OptionalType i) m e = let h = one_tells (λ (i' : Ty). OfTy (ty.Optional i')) (ty_in r i) m e in by_four r role.Part role.Number role.Number role.Number (i.0 ∷ []) (ty_in_some r i h.0 h.1) tt tt tt
parts r (key.ErrorUnionType i j) m e = let h = two_tells (λ (i' : Ty) (j' : Ty). OfTy (ty.ErrorUnion i' j')) (ty_in r i) (ty_in r j) m e in by_four r role.Part role.Part role.Number role.Number (i.0 ∷ j.0 ∷ []) (ty_in_some r i h.0 h.2) (ty_in_some r j h.1 h.3) tt tt
parts r (key.FileType l) m e = let h = one_tells (λ (l' : List ℕ). OfTy (ty.File l')) (bytes_in r l) m e in by_four r role.Part role.Number role.Number role.Number (l.0 ∷ []) (bytes_in_some r l h.0 h.1) tt tt tt
parts r (key.ContainerType d n l) m e = let h = two_tells (λ (d' : DeclPath) (l' : List Arg). OfTy (ty.Container d' n l')) (decl_in r d) (args_in r l) m e in by_four r role.Part role.Number role.List role.Number (d.0 ∷ n ∷ l.0 ∷ []) (decl_in_some r d h.0 h.2) tt (args_in_some r l h.1 h.3) tt
parts r (key.FunctionType l i) m e = let h = two_tells (λ (l' : List Ty) (i' : Ty). OfTy (ty.Function l' i')) (tys_in r l) (ty_in r i) m e in by_four r role.List role.Part role.Number role.Number (l.0 ∷ i.0 ∷ []) (tys_in_some r l h.0 h.2) (ty_in_some r i h.1 h.3) tt tt
parts r (key.UnionTagType i) m e = let h = one_tells (λ (i' : Ty). OfTy (ty.UnionTag i')) (ty_in r i) m e in by_four r role.Part role.Number role.Number role.Number (i.0 ∷ []) (ty_in_some r i h.0 h.1) tt tt tt
parts r (key.SimpleValue i s) m e = let h = one_tells (λ (i' : Ty). OfValue (value.Simple i' s)) (ty_in r i) m e in by_four r role.Part role.Number role.Number role.Number (i.0 ∷ word_of_known s ∷ []) (ty_in_some r i h.0 h.1) tt tt tt
parts r (key.IntValue i (pos n)) m e = let h = one_tells (λ (i' : Ty). OfValue (value.Int i' (pos n))) (ty_in r i) m e in by_four r role.Part role.Number role.Number role.Number (i.0 ∷ 0 ∷ (n % 2 ^ 64) ∷ (n / 2 ^ 64) ∷ []) (ty_in_some r i h.0 h.1) tt tt tt
parts r (key.IntValue i (negsuc n)) m e = let h = one_tells (λ (i' : Ty). OfValue (value.Int i' (negsuc n))) (ty_in r i) m e in by_four r role.Part role.Number role.Number role.Number (i.0 ∷ 1 ∷ (n % 2 ^ 64) ∷ (n / 2 ^ 64) ∷ []) (ty_in_some r i h.0 h.1) tt tt tt
parts r (key.TagValue i l) m e = let h = two_tells (λ (i' : Ty) (l' : List ℕ). OfValue (value.Tag i' l')) (ty_in r i) (bytes_in r l) m e in by_four r role.Part role.Part role.Number role.Number (i.0 ∷ l.0 ∷ []) (ty_in_some r i h.0 h.2) (bytes_in_some r l h.1 h.3) tt tt
parts r (key.ErrorValue i l) m e = let h = two_tells (λ (i' : Ty) (l' : List ℕ). OfValue (value.Error i' l')) (ty_in r i) (bytes_in r l) m e in by_four r role.Part role.Part role.Number role.Number (i.0 ∷ l.0 ∷ []) (ty_in_some r i h.0 h.2) (bytes_in_some r l h.1 h.3) tt tt
parts r (key.SomeValue i j) m e = let h = two_tells (λ (i' : Ty) (j' : Value). OfValue (value.Some i' j')) (ty_in r i) (value_in r j) m e in by_four r role.Part role.Part role.Number role.Number (i.0 ∷ j.0 ∷ []) (ty_in_some r i h.0 h.2) (value_in_some r j h.1 h.3) tt tt
parts r (key.GoodValue i j) m e = let h = two_tells (λ (i' : Ty) (j' : Value). OfValue (value.Good i' j')) (ty_in r i) (value_in r j) m e in by_four r role.Part role.Part role.Number role.Number (i.0 ∷ j.0 ∷ []) (ty_in_some r i h.0 h.2) (value_in_some r j h.1 h.3) tt tt
parts r (key.ListValue i l) m e = let h = two_tells (λ (i' : Ty) (l' : List Value). OfValue (value.List i' l')) (ty_in r i) (values_in r l) m e in by_four r role.Part role.List role.Number role.Number (i.0 ∷ l.0 ∷ []) (ty_in_some r i h.0 h.2) (values_in_some r l h.1 h.3) tt tt
parts r (key.TextValue i l) m e = let h = two_tells (λ (i' : Ty) (l' : List ℕ). OfValue (value.Text i' l')) (ty_in r i) (bytes_in r l) m e in by_four r role.Part role.Part role.Number role.Number (i.0 ∷ l.0 ∷ []) (ty_in_some r i h.0 h.2) (bytes_in_some r l h.1 h.3) tt tt
parts r (key.TaggedValue i l j) m e = let h = three_tells (λ (i' : Ty) (l' : List ℕ) (j' : Value). OfValue (value.Tagged i' l' j')) (ty_in r i) (bytes_in r l) (value_in r j) m e in by_four r role.Part role.Part role.Part role.Number (i.0 ∷ l.0 ∷ j.0 ∷ []) (ty_in_some r i h.0 h.3) (bytes_in_some r l h.1 h.4) (value_in_some r j h.2 h.5) tt
parts r (key.TypeValue i) m e = let h = one_tells (λ (i' : Ty). OfValue (value.OfType i')) (ty_in r i) m e in by_four r role.Part role.Number role.Number role.Number (i.0 ∷ []) (ty_in_some r i h.0 h.1) tt tt tt
parts r (key.FunctionValue d) m e = let h = one_tells (λ (d' : DeclPath). OfValue (value.Function d')) (decl_in r d) m e in by_four r role.Part role.Number role.Number role.Number (d.0 ∷ []) (decl_in_some r d h.0 h.1) tt tt tt
parts r (key.AddressValue i d) m e = let h = two_tells (λ (i' : Ty) (d' : DeclPath). OfValue (value.Address i' d')) (ty_in r i) (decl_in r d) m e in by_four r role.Part role.Part role.Number role.Number (i.0 ∷ d.0 ∷ []) (ty_in_some r i h.0 h.2) (decl_in_some r d h.1 h.3) tt tt
parts r (key.ConstantValue i j) m e = let h = two_tells (λ (i' : Ty) (j' : Value). OfValue (value.Constant i' j')) (ty_in r i) (value_in r j) m e in by_four r role.Part role.Part role.Number role.Number (i.0 ∷ j.0 ∷ []) (ty_in_some r i h.0 h.2) (value_in_some r j h.1 h.3) tt tt
parts r (key.PlaceValue i n) m e = let h = one_tells (λ (i' : Ty). OfValue (value.Place i' n)) (ty_in r i) m e in by_four r role.Part role.Number role.Number role.Number (i.0 ∷ n ∷ []) (ty_in_some r i h.0 h.1) tt tt tt
parts r (key.PartValue i j n c) m e = let h = two_tells (λ (i' : Ty) (j' : Value). OfValue (value.Part i' j' n c)) (ty_in r i) (value_in r j) m e in by_four r role.Part role.Part role.Number role.Number (i.0 ∷ j.0 ∷ n ∷ c ∷ []) (ty_in_some r i h.0 h.2) (value_in_some r j h.1 h.3) tt tt
parts r (key.SliceValue i j lo hi) m e = let h = two_tells (λ (i' : Ty) (j' : Value). OfValue (value.Slice i' j' lo hi)) (ty_in r i) (value_in r j) m e in by_four r role.Part role.Part role.Number role.Number (i.0 ∷ j.0 ∷ lo ∷ hi ∷ []) (ty_in_some r i h.0 h.2) (value_in_some r j h.1 h.3) tt tt
parts r (key.NamedDecl i l) m e = let h = two_tells (λ (i' : Ty) (l' : List ℕ). OfDecl (decl.Named i' l')) (ty_in r i) (bytes_in r l) m e in by_four r role.Part role.Part role.Number role.Number (i.0 ∷ l.0 ∷ []) (ty_in_some r i h.0 h.2) (bytes_in_some r l h.1 h.3) tt tt
parts r (key.ComptimeDecl l n) m e = let h = one_tells (λ (l' : List ℕ). OfDecl (decl.Comptime l' n)) (bytes_in r l) m e in by_four r role.Part role.Number role.Number role.Number (l.0 ∷ n ∷ []) (bytes_in_some r l h.0 h.1) tt tt tt
parts r (key.KnownArg j) m e = let h = one_tells (λ (j' : Value). OfArg (arg.Known j')) (value_in r j) m e in by_four r role.Part role.Number role.Number role.Number (j.0 ∷ []) (value_in_some r j h.0 h.1) tt tt tt
parts r (key.FunctionArg i d) m e = let h = two_tells (λ (i' : Ty) (d' : DeclPath). OfArg (arg.Function i' d')) (ty_in r i) (decl_in r d) m e in by_four r role.Part role.Part role.Number role.Number (i.0 ∷ d.0 ∷ []) (ty_in_some r i h.0 h.2) (decl_in_some r d h.1 h.3) tt tt
parts r (key.TypedArg i) m e = let h = one_tells (λ (i' : Ty). OfArg (arg.Typed i')) (ty_in r i) m e in by_four r role.Part role.Number role.Number role.Number (i.0 ∷ []) (ty_in_some r i h.0 h.1) tt tt tt
parts r (key.Instance d l) m e = let h = two_tells (λ (d' : DeclPath) (l' : List Arg). OfInstance (record { decl = d'; args = l' })) (decl_in r d) (args_in r l) m e in by_four r role.Part role.List role.Number role.Number (d.0 ∷ l.0 ∷ []) (decl_in_some r d h.0 h.2) (args_in_some r l h.1 h.3) tt tt
parts r (key.End ns) m e = by_four r role.Number role.Number role.Number role.Number ns tt tt tt tt
parts r (key.More ns i) m e = by_four r role.Number role.Number role.Number role.Number (i.0 ∷ ns) tt tt tt tt

ty_in_same : (r s : Reading) (i : Index) (v : ℕ) → Turns r s role.Part i.0 v → ty_in s (index_of v) ≡ ty_in r i
unfolding ty_in
ty_in_same r s i v h = ap (option_and_then as_ty) (h.2 ∙ sym h.1)

value_in_same : (r s : Reading) (i : Index) (v : ℕ) → Turns r s role.Part i.0 v → value_in s (index_of v) ≡ value_in r i
unfolding value_in
value_in_same r s i v h = ap (option_and_then as_value) (h.2 ∙ sym h.1)

decl_in_same : (r s : Reading) (i : Index) (v : ℕ) → Turns r s role.Part i.0 v → decl_in s (index_of v) ≡ decl_in r i
unfolding decl_in
decl_in_same r s i v h = ap (option_and_then as_decl) (h.2 ∙ sym h.1)

pub list_in_same : (r s : Reading) (i : Index) (v : ℕ) → Turns r s role.Part i.0 v → list_in s (index_of v) ≡ list_in r i
unfolding list_in
list_in_same r s i v h = ap (option_and_then as_list) (h.2 ∙ sym h.1)

bytes_in_same : (r s : Reading) (i : Index) (v : ℕ) → Turns r s role.Part i.0 v → bytes_in s (index_of v) ≡ bytes_in r i
unfolding bytes_in
bytes_in_same r s i v h = ap (option_and_then bytes_of) (list_in_same r s i v h)

arg_in_same : (r s : Reading) (i : Index) (v : ℕ) → Turns r s role.Part i.0 v → arg_in s (index_of v) ≡ arg_in r i
unfolding arg_in
arg_in_same r s i v h = ap (option_and_then as_arg) (h.2 ∙ sym h.1)

each_same : {A : Type 0} (f g : Index → Option A) (r s : Reading) → ((i : Index) (v : ℕ) → Turns r s role.Part i.0 v → g (index_of v) ≡ f i) → (ns ms : List ℕ) → AllTurn r s ns ms → each g ms ≡ each f ns
each_same f g r s h [] [] t = refl
each_same f g r s h [] (m ∷ ms) t = absurd t
each_same f g r s h (n ∷ ns) [] t = absurd t
each_same {A} f g r s h (n ∷ ns) (m ∷ ms) t = ap₂ (option_map2 (λ (x : A) (xs : List A). x ∷ xs)) (h (index_of n) m t.0) (each_same f g r s h ns ms t.1)

names_in_same : (r s : Reading) (l : Index) (v : ℕ) → Turns r s role.List l.0 v → names_in s (index_of v) ≡ names_in r l
unfolding names_in each_in
names_in_same r s l v h = ap (option_and_then (each (bytes_in s))) h.3 ∙ (each_same (bytes_in r) (bytes_in s) r s (bytes_in_same r s) h.0 h.1 h.4 ∙ ap (option_and_then (each (bytes_in r))) (sym h.2))

tys_in_same : (r s : Reading) (l : Index) (v : ℕ) → Turns r s role.List l.0 v → tys_in s (index_of v) ≡ tys_in r l
unfolding tys_in each_in
tys_in_same r s l v h = ap (option_and_then (each (ty_in s))) h.3 ∙ (each_same (ty_in r) (ty_in s) r s (ty_in_same r s) h.0 h.1 h.4 ∙ ap (option_and_then (each (ty_in r))) (sym h.2))

values_in_same : (r s : Reading) (l : Index) (v : ℕ) → Turns r s role.List l.0 v → values_in s (index_of v) ≡ values_in r l
unfolding values_in each_in
values_in_same r s l v h = ap (option_and_then (each (value_in s))) h.3 ∙ (each_same (value_in r) (value_in s) r s (value_in_same r s) h.0 h.1 h.4 ∙ ap (option_and_then (each (value_in r))) (sym h.2))

args_in_same : (r s : Reading) (l : Index) (v : ℕ) → Turns r s role.List l.0 v → args_in s (index_of v) ≡ args_in r l
unfolding args_in each_in
args_in_same r s l v h = ap (option_and_then (each (arg_in s))) h.3 ∙ (each_same (arg_in r) (arg_in s) r s (arg_in_same r s) h.0 h.1 h.4 ∙ ap (option_and_then (each (arg_in r))) (sym h.2))

pack1 : (vs : List ℕ) (a : ℕ) → length vs ≡ 1 → slice_index vs 0 ≡ a → a ∷ [] ≡ vs
pack1 [] a len e = absurd (omega (arith, len))
pack1 (x ∷ []) a len e = ap (λ n. n ∷ []) (sym e)
pack1 (x ∷ y ∷ vs) a len e = absurd (omega (arith, len))

pack2 : (vs : List ℕ) (a b : ℕ) → length vs ≡ 2 → slice_index vs 0 ≡ a → slice_index vs 1 ≡ b → a ∷ b ∷ [] ≡ vs
pack2 [] a b len e f = absurd (omega (arith, len))
pack2 (x ∷ vs) a b len e f = ap₂ (λ (n : ℕ) (ns : List ℕ). n ∷ ns) (sym e) (pack1 vs b (omega (arith, len)) f)

pack3 : (vs : List ℕ) (a b c : ℕ) → length vs ≡ 3 → slice_index vs 0 ≡ a → slice_index vs 1 ≡ b → slice_index vs 2 ≡ c → a ∷ b ∷ c ∷ [] ≡ vs
pack3 [] a b c len e f g = absurd (omega (arith, len))
pack3 (x ∷ vs) a b c len e f g = ap₂ (λ (n : ℕ) (ns : List ℕ). n ∷ ns) (sym e) (pack2 vs b c (omega (arith, len)) f g)

pack4 : (vs : List ℕ) (a b c d : ℕ) → length vs ≡ 4 → slice_index vs 0 ≡ a → slice_index vs 1 ≡ b → slice_index vs 2 ≡ c → slice_index vs 3 ≡ d → a ∷ b ∷ c ∷ d ∷ [] ≡ vs
pack4 [] a b c d len e f g h = absurd (omega (arith, len))
pack4 (x ∷ vs) a b c d len e f g h = ap₂ (λ (n : ℕ) (ns : List ℕ). n ∷ ns) (sym e) (pack3 vs b c d (omega (arith, len)) f g h)

-- a key that is no list denotes the same with other words in place of its own
pub moves : (r s : Reading) (k : Key) (m : Node) (vs : List ℕ) → kind_of k < 36 → Fits k → node_of r k ≡ Some m → length vs ≡ length (rest_of k)
    → ((p : ℕ) → p < length vs → Turns r s (get_or (roles_of (kind_of k)) p role.Number) (slice_index (rest_of k) p) (slice_index vs p)) → Made s (kind_of k ∷ vs) m
moves r q (key.SimpleType s) m vs low fits e len t = (key.SimpleType s, ap (λ (us : List ℕ). 1 ∷ us) (pack1 vs (word_of_simple s) len (t 0 (omega (arith, len)))), tt, e)
moves r q (key.IntType b n) m vs low fits e len t = (key.IntType b n, ap (λ (us : List ℕ). 2 ∷ us) (pack2 vs (word_of_bool b) n len (t 0 (omega (arith, len))) (t 1 (omega (arith, len)))), fits, e)
moves r q (key.ErrorSetType l) m vs low fits e len t = (key.ErrorSetType (index_of (slice_index vs 0)), ap (λ (us : List ℕ). 3 ∷ us) (pack1 vs (slice_index vs 0) len refl), tt, ap (option_map (λ (l' : List (List ℕ)). OfTy (ty.ErrorSet l'))) (names_in_same r q l (slice_index vs 0) (t 0 (omega (arith, len)))) ∙ e)
moves r q (key.PointerType b i) m vs low fits e len t = (key.PointerType b (index_of (slice_index vs 1)), ap (λ (us : List ℕ). 4 ∷ us) (pack2 vs (word_of_bool b) (slice_index vs 1) len (t 0 (omega (arith, len))) refl), tt, ap (option_map (λ (i' : Ty). OfTy (ty.Pointer b i'))) (ty_in_same r q i (slice_index vs 1) (t 1 (omega (arith, len)))) ∙ e)
moves r q (key.SliceType b i) m vs low fits e len t = (key.SliceType b (index_of (slice_index vs 1)), ap (λ (us : List ℕ). 5 ∷ us) (pack2 vs (word_of_bool b) (slice_index vs 1) len (t 0 (omega (arith, len))) refl), tt, ap (option_map (λ (i' : Ty). OfTy (ty.Slice b i'))) (ty_in_same r q i (slice_index vs 1) (t 1 (omega (arith, len)))) ∙ e)
moves r q (key.ArrayType n i) m vs low fits e len t = (key.ArrayType n (index_of (slice_index vs 1)), ap (λ (us : List ℕ). 6 ∷ us) (pack2 vs n (slice_index vs 1) len (t 0 (omega (arith, len))) refl), tt, ap (option_map (λ (i' : Ty). OfTy (ty.Array n i'))) (ty_in_same r q i (slice_index vs 1) (t 1 (omega (arith, len)))) ∙ e)
moves r q (key.TerminatedType n) m vs low fits e len t = (key.TerminatedType n, ap (λ (us : List ℕ). 7 ∷ us) (pack1 vs n len (t 0 (omega (arith, len)))), tt, e)
moves r q (key.OptionalType i) m vs low fits e len t = (key.OptionalType (index_of (slice_index vs 0)), ap (λ (us : List ℕ). 8 ∷ us) (pack1 vs (slice_index vs 0) len refl), tt, ap (option_map (λ (i' : Ty). OfTy (ty.Optional i'))) (ty_in_same r q i (slice_index vs 0) (t 0 (omega (arith, len)))) ∙ e)
moves r q (key.ErrorUnionType i j) m vs low fits e len t = (key.ErrorUnionType (index_of (slice_index vs 0)) (index_of (slice_index vs 1)), ap (λ (us : List ℕ). 9 ∷ us) (pack2 vs (slice_index vs 0) (slice_index vs 1) len refl refl), tt, ap₂ (option_map2 (λ (i' : Ty) (j' : Ty). OfTy (ty.ErrorUnion i' j'))) (ty_in_same r q i (slice_index vs 0) (t 0 (omega (arith, len)))) (ty_in_same r q j (slice_index vs 1) (t 1 (omega (arith, len)))) ∙ e)
moves r q (key.FileType l) m vs low fits e len t = (key.FileType (index_of (slice_index vs 0)), ap (λ (us : List ℕ). 10 ∷ us) (pack1 vs (slice_index vs 0) len refl), tt, ap (option_map (λ (l' : List ℕ). OfTy (ty.File l'))) (bytes_in_same r q l (slice_index vs 0) (t 0 (omega (arith, len)))) ∙ e)
moves r q (key.ContainerType d n l) m vs low fits e len t = (key.ContainerType (index_of (slice_index vs 0)) n (index_of (slice_index vs 2)), ap (λ (us : List ℕ). 11 ∷ us) (pack3 vs (slice_index vs 0) n (slice_index vs 2) len refl (t 1 (omega (arith, len))) refl), fits, ap₂ (option_map2 (λ (d' : DeclPath) (l' : List Arg). OfTy (ty.Container d' n l'))) (decl_in_same r q d (slice_index vs 0) (t 0 (omega (arith, len)))) (args_in_same r q l (slice_index vs 2) (t 2 (omega (arith, len)))) ∙ e)
moves r q (key.FunctionType l i) m vs low fits e len t = (key.FunctionType (index_of (slice_index vs 0)) (index_of (slice_index vs 1)), ap (λ (us : List ℕ). 12 ∷ us) (pack2 vs (slice_index vs 0) (slice_index vs 1) len refl refl), tt, ap₂ (option_map2 (λ (l' : List Ty) (i' : Ty). OfTy (ty.Function l' i'))) (tys_in_same r q l (slice_index vs 0) (t 0 (omega (arith, len)))) (ty_in_same r q i (slice_index vs 1) (t 1 (omega (arith, len)))) ∙ e)
moves r q (key.UnionTagType i) m vs low fits e len t = (key.UnionTagType (index_of (slice_index vs 0)), ap (λ (us : List ℕ). 13 ∷ us) (pack1 vs (slice_index vs 0) len refl), tt, ap (option_map (λ (i' : Ty). OfTy (ty.UnionTag i'))) (ty_in_same r q i (slice_index vs 0) (t 0 (omega (arith, len)))) ∙ e)
moves r q (key.SimpleValue i s) m vs low fits e len t = (key.SimpleValue (index_of (slice_index vs 0)) s, ap (λ (us : List ℕ). 14 ∷ us) (pack2 vs (slice_index vs 0) (word_of_known s) len refl (t 1 (omega (arith, len)))), tt, ap (option_map (λ (i' : Ty). OfValue (value.Simple i' s))) (ty_in_same r q i (slice_index vs 0) (t 0 (omega (arith, len)))) ∙ e)
moves r q (key.IntValue i (pos n)) m vs low fits e len t = (key.IntValue (index_of (slice_index vs 0)) (pos n), ap (λ (us : List ℕ). 15 ∷ us) (pack4 vs (slice_index vs 0) 0 (n % 2 ^ 64) (n / 2 ^ 64) len refl (t 1 (omega (arith, len))) (t 2 (omega (arith, len))) (t 3 (omega (arith, len)))), fits, ap (option_map (λ (i' : Ty). OfValue (value.Int i' (pos n)))) (ty_in_same r q i (slice_index vs 0) (t 0 (omega (arith, len)))) ∙ e)
moves r q (key.IntValue i (negsuc n)) m vs low fits e len t = (key.IntValue (index_of (slice_index vs 0)) (negsuc n), ap (λ (us : List ℕ). 15 ∷ us) (pack4 vs (slice_index vs 0) 1 (n % 2 ^ 64) (n / 2 ^ 64) len refl (t 1 (omega (arith, len))) (t 2 (omega (arith, len))) (t 3 (omega (arith, len)))), fits, ap (option_map (λ (i' : Ty). OfValue (value.Int i' (negsuc n)))) (ty_in_same r q i (slice_index vs 0) (t 0 (omega (arith, len)))) ∙ e)
moves r q (key.TagValue i l) m vs low fits e len t = (key.TagValue (index_of (slice_index vs 0)) (index_of (slice_index vs 1)), ap (λ (us : List ℕ). 16 ∷ us) (pack2 vs (slice_index vs 0) (slice_index vs 1) len refl refl), tt, ap₂ (option_map2 (λ (i' : Ty) (l' : List ℕ). OfValue (value.Tag i' l'))) (ty_in_same r q i (slice_index vs 0) (t 0 (omega (arith, len)))) (bytes_in_same r q l (slice_index vs 1) (t 1 (omega (arith, len)))) ∙ e)
moves r q (key.ErrorValue i l) m vs low fits e len t = (key.ErrorValue (index_of (slice_index vs 0)) (index_of (slice_index vs 1)), ap (λ (us : List ℕ). 17 ∷ us) (pack2 vs (slice_index vs 0) (slice_index vs 1) len refl refl), tt, ap₂ (option_map2 (λ (i' : Ty) (l' : List ℕ). OfValue (value.Error i' l'))) (ty_in_same r q i (slice_index vs 0) (t 0 (omega (arith, len)))) (bytes_in_same r q l (slice_index vs 1) (t 1 (omega (arith, len)))) ∙ e)
moves r q (key.SomeValue i j) m vs low fits e len t = (key.SomeValue (index_of (slice_index vs 0)) (index_of (slice_index vs 1)), ap (λ (us : List ℕ). 18 ∷ us) (pack2 vs (slice_index vs 0) (slice_index vs 1) len refl refl), tt, ap₂ (option_map2 (λ (i' : Ty) (j' : Value). OfValue (value.Some i' j'))) (ty_in_same r q i (slice_index vs 0) (t 0 (omega (arith, len)))) (value_in_same r q j (slice_index vs 1) (t 1 (omega (arith, len)))) ∙ e)
moves r q (key.GoodValue i j) m vs low fits e len t = (key.GoodValue (index_of (slice_index vs 0)) (index_of (slice_index vs 1)), ap (λ (us : List ℕ). 19 ∷ us) (pack2 vs (slice_index vs 0) (slice_index vs 1) len refl refl), tt, ap₂ (option_map2 (λ (i' : Ty) (j' : Value). OfValue (value.Good i' j'))) (ty_in_same r q i (slice_index vs 0) (t 0 (omega (arith, len)))) (value_in_same r q j (slice_index vs 1) (t 1 (omega (arith, len)))) ∙ e)
moves r q (key.ListValue i l) m vs low fits e len t = (key.ListValue (index_of (slice_index vs 0)) (index_of (slice_index vs 1)), ap (λ (us : List ℕ). 20 ∷ us) (pack2 vs (slice_index vs 0) (slice_index vs 1) len refl refl), tt, ap₂ (option_map2 (λ (i' : Ty) (l' : List Value). OfValue (value.List i' l'))) (ty_in_same r q i (slice_index vs 0) (t 0 (omega (arith, len)))) (values_in_same r q l (slice_index vs 1) (t 1 (omega (arith, len)))) ∙ e)
moves r q (key.TextValue i l) m vs low fits e len t = (key.TextValue (index_of (slice_index vs 0)) (index_of (slice_index vs 1)), ap (λ (us : List ℕ). 21 ∷ us) (pack2 vs (slice_index vs 0) (slice_index vs 1) len refl refl), tt, ap₂ (option_map2 (λ (i' : Ty) (l' : List ℕ). OfValue (value.Text i' l'))) (ty_in_same r q i (slice_index vs 0) (t 0 (omega (arith, len)))) (bytes_in_same r q l (slice_index vs 1) (t 1 (omega (arith, len)))) ∙ e)
moves r q (key.TaggedValue i l j) m vs low fits e len t = (key.TaggedValue (index_of (slice_index vs 0)) (index_of (slice_index vs 1)) (index_of (slice_index vs 2)), ap (λ (us : List ℕ). 22 ∷ us) (pack3 vs (slice_index vs 0) (slice_index vs 1) (slice_index vs 2) len refl refl refl), tt, ap₃ (option_map3 (λ (i' : Ty) (l' : List ℕ) (j' : Value). OfValue (value.Tagged i' l' j'))) (ty_in_same r q i (slice_index vs 0) (t 0 (omega (arith, len)))) (bytes_in_same r q l (slice_index vs 1) (t 1 (omega (arith, len)))) (value_in_same r q j (slice_index vs 2) (t 2 (omega (arith, len)))) ∙ e)
moves r q (key.TypeValue i) m vs low fits e len t = (key.TypeValue (index_of (slice_index vs 0)), ap (λ (us : List ℕ). 23 ∷ us) (pack1 vs (slice_index vs 0) len refl), tt, ap (option_map (λ (i' : Ty). OfValue (value.OfType i'))) (ty_in_same r q i (slice_index vs 0) (t 0 (omega (arith, len)))) ∙ e)
moves r q (key.FunctionValue d) m vs low fits e len t = (key.FunctionValue (index_of (slice_index vs 0)), ap (λ (us : List ℕ). 24 ∷ us) (pack1 vs (slice_index vs 0) len refl), tt, ap (option_map (λ (d' : DeclPath). OfValue (value.Function d'))) (decl_in_same r q d (slice_index vs 0) (t 0 (omega (arith, len)))) ∙ e)
moves r q (key.AddressValue i d) m vs low fits e len t = (key.AddressValue (index_of (slice_index vs 0)) (index_of (slice_index vs 1)), ap (λ (us : List ℕ). 25 ∷ us) (pack2 vs (slice_index vs 0) (slice_index vs 1) len refl refl), tt, ap₂ (option_map2 (λ (i' : Ty) (d' : DeclPath). OfValue (value.Address i' d'))) (ty_in_same r q i (slice_index vs 0) (t 0 (omega (arith, len)))) (decl_in_same r q d (slice_index vs 1) (t 1 (omega (arith, len)))) ∙ e)
moves r q (key.ConstantValue i j) m vs low fits e len t = (key.ConstantValue (index_of (slice_index vs 0)) (index_of (slice_index vs 1)), ap (λ (us : List ℕ). 26 ∷ us) (pack2 vs (slice_index vs 0) (slice_index vs 1) len refl refl), tt, ap₂ (option_map2 (λ (i' : Ty) (j' : Value). OfValue (value.Constant i' j'))) (ty_in_same r q i (slice_index vs 0) (t 0 (omega (arith, len)))) (value_in_same r q j (slice_index vs 1) (t 1 (omega (arith, len)))) ∙ e)
moves r q (key.PlaceValue i n) m vs low fits e len t = (key.PlaceValue (index_of (slice_index vs 0)) n, ap (λ (us : List ℕ). 27 ∷ us) (pack2 vs (slice_index vs 0) n len refl (t 1 (omega (arith, len)))), tt, ap (option_map (λ (i' : Ty). OfValue (value.Place i' n))) (ty_in_same r q i (slice_index vs 0) (t 0 (omega (arith, len)))) ∙ e)
moves r q (key.PartValue i j n c) m vs low fits e len t = (key.PartValue (index_of (slice_index vs 0)) (index_of (slice_index vs 1)) n c, ap (λ (us : List ℕ). 28 ∷ us) (pack4 vs (slice_index vs 0) (slice_index vs 1) n c len refl refl (t 2 (omega (arith, len))) (t 3 (omega (arith, len)))), tt, ap₂ (option_map2 (λ (i' : Ty) (j' : Value). OfValue (value.Part i' j' n c))) (ty_in_same r q i (slice_index vs 0) (t 0 (omega (arith, len)))) (value_in_same r q j (slice_index vs 1) (t 1 (omega (arith, len)))) ∙ e)
moves r q (key.SliceValue i j lo hi) m vs low fits e len t = (key.SliceValue (index_of (slice_index vs 0)) (index_of (slice_index vs 1)) lo hi, ap (λ (us : List ℕ). 29 ∷ us) (pack4 vs (slice_index vs 0) (slice_index vs 1) lo hi len refl refl (t 2 (omega (arith, len))) (t 3 (omega (arith, len)))), tt, ap₂ (option_map2 (λ (i' : Ty) (j' : Value). OfValue (value.Slice i' j' lo hi))) (ty_in_same r q i (slice_index vs 0) (t 0 (omega (arith, len)))) (value_in_same r q j (slice_index vs 1) (t 1 (omega (arith, len)))) ∙ e)
moves r q (key.NamedDecl i l) m vs low fits e len t = (key.NamedDecl (index_of (slice_index vs 0)) (index_of (slice_index vs 1)), ap (λ (us : List ℕ). 30 ∷ us) (pack2 vs (slice_index vs 0) (slice_index vs 1) len refl refl), tt, ap₂ (option_map2 (λ (i' : Ty) (l' : List ℕ). OfDecl (decl.Named i' l'))) (ty_in_same r q i (slice_index vs 0) (t 0 (omega (arith, len)))) (bytes_in_same r q l (slice_index vs 1) (t 1 (omega (arith, len)))) ∙ e)
moves r q (key.ComptimeDecl l n) m vs low fits e len t = (key.ComptimeDecl (index_of (slice_index vs 0)) n, ap (λ (us : List ℕ). 31 ∷ us) (pack2 vs (slice_index vs 0) n len refl (t 1 (omega (arith, len)))), fits, ap (option_map (λ (l' : List ℕ). OfDecl (decl.Comptime l' n))) (bytes_in_same r q l (slice_index vs 0) (t 0 (omega (arith, len)))) ∙ e)
moves r q (key.KnownArg j) m vs low fits e len t = (key.KnownArg (index_of (slice_index vs 0)), ap (λ (us : List ℕ). 32 ∷ us) (pack1 vs (slice_index vs 0) len refl), tt, ap (option_map (λ (j' : Value). OfArg (arg.Known j'))) (value_in_same r q j (slice_index vs 0) (t 0 (omega (arith, len)))) ∙ e)
moves r q (key.FunctionArg i d) m vs low fits e len t = (key.FunctionArg (index_of (slice_index vs 0)) (index_of (slice_index vs 1)), ap (λ (us : List ℕ). 33 ∷ us) (pack2 vs (slice_index vs 0) (slice_index vs 1) len refl refl), tt, ap₂ (option_map2 (λ (i' : Ty) (d' : DeclPath). OfArg (arg.Function i' d'))) (ty_in_same r q i (slice_index vs 0) (t 0 (omega (arith, len)))) (decl_in_same r q d (slice_index vs 1) (t 1 (omega (arith, len)))) ∙ e)
moves r q (key.TypedArg i) m vs low fits e len t = (key.TypedArg (index_of (slice_index vs 0)), ap (λ (us : List ℕ). 34 ∷ us) (pack1 vs (slice_index vs 0) len refl), tt, ap (option_map (λ (i' : Ty). OfArg (arg.Typed i'))) (ty_in_same r q i (slice_index vs 0) (t 0 (omega (arith, len)))) ∙ e)
moves r q (key.Instance d l) m vs low fits e len t = (key.Instance (index_of (slice_index vs 0)) (index_of (slice_index vs 1)), ap (λ (us : List ℕ). 35 ∷ us) (pack2 vs (slice_index vs 0) (slice_index vs 1) len refl refl), tt, ap₂ (option_map2 (λ (d' : DeclPath) (l' : List Arg). OfInstance (record { decl = d'; args = l' }))) (decl_in_same r q d (slice_index vs 0) (t 0 (omega (arith, len)))) (args_in_same r q l (slice_index vs 1) (t 1 (omega (arith, len)))) ∙ e)
moves r q (key.End ns) m vs low fits e len t = absurd (omega (arith, low))
moves r q (key.More ns i) m vs low fits e len t = absurd (omega (arith, low))

-- the roles of words

abbrev is_rest : Role → Bool
is_rest role.Rest = true
is_rest _ = false

-- no role stands behind the fourth word, and none is a rest
abbrev IsFour : List Role → Type 0
IsFour rs = (p : ℕ) → (4 ≤ p → get_or rs p role.Number ≡ role.Number) × (is_rest (get_or rs p role.Number) ≡ false)

is_four : (a b c d : Role) → is_rest a ≡ false → is_rest b ≡ false → is_rest c ≡ false → is_rest d ≡ false → IsFour (four a b c d)
is_four a b c d x y z w zero = (λ l. absurd (omega (arith, l)), x)
is_four a b c d x y z w (suc zero) = (λ l. absurd (omega (arith, l)), y)
is_four a b c d x y z w (suc (suc zero)) = (λ l. absurd (omega (arith, l)), z)
is_four a b c d x y z w (suc (suc (suc zero))) = (λ l. absurd (omega (arith, l)), w)
is_four a b c d x y z w (suc (suc (suc (suc p)))) = (λ l. refl, refl)

four_if : (b : Bool) (x y : List Role) → IsFour x → IsFour y → IsFour (if b then x else y)
four_if true x y f g = f
four_if false x y f g = g

others_are_four : (kind : ℕ) → IsFour (roles_of_other kind)
others_are_four kind = four_if (kind == 30) _ _ (is_four _ _ _ _ refl refl refl refl) (four_if (kind == 31) _ _ (is_four _ _ _ _ refl refl refl refl) (four_if (kind == 32) _ _ (is_four _ _ _ _ refl refl refl refl) (four_if (kind == 33) _ _ (is_four _ _ _ _ refl refl refl refl) (four_if (kind == 34) _ _ (is_four _ _ _ _ refl refl refl refl) (four_if (kind == 35) _ _ (is_four _ _ _ _ refl refl refl refl) (is_four _ _ _ _ refl refl refl refl))))))

values_are_four : (kind : ℕ) → IsFour (roles_of_value kind)
values_are_four kind = four_if (kind == 14) _ _ (is_four _ _ _ _ refl refl refl refl) (four_if (kind == 15) _ _ (is_four _ _ _ _ refl refl refl refl) (four_if (kind == 16) _ _ (is_four _ _ _ _ refl refl refl refl) (four_if (kind == 17) _ _ (is_four _ _ _ _ refl refl refl refl) (four_if (kind == 18) _ _ (is_four _ _ _ _ refl refl refl refl) (four_if (kind == 19) _ _ (is_four _ _ _ _ refl refl refl refl) (four_if (kind == 20) _ _ (is_four _ _ _ _ refl refl refl refl) (four_if (kind == 21) _ _ (is_four _ _ _ _ refl refl refl refl) (four_if (kind == 22) _ _ (is_four _ _ _ _ refl refl refl refl) (four_if (kind == 23) _ _ (is_four _ _ _ _ refl refl refl refl) (four_if (kind == 24) _ _ (is_four _ _ _ _ refl refl refl refl) (four_if (kind == 25) _ _ (is_four _ _ _ _ refl refl refl refl) (four_if (kind == 26) _ _ (is_four _ _ _ _ refl refl refl refl) (four_if (kind == 27) _ _ (is_four _ _ _ _ refl refl refl refl) (four_if (kind == 28) _ _ (is_four _ _ _ _ refl refl refl refl) (four_if (kind == 29) _ _ (is_four _ _ _ _ refl refl refl refl) (others_are_four kind))))))))))))))))

are_four : (kind : ℕ) → IsFour (roles_of kind)
are_four kind = four_if (kind == 3) _ _ (is_four _ _ _ _ refl refl refl refl) (four_if (kind == 4) _ _ (is_four _ _ _ _ refl refl refl refl) (four_if (kind == 5) _ _ (is_four _ _ _ _ refl refl refl refl) (four_if (kind == 6) _ _ (is_four _ _ _ _ refl refl refl refl) (four_if (kind == 8) _ _ (is_four _ _ _ _ refl refl refl refl) (four_if (kind == 9) _ _ (is_four _ _ _ _ refl refl refl refl) (four_if (kind == 10) _ _ (is_four _ _ _ _ refl refl refl refl) (four_if (kind == 11) _ _ (is_four _ _ _ _ refl refl refl refl) (four_if (kind == 12) _ _ (is_four _ _ _ _ refl refl refl refl) (four_if (kind == 13) _ _ (is_four _ _ _ _ refl refl refl refl) (values_are_four kind))))))))))

pub roles_end : (kind p : ℕ) → 4 ≤ p → get_or (roles_of kind) p role.Number ≡ role.Number
roles_end kind p l = (are_four kind p).0 l

if_role : (b : Bool) (x y z : Role) → (if b then x else y) ≡ z → ((b ≡ true) × (x ≡ z)) ⊎ ((b ≡ false) × (y ≡ z))
if_role true x y z e = inl (refl, e)
if_role false x y z e = inr (refl, e)

no_rest : (x : Role) → is_rest x ≡ false → x ≡ role.Rest → ⊥
no_rest x f e = not_both (is_rest x) f (ap is_rest e)
  where
    not_both : (b : Bool) → b ≡ false → b ≡ true → ⊥
    not_both b f e = cc

-- a rest is the first word of a list
pub rest_role : (kind : ℕ) (b : Bool) (p : ℕ) → role_at kind b p ≡ role.Rest → (kind ≡ 37) × (p ≡ 0)
unfolding role_at
rest_role kind b p e = ⊎_elim
    (λ low. ⊎_elim (λ near. absurd (no_rest (get_or (roles_of kind) p role.Number) (are_four kind p).1 near.1)) (λ far. absurd (no_rest role.Number refl far.1)) (if_role (nat_lt p 4) (get_or (roles_of kind) p role.Number) role.Number role.Rest low.1))
    (λ list. ⊎_elim
    (λ more. ⊎_elim (λ first. (eqb-true kind 37 more.0, eqb-true p 0 first.0)) (λ other. absurd (number_or_part b other.1)) (if_role (p == 0) role.Rest (if b then role.Part else role.Number) role.Rest more.1))
    (λ short. absurd (number_or_part b short.1))
    (if_role (kind == 37) (if p == 0 then role.Rest else if b then role.Part else role.Number) (if b then role.Part else role.Number) role.Rest list.1))
    (if_role (nat_lt kind 36) (if nat_lt p 4 then get_or (roles_of kind) p role.Number else role.Number) (role_in_list kind b p) role.Rest e)
  where
    number_or_part : (b : Bool) → (if b then role.Part else role.Number) ≡ role.Rest → ⊥
    number_or_part true e = no_rest role.Part refl e
    number_or_part false e = no_rest role.Number refl e

role_is : (kind p : ℕ) → kind < 36 → role_at kind false p ≡ get_or (roles_of kind) p role.Number
unfolding role_at
role_is kind p q =
    ap (λ b. if b then (if nat_lt p 4 then get_or (roles_of kind) p role.Number else role.Number) else role_in_list kind false p) (lt-ltb kind 36 q)
    ∙ ⊎_elim (λ a. ap (λ b. if b then get_or (roles_of kind) p role.Number else role.Number) (lt-ltb p 4 a)) (λ g. ap (λ b. if b then get_or (roles_of kind) p role.Number else role.Number) (le-ltb p 4 g) ∙ sym (roles_end kind p g)) (cases_lt p 4)

-- a number that follows one is not the first
pub after_first : (p : ℕ) → (suc p == 0) ≡ false
after_first p = ne_eqb (suc p) 0 (λ e. omega (arith, e))

after_part : (r : Reading) (p w : ℕ) → PartOf r (if suc p == 0 then role.Rest else role.Number) w
after_part r p w = subst (λ b. PartOf r (if b then role.Rest else role.Number) w) (sym (after_first p)) tt

-- a list of plain numbers, behind the first words of its rest
list_part : (r : Reading) (k : Key) (m : Node) → 36 ≤ kind_of k → node_of r k ≡ Some m → (p : ℕ) → p < length (rest_of k) → PartOf r (role_at (kind_of k) false p) (slice_index (rest_of k) p)
unfolding role_at
list_part r (key.End ns) m low e p q = tt
list_part r (key.More ns i) m low e zero q = list_in_some r i _ (then_tells (more_of ns) (list_in r i) m e).1
list_part r (key.More ns i) m low e (suc p) q = after_part r p (slice_index ns p)
list_part r k m low e p q = absurd (omega (arith, low))

pub parts_denote : PartsDenote
parts_denote r k m e p q = ⊎_elim
    (λ low. subst (λ x. PartOf r x (slice_index (rest_of k) p)) (sym (role_is (kind_of k) p low)) (parts r k m e p))
    (λ high. list_part r k m high e p q)
    (cases_lt (kind_of k) 36)

list_turns : (r s : Reading) (k : Key) (m : Node) (vs : List ℕ) → 36 ≤ kind_of k → Fits k → node_of r k ≡ Some m → length vs ≡ length (rest_of k)
    → ((p : ℕ) → p < length vs → Turns r s (role_at (kind_of k) false p) (slice_index (rest_of k) p) (slice_index vs p)) → Made s (kind_of k ∷ vs) m
unfolding role_at
list_turns r s (key.End ns) m vs high fits e len t = (key.End ns, ap (λ (us : List ℕ). 36 ∷ us) (sym (ext_get_or 0 vs ns len (λ p q. t p q))), fits, e)
list_turns r s (key.More ns i) m [] high fits e len t = absurd (omega (arith, len))
list_turns r s (key.More ns i) m (v ∷ us) high fits e len t =
    let others : us ≡ ns = ext_get_or 0 us ns (omega (arith, len)) (λ p q. subst (λ b. Turns r s (if b then role.Rest else role.Number) (slice_index ns p) (slice_index us p)) (after_first p) (t (suc p) (omega (arith, q)))) in (
      key.More ns (index_of v),
      ap (λ (ws : List ℕ). 37 ∷ v ∷ ws) (sym others),
      fits,
      ap (option_and_then (more_of ns)) (list_in_same r s i v (t 0 (omega arith))) ∙ e,
    )
list_turns r s k m vs high fits e len t = absurd (omega (arith, high))

pub parts_turn : PartsTurn
parts_turn r s k m vs fits e len t = ⊎_elim
    (λ low. moves r s k m vs low fits e len (λ p q. subst (λ x. Turns r s x (slice_index (rest_of k) p) (slice_index vs p)) (role_is (kind_of k) p low) (t p q)))
    (λ high. list_turns r s k m vs high fits e len t)
    (cases_lt (kind_of k) 36)
