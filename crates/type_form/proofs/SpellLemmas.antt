-- The spelling of each kind of tree.
use Rattle.std.proofs.Common.{◌≡◌, ℕ, ℤ, Bool, List, [], ◌∷◌, ◌++◌, map, codes, if◌then◌else◌, refl, sym, ap, ◌∙◌, append_assoc}
use Rattle.type_form.specs.declared.tree.Ty.{Ty}
use Rattle.type_form.specs.declared.tree.Value.{Value}
use Rattle.type_form.specs.declared.tree.DeclPath.{DeclPath}
use Rattle.type_form.specs.declared.tree.Arg.{Arg}
use Rattle.type_form.specs.declared.tree.Ty.TheVariants as ty
use Rattle.type_form.specs.declared.tree.Value.TheVariants as value
use Rattle.type_form.specs.declared.tree.DeclPath.TheVariants as decl
use Rattle.type_form.specs.declared.tree.Arg.TheVariants as arg
use Rattle.type_form.specs.declared.tree.SimpleTy.{SimpleTy}
use Rattle.type_form.specs.declared.tree.SimpleValue.{SimpleValue}
use Rattle.type_form.specs.declared.tree.Arg.TheOpen as layer
use Rattle.type_form.specs.declared.tree.Arg.TheFolds.{fold-roll-Ty, fold-roll-Value, fold-roll-DeclPath, fold-roll-Arg}
use Rattle.type_form.specs.Spelling.{number_text, int_text, quoted, name_text, commas, simple_text, known_text, TyText, ValueText, in_parens, arg_layer, decl_layer, ty_layer, value_layer, ty_spelled, value_spelled, ty_text, place_text, mark_text, value_ty_text, value_text, decl_text, arg_text}

map_map : {A B C : Type 0} (f : B → C) (g : A → B) (xs : List A) → map f (map g xs) ≡ map (λ x. f (g x)) xs
map_map f g [] = refl
map_map f g (x ∷ xs) = ap (λ ys. f (g x) ∷ ys) (map_map f g xs)

pub ty_text-SimpleType : (s : SimpleTy) → ty_text (ty.Simple s) ≡ simple_text s
unfolding ty_text decl_text arg_text
ty_text-SimpleType s = ap (λ x. (ty_spelled x).text) (sym (ty.rolls-Simple s)) ∙ ap (λ s. s.text) (fold-roll-Ty (List ℕ) (List ℕ) TyText ValueText arg_layer decl_layer ty_layer value_layer (layer.Ty::Simple s))

pub place_text-SimpleType : (s : SimpleTy) → place_text (ty.Simple s) ≡ simple_text s
unfolding place_text ty_text decl_text arg_text
place_text-SimpleType s = ap (λ x. (ty_spelled x).place) (sym (ty.rolls-Simple s)) ∙ ap (λ s. s.place) (fold-roll-Ty (List ℕ) (List ℕ) TyText ValueText arg_layer decl_layer ty_layer value_layer (layer.Ty::Simple s))

pub mark_text-SimpleType : (s : SimpleTy) → mark_text (ty.Simple s) ≡ codes "."
unfolding mark_text
mark_text-SimpleType s = ap (λ x. (ty_spelled x).mark) (sym (ty.rolls-Simple s)) ∙ ap (λ s. s.mark) (fold-roll-Ty (List ℕ) (List ℕ) TyText ValueText arg_layer decl_layer ty_layer value_layer (layer.Ty::Simple s))

pub place_is-SimpleType : (s : SimpleTy) → place_text (ty.Simple s) ≡ ty_text (ty.Simple s)
place_is-SimpleType s = place_text-SimpleType s ∙ sym (ty_text-SimpleType s)

pub ty_text-IntType : (s : Bool) (n : ℕ) → ty_text (ty.Int s n) ≡ (if s then codes "i" else codes "u") ++ number_text n
unfolding ty_text decl_text arg_text
ty_text-IntType s n = ap (λ x. (ty_spelled x).text) (sym (ty.rolls-Int s n)) ∙ ap (λ s. s.text) (fold-roll-Ty (List ℕ) (List ℕ) TyText ValueText arg_layer decl_layer ty_layer value_layer (layer.Ty::Int s n))

pub place_text-IntType : (s : Bool) (n : ℕ) → place_text (ty.Int s n) ≡ (if s then codes "i" else codes "u") ++ number_text n
unfolding place_text ty_text decl_text arg_text
place_text-IntType s n = ap (λ x. (ty_spelled x).place) (sym (ty.rolls-Int s n)) ∙ ap (λ s. s.place) (fold-roll-Ty (List ℕ) (List ℕ) TyText ValueText arg_layer decl_layer ty_layer value_layer (layer.Ty::Int s n))

pub mark_text-IntType : (s : Bool) (n : ℕ) → mark_text (ty.Int s n) ≡ codes "."
unfolding mark_text
mark_text-IntType s n = ap (λ x. (ty_spelled x).mark) (sym (ty.rolls-Int s n)) ∙ ap (λ s. s.mark) (fold-roll-Ty (List ℕ) (List ℕ) TyText ValueText arg_layer decl_layer ty_layer value_layer (layer.Ty::Int s n))

pub place_is-IntType : (s : Bool) (n : ℕ) → place_text (ty.Int s n) ≡ ty_text (ty.Int s n)
place_is-IntType s n = place_text-IntType s n ∙ sym (ty_text-IntType s n)

pub ty_text-ErrorSetType : (ns : List (List ℕ)) → ty_text (ty.ErrorSet ns) ≡ codes "error{" ++ (commas (map name_text ns) ++ codes "}")
unfolding ty_text decl_text arg_text
ty_text-ErrorSetType ns = ap (λ x. (ty_spelled x).text) (sym (ty.rolls-ErrorSet ns)) ∙ ap (λ s. s.text) (fold-roll-Ty (List ℕ) (List ℕ) TyText ValueText arg_layer decl_layer ty_layer value_layer (layer.ErrorSet ns))

pub place_text-ErrorSetType : (ns : List (List ℕ)) → place_text (ty.ErrorSet ns) ≡ codes "error{" ++ (commas (map name_text ns) ++ codes "}")
unfolding place_text ty_text decl_text arg_text
place_text-ErrorSetType ns = ap (λ x. (ty_spelled x).place) (sym (ty.rolls-ErrorSet ns)) ∙ ap (λ s. s.place) (fold-roll-Ty (List ℕ) (List ℕ) TyText ValueText arg_layer decl_layer ty_layer value_layer (layer.ErrorSet ns))

pub mark_text-ErrorSetType : (ns : List (List ℕ)) → mark_text (ty.ErrorSet ns) ≡ codes "."
unfolding mark_text
mark_text-ErrorSetType ns = ap (λ x. (ty_spelled x).mark) (sym (ty.rolls-ErrorSet ns)) ∙ ap (λ s. s.mark) (fold-roll-Ty (List ℕ) (List ℕ) TyText ValueText arg_layer decl_layer ty_layer value_layer (layer.ErrorSet ns))

pub place_is-ErrorSetType : (ns : List (List ℕ)) → place_text (ty.ErrorSet ns) ≡ ty_text (ty.ErrorSet ns)
place_is-ErrorSetType ns = place_text-ErrorSetType ns ∙ sym (ty_text-ErrorSetType ns)

pub ty_text-PointerType : (c : Bool) (t : Ty) → ty_text (ty.Pointer c t) ≡ (if c then codes "*const " else codes "*") ++ ty_text t
unfolding ty_text decl_text arg_text
ty_text-PointerType c t = ap (λ x. (ty_spelled x).text) (sym (ty.rolls-Pointer c t)) ∙ ap (λ s. s.text) (fold-roll-Ty (List ℕ) (List ℕ) TyText ValueText arg_layer decl_layer ty_layer value_layer (layer.Pointer c t))

pub place_text-PointerType : (c : Bool) (t : Ty) → place_text (ty.Pointer c t) ≡ (if c then codes "*const " else codes "*") ++ ty_text t
unfolding place_text ty_text decl_text arg_text
place_text-PointerType c t = ap (λ x. (ty_spelled x).place) (sym (ty.rolls-Pointer c t)) ∙ ap (λ s. s.place) (fold-roll-Ty (List ℕ) (List ℕ) TyText ValueText arg_layer decl_layer ty_layer value_layer (layer.Pointer c t))

pub mark_text-PointerType : (c : Bool) (t : Ty) → mark_text (ty.Pointer c t) ≡ codes "."
unfolding mark_text
mark_text-PointerType c t = ap (λ x. (ty_spelled x).mark) (sym (ty.rolls-Pointer c t)) ∙ ap (λ s. s.mark) (fold-roll-Ty (List ℕ) (List ℕ) TyText ValueText arg_layer decl_layer ty_layer value_layer (layer.Pointer c t))

pub place_is-PointerType : (c : Bool) (t : Ty) → place_text (ty.Pointer c t) ≡ ty_text (ty.Pointer c t)
place_is-PointerType c t = place_text-PointerType c t ∙ sym (ty_text-PointerType c t)

pub ty_text-SliceType : (c : Bool) (t : Ty) → ty_text (ty.Slice c t) ≡ (if c then codes "[]const " else codes "[]") ++ ty_text t
unfolding ty_text decl_text arg_text
ty_text-SliceType c t = ap (λ x. (ty_spelled x).text) (sym (ty.rolls-Slice c t)) ∙ ap (λ s. s.text) (fold-roll-Ty (List ℕ) (List ℕ) TyText ValueText arg_layer decl_layer ty_layer value_layer (layer.Ty::Slice c t))

pub place_text-SliceType : (c : Bool) (t : Ty) → place_text (ty.Slice c t) ≡ (if c then codes "[]const " else codes "[]") ++ ty_text t
unfolding place_text ty_text decl_text arg_text
place_text-SliceType c t = ap (λ x. (ty_spelled x).place) (sym (ty.rolls-Slice c t)) ∙ ap (λ s. s.place) (fold-roll-Ty (List ℕ) (List ℕ) TyText ValueText arg_layer decl_layer ty_layer value_layer (layer.Ty::Slice c t))

pub mark_text-SliceType : (c : Bool) (t : Ty) → mark_text (ty.Slice c t) ≡ codes "."
unfolding mark_text
mark_text-SliceType c t = ap (λ x. (ty_spelled x).mark) (sym (ty.rolls-Slice c t)) ∙ ap (λ s. s.mark) (fold-roll-Ty (List ℕ) (List ℕ) TyText ValueText arg_layer decl_layer ty_layer value_layer (layer.Ty::Slice c t))

pub place_is-SliceType : (c : Bool) (t : Ty) → place_text (ty.Slice c t) ≡ ty_text (ty.Slice c t)
place_is-SliceType c t = place_text-SliceType c t ∙ sym (ty_text-SliceType c t)

pub ty_text-ArrayType : (n : ℕ) (t : Ty) → ty_text (ty.Array n t) ≡ codes "[" ++ (number_text n ++ (codes "]" ++ ty_text t))
unfolding ty_text decl_text arg_text
ty_text-ArrayType n t = ap (λ x. (ty_spelled x).text) (sym (ty.rolls-Array n t)) ∙ ap (λ s. s.text) (fold-roll-Ty (List ℕ) (List ℕ) TyText ValueText arg_layer decl_layer ty_layer value_layer (layer.Array n t))

pub place_text-ArrayType : (n : ℕ) (t : Ty) → place_text (ty.Array n t) ≡ codes "[" ++ (number_text n ++ (codes "]" ++ ty_text t))
unfolding place_text ty_text decl_text arg_text
place_text-ArrayType n t = ap (λ x. (ty_spelled x).place) (sym (ty.rolls-Array n t)) ∙ ap (λ s. s.place) (fold-roll-Ty (List ℕ) (List ℕ) TyText ValueText arg_layer decl_layer ty_layer value_layer (layer.Array n t))

pub mark_text-ArrayType : (n : ℕ) (t : Ty) → mark_text (ty.Array n t) ≡ codes "."
unfolding mark_text
mark_text-ArrayType n t = ap (λ x. (ty_spelled x).mark) (sym (ty.rolls-Array n t)) ∙ ap (λ s. s.mark) (fold-roll-Ty (List ℕ) (List ℕ) TyText ValueText arg_layer decl_layer ty_layer value_layer (layer.Array n t))

pub place_is-ArrayType : (n : ℕ) (t : Ty) → place_text (ty.Array n t) ≡ ty_text (ty.Array n t)
place_is-ArrayType n t = place_text-ArrayType n t ∙ sym (ty_text-ArrayType n t)

pub ty_text-TerminatedType : (n : ℕ) → ty_text (ty.Terminated n) ≡ codes "[" ++ (number_text n ++ codes ":0]u8")
unfolding ty_text decl_text arg_text
ty_text-TerminatedType n = ap (λ x. (ty_spelled x).text) (sym (ty.rolls-Terminated n)) ∙ ap (λ s. s.text) (fold-roll-Ty (List ℕ) (List ℕ) TyText ValueText arg_layer decl_layer ty_layer value_layer (layer.Terminated n))

pub place_text-TerminatedType : (n : ℕ) → place_text (ty.Terminated n) ≡ codes "[" ++ (number_text n ++ codes ":0]u8")
unfolding place_text ty_text decl_text arg_text
place_text-TerminatedType n = ap (λ x. (ty_spelled x).place) (sym (ty.rolls-Terminated n)) ∙ ap (λ s. s.place) (fold-roll-Ty (List ℕ) (List ℕ) TyText ValueText arg_layer decl_layer ty_layer value_layer (layer.Terminated n))

pub mark_text-TerminatedType : (n : ℕ) → mark_text (ty.Terminated n) ≡ codes "."
unfolding mark_text
mark_text-TerminatedType n = ap (λ x. (ty_spelled x).mark) (sym (ty.rolls-Terminated n)) ∙ ap (λ s. s.mark) (fold-roll-Ty (List ℕ) (List ℕ) TyText ValueText arg_layer decl_layer ty_layer value_layer (layer.Terminated n))

pub place_is-TerminatedType : (n : ℕ) → place_text (ty.Terminated n) ≡ ty_text (ty.Terminated n)
place_is-TerminatedType n = place_text-TerminatedType n ∙ sym (ty_text-TerminatedType n)

pub ty_text-OptionalType : (t : Ty) → ty_text (ty.Optional t) ≡ codes "?" ++ ty_text t
unfolding ty_text decl_text arg_text
ty_text-OptionalType t = ap (λ x. (ty_spelled x).text) (sym (ty.rolls-Optional t)) ∙ ap (λ s. s.text) (fold-roll-Ty (List ℕ) (List ℕ) TyText ValueText arg_layer decl_layer ty_layer value_layer (layer.Optional t))

pub place_text-OptionalType : (t : Ty) → place_text (ty.Optional t) ≡ codes "?" ++ ty_text t
unfolding place_text ty_text decl_text arg_text
place_text-OptionalType t = ap (λ x. (ty_spelled x).place) (sym (ty.rolls-Optional t)) ∙ ap (λ s. s.place) (fold-roll-Ty (List ℕ) (List ℕ) TyText ValueText arg_layer decl_layer ty_layer value_layer (layer.Optional t))

pub mark_text-OptionalType : (t : Ty) → mark_text (ty.Optional t) ≡ codes "."
unfolding mark_text
mark_text-OptionalType t = ap (λ x. (ty_spelled x).mark) (sym (ty.rolls-Optional t)) ∙ ap (λ s. s.mark) (fold-roll-Ty (List ℕ) (List ℕ) TyText ValueText arg_layer decl_layer ty_layer value_layer (layer.Optional t))

pub place_is-OptionalType : (t : Ty) → place_text (ty.Optional t) ≡ ty_text (ty.Optional t)
place_is-OptionalType t = place_text-OptionalType t ∙ sym (ty_text-OptionalType t)

pub ty_text-ErrorUnionType : (e t : Ty) → ty_text (ty.ErrorUnion e t) ≡ ty_text e ++ (codes "!" ++ ty_text t)
unfolding ty_text decl_text arg_text
ty_text-ErrorUnionType e t = ap (λ x. (ty_spelled x).text) (sym (ty.rolls-ErrorUnion e t)) ∙ ap (λ s. s.text) (fold-roll-Ty (List ℕ) (List ℕ) TyText ValueText arg_layer decl_layer ty_layer value_layer (layer.ErrorUnion e t))

pub place_text-ErrorUnionType : (e t : Ty) → place_text (ty.ErrorUnion e t) ≡ ty_text e ++ (codes "!" ++ ty_text t)
unfolding place_text ty_text decl_text arg_text
place_text-ErrorUnionType e t = ap (λ x. (ty_spelled x).place) (sym (ty.rolls-ErrorUnion e t)) ∙ ap (λ s. s.place) (fold-roll-Ty (List ℕ) (List ℕ) TyText ValueText arg_layer decl_layer ty_layer value_layer (layer.ErrorUnion e t))

pub mark_text-ErrorUnionType : (e t : Ty) → mark_text (ty.ErrorUnion e t) ≡ codes "."
unfolding mark_text
mark_text-ErrorUnionType e t = ap (λ x. (ty_spelled x).mark) (sym (ty.rolls-ErrorUnion e t)) ∙ ap (λ s. s.mark) (fold-roll-Ty (List ℕ) (List ℕ) TyText ValueText arg_layer decl_layer ty_layer value_layer (layer.ErrorUnion e t))

pub place_is-ErrorUnionType : (e t : Ty) → place_text (ty.ErrorUnion e t) ≡ ty_text (ty.ErrorUnion e t)
place_is-ErrorUnionType e t = place_text-ErrorUnionType e t ∙ sym (ty_text-ErrorUnionType e t)

pub ty_text-ContainerType : (d : DeclPath) (n : ℕ) (l : List Arg) → ty_text (ty.Container d n l) ≡ decl_text d ++ (codes "#" ++ (number_text n ++ in_parens (map arg_text l)))
unfolding ty_text decl_text arg_text
ty_text-ContainerType d n l = ap (λ x. (ty_spelled x).text) (sym (ty.rolls-Container d n l)) ∙ ap (λ s. s.text) (fold-roll-Ty (List ℕ) (List ℕ) TyText ValueText arg_layer decl_layer ty_layer value_layer (layer.Container d n l))

pub place_text-ContainerType : (d : DeclPath) (n : ℕ) (l : List Arg) → place_text (ty.Container d n l) ≡ decl_text d ++ (codes "#" ++ (number_text n ++ in_parens (map arg_text l)))
unfolding place_text ty_text decl_text arg_text
place_text-ContainerType d n l = ap (λ x. (ty_spelled x).place) (sym (ty.rolls-Container d n l)) ∙ ap (λ s. s.place) (fold-roll-Ty (List ℕ) (List ℕ) TyText ValueText arg_layer decl_layer ty_layer value_layer (layer.Container d n l))

pub mark_text-ContainerType : (d : DeclPath) (n : ℕ) (l : List Arg) → mark_text (ty.Container d n l) ≡ codes "."
unfolding mark_text
mark_text-ContainerType d n l = ap (λ x. (ty_spelled x).mark) (sym (ty.rolls-Container d n l)) ∙ ap (λ s. s.mark) (fold-roll-Ty (List ℕ) (List ℕ) TyText ValueText arg_layer decl_layer ty_layer value_layer (layer.Container d n l))

pub place_is-ContainerType : (d : DeclPath) (n : ℕ) (l : List Arg) → place_text (ty.Container d n l) ≡ ty_text (ty.Container d n l)
place_is-ContainerType d n l = place_text-ContainerType d n l ∙ sym (ty_text-ContainerType d n l)

pub ty_text-FunctionType : (ps : List Ty) (r : Ty) → ty_text (ty.Function ps r) ≡ codes "fn(" ++ (commas (map ty_text ps) ++ (codes ")" ++ ty_text r))
unfolding ty_text decl_text arg_text
ty_text-FunctionType ps r = ap (λ x. (ty_spelled x).text) (sym (ty.rolls-Function ps r)) ∙ ap (λ s. s.text) (fold-roll-Ty (List ℕ) (List ℕ) TyText ValueText arg_layer decl_layer ty_layer value_layer (layer.Ty::Function ps r)) ∙ ap (λ xs. codes "fn(" ++ (commas xs ++ (codes ")" ++ ty_text r))) (map_map (λ p. p.text) ty_spelled ps)

pub place_text-FunctionType : (ps : List Ty) (r : Ty) → place_text (ty.Function ps r) ≡ codes "fn(" ++ (commas (map ty_text ps) ++ (codes ")" ++ ty_text r))
unfolding place_text ty_text decl_text arg_text
place_text-FunctionType ps r = ap (λ x. (ty_spelled x).place) (sym (ty.rolls-Function ps r)) ∙ ap (λ s. s.place) (fold-roll-Ty (List ℕ) (List ℕ) TyText ValueText arg_layer decl_layer ty_layer value_layer (layer.Ty::Function ps r)) ∙ ap (λ xs. codes "fn(" ++ (commas xs ++ (codes ")" ++ ty_text r))) (map_map (λ p. p.text) ty_spelled ps)

pub mark_text-FunctionType : (ps : List Ty) (r : Ty) → mark_text (ty.Function ps r) ≡ codes "."
unfolding mark_text
mark_text-FunctionType ps r = ap (λ x. (ty_spelled x).mark) (sym (ty.rolls-Function ps r)) ∙ ap (λ s. s.mark) (fold-roll-Ty (List ℕ) (List ℕ) TyText ValueText arg_layer decl_layer ty_layer value_layer (layer.Ty::Function ps r))

pub place_is-FunctionType : (ps : List Ty) (r : Ty) → place_text (ty.Function ps r) ≡ ty_text (ty.Function ps r)
place_is-FunctionType ps r = place_text-FunctionType ps r ∙ sym (ty_text-FunctionType ps r)

pub ty_text-UnionTagType : (t : Ty) → ty_text (ty.UnionTag t) ≡ codes "@tag(" ++ (ty_text t ++ codes ")")
unfolding ty_text decl_text arg_text
ty_text-UnionTagType t = ap (λ x. (ty_spelled x).text) (sym (ty.rolls-UnionTag t)) ∙ ap (λ s. s.text) (fold-roll-Ty (List ℕ) (List ℕ) TyText ValueText arg_layer decl_layer ty_layer value_layer (layer.UnionTag t))

pub place_text-UnionTagType : (t : Ty) → place_text (ty.UnionTag t) ≡ codes "@tag(" ++ (ty_text t ++ codes ")")
unfolding place_text ty_text decl_text arg_text
place_text-UnionTagType t = ap (λ x. (ty_spelled x).place) (sym (ty.rolls-UnionTag t)) ∙ ap (λ s. s.place) (fold-roll-Ty (List ℕ) (List ℕ) TyText ValueText arg_layer decl_layer ty_layer value_layer (layer.UnionTag t))

pub mark_text-UnionTagType : (t : Ty) → mark_text (ty.UnionTag t) ≡ codes "."
unfolding mark_text
mark_text-UnionTagType t = ap (λ x. (ty_spelled x).mark) (sym (ty.rolls-UnionTag t)) ∙ ap (λ s. s.mark) (fold-roll-Ty (List ℕ) (List ℕ) TyText ValueText arg_layer decl_layer ty_layer value_layer (layer.UnionTag t))

pub place_is-UnionTagType : (t : Ty) → place_text (ty.UnionTag t) ≡ ty_text (ty.UnionTag t)
place_is-UnionTagType t = place_text-UnionTagType t ∙ sym (ty_text-UnionTagType t)

pub ty_text-FileType : (path : List ℕ) → ty_text (ty.File path) ≡ codes "@:" ++ path
unfolding ty_text
ty_text-FileType path = ap (λ x. (ty_spelled x).text) (sym (ty.rolls-File path)) ∙ ap (λ s. s.text) (fold-roll-Ty (List ℕ) (List ℕ) TyText ValueText arg_layer decl_layer ty_layer value_layer (layer.File path))

pub place_text-FileType : (path : List ℕ) → place_text (ty.File path) ≡ path
unfolding place_text
place_text-FileType path = ap (λ x. (ty_spelled x).place) (sym (ty.rolls-File path)) ∙ ap (λ s. s.place) (fold-roll-Ty (List ℕ) (List ℕ) TyText ValueText arg_layer decl_layer ty_layer value_layer (layer.File path))

pub mark_text-FileType : (path : List ℕ) → mark_text (ty.File path) ≡ codes ":"
unfolding mark_text
mark_text-FileType path = ap (λ x. (ty_spelled x).mark) (sym (ty.rolls-File path)) ∙ ap (λ s. s.mark) (fold-roll-Ty (List ℕ) (List ℕ) TyText ValueText arg_layer decl_layer ty_layer value_layer (layer.File path))

pub value_text-SimpleValue : (t : Ty) (s : SimpleValue) → value_text (value.Simple t s) ≡ known_text s
unfolding value_text value_ty_text decl_text
value_text-SimpleValue t s = ap (λ x. (value_spelled x).text) (sym (value.rolls-Simple t s)) ∙ ap (λ s. s.text) (fold-roll-Value (List ℕ) (List ℕ) TyText ValueText arg_layer decl_layer ty_layer value_layer (layer.Value::Simple t s))

pub value_ty_text-SimpleValue : (t : Ty) (s : SimpleValue) → value_ty_text (value.Simple t s) ≡ ty_text t
unfolding value_ty_text ty_text
value_ty_text-SimpleValue t s = ap (λ x. (value_spelled x).ty) (sym (value.rolls-Simple t s)) ∙ ap (λ s. s.ty) (fold-roll-Value (List ℕ) (List ℕ) TyText ValueText arg_layer decl_layer ty_layer value_layer (layer.Value::Simple t s))

pub value_text-IntValue : (t : Ty) (z : ℤ) → value_text (value.Int t z) ≡ int_text z
unfolding value_text value_ty_text decl_text
value_text-IntValue t z = ap (λ x. (value_spelled x).text) (sym (value.rolls-Int t z)) ∙ ap (λ s. s.text) (fold-roll-Value (List ℕ) (List ℕ) TyText ValueText arg_layer decl_layer ty_layer value_layer (layer.Value::Int t z))

pub value_ty_text-IntValue : (t : Ty) (z : ℤ) → value_ty_text (value.Int t z) ≡ ty_text t
unfolding value_ty_text ty_text
value_ty_text-IntValue t z = ap (λ x. (value_spelled x).ty) (sym (value.rolls-Int t z)) ∙ ap (λ s. s.ty) (fold-roll-Value (List ℕ) (List ℕ) TyText ValueText arg_layer decl_layer ty_layer value_layer (layer.Value::Int t z))

pub value_text-TagValue : (t : Ty) (n : List ℕ) → value_text (value.Tag t n) ≡ codes "." ++ name_text n
unfolding value_text value_ty_text decl_text
value_text-TagValue t n = ap (λ x. (value_spelled x).text) (sym (value.rolls-Tag t n)) ∙ ap (λ s. s.text) (fold-roll-Value (List ℕ) (List ℕ) TyText ValueText arg_layer decl_layer ty_layer value_layer (layer.Tag t n))

pub value_ty_text-TagValue : (t : Ty) (n : List ℕ) → value_ty_text (value.Tag t n) ≡ ty_text t
unfolding value_ty_text ty_text
value_ty_text-TagValue t n = ap (λ x. (value_spelled x).ty) (sym (value.rolls-Tag t n)) ∙ ap (λ s. s.ty) (fold-roll-Value (List ℕ) (List ℕ) TyText ValueText arg_layer decl_layer ty_layer value_layer (layer.Tag t n))

pub value_text-ErrorValue : (t : Ty) (n : List ℕ) → value_text (value.Error t n) ≡ codes "error." ++ name_text n
unfolding value_text value_ty_text decl_text
value_text-ErrorValue t n = ap (λ x. (value_spelled x).text) (sym (value.rolls-Error t n)) ∙ ap (λ s. s.text) (fold-roll-Value (List ℕ) (List ℕ) TyText ValueText arg_layer decl_layer ty_layer value_layer (layer.Error t n))

pub value_ty_text-ErrorValue : (t : Ty) (n : List ℕ) → value_ty_text (value.Error t n) ≡ ty_text t
unfolding value_ty_text ty_text
value_ty_text-ErrorValue t n = ap (λ x. (value_spelled x).ty) (sym (value.rolls-Error t n)) ∙ ap (λ s. s.ty) (fold-roll-Value (List ℕ) (List ℕ) TyText ValueText arg_layer decl_layer ty_layer value_layer (layer.Error t n))

pub value_text-SomeValue : (t : Ty) (v : Value) → value_text (value.Some t v) ≡ codes "?" ++ value_text v
unfolding value_text value_ty_text decl_text
value_text-SomeValue t v = ap (λ x. (value_spelled x).text) (sym (value.rolls-Some t v)) ∙ ap (λ s. s.text) (fold-roll-Value (List ℕ) (List ℕ) TyText ValueText arg_layer decl_layer ty_layer value_layer (layer.Some t v))

pub value_ty_text-SomeValue : (t : Ty) (v : Value) → value_ty_text (value.Some t v) ≡ ty_text t
unfolding value_ty_text ty_text
value_ty_text-SomeValue t v = ap (λ x. (value_spelled x).ty) (sym (value.rolls-Some t v)) ∙ ap (λ s. s.ty) (fold-roll-Value (List ℕ) (List ℕ) TyText ValueText arg_layer decl_layer ty_layer value_layer (layer.Some t v))

pub value_text-GoodValue : (t : Ty) (v : Value) → value_text (value.Good t v) ≡ codes "!" ++ value_text v
unfolding value_text value_ty_text decl_text
value_text-GoodValue t v = ap (λ x. (value_spelled x).text) (sym (value.rolls-Good t v)) ∙ ap (λ s. s.text) (fold-roll-Value (List ℕ) (List ℕ) TyText ValueText arg_layer decl_layer ty_layer value_layer (layer.Good t v))

pub value_ty_text-GoodValue : (t : Ty) (v : Value) → value_ty_text (value.Good t v) ≡ ty_text t
unfolding value_ty_text ty_text
value_ty_text-GoodValue t v = ap (λ x. (value_spelled x).ty) (sym (value.rolls-Good t v)) ∙ ap (λ s. s.ty) (fold-roll-Value (List ℕ) (List ℕ) TyText ValueText arg_layer decl_layer ty_layer value_layer (layer.Good t v))

pub value_text-ListValue : (t : Ty) (vs : List Value) → value_text (value.List t vs) ≡ codes "{" ++ (commas (map value_text vs) ++ codes "}")
unfolding value_text value_ty_text decl_text
value_text-ListValue t vs = ap (λ x. (value_spelled x).text) (sym (value.rolls-List t vs)) ∙ ap (λ s. s.text) (fold-roll-Value (List ℕ) (List ℕ) TyText ValueText arg_layer decl_layer ty_layer value_layer (layer.List t vs)) ∙ ap (λ xs. codes "{" ++ (commas xs ++ codes "}")) (map_map (λ v. v.text) value_spelled vs)

pub value_ty_text-ListValue : (t : Ty) (vs : List Value) → value_ty_text (value.List t vs) ≡ ty_text t
unfolding value_ty_text ty_text
value_ty_text-ListValue t vs = ap (λ x. (value_spelled x).ty) (sym (value.rolls-List t vs)) ∙ ap (λ s. s.ty) (fold-roll-Value (List ℕ) (List ℕ) TyText ValueText arg_layer decl_layer ty_layer value_layer (layer.List t vs))

pub value_text-TextValue : (t : Ty) (bs : List ℕ) → value_text (value.Text t bs) ≡ 34 ∷ (quoted bs ++ 34 ∷ [])
unfolding value_text value_ty_text decl_text
value_text-TextValue t bs = ap (λ x. (value_spelled x).text) (sym (value.rolls-Text t bs)) ∙ ap (λ s. s.text) (fold-roll-Value (List ℕ) (List ℕ) TyText ValueText arg_layer decl_layer ty_layer value_layer (layer.Text t bs))

pub value_ty_text-TextValue : (t : Ty) (bs : List ℕ) → value_ty_text (value.Text t bs) ≡ ty_text t
unfolding value_ty_text ty_text
value_ty_text-TextValue t bs = ap (λ x. (value_spelled x).ty) (sym (value.rolls-Text t bs)) ∙ ap (λ s. s.ty) (fold-roll-Value (List ℕ) (List ℕ) TyText ValueText arg_layer decl_layer ty_layer value_layer (layer.Text t bs))

pub value_text-TaggedValue : (t : Ty) (n : List ℕ) (v : Value) → value_text (value.Tagged t n v) ≡ codes "." ++ (name_text n ++ (codes "{" ++ (value_text v ++ codes "}")))
unfolding value_text value_ty_text decl_text
value_text-TaggedValue t n v = ap (λ x. (value_spelled x).text) (sym (value.rolls-Tagged t n v)) ∙ ap (λ s. s.text) (fold-roll-Value (List ℕ) (List ℕ) TyText ValueText arg_layer decl_layer ty_layer value_layer (layer.Tagged t n v))

pub value_ty_text-TaggedValue : (t : Ty) (n : List ℕ) (v : Value) → value_ty_text (value.Tagged t n v) ≡ ty_text t
unfolding value_ty_text ty_text
value_ty_text-TaggedValue t n v = ap (λ x. (value_spelled x).ty) (sym (value.rolls-Tagged t n v)) ∙ ap (λ s. s.ty) (fold-roll-Value (List ℕ) (List ℕ) TyText ValueText arg_layer decl_layer ty_layer value_layer (layer.Tagged t n v))

pub value_text-FunctionValue : (d : DeclPath) → value_text (value.Function d) ≡ decl_text d
unfolding value_text value_ty_text decl_text
value_text-FunctionValue d = ap (λ x. (value_spelled x).text) (sym (value.rolls-Function d)) ∙ ap (λ s. s.text) (fold-roll-Value (List ℕ) (List ℕ) TyText ValueText arg_layer decl_layer ty_layer value_layer (layer.Value::Function d))

pub value_ty_text-FunctionValue : (d : DeclPath) → value_ty_text (value.Function d) ≡ codes "@function"
unfolding value_ty_text ty_text
value_ty_text-FunctionValue d = ap (λ x. (value_spelled x).ty) (sym (value.rolls-Function d)) ∙ ap (λ s. s.ty) (fold-roll-Value (List ℕ) (List ℕ) TyText ValueText arg_layer decl_layer ty_layer value_layer (layer.Value::Function d))

pub value_text-AddressValue : (t : Ty) (d : DeclPath) → value_text (value.Address t d) ≡ codes "&" ++ decl_text d
unfolding value_text value_ty_text decl_text
value_text-AddressValue t d = ap (λ x. (value_spelled x).text) (sym (value.rolls-Address t d)) ∙ ap (λ s. s.text) (fold-roll-Value (List ℕ) (List ℕ) TyText ValueText arg_layer decl_layer ty_layer value_layer (layer.Address t d))

pub value_ty_text-AddressValue : (t : Ty) (d : DeclPath) → value_ty_text (value.Address t d) ≡ ty_text t
unfolding value_ty_text ty_text
value_ty_text-AddressValue t d = ap (λ x. (value_spelled x).ty) (sym (value.rolls-Address t d)) ∙ ap (λ s. s.ty) (fold-roll-Value (List ℕ) (List ℕ) TyText ValueText arg_layer decl_layer ty_layer value_layer (layer.Address t d))

pub value_text-ConstantValue : (t : Ty) (v : Value) → value_text (value.Constant t v) ≡ codes "&(" ++ (value_ty_text v ++ (codes "=" ++ (value_text v ++ codes ")")))
unfolding value_text value_ty_text decl_text
value_text-ConstantValue t v = ap (λ x. (value_spelled x).text) (sym (value.rolls-Constant t v)) ∙ ap (λ s. s.text) (fold-roll-Value (List ℕ) (List ℕ) TyText ValueText arg_layer decl_layer ty_layer value_layer (layer.Constant t v))

pub value_ty_text-ConstantValue : (t : Ty) (v : Value) → value_ty_text (value.Constant t v) ≡ ty_text t
unfolding value_ty_text ty_text
value_ty_text-ConstantValue t v = ap (λ x. (value_spelled x).ty) (sym (value.rolls-Constant t v)) ∙ ap (λ s. s.ty) (fold-roll-Value (List ℕ) (List ℕ) TyText ValueText arg_layer decl_layer ty_layer value_layer (layer.Constant t v))

pub value_text-PlaceValue : (t : Ty) (n : ℕ) → value_text (value.Place t n) ≡ codes "&@comptime" ++ number_text n
unfolding value_text value_ty_text decl_text
value_text-PlaceValue t n = ap (λ x. (value_spelled x).text) (sym (value.rolls-Place t n)) ∙ ap (λ s. s.text) (fold-roll-Value (List ℕ) (List ℕ) TyText ValueText arg_layer decl_layer ty_layer value_layer (layer.Place t n))

pub value_ty_text-PlaceValue : (t : Ty) (n : ℕ) → value_ty_text (value.Place t n) ≡ ty_text t
unfolding value_ty_text ty_text
value_ty_text-PlaceValue t n = ap (λ x. (value_spelled x).ty) (sym (value.rolls-Place t n)) ∙ ap (λ s. s.ty) (fold-roll-Value (List ℕ) (List ℕ) TyText ValueText arg_layer decl_layer ty_layer value_layer (layer.Place t n))

pub value_text-PartValue : (t : Ty) (v : Value) (n m : ℕ) → value_text (value.Part t v n m) ≡ value_text v ++ (codes "." ++ number_text n)
unfolding value_text value_ty_text decl_text
value_text-PartValue t v n m = ap (λ x. (value_spelled x).text) (sym (value.rolls-Part t v n m)) ∙ ap (λ s. s.text) (fold-roll-Value (List ℕ) (List ℕ) TyText ValueText arg_layer decl_layer ty_layer value_layer (layer.Part t v n m))

pub value_ty_text-PartValue : (t : Ty) (v : Value) (n m : ℕ) → value_ty_text (value.Part t v n m) ≡ ty_text t
unfolding value_ty_text ty_text
value_ty_text-PartValue t v n m = ap (λ x. (value_spelled x).ty) (sym (value.rolls-Part t v n m)) ∙ ap (λ s. s.ty) (fold-roll-Value (List ℕ) (List ℕ) TyText ValueText arg_layer decl_layer ty_layer value_layer (layer.Part t v n m))

pub value_text-SliceValue : (t : Ty) (v : Value) (lo hi : ℕ) → value_text (value.Slice t v lo hi) ≡ value_text v ++ (codes "[" ++ (number_text lo ++ (codes ".." ++ (number_text hi ++ codes "]"))))
unfolding value_text value_ty_text decl_text
value_text-SliceValue t v lo hi = ap (λ x. (value_spelled x).text) (sym (value.rolls-Slice t v lo hi)) ∙ ap (λ s. s.text) (fold-roll-Value (List ℕ) (List ℕ) TyText ValueText arg_layer decl_layer ty_layer value_layer (layer.Value::Slice t v lo hi))

pub value_ty_text-SliceValue : (t : Ty) (v : Value) (lo hi : ℕ) → value_ty_text (value.Slice t v lo hi) ≡ ty_text t
unfolding value_ty_text ty_text
value_ty_text-SliceValue t v lo hi = ap (λ x. (value_spelled x).ty) (sym (value.rolls-Slice t v lo hi)) ∙ ap (λ s. s.ty) (fold-roll-Value (List ℕ) (List ℕ) TyText ValueText arg_layer decl_layer ty_layer value_layer (layer.Value::Slice t v lo hi))

pub value_text-TypeValue : (t : Ty) → value_text (value.OfType t) ≡ ty_text t
unfolding value_text ty_text
value_text-TypeValue t = ap (λ x. (value_spelled x).text) (sym (value.rolls-OfType t)) ∙ ap (λ s. s.text) (fold-roll-Value (List ℕ) (List ℕ) TyText ValueText arg_layer decl_layer ty_layer value_layer (layer.OfType t))

pub value_ty_text-TypeValue : (t : Ty) → value_ty_text (value.OfType t) ≡ codes "type"
unfolding value_ty_text ty_text
value_ty_text-TypeValue t = ap (λ x. (value_spelled x).ty) (sym (value.rolls-OfType t)) ∙ ap (λ s. s.ty) (fold-roll-Value (List ℕ) (List ℕ) TyText ValueText arg_layer decl_layer ty_layer value_layer (layer.OfType t))

pub decl_text-Named : (c : Ty) (name : List ℕ) → decl_text (decl.Named c name) ≡ place_text c ++ (mark_text c ++ name_text name)
unfolding decl_text place_text mark_text
decl_text-Named c name = ap decl_text (sym (decl.rolls-Named c name)) ∙ fold-roll-DeclPath (List ℕ) (List ℕ) TyText ValueText arg_layer decl_layer ty_layer value_layer (layer.Named c name)

pub decl_text-Comptime : (path : List ℕ) (n : ℕ) → decl_text (decl.Comptime path n) ≡ path ++ (codes ":comptime " ++ number_text n)
unfolding decl_text
decl_text-Comptime path n = ap decl_text (sym (decl.rolls-Comptime path n)) ∙ fold-roll-DeclPath (List ℕ) (List ℕ) TyText ValueText arg_layer decl_layer ty_layer value_layer (layer.Comptime path n)

pub arg_text-Known : (v : Value) → arg_text (arg.Known v) ≡ value_ty_text v ++ (codes "=" ++ value_text v)
unfolding arg_text value_text value_ty_text
arg_text-Known v = ap arg_text (sym (arg.rolls-Known v)) ∙ fold-roll-Arg (List ℕ) (List ℕ) TyText ValueText arg_layer decl_layer ty_layer value_layer (layer.Known v)

pub arg_text-Function : (t : Ty) (d : DeclPath) → arg_text (arg.Function t d) ≡ ty_text t ++ (codes "=" ++ decl_text d)
unfolding arg_text ty_text decl_text
arg_text-Function t d = ap arg_text (sym (arg.rolls-Function t d)) ∙ fold-roll-Arg (List ℕ) (List ℕ) TyText ValueText arg_layer decl_layer ty_layer value_layer (layer.Arg::Function t d)

pub arg_text-Typed : (t : Ty) → arg_text (arg.Typed t) ≡ ty_text t
unfolding arg_text ty_text
arg_text-Typed t = ap arg_text (sym (arg.rolls-Typed t)) ∙ fold-roll-Arg (List ℕ) (List ℕ) TyText ValueText arg_layer decl_layer ty_layer value_layer (layer.Typed t)

pub ruleset ty_texts = (ty_text-SimpleType, ty_text-IntType, ty_text-ErrorSetType, ty_text-PointerType, ty_text-SliceType, ty_text-ArrayType, ty_text-TerminatedType, ty_text-OptionalType, ty_text-ErrorUnionType, ty_text-ContainerType, ty_text-FunctionType, ty_text-UnionTagType, ty_text-FileType, append_assoc)

pub ruleset places = (place_is-SimpleType, mark_text-SimpleType, place_is-IntType, mark_text-IntType, place_is-ErrorSetType, mark_text-ErrorSetType, place_is-PointerType, mark_text-PointerType, place_is-SliceType, mark_text-SliceType, place_is-ArrayType, mark_text-ArrayType, place_is-TerminatedType, mark_text-TerminatedType, place_is-OptionalType, mark_text-OptionalType, place_is-ErrorUnionType, mark_text-ErrorUnionType, place_is-ContainerType, mark_text-ContainerType, place_is-FunctionType, mark_text-FunctionType, place_is-UnionTagType, mark_text-UnionTagType, place_text-FileType, mark_text-FileType)

pub ruleset value_texts = (value_text-SimpleValue, value_text-IntValue, value_text-TagValue, value_text-ErrorValue, value_text-SomeValue, value_text-GoodValue, value_text-ListValue, value_text-TextValue, value_text-TaggedValue, value_text-FunctionValue, value_text-AddressValue, value_text-ConstantValue, value_text-PlaceValue, value_text-PartValue, value_text-SliceValue, value_text-TypeValue, append_assoc)

pub ruleset value_ty_texts = (value_ty_text-SimpleValue, value_ty_text-IntValue, value_ty_text-TagValue, value_ty_text-ErrorValue, value_ty_text-SomeValue, value_ty_text-GoodValue, value_ty_text-ListValue, value_ty_text-TextValue, value_ty_text-TaggedValue, value_ty_text-FunctionValue, value_ty_text-AddressValue, value_ty_text-ConstantValue, value_ty_text-PlaceValue, value_ty_text-PartValue, value_ty_text-SliceValue, value_ty_text-TypeValue)

pub ruleset decl_texts = (decl_text-Named, decl_text-Comptime, append_assoc)

pub ruleset arg_texts = (arg_text-Known, arg_text-Function, arg_text-Typed, append_assoc)
