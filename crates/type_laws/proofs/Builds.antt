-- A tree is fit where its outer layer is well formed and the parts of this layer are fit.
use Rattle.std.proofs.Common.{◌≡◌, List, [], ◌∷◌, map, refl, ap, subst}
use Rattle.std.specs.List.{AllByRecursion}
use Rattle.type_form.specs.declared.tree.Ty.{Ty, out-Ty, map-Ty, roll-out-Ty}
use Rattle.type_form.specs.declared.tree.Value.{Value, out-Value, map-Value, roll-out-Value}
use Rattle.type_form.specs.declared.tree.DeclPath.{DeclPath, out-DeclPath, map-DeclPath, roll-out-DeclPath}
use Rattle.type_form.specs.declared.tree.Arg.{Arg, out-Arg, map-Arg, roll-out-Arg}
use Rattle.type_form.specs.declared.tree.Arg.TheOpen.{Ty-F, Value-F, DeclPath-F, Arg-F}
use Rattle.type_form.specs.declared.tree.Arg.TheOpen as layer
use Rattle.type_form.specs.declared.tree.Arg.TheFolds.{every_made-Ty, every_made-Value, every_made-DeclPath, every_made-Arg}
use Rattle.type_form.specs.Tree.{TyLayer, ValueLayer, DeclLayer, ArgLayer}
use Rattle.type_form.specs.Fit.{Program, arg_fits, decl_fits, ty_fits, value_fits, IsFit, IsFitValue, IsFitDecl, IsFitArg, ty_parts, decl_parts, value_parts, arg_parts}
use Rattle.type_laws.specs.Laws.{TypesByLayers, ValuesByLayers, PathsByLayers, ArgumentsByLayers}
use Rattle.type_laws.proofs.Parts.{FitArg, FitDecl, FitTy, FitValue, ty_here, ty_held, value_here, value_held, decl_here, decl_held, arg_here, arg_held}

-- each item with what holds of it
pairs : {X : Type 0} (P : X → Type 0) (xs : List X) → AllByRecursion P xs → List ((x : X) × P x)
pairs P [] h = []
pairs P (x ∷ xs) h = (x, h.0) ∷ pairs P xs h.1

firsts : {X : Type 0} (P : X → Type 0) (xs : List X) (h : AllByRecursion P xs) → map (λ e. e.0) (pairs P xs h) ≡ xs
unfolding pairs
firsts P [] h = refl
firsts P (x ∷ xs) h = ap (λ ys. x ∷ ys) (firsts P xs h.1)

module _ (p : Program) where
  ty_paired : (l : TyLayer) → ty_parts p l → Ty-F (FitArg p) (FitDecl p) (FitTy p) (FitValue p)
  ty_paired (layer.Ty::Simple s) h = layer.Ty::Simple s
  ty_paired (layer.Ty::Int s n) h = layer.Ty::Int s n
  ty_paired (layer.ErrorSet ns) h = layer.ErrorSet ns
  ty_paired (layer.Pointer c t) h = layer.Pointer c (t, h)
  ty_paired (layer.Ty::Slice c t) h = layer.Ty::Slice c (t, h)
  ty_paired (layer.Array n t) h = layer.Array n (t, h)
  ty_paired (layer.Terminated n) h = layer.Terminated n
  ty_paired (layer.Optional t) h = layer.Optional (t, h)
  ty_paired (layer.ErrorUnion e t) h = layer.ErrorUnion (e, h.0) (t, h.1)
  ty_paired (layer.File path) h = layer.File path
  ty_paired (layer.Container d n l) h = layer.Container (d, h.0) n (pairs (IsFitArg p) l h.1)
  ty_paired (layer.UnionTag t) h = layer.UnionTag (t, h)
  ty_paired (layer.Ty::Function ps r) h = layer.Ty::Function (pairs (IsFit p) ps h.0) (r, h.1)

  ty_unpaired : (l : TyLayer) (h : ty_parts p l) → map-Ty (FitArg p) (FitDecl p) (FitTy p) (FitValue p) Arg DeclPath Ty Value (λ e. e.0) (λ e. e.0) (λ e. e.0) (λ e. e.0) (ty_paired l h) ≡ l
  unfolding ty_paired
  ty_unpaired (layer.Ty::Simple s) h = refl
  ty_unpaired (layer.Ty::Int s n) h = refl
  ty_unpaired (layer.ErrorSet ns) h = refl
  ty_unpaired (layer.Pointer c t) h = refl
  ty_unpaired (layer.Ty::Slice c t) h = refl
  ty_unpaired (layer.Array n t) h = refl
  ty_unpaired (layer.Terminated n) h = refl
  ty_unpaired (layer.Optional t) h = refl
  ty_unpaired (layer.ErrorUnion e t) h = refl
  ty_unpaired (layer.File path) h = refl
  ty_unpaired (layer.Container d n l) h = ap (layer.Container d n) (firsts (IsFitArg p) l h.1)
  ty_unpaired (layer.UnionTag t) h = refl
  ty_unpaired (layer.Ty::Function ps r) h = ap (λ xs. layer.Ty::Function xs r) (firsts (IsFit p) ps h.0)

  ty_made : (t : Ty) → ty_fits p (out-Ty t) → ty_parts p (out-Ty t) → IsFit p t
  unfolding IsFit IsFitArg IsFitDecl IsFitValue
  ty_made t f h = subst (IsFit p) (roll-out-Ty t) (every_made-Ty (arg_fits p) decl_fits (ty_fits p) (value_fits p) (out-Ty t) (ty_paired (out-Ty t) h) (ty_unpaired (out-Ty t) h) f)

  value_paired : (l : ValueLayer) → value_parts p l → Value-F (FitArg p) (FitDecl p) (FitTy p) (FitValue p)
  value_paired (layer.Value::Simple t s) h = layer.Value::Simple (t, h) s
  value_paired (layer.Value::Int t z) h = layer.Value::Int (t, h) z
  value_paired (layer.Tag t name) h = layer.Tag (t, h) name
  value_paired (layer.Error t name) h = layer.Error (t, h) name
  value_paired (layer.Some t v) h = layer.Some (t, h.0) (v, h.1)
  value_paired (layer.Good t v) h = layer.Good (t, h.0) (v, h.1)
  value_paired (layer.List t vs) h = layer.List (t, h.0) (pairs (IsFitValue p) vs h.1)
  value_paired (layer.Text t bs) h = layer.Text (t, h) bs
  value_paired (layer.Tagged t name v) h = layer.Tagged (t, h.0) name (v, h.1)
  value_paired (layer.OfType t) h = layer.OfType (t, h)
  value_paired (layer.Value::Function d) h = layer.Value::Function (d, h)
  value_paired (layer.Address t d) h = layer.Address (t, h.0) (d, h.1)
  value_paired (layer.Constant t v) h = layer.Constant (t, h.0) (v, h.1)
  value_paired (layer.Place t n) h = layer.Place (t, h) n
  value_paired (layer.Part t v n c) h = layer.Part (t, h.0) (v, h.1) n c
  value_paired (layer.Value::Slice t v lo hi) h = layer.Value::Slice (t, h.0) (v, h.1) lo hi

  value_unpaired : (l : ValueLayer) (h : value_parts p l) → map-Value (FitArg p) (FitDecl p) (FitTy p) (FitValue p) Arg DeclPath Ty Value (λ e. e.0) (λ e. e.0) (λ e. e.0) (λ e. e.0) (value_paired l h) ≡ l
  unfolding value_paired
  value_unpaired (layer.Value::Simple t s) h = refl
  value_unpaired (layer.Value::Int t z) h = refl
  value_unpaired (layer.Tag t name) h = refl
  value_unpaired (layer.Error t name) h = refl
  value_unpaired (layer.Some t v) h = refl
  value_unpaired (layer.Good t v) h = refl
  value_unpaired (layer.List t vs) h = ap (layer.List t) (firsts (IsFitValue p) vs h.1)
  value_unpaired (layer.Text t bs) h = refl
  value_unpaired (layer.Tagged t name v) h = refl
  value_unpaired (layer.OfType t) h = refl
  value_unpaired (layer.Value::Function d) h = refl
  value_unpaired (layer.Address t d) h = refl
  value_unpaired (layer.Constant t v) h = refl
  value_unpaired (layer.Place t n) h = refl
  value_unpaired (layer.Part t v n c) h = refl
  value_unpaired (layer.Value::Slice t v lo hi) h = refl

  pub value_made : (v : Value) → value_fits p (out-Value v) → value_parts p (out-Value v) → IsFitValue p v
  unfolding IsFit IsFitArg IsFitDecl IsFitValue
  value_made v f h = subst (IsFitValue p) (roll-out-Value v) (every_made-Value (arg_fits p) decl_fits (ty_fits p) (value_fits p) (out-Value v) (value_paired (out-Value v) h) (value_unpaired (out-Value v) h) f)

  decl_paired : (l : DeclLayer) → decl_parts p l → DeclPath-F (FitArg p) (FitDecl p) (FitTy p) (FitValue p)
  decl_paired (layer.Named c name) h = layer.Named (c, h) name
  decl_paired (layer.Comptime path n) h = layer.Comptime path n

  decl_unpaired : (l : DeclLayer) (h : decl_parts p l) → map-DeclPath (FitArg p) (FitDecl p) (FitTy p) (FitValue p) Arg DeclPath Ty Value (λ e. e.0) (λ e. e.0) (λ e. e.0) (λ e. e.0) (decl_paired l h) ≡ l
  unfolding decl_paired
  decl_unpaired (layer.Named c name) h = refl
  decl_unpaired (layer.Comptime path n) h = refl

  decl_made : (d : DeclPath) → decl_fits (out-DeclPath d) → decl_parts p (out-DeclPath d) → IsFitDecl p d
  unfolding IsFit IsFitArg IsFitDecl IsFitValue
  decl_made d f h = subst (IsFitDecl p) (roll-out-DeclPath d) (every_made-DeclPath (arg_fits p) decl_fits (ty_fits p) (value_fits p) (out-DeclPath d) (decl_paired (out-DeclPath d) h) (decl_unpaired (out-DeclPath d) h) f)

  arg_paired : (l : ArgLayer) → arg_parts p l → Arg-F (FitArg p) (FitDecl p) (FitTy p) (FitValue p)
  arg_paired (layer.Known v) h = layer.Known (v, h)
  arg_paired (layer.Arg::Function t d) h = layer.Arg::Function (t, h.0) (d, h.1)
  arg_paired (layer.Typed t) h = layer.Typed (t, h)

  arg_unpaired : (l : ArgLayer) (h : arg_parts p l) → map-Arg (FitArg p) (FitDecl p) (FitTy p) (FitValue p) Arg DeclPath Ty Value (λ e. e.0) (λ e. e.0) (λ e. e.0) (λ e. e.0) (arg_paired l h) ≡ l
  unfolding arg_paired
  arg_unpaired (layer.Known v) h = refl
  arg_unpaired (layer.Arg::Function t d) h = refl
  arg_unpaired (layer.Typed t) h = refl

  arg_made : (a : Arg) → arg_fits p (out-Arg a) → arg_parts p (out-Arg a) → IsFitArg p a
  unfolding IsFit IsFitArg IsFitDecl IsFitValue
  arg_made a f h = subst (IsFitArg p) (roll-out-Arg a) (every_made-Arg (arg_fits p) decl_fits (ty_fits p) (value_fits p) (out-Arg a) (arg_paired (out-Arg a) h) (arg_unpaired (out-Arg a) h) f)

pub types_by_layers : TypesByLayers
types_by_layers p t = (λ f. (ty_here p t f, ty_held p t f), λ h. ty_made p t h.0 h.1)

pub values_by_layers : ValuesByLayers
values_by_layers p v = (λ f. (value_here p v f, value_held p v f), λ h. value_made p v h.0 h.1)

pub paths_by_layers : PathsByLayers
paths_by_layers p d = (λ f. (decl_here p d f, decl_held p d f), λ h. decl_made p d h.0 h.1)

pub arguments_by_layers : ArgumentsByLayers
arguments_by_layers p a = (λ f. (arg_here p a f, arg_held p a f), λ h. arg_made p a h.0 h.1)
