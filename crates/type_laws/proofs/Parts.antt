-- The parts of a fit tree are fit.
use Rattle.std.proofs.Common.{List, [], ◌∷◌, map, refl, subst}
use Rattle.std.specs.List.{AllByRecursion}
use Rattle.type_form.specs.declared.tree.Ty.{Ty, out-Ty, map-Ty}
use Rattle.type_form.specs.declared.tree.Value.{Value, out-Value, map-Value}
use Rattle.type_form.specs.declared.tree.DeclPath.{DeclPath, out-DeclPath, map-DeclPath}
use Rattle.type_form.specs.declared.tree.Arg.{Arg, out-Arg, map-Arg}
use Rattle.type_form.specs.declared.tree.Arg.TheOpen.{Ty-F, Value-F, DeclPath-F, Arg-F}
use Rattle.type_form.specs.declared.tree.Arg.TheOpen as layer
use Rattle.type_form.specs.declared.tree.Ty.TheVariants as ty
use Rattle.type_form.specs.declared.tree.SimpleTy.TheVariants as simple
use Rattle.type_form.specs.declared.tree.Arg.TheFolds.{every-Ty, every_here-Ty, every_here-Value, every_here-DeclPath, every_here-Arg, every_held-Ty, every_held-Value, every_held-DeclPath, every_held-Arg, every_made-Ty}
use Rattle.type_form.specs.Tree.{ValueLayer}
use Rattle.type_form.specs.Fit.{Program, HasType, arg_fits, decl_fits, ty_fits, value_fits, IsFit, IsFitValue, IsFitDecl, IsFitArg, layer_ty, value_ty, ty_parts, decl_parts, value_parts, arg_parts}

module _ (p : Program) where
  abbrev pub FitArg : Type 0
  FitArg = (x : Arg) × IsFitArg p x

  abbrev pub FitDecl : Type 0
  FitDecl = (x : DeclPath) × IsFitDecl p x

  abbrev pub FitTy : Type 0
  FitTy = (x : Ty) × IsFit p x

  abbrev pub FitValue : Type 0
  FitValue = (x : Value) × IsFitValue p x

  args_of : (xs : List FitArg) → AllByRecursion (IsFitArg p) (map (λ e. e.0) xs)
  args_of [] = tt
  args_of (x ∷ xs) = (x.1, args_of xs)

  tys_of : (xs : List FitTy) → AllByRecursion (IsFit p) (map (λ e. e.0) xs)
  tys_of [] = tt
  tys_of (x ∷ xs) = (x.1, tys_of xs)

  values_of : (xs : List FitValue) → AllByRecursion (IsFitValue p) (map (λ e. e.0) xs)
  values_of [] = tt
  values_of (x ∷ xs) = (x.1, values_of xs)

  ty_parts_of : (x : Ty-F FitArg FitDecl FitTy FitValue) → ty_parts p (map-Ty FitArg FitDecl FitTy FitValue Arg DeclPath Ty Value (λ e. e.0) (λ e. e.0) (λ e. e.0) (λ e. e.0) x)
  ty_parts_of (layer.Ty::Simple s) = tt
  ty_parts_of (layer.Ty::Int s n) = tt
  ty_parts_of (layer.ErrorSet ns) = tt
  ty_parts_of (layer.Pointer c t) = t.1
  ty_parts_of (layer.Ty::Slice c t) = t.1
  ty_parts_of (layer.Array n t) = t.1
  ty_parts_of (layer.Terminated n) = tt
  ty_parts_of (layer.Optional t) = t.1
  ty_parts_of (layer.ErrorUnion e t) = (e.1, t.1)
  ty_parts_of (layer.File path) = tt
  ty_parts_of (layer.Container d n l) = (d.1, args_of l)
  ty_parts_of (layer.Ty::Function ps r) = (tys_of ps, r.1)
  ty_parts_of (layer.UnionTag t) = t.1

  pub metatype_fit : IsFit p (ty.Simple simple.Metatype)
  unfolding IsFit
  metatype_fit = subst (every-Ty (arg_fits p) decl_fits (ty_fits p) (value_fits p)) (ty.rolls-Simple simple.Metatype)
      (every_made-Ty (arg_fits p) decl_fits (ty_fits p) (value_fits p) (layer.Ty::Simple simple.Metatype) (layer.Ty::Simple simple.Metatype) refl tt)

  value_parts_of : (x : Value-F FitArg FitDecl FitTy FitValue) → value_parts p (map-Value FitArg FitDecl FitTy FitValue Arg DeclPath Ty Value (λ e. e.0) (λ e. e.0) (λ e. e.0) (λ e. e.0) x)
  value_parts_of (layer.Value::Simple t s) = t.1
  value_parts_of (layer.Value::Int t z) = t.1
  value_parts_of (layer.Tag t name) = t.1
  value_parts_of (layer.Error t name) = t.1
  value_parts_of (layer.Some t v) = (t.1, v.1)
  value_parts_of (layer.Good t v) = (t.1, v.1)
  value_parts_of (layer.List t vs) = (t.1, values_of vs)
  value_parts_of (layer.Text t bs) = t.1
  value_parts_of (layer.Tagged t name v) = (t.1, v.1)
  value_parts_of (layer.OfType t) = t.1
  value_parts_of (layer.Value::Function d) = d.1
  value_parts_of (layer.Address t d) = (t.1, d.1)
  value_parts_of (layer.Constant t v) = (t.1, v.1)
  value_parts_of (layer.Place t n) = t.1
  value_parts_of (layer.Part t v n c) = (t.1, v.1)
  value_parts_of (layer.Value::Slice t v lo hi) = (t.1, v.1)

  -- the type that stands in a value is fit where its parts are
  layer_ty_fit : (l : ValueLayer) → HasType l → value_parts p l → IsFit p (layer_ty p l)
  layer_ty_fit (layer.Value::Simple t s) k h = h
  layer_ty_fit (layer.Value::Int t z) k h = h
  layer_ty_fit (layer.Tag t name) k h = h
  layer_ty_fit (layer.Error t name) k h = h
  layer_ty_fit (layer.Some t v) k h = h.0
  layer_ty_fit (layer.Good t v) k h = h.0
  layer_ty_fit (layer.List t vs) k h = h.0
  layer_ty_fit (layer.Text t bs) k h = h
  layer_ty_fit (layer.Tagged t name v) k h = h.0
  layer_ty_fit (layer.OfType t) k h = metatype_fit
  layer_ty_fit (layer.Value::Function d) k h = absurd k
  layer_ty_fit (layer.Address t d) k h = h.0
  layer_ty_fit (layer.Constant t v) k h = h.0
  layer_ty_fit (layer.Place t n) k h = h
  layer_ty_fit (layer.Part t v n c) k h = h.0
  layer_ty_fit (layer.Value::Slice t v lo hi) k h = h.0

  decl_parts_of : (x : DeclPath-F FitArg FitDecl FitTy FitValue) → decl_parts p (map-DeclPath FitArg FitDecl FitTy FitValue Arg DeclPath Ty Value (λ e. e.0) (λ e. e.0) (λ e. e.0) (λ e. e.0) x)
  decl_parts_of (layer.Named c name) = c.1
  decl_parts_of (layer.Comptime path n) = tt

  arg_parts_of : (x : Arg-F FitArg FitDecl FitTy FitValue) → arg_parts p (map-Arg FitArg FitDecl FitTy FitValue Arg DeclPath Ty Value (λ e. e.0) (λ e. e.0) (λ e. e.0) (λ e. e.0) x)
  arg_parts_of (layer.Known v) = v.1
  arg_parts_of (layer.Arg::Function t d) = (t.1, d.1)
  arg_parts_of (layer.Typed t) = t.1

  pub ty_held : (t : Ty) → IsFit p t → ty_parts p (out-Ty t)
  unfolding IsFit IsFitArg IsFitDecl IsFitValue
  ty_held t h = let r = every_held-Ty (arg_fits p) decl_fits (ty_fits p) (value_fits p) t h in subst (ty_parts p) r.1 (ty_parts_of r.0)

  pub ty_here : (t : Ty) → IsFit p t → ty_fits p (out-Ty t)
  unfolding IsFit
  ty_here t h = every_here-Ty (arg_fits p) decl_fits (ty_fits p) (value_fits p) t h

  pub value_held : (v : Value) → IsFitValue p v → value_parts p (out-Value v)
  unfolding IsFit IsFitArg IsFitDecl IsFitValue
  value_held v h = let r = every_held-Value (arg_fits p) decl_fits (ty_fits p) (value_fits p) v h in subst (value_parts p) r.1 (value_parts_of r.0)

  pub value_here : (v : Value) → IsFitValue p v → value_fits p (out-Value v)
  unfolding IsFitValue
  value_here v h = every_here-Value (arg_fits p) decl_fits (ty_fits p) (value_fits p) v h

  pub value_ty_fit : (v : Value) → HasType (out-Value v) → IsFitValue p v → IsFit p (value_ty p v)
  unfolding value_ty
  value_ty_fit v k h = layer_ty_fit (out-Value v) k (value_held v h)

  pub decl_held : (d : DeclPath) → IsFitDecl p d → decl_parts p (out-DeclPath d)
  unfolding IsFit IsFitArg IsFitDecl IsFitValue
  decl_held d h = let r = every_held-DeclPath (arg_fits p) decl_fits (ty_fits p) (value_fits p) d h in subst (decl_parts p) r.1 (decl_parts_of r.0)

  pub decl_here : (d : DeclPath) → IsFitDecl p d → decl_fits (out-DeclPath d)
  unfolding IsFitDecl
  decl_here d h = every_here-DeclPath (arg_fits p) decl_fits (ty_fits p) (value_fits p) d h

  pub arg_held : (a : Arg) → IsFitArg p a → arg_parts p (out-Arg a)
  unfolding IsFit IsFitArg IsFitDecl IsFitValue
  arg_held a h = let r = every_held-Arg (arg_fits p) decl_fits (ty_fits p) (value_fits p) a h in subst (arg_parts p) r.1 (arg_parts_of r.0)

  pub arg_here : (a : Arg) → IsFitArg p a → arg_fits p (out-Arg a)
  unfolding IsFitArg
  arg_here a h = every_here-Arg (arg_fits p) decl_fits (ty_fits p) (value_fits p) a h
