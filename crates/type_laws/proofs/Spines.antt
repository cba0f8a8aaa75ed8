-- Each fit declaration is reached from a file by steps, and its spelling is theirs.
use Rattle.std.proofs.Common.{◌≡◌, ℕ, zero, suc, ◌<◌, ◌≤◌, true, List, [], ◌∷◌, ◌++◌, length, map, codes, refl, sym, ap, subst, ◌∙◌, arith, append_assoc, append-nil, length-append}
use Rattle.std.specs.List.{AllByRecursion}
use Rattle.zw_base.specs.Path.{is_path_byte}
use Rattle.type_form.specs.declared.tree.Ty.{Ty, out-Ty}
use Rattle.type_form.specs.declared.tree.DeclPath.{DeclPath, out-DeclPath}
use Rattle.type_form.specs.declared.tree.Arg.{Arg}
use Rattle.type_form.specs.declared.tree.Ty.TheVariants as ty
use Rattle.type_form.specs.declared.tree.DeclPath.TheVariants as decl
use Rattle.type_form.specs.declared.tree.Arg.TheOpen as layer
use Rattle.type_form.specs.declared.tree.SimpleTy.TheVariants as simple
use Rattle.type_form.specs.Tree.{TyLayer, DeclLayer}
use Rattle.type_form.specs.Spelling.{number_text, name_text, commas, in_parens, arg_text, decl_text, mark_text}
use Rattle.type_form.proofs.SpellLemmas.{decl_text-Named, decl_text-Comptime, place_text-FileType, mark_text-FileType, place_text-ContainerType, mark_text-ContainerType}
use Rattle.type_form.specs.Fit.{Program, IsNumber, IsPath, IsPlace, IsFit, IsFitArg, IsFitDecl, ty_fits, decl_fits, ty_parts, decl_parts}
use Rattle.type_laws.proofs.Runs.{run_unique, stops}
use Rattle.type_laws.proofs.Commas.{Items}
use Rattle.type_laws.proofs.Shapes.{ty_is, decl_is}
use Rattle.type_laws.proofs.Parts.{ty_held, ty_here, decl_held, decl_here}
use Rattle.type_laws.proofs.Ends.{Ends}
use Rattle.type_laws.proofs.HeadBytes.{IsHeaded}
use Rattle.type_laws.proofs.Steps.{Step, Place, step_text, steps_text, take_step, take_all, step_fits, steps_unique, AnyTwo}
use Rattle.type_laws.proofs.Steps.Step.{OfMember, OfBlock, OfInner, OfExpr, OfArgs}
use Rattle.type_laws.proofs.Steps.Place.{AtPath, AtDecl, AtExpr, AtContainer}

-- a text is that of a file's path and of steps that lead to a place
pub record Spine (p : Program) (place : Place) (text : List ℕ) : Type 0 where
  pub path : List ℕ
  pub is_path : IsPath path
  pub steps : List Step
  pub rest : List ℕ
  pub begins : steps_text steps ≡ 58 ∷ rest
  pub leads : take_all (AtPath path) steps ≡ place
  pub fits : AllByRecursion (step_fits p) steps
  pub is : text ≡ path ++ steps_text steps

steps_push : (ss : List Step) (s : Step) → steps_text (ss ++ s ∷ []) ≡ steps_text ss ++ step_text s
steps_push [] s = append-nil (step_text s)
steps_push (t ∷ ss) s = ap (λ z. step_text t ++ z) (steps_push ss s) ∙ sym (append_assoc (step_text t) (steps_text ss) (step_text s))

take_push : (place : Place) (ss : List Step) (s : Step) → take_all place (ss ++ s ∷ []) ≡ take_step (take_all place ss) s
take_push place [] s = refl
take_push place (t ∷ ss) s = take_push (take_step place t) ss s

fits_push : (p : Program) (ss : List Step) (s : Step) → AllByRecursion (step_fits p) ss → step_fits p s → AllByRecursion (step_fits p) (ss ++ s ∷ [])
fits_push p [] s f g = (g, tt)
fits_push p (t ∷ ss) s f g = (f.0, fits_push p ss s f.1 g)

pub container_place : DeclPath → ℕ → List Arg → Place
container_place d n [] = AtExpr d n
container_place d n (a ∷ rest) = AtContainer d n (a ∷ rest)

-- the layer of the container at a place
pub container_of : Place → TyLayer
container_of (AtExpr d n) = layer.Container d n []
container_of (AtContainer d n captures) = layer.Container d n captures
container_of _ = layer.Ty::Simple simple.Bool

pub container_is : (d : DeclPath) (n : ℕ) (captures : List Arg) → container_of (container_place d n captures) ≡ layer.Container d n captures
unfolding container_of container_place
container_is d n [] = refl
container_is d n (a ∷ rest) = refl

colon : (t rest x : List ℕ) → t ≡ 58 ∷ rest → stops is_path_byte (t ++ x) ≡ true
colon t rest x e = ap (λ z. stops is_path_byte (z ++ x)) e

module _ (p : Program) where
  -- one more step
  pub grow : (place : Place) (text : List ℕ) (s : Step) → Spine p place text → step_fits p s → Spine p (take_step place s) (text ++ step_text s)
  grow place text s sp f = record {
    path = sp.path;
    is_path = sp.is_path;
    steps = sp.steps ++ s ∷ [];
    rest = sp.rest ++ step_text s;
    begins = steps_push sp.steps s ∙ ap (λ z. z ++ step_text s) sp.begins;
    leads = take_push (AtPath sp.path) sp.steps s ∙ ap (λ q. take_step q s) sp.leads;
    fits = fits_push p sp.steps s sp.fits f;
    is = ap (λ z. z ++ step_text s) sp.is ∙ append_assoc sp.path (steps_text sp.steps) (step_text s) ∙ ap (λ z. sp.path ++ z) (sym (steps_push sp.steps s));
  }

  -- the first step
  start : (path : List ℕ) (s : Step) (rest : List ℕ) → IsPath path → step_text s ≡ 58 ∷ rest → step_fits p s → Spine p (take_step (AtPath path) s) (path ++ step_text s)
  start path s rest h e f = record {
    path = path;
    is_path = h;
    steps = s ∷ [];
    rest = rest;
    begins = append-nil (step_text s) ∙ e;
    leads = refl;
    fits = (f, tt);
    is = ap (λ z. path ++ z) (sym (append-nil (step_text s)));
  }

  -- a container behind its declaration
  pub container_spine : (d : DeclPath) (n : ℕ) (captures : List Arg) (text : List ℕ) → Spine p (AtDecl d) text → IsNumber n → AllByRecursion (IsFitArg p) captures
      → Spine p (container_place d n captures) (text ++ (codes "#" ++ (number_text n ++ in_parens (map arg_text captures))))
  unfolding container_place
  container_spine d n [] text sp h f =
      subst (Spine p (AtExpr d n)) (ap (λ z. text ++ 35 ∷ z) (sym (append-nil (number_text n)))) (grow (AtDecl d) text (OfExpr n) sp h)
  container_spine d n (a ∷ rest) text sp h f =
      subst (Spine p (AtContainer d n (a ∷ rest))) (append_assoc text (35 ∷ number_text n) (40 ∷ (commas (map arg_text (a ∷ rest)) ++ 41 ∷ [])))
      (grow (AtExpr d n) (text ++ 35 ∷ number_text n) (OfArgs (a ∷ rest)) (grow (AtDecl d) text (OfExpr n) sp h) f)

  inner_leads : (d : DeclPath) (n : ℕ) (captures : List Arg) (name : List ℕ) → take_step (container_place d n captures) (OfInner name) ≡ AtDecl (decl.Named (ty.Container d n captures) name)
  unfolding container_place
  inner_leads d n [] name = refl
  inner_leads d n (a ∷ rest) name = refl

  -- each declaration shorter than n is reached
  abbrev Reached : ℕ → Type 0
  Reached n = (d : DeclPath) → length (decl_text d) < n → IsFitDecl p d → Spine p (AtDecl d) (decl_text d)

  file_spine : (path name : List ℕ) → IsPath path → Spine p (AtDecl (decl.Named (ty.File path) name)) (decl_text (decl.Named (ty.File path) name))
  file_spine path name h =
      let text : path ++ 58 ∷ name_text name ≡ decl_text (decl.Named (ty.File path) name) =
      sym (decl_text-Named (ty.File path) name ∙ ap (λ z. z ++ (mark_text (ty.File path) ++ name_text name)) (place_text-FileType path) ∙ ap (λ z. path ++ (z ++ name_text name)) (mark_text-FileType path)) in
      subst (Spine p (AtDecl (decl.Named (ty.File path) name))) text (start path (OfMember name) (name_text name) h refl tt)

  inner_text : (d : DeclPath) (k : ℕ) (captures : List Arg) (name : List ℕ)
      → decl_text (decl.Named (ty.Container d k captures) name) ≡ (decl_text d ++ (codes "#" ++ (number_text k ++ in_parens (map arg_text captures)))) ++ 46 ∷ name_text name
  inner_text d k captures name =
      decl_text-Named (ty.Container d k captures) name
      ∙ ap (λ z. z ++ (mark_text (ty.Container d k captures) ++ name_text name)) (place_text-ContainerType d k captures)
      ∙ ap (λ z. (decl_text d ++ (codes "#" ++ (number_text k ++ in_parens (map arg_text captures)))) ++ (z ++ name_text name)) (mark_text-ContainerType d k captures)

  inner_spine : (n : ℕ) → Reached n → (d : DeclPath) (k : ℕ) (captures : List Arg) (name : List ℕ) → IsNumber k → IsFitDecl p d → AllByRecursion (IsFitArg p) captures
      → length (decl_text (decl.Named (ty.Container d k captures) name)) < suc n
      → Spine p (AtDecl (decl.Named (ty.Container d k captures) name)) (decl_text (decl.Named (ty.Container d k captures) name))
  inner_spine n ih d k captures name h f g small =
      let middle : List ℕ = codes "#" ++ (number_text k ++ in_parens (map arg_text captures)) in
      let text = inner_text d k captures name in
      let size = ap length text in
      let outer = length-append (decl_text d ++ middle) (46 ∷ name_text name) in
      let inner = length-append (decl_text d) middle in
      let sp = ih d (omega (arith, small, size, outer, inner)) f in
      let whole = grow (container_place d k captures) (decl_text d ++ middle) (OfInner name) (container_spine d k captures (decl_text d) sp h g) tt in
      subst (λ q. Spine p q (decl_text (decl.Named (ty.Container d k captures) name))) (inner_leads d k captures name)
      (subst (Spine p (take_step (container_place d k captures) (OfInner name))) (sym text) whole)

  named_spine : (n : ℕ) → Reached n → (c : Ty) (name : List ℕ) (l : TyLayer) → out-Ty c ≡ l → IsPlace l → IsFit p c → length (decl_text (decl.Named c name)) < suc n
      → Spine p (AtDecl (decl.Named c name)) (decl_text (decl.Named c name))
  named_spine n ih c name (layer.File path) e q f small =
      let is : c ≡ ty.File path = ty_is c (layer.File path) e ∙ ty.rolls-File path in
      let here : ty_fits p (layer.File path) = subst (ty_fits p) e (ty_here p c f) in
      subst (λ z. Spine p (AtDecl (decl.Named z name)) (decl_text (decl.Named z name))) (sym is) (file_spine path name here)
  named_spine n ih c name (layer.Container d k captures) e q f small =
      let is : c ≡ ty.Container d k captures = ty_is c (layer.Container d k captures) e ∙ ty.rolls-Container d k captures in
      let here : ty_fits p (layer.Container d k captures) = subst (ty_fits p) e (ty_here p c f) in
      let held : ty_parts p (layer.Container d k captures) = subst (ty_parts p) e (ty_held p c f) in
      subst (λ z. Spine p (AtDecl (decl.Named z name)) (decl_text (decl.Named z name))) (sym is)
      (inner_spine n ih d k captures name here held.0 held.1 (subst (λ z. length (decl_text (decl.Named z name)) < suc n) is small))
  named_spine n ih c name _ e q f small = absurd q

  block_spine : (path : List ℕ) (k : ℕ) → IsPath path → IsNumber k → Spine p (AtDecl (decl.Comptime path k)) (decl_text (decl.Comptime path k))
  block_spine path k h g = subst (Spine p (AtDecl (decl.Comptime path k))) (sym (decl_text-Comptime path k)) (start path (OfBlock k) (codes "comptime " ++ number_text k) h refl g)

  decl_by : (n : ℕ) → Reached n → (d : DeclPath) (l : DeclLayer) → out-DeclPath d ≡ l → length (decl_text d) < suc n → IsFitDecl p d → Spine p (AtDecl d) (decl_text d)
  decl_by n ih d (layer.Named c name) e small f =
      let is : d ≡ decl.Named c name = decl_is d (layer.Named c name) e ∙ decl.rolls-Named c name in
      let here : decl_fits (layer.Named c name) = subst decl_fits e (decl_here p d f) in
      let held : decl_parts p (layer.Named c name) = subst (decl_parts p) e (decl_held p d f) in
      subst (λ z. Spine p (AtDecl z) (decl_text z)) (sym is)
      (named_spine n ih c name (out-Ty c) refl here held (subst (λ z. length (decl_text z) < suc n) is small))
  decl_by n ih d (layer.Comptime path k) e small f =
      let is : d ≡ decl.Comptime path k = decl_is d (layer.Comptime path k) e ∙ decl.rolls-Comptime path k in
      let here : decl_fits (layer.Comptime path k) = subst decl_fits e (decl_here p d f) in
      subst (λ z. Spine p (AtDecl z) (decl_text z)) (sym is) (block_spine path k here.0 here.1)

  reached : (n : ℕ) → Reached n
  reached zero d small f = absurd (omega (arith, small))
  reached (suc n) d small f = decl_by n (reached n) d (out-DeclPath d) refl small f

  -- each fit declaration is
  pub decl_spine : (d : DeclPath) → IsFitDecl p d → Spine p (AtDecl d) (decl_text d)
  decl_spine d f = reached (suc (length (decl_text d))) d (omega arith) f

  pub spine_headed : (place : Place) (text : List ℕ) → Spine p place text → IsHeaded text
  spine_headed place text sp = record { path = sp.path; rest = sp.rest; is_path = sp.is_path; is = sp.is ∙ ap (λ z. sp.path ++ z) sp.begins }

  -- two texts of steps that begin a text lead to one place
  pub spine_unique : (n : ℕ) → Items arg_text (IsFitArg p) AnyTwo n 41 → (a b : Place) (t u x y : List ℕ) → Spine p a t → Spine p b u → length t ≤ n → Ends x → Ends y
      → t ++ x ≡ u ++ y → (a ≡ b) × (x ≡ y)
  spine_unique n items a b t u x y s r small ex ey e =
      let f = sym (append_assoc s.path (steps_text s.steps) x) ∙ ap (λ z. z ++ x) (sym s.is) ∙ e ∙ ap (λ z. z ++ y) r.is ∙ append_assoc r.path (steps_text r.steps) y in
      let front = run_unique is_path_byte s.path r.path (steps_text s.steps ++ x) (steps_text r.steps ++ y) s.is_path r.is_path
      (colon (steps_text s.steps) s.rest x s.begins) (colon (steps_text r.steps) r.rest y r.begins) f in
      let size = ap length s.is in
      let parts = length-append s.path (steps_text s.steps) in
      let back = steps_unique p n items s.steps r.steps x y s.fits r.fits (omega (arith, small, size, parts)) ex ey front.1 in
      (sym s.leads ∙ ap (λ z. take_all (AtPath z) s.steps) front.0 ∙ ap (λ z. take_all (AtPath r.path) z) back.0 ∙ r.leads, back.1)
