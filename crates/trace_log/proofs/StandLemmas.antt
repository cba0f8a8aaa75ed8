-- Where files and containers stand, by the indices of their paths and types.
use Rattle.std.proofs.Common.{◌≡◌, ℕ, Some, None, Option, List, refl, sym, ap, ◌∙◌}
use Rattle.std.specs.Option.{option_map, option_and_then}
use Rattle.zir_form.specs.Front.{FileFront, front_in}
use Rattle.type_form.specs.declared.index.Index.{Index}
use Rattle.type_form.specs.Known.{Known, IsInjective}
use Rattle.type_form.specs.declared.tree.Ty.{Ty}
use Rattle.type_form.specs.declared.tree.Arg.TheFolds.{fold-Arg, fold-Value, fold_out-Ty, fold_out-DeclPath, map-Ty, map-DeclPath}
use Rattle.type_form.specs.declared.tree.Arg.TheOpen.{Ty-F, DeclPath-F}
use Rattle.type_form.specs.declared.tree.Arg.TheOpen as layer
use Rattle.type_form.specs.declared.tree.Arg.{Arg}
use Rattle.type_form.specs.declared.tree.Value.{Value}
use Rattle.type_form.specs.declared.tree.DeclPath.{DeclPath}
use Rattle.type_form.specs.declared.tree.Arg.TheViews.{out-Ty, out-DeclPath}
use Rattle.type_form.specs.Tree.{TyLayer, DeclLayer}
use Rattle.type_form.specs.Means.{Grows, IsTy, ty_at, IsDecl, decl_at, IsBytes, bytes_at}
use Rattle.trace_log.specs.declared.answers.Answers.{Answers}
use Rattle.trace_log.specs.Files.{Files, Stand, arg_stand, decl_stands, declared_stand, stand_named, stand_of, ty_stand, value_stand}
use Rattle.trace_log.specs.Snapshots.{AreAnswers, files_at, front_at}
use Rattle.trace_log.proofs.SnapshotLemmas.{AreAnswers-grows, files-grow}
use Rattle.trace_log.proofs.IndexLemmas.{bytes_index-at}

-- the file whose path is at an index
pub file_read : (k : Known) (a : Answers) (path : Index) → IsInjective k → IsBytes k path → files_at k a (bytes_at k path) ≡ option_map front_in (front_at a path)
file_read k a path g h = ap (λ i. option_map front_in (option_and_then (front_at a) i)) (bytes_index-at k g path h)

map_twice : {A B C : Type 0} (f : A → B) (h : B → C) (o : Option A) → option_map h (option_map f o) ≡ option_map (λ x. h (f x)) o
map_twice f h None = refl
map_twice f h (Some x) = refl

then_map : {A B C : Type 0} (f : A → B) (h : B → Option C) (o : Option A) → option_and_then h (option_map f o) ≡ option_and_then (λ x. h (f x)) o
then_map f h None = refl
then_map f h (Some x) = refl

pub file_mapped : {C : Type 0} (k : Known) (a : Answers) (path : Index) (h : FileFront → C) → IsInjective k → IsBytes k path
    → option_map h (files_at k a (bytes_at k path)) ≡ option_map (λ f. h (front_in f)) (front_at a path)
file_mapped k a path h g b = ap (option_map h) (file_read k a path g b) ∙ map_twice front_in h (front_at a path)

pub file_then : {C : Type 0} (k : Known) (a : Answers) (path : Index) (h : FileFront → Option C) → IsInjective k → IsBytes k path
    → option_and_then h (files_at k a (bytes_at k path)) ≡ option_and_then (λ f. h (front_in f)) (front_at a path)
file_then k a path h g b = ap (option_and_then h) (file_read k a path g b) ∙ then_map front_in h (front_at a path)

-- ---- as more is known

pub files-same : (k l : Known) (a : Answers) → Grows k l → IsInjective k → IsInjective l → AreAnswers k a → files_at l a ≡ files_at k a
files-same k l a g m n h = λ i b. files-grow k l a g m n h b i

-- ---- layer by layer

-- a layer of a type, and one of a declaration, with where the trees in it stand
ty_mapped : Files → TyLayer → Ty-F (Unit {0}) (ℕ → Option Stand) (Option Stand) (Unit {0})
ty_mapped files x =
    map-Ty Arg DeclPath Ty Value (Unit {0}) (ℕ → Option Stand) (Option Stand) (Unit {0})
    (fold-Arg (Unit {0}) (ℕ → Option Stand) (Option Stand) (Unit {0}) arg_stand (decl_stands files) (ty_stand files) value_stand)
    (declared_stand files) (stand_of files)
    (fold-Value (Unit {0}) (ℕ → Option Stand) (Option Stand) (Unit {0}) arg_stand (decl_stands files) (ty_stand files) value_stand) x

decl_mapped : Files → DeclLayer → DeclPath-F (Unit {0}) (ℕ → Option Stand) (Option Stand) (Unit {0})
decl_mapped files x =
    map-DeclPath Arg DeclPath Ty Value (Unit {0}) (ℕ → Option Stand) (Option Stand) (Unit {0})
    (fold-Arg (Unit {0}) (ℕ → Option Stand) (Option Stand) (Unit {0}) arg_stand (decl_stands files) (ty_stand files) value_stand)
    (declared_stand files) (stand_of files)
    (fold-Value (Unit {0}) (ℕ → Option Stand) (Option Stand) (Unit {0}) arg_stand (decl_stands files) (ty_stand files) value_stand) x

stand-by : (files : Files) (t : Ty) (x : TyLayer) → out-Ty t ≡ x → stand_of files t ≡ ty_stand files (ty_mapped files x)
unfolding ty_mapped
stand-by files t x e =
    fold_out-Ty (Unit {0}) (ℕ → Option Stand) (Option Stand) (Unit {0}) arg_stand (decl_stands files) (ty_stand files) value_stand t
    ∙ ap (λ y. ty_stand files (ty_mapped files y)) e

declared-by : (files : Files) (d : DeclPath) (x : DeclLayer) → out-DeclPath d ≡ x → declared_stand files d ≡ decl_stands files (decl_mapped files x)
unfolding decl_mapped
declared-by files d x e =
    fold_out-DeclPath (Unit {0}) (ℕ → Option Stand) (Option Stand) (Unit {0}) arg_stand (decl_stands files) (ty_stand files) value_stand d
    ∙ ap (λ y. decl_stands files (decl_mapped files y)) e

-- the container of a declaration
pub container-stand : (k l : Known) (a : Answers) (ty decl : Index) (ordinal : ℕ) (captures : List Arg) → Grows k l → IsInjective k → IsInjective l → AreAnswers k a
    → out-Ty (ty_at k ty) ≡ layer.Container (decl_at k decl) ordinal captures → IsDecl k decl
    → declared_stand (files_at l a) (decl_at l decl) ordinal ≡ stand_of (files_at k a) (ty_at k ty)
unfolding ty_mapped
container-stand k l a ty decl ordinal captures g m n h e d =
    let same : decl_at l decl ≡ decl_at k decl = g.stays.decl decl d in
    ap (λ f. declared_stand f (decl_at l decl) ordinal) (files-same k l a g m n h)
    ∙ (ap (λ x. declared_stand (files_at k a) x ordinal) same
    ∙ sym (stand-by (files_at k a) (ty_at k ty) (layer.Container (decl_at k decl) ordinal captures) e))

-- a declaration of a container
pub named-stand : (k l : Known) (a : Answers) (decl container name : Index) (ordinal : ℕ) (s : Option Stand) → Grows k l → IsInjective k → IsInjective l → AreAnswers k a
    → out-DeclPath (decl_at k decl) ≡ layer.Named (ty_at k container) (bytes_at k name) → IsTy k container
    → s ≡ stand_of (files_at l a) (ty_at l container)
    → option_and_then (stand_named (bytes_at k name) ordinal) s ≡ declared_stand (files_at k a) (decl_at k decl) ordinal
unfolding decl_mapped
named-stand k l a decl container name ordinal s g m n h e t is =
    let same : ty_at l container ≡ ty_at k container = g.stays.ty container t in
    let here : s ≡ stand_of (files_at k a) (ty_at k container) =
    is ∙ (ap (λ f. stand_of f (ty_at l container)) (files-same k l a g m n h) ∙ ap (stand_of (files_at k a)) same) in
    ap (option_and_then (stand_named (bytes_at k name) ordinal)) here
    ∙ sym (ap (λ f. f ordinal) (declared-by (files_at k a) (decl_at k decl) (layer.Named (ty_at k container) (bytes_at k name)) e))

pub ruleset file_steps = (file_mapped, file_then, AreAnswers-grows)
