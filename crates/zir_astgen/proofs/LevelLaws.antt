-- What runs on the way out.
use Rattle.std.proofs.Common.{◌≡◌, ℕ, Bool, true, false, List, ◌∷◌, Option, Some, None, refl, ap}
use Rattle.zir_form.specs.Core.{Core, absent, runs}
use Rattle.zir_astgen.specs.declared.stage.Layer.{Layer}
use Rattle.zir_astgen.specs.declared.stage.Layer.TheVariants as layer
use Rattle.zir_astgen.specs.Levels.{Level, exit_from, left_at, put_off, return_from}

pub leaving : (on : Bool) (label : Option ℕ) (run : Core) (l : Level) (outer : List Level) → exit_from on label (put_off false run l ∷ outer) ≡ exit_from on label (l ∷ outer)
unfolding exit_from
leaving on label run l outer = by_layer l.layer
  where
    by_layer : (x : Layer) → exit_from on label ((record { layer = x; defers = l.defers; all = runs run l.all }) ∷ outer) ≡ exit_from on label ((record { layer = x; defers = l.defers; all = l.all }) ∷ outer)
    by_layer layer.Function = refl
    by_layer layer.Wall = refl
    by_layer (layer.Loop of) = refl
    by_layer (layer.Labelled of) = refl
    by_layer layer.Block = refl

returned : (x : Layer) (run : Core) (l : Level) (o : Option (List Core)) → left_at false (put_off false run l) x o ≡ left_at false l x o
returned layer.Function run l o = refl
returned layer.Wall run l o = refl
returned (layer.Loop of) run l None = refl
returned (layer.Loop of) run l (Some more) = refl
returned (layer.Labelled of) run l None = refl
returned (layer.Labelled of) run l (Some more) = refl
returned layer.Block run l None = refl
returned layer.Block run l (Some more) = refl

pub plain : (run : Core) (l : Level) (outer : List Level) → return_from false (put_off false run l ∷ outer) ≡ return_from false (l ∷ outer)
unfolding return_from
plain run l outer = returned l.layer run l (return_from false outer)

pub error : (run : Core) (outer : List Level) (before : Core) (more : List Core) → return_from true outer ≡ Some more
    → return_from true ((record { layer = layer.Block; defers = absent; all = runs run before }) ∷ outer) ≡ Some (runs run before ∷ more)
unfolding return_from
error run outer before more e = ap (λ o. left_at true (record { layer = layer.Block; defers = absent; all = runs run before }) layer.Block o) e

pub ruleset level_laws = (leaving, plain, error)
