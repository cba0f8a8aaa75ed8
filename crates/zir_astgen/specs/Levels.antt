-- What is left on the way out of a part, and what then runs.
use Rattle.std.specs.Prelude.{ℕ, ◌+◌, Bool, true, false, nat_eq, List, [], ◌∷◌, Option, Some, None, if◌then◌else◌}
use Rattle.zir_form.specs.Core.{Core, absent, runs}
use Rattle.zir_astgen.specs.declared.stage.Layer.{Layer}
use Rattle.zir_astgen.specs.declared.stage.Layer.TheVariants as layer

-- A function, a loop or a block around a place, with what its statements so far put off: by `defer`, and
-- by `defer` and `errdefer` together, what was put off last first.
pub record Level : Type 0 where
  pub layer : Layer
  pub defers : Core
  pub all : Core

-- a level in which nothing is put off yet
abbrev pub level : Layer → Level
level l = record { layer = l; defers = absent; all = absent }

-- A `defer` runs at each exit, an `errdefer` only where the function returns an error.
abbrev pub put_off : Bool → Core → Level → Level
put_off always run l =
    if always then record l { defers = runs run l.defers; all = runs run l.all } else record l { all = runs run l.all }

abbrev pub put_off_in : Bool → Core → List Level → List Level
put_off_in always run [] = []
put_off_in always run (l ∷ outer) = put_off always run l ∷ outer

-- what runs as one level more is left; nothing is written where nothing is put off
abbrev pub is_absent : Core → Bool
is_absent absent = true
is_absent _ = false

abbrev pub left : Core → List Core → List Core
left run later = if is_absent run then later else run ∷ later

-- Where a `break` or a `continue` goes: how many loops and labelled blocks it passes, and what runs on the
-- way, the innermost first.
pub record Exit : Type 0 where
  pub target : ℕ
  pub leaves : List Core

abbrev pub passing : ℕ → Core → Option Exit → Option Exit
passing more run None = None
passing more run (Some e) = Some (record { target = more + e.target; leaves = left run e.leaves })

abbrev pub ends_here : Core → Option Exit
ends_here run = Some (record { target = 0; leaves = left run [] })

abbrev pub is_label : ℕ → Option ℕ → Bool
is_label l None = false
is_label l (Some m) = nat_eq l m

-- a loop is left by a `break` or gone on with by a `continue` that names no label, or its own
abbrev pub is_meant : Option ℕ → Option ℕ → Bool
is_meant None of = true
is_meant (Some l) of = is_label l of

-- a labelled block is left by a `break` that names its label; a `continue` that names it is none
abbrev pub out_of : Bool → Option ℕ → Level → Layer → Option Exit → Option Exit
out_of on label l layer.Function outer = None
out_of on label l layer.Wall outer = None
out_of on label l (layer.Loop of) outer = if is_meant label of then ends_here l.defers else passing 1 l.defers outer
out_of on label l (layer.Labelled of) outer =
    if is_label of label then (if on then None else ends_here l.defers) else passing 1 l.defers outer
out_of on label l layer.Block outer = passing 0 l.defers outer

-- where a `break`, or a `continue` (`on`), with this label or none goes, if anywhere
unfoldable pub exit_from : Bool → Option ℕ → List Level → Option Exit
exit_from on label [] = None
exit_from on label (l ∷ outer) = out_of on label l l.layer (exit_from on label outer)

-- what runs as a function returns, where it does from here: with a value also what an error would let run
abbrev pub run_of : Bool → Level → Core
run_of with_value l = if with_value then l.all else l.defers

abbrev pub left_at : Bool → Level → Layer → Option (List Core) → Option (List Core)
left_at with_value l layer.Function outer = Some []
left_at with_value l layer.Wall outer = None
left_at with_value l _ None = None
left_at with_value l _ (Some more) = Some (left (run_of with_value l) more)

unfoldable pub return_from : Bool → List Level → Option (List Core)
return_from with_value [] = None
return_from with_value (l ∷ outer) = left_at with_value l l.layer (return_from with_value outer)
