-- The levels that frames stand for, by the trees of lines.
use Rattle.std.specs.Prelude.{◌≡◌, ℕ, ◌+◌, ◌<◌, List, [], ◌∷◌, ◌++◌, length, Option, Some, None}
use Rattle.zir_form.specs.Core.{Core}
use Rattle.zir_form.specs.Lines.{tree_at}
use Rattle.zir_astgen.specs.declared.stage.Layer.{Layer}
use Rattle.zir_astgen.specs.declared.around.Place.{Place}
use Rattle.zir_astgen.specs.declared.exit.ExitLines.{ExitLines}
use Rattle.zir_astgen.specs.declared.levels.Frame.{Frame}
use Rattle.zir_astgen.specs.declared.levels.Frames.{Frames, Outside, Within'}
use Rattle.zir_astgen.specs.declared.levels.Step.{Step}
use Rattle.zir_astgen.specs.declared.levels.Step.TheVariants as step
use Rattle.zir_astgen.specs.Firsts.{AreBelow, Grows}
use Rattle.zir_astgen.specs.Stages.{Around}
use Rattle.zir_astgen.specs.Levels.{Exit, Level, ends_here, left, level, passing}

abbrev pub level_of : List Core → Frame → Level
level_of trees f = record { layer = f.layer; defers = tree_at trees f.defers; all = tree_at trees f.all }

abbrev pub levels_of : List Core → Frames → List Level
levels_of trees Outside = []
levels_of trees (Within' f p outer) = level_of trees f ∷ levels_of trees outer

-- each line is one of so many
abbrev pub FramesBelow : ℕ → Frames → Type 0
FramesBelow count Outside = Unit {0}
FramesBelow count (Within' f p outer) = (f.defers < count) × (f.all < count) × FramesBelow count outer

-- some lines more, with frames that stand for these levels
pub record AddsFrames (old now : List Core) (levels : List Level) (frames : Frames) : Type 0 where
  pub grows : Grows old now
  pub inside : FramesBelow (length now) frames
  pub stand : levels_of now frames ≡ levels

-- each line of an exit or a return is one of so many
abbrev pub ExitBelow : ℕ → Option ExitLines → Type 0
ExitBelow count None = Unit {0}
ExitBelow count (Some e) = AreBelow count e.leaves

abbrev pub LeavesBelow : ℕ → Option (List ℕ) → Type 0
LeavesBelow count None = Unit {0}
LeavesBelow count (Some lines) = AreBelow count lines

-- what becomes of an exit at one frame, by what runs there and what becomes of it further out
abbrev pub stepped : Step → Core → Option Exit → Option Exit
stepped step.Nowhere run outer = None
stepped step.Here run outer = ends_here run
stepped (step.Past count) run outer = passing count run outer

-- the same of a return, by what runs there
abbrev pub returning : Step → Core → Option (List Core) → Option (List Core)
returning step.Nowhere run outer = None
returning step.Here run outer = Some []
returning (step.Past count) run None = None
returning (step.Past count) run (Some more) = Some (left run more)

-- what becomes of an exit behind frames that it passed, of which so many count, and these ran
abbrev pub exit_after : ℕ → List Core → Option Exit → Option Exit
exit_after count done None = None
exit_after count done (Some e) = Some (record { target = count + e.target; leaves = done ++ e.leaves })

abbrev pub leaves_after : List Core → Option (List Core) → Option (List Core)
leaves_after done None = None
leaves_after done (Some more) = Some (done ++ more)

-- a layer more, where there is one
abbrev pub with_layer : Option Layer → List Level → List Level
with_layer None levels = levels
with_layer (Some l) levels = level l ∷ levels

-- what lies around a place
abbrev pub around_of : List Core → Place → Around
around_of trees p = record { levels = levels_of trees p.frames; stage = p.stage }

-- some lines more, with a place that this lies around
pub record AddsPlace (old now : List Core) (around : Around) (place : Place) : Type 0 where
  pub grows : Grows old now
  pub inside : FramesBelow (length now) place.frames
  pub stand : around_of now place ≡ around
