-- Where an elaboration stands: what the whole run is of one that has made these moves, and goes on in this state.
use Rattle.std.specs.Prelude.{List, Option}
use Rattle.type_form.specs.declared.unit.Unit.{Unit as AnyUnit}
use Rattle.question_runs.specs.Runs.{Move, Run, resumed}
use Rattle.elab_form.specs.Questions.{Question, Answer, setting}
use Rattle.elab_form.specs.State.{State}
use Rattle.elab_form.specs.Asking.{Out, Elab}

-- the answers at hand
abbrev pub Answers : Type 0
Answers = Question → Option Answer

-- a trace
abbrev pub Moves : Type 0
Moves = List (Move Question Answer AnyUnit)

-- a run of an elaboration
abbrev pub Course : Type 0 → Type 0
Course A = Run Question Answer AnyUnit (Out A)

-- the whole run of an elaboration that has made these moves and goes on from this state
unfoldable pub stand : {A : Type 0} → Answers → Moves → Elab A → State → Course A
stand answers moves m st = resumed setting answers moves (m st)
