-- The units that an attempt meets, by their indices.
use Rattle.std.specs.Prelude.{List, [], ◌∷◌, ◌++◌}
use Rattle.trace_log.specs.declared.attempt.Attempt.{Attempt}
use Rattle.trace_log.specs.declared.attempt.Outcome.{Outcome}
use Rattle.trace_log.specs.declared.attempt.Outcome.TheVariants as outcome
use Rattle.trace_log.specs.declared.question.Question.{Question}
use Rattle.trace_log.specs.declared.question.Question.TheVariants as question
use Rattle.trace_log.specs.declared.question.UnitIndex.{UnitIndex}
use Rattle.trace_log.specs.declared.trace.Move.{Move}
use Rattle.trace_log.specs.declared.trace.Move.TheVariants as move

-- the unit whose result a question asks for
abbrev pub asked_unit : Question → List UnitIndex
asked_unit (question.Result u) = u ∷ []
asked_unit _ = []

-- the unit that a move meets
abbrev pub unit_of_move : Move → List UnitIndex
unit_of_move (move.Asked q a) = asked_unit q
unit_of_move (move.Referred u) = u ∷ []

-- the units that moves meet, in order
abbrev pub units_of_moves : List Move → List UnitIndex
units_of_moves [] = []
units_of_moves (m ∷ ms) = unit_of_move m ++ units_of_moves ms

-- the unit that is waited for at the end
abbrev pub needed_unit : Outcome → List UnitIndex
needed_unit (outcome.Done r) = []
needed_unit (outcome.Needs u) = u ∷ []

-- the units that an attempt meets: those that its moves meet, and the one that it waits for
abbrev pub met_units : Attempt → List UnitIndex
met_units a = units_of_moves a.trace ++ needed_unit a.outcome
