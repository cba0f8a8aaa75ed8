-- What questions, results and answers stand for under the pairs that an interner knows.
use Rattle.std.specs.Prelude.{ℕ, List, [], ◌∷◌, map, Some, None}
use Rattle.std.specs.Option.{option_map}
use Rattle.zir_form.specs.declared.form.Form.{Form}
use Rattle.zir_form.specs.Core.{Core}
use Rattle.zir_form.specs.Lines.{core_at}
use Rattle.type_form.specs.declared.unit.Unit.{Unit as AnyUnit}
use Rattle.type_form.specs.declared.unit.Unit.TheVariants as unit
use Rattle.type_form.specs.Known.{Known}
use Rattle.type_form.specs.Means.{IsTy, ty_at, IsValue, value_at, IsDecl, decl_at, IsInstance, instance_at, IsBytes, bytes_at, AreNames, names_at}
use Rattle.air_form.specs.Denote.{IsBody, body_at}
use Rattle.trace_log.specs.declared.question.TextPart.{TextPart}
use Rattle.trace_log.specs.declared.question.TextPart.TheVariants as part
use Rattle.trace_log.specs.declared.question.UnitIndex.{UnitIndex}
use Rattle.trace_log.specs.declared.question.UnitIndex.TheVariants as index
use Rattle.trace_log.specs.declared.question.Question.{Question}
use Rattle.trace_log.specs.declared.question.Question.TheVariants as question
use Rattle.trace_log.specs.declared.result.Spot.{Spot}
use Rattle.trace_log.specs.declared.result.Spot.TheVariants as spot
use Rattle.trace_log.specs.declared.result.Diagnostic.{Diagnostic}
use Rattle.trace_log.specs.declared.result.UnitValue.{UnitValue}
use Rattle.trace_log.specs.declared.result.UnitValue.TheVariants as value
use Rattle.trace_log.specs.declared.result.UnitResult.{UnitResult}
use Rattle.trace_log.specs.declared.result.UnitResult.TheVariants as result
use Rattle.trace_log.specs.declared.answer.TreeRef.{TreeRef}
use Rattle.trace_log.specs.declared.answer.Answer.{Answer}
use Rattle.trace_log.specs.declared.answer.Answer.TheVariants as answer
use Rattle.trace_log.specs.declared.trace.Move.{Move}
use Rattle.trace_log.specs.declared.trace.Move.TheVariants as move
use Rattle.question_runs.specs.Runs as runs
use Rattle.elab_form.specs.Questions as plain

-- ---- parts, units and questions

abbrev pub IsPart : Known → TextPart → Type 0
IsPart k (part.Head i) = IsDecl k i
IsPart k (part.Whole i) = IsDecl k i
IsPart k (part.Fields i) = IsTy k i
IsPart k (part.Block file number) = IsBytes k file

abbrev pub part_at : Known → TextPart → plain.TextPart
part_at k (part.Head i) = plain.head (decl_at k i)
part_at k (part.Whole i) = plain.whole (decl_at k i)
part_at k (part.Fields i) = plain.TextPart.fields (ty_at k i)
part_at k (part.Block file number) = plain.block (bytes_at k file) number

abbrev pub IsUnit : Known → UnitIndex → Type 0
IsUnit k (index.Decl i) = IsDecl k i
IsUnit k (index.Body i) = IsInstance k i
IsUnit k (index.ErrorSet i) = IsInstance k i
IsUnit k (index.Fields i) = IsTy k i
IsUnit k (index.Code i) = IsInstance k i
IsUnit k (index.Comptime file number) = IsBytes k file

abbrev pub unit_at : Known → UnitIndex → AnyUnit
unit_at k (index.Decl i) = unit.Decl (decl_at k i)
unit_at k (index.Body i) = unit.Body (instance_at k i)
unit_at k (index.ErrorSet i) = unit.ErrorSet (instance_at k i)
unit_at k (index.Fields i) = unit.Fields (ty_at k i)
unit_at k (index.Code i) = unit.Code (instance_at k i)
unit_at k (index.Comptime file number) = unit.Comptime (bytes_at k file) number

abbrev pub IsQuestion : Known → Question → Type 0
IsQuestion k (question.Text p) = IsPart k p
IsQuestion k (question.Name c n) = IsTy k c × IsBytes k n
IsQuestion k (question.Import path) = IsBytes k path
IsQuestion k (question.Result u) = IsUnit k u

abbrev pub question_at : Known → Question → plain.Question
question_at k (question.Text p) = plain.text (part_at k p)
question_at k (question.Name c n) = plain.name (ty_at k c) (bytes_at k n)
question_at k (question.Import path) = plain.import (bytes_at k path)
question_at k (question.Result u) = plain.result (unit_at k u)

-- ---- results

abbrev pub IsSpot : Known → Spot → Type 0
IsSpot k (spot.Within part place) = IsPart k part
IsSpot k (spot.Named i) = IsDecl k i

abbrev pub spot_at : Known → Spot → plain.Spot
spot_at k (spot.Within part place) = plain.within (part_at k part) place
spot_at k (spot.Named i) = plain.named (decl_at k i)

abbrev pub IsDiagnostic : Known → Diagnostic → Type 0
IsDiagnostic k d = IsSpot k d.spot

abbrev pub diagnostic_at : Known → Diagnostic → plain.Diagnostic
diagnostic_at k d = record { spot = spot_at k d.spot; code = d.code; text = d.text }

abbrev pub IsUnitValue : Known → UnitValue → Type 0
IsUnitValue k (value.Constant i) = IsValue k i
IsUnitValue k (value.Variable i) = IsValue k i
IsUnitValue k (value.Body b) = IsBody k b
IsUnitValue k (value.ErrorSet i) = AreNames k i
IsUnitValue k (value.Fields f) = Unit {0}
IsUnitValue k (value.Code c) = Unit {0}
IsUnitValue k value.Nothing = Unit {0}

abbrev pub unit_value_at : Known → UnitValue → plain.UnitValue
unit_value_at k (value.Constant i) = plain.constant (value_at k i)
unit_value_at k (value.Variable i) = plain.variable (value_at k i)
unit_value_at k (value.Body b) = plain.body (body_at k b)
unit_value_at k (value.ErrorSet i) = plain.error_set (names_at k i)
unit_value_at k (value.Fields f) = plain.UnitValue.fields f
unit_value_at k (value.Code c) = plain.code c
unit_value_at k value.Nothing = plain.nothing

abbrev pub IsUnitResult : Known → UnitResult → Type 0
IsUnitResult k (result.Good v) = IsUnitValue k v
IsUnitResult k (result.Failed None) = Unit {0}
IsUnitResult k (result.Failed (Some d)) = IsDiagnostic k d

abbrev pub unit_result_at : Known → UnitResult → plain.UnitResult
unit_result_at k (result.Good v) = plain.good (unit_value_at k v)
unit_result_at k (result.Failed d) = plain.failed (option_map (diagnostic_at k) d)

-- ---- answers

-- the lines of each front, by its number
abbrev pub LinesOf : Type 0
LinesOf = ℕ → List Form

abbrev pub tree_at : LinesOf → TreeRef → Core
tree_at lines r = core_at (lines r.front) r.line

abbrev pub IsAnswer : Known → Answer → Type 0
IsAnswer k (answer.Tree r) = Unit {0}
IsAnswer k (answer.Declaration r) = Unit {0}
IsAnswer k (answer.Exports e) = Unit {0}
IsAnswer k (answer.Given v) = IsUnitValue k v
IsAnswer k answer.Failure = Unit {0}

abbrev pub answer_at : Known → LinesOf → Answer → plain.Answer
answer_at k lines (answer.Tree r) = plain.tree (option_map (tree_at lines) r)
answer_at k lines (answer.Declaration r) = plain.declaration r
answer_at k lines (answer.Exports e) = plain.exports e
answer_at k lines (answer.Given v) = plain.given (unit_value_at k v)
answer_at k lines answer.Failure = plain.failure

-- ---- moves and traces

abbrev pub IsMove : Known → Move → Type 0
IsMove k (move.Asked q a) = IsQuestion k q × IsAnswer k a
IsMove k (move.Referred u) = IsUnit k u

abbrev pub move_at : Known → LinesOf → Move → runs.Move plain.Question plain.Answer AnyUnit
move_at k lines (move.Asked q a) = runs.asked (question_at k q) (answer_at k lines a)
move_at k lines (move.Referred u) = runs.referred (unit_at k u)

abbrev pub AreMoves : Known → List Move → Type 0
AreMoves k [] = Unit {0}
AreMoves k (m ∷ ms) = IsMove k m × AreMoves k ms

abbrev pub moves_at : Known → LinesOf → List Move → List (runs.Move plain.Question plain.Answer AnyUnit)
moves_at k lines ms = map (move_at k lines) ms
