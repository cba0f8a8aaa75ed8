-- What a snapshot answers, under the pairs that an interner knows.
use Rattle.std.specs.Prelude.{◌≡◌, ℕ, List, [], Option, Some, None}
use Rattle.std.specs.Option.{option_map, option_and_then}
use Rattle.zir_form.specs.Core.{Core}
use Rattle.zir_form.specs.declared.form.Form.{Form}
use Rattle.zir_form.specs.declared.front.Front.{Front}
use Rattle.zir_form.specs.declared.zir.ContainerRef.{ContainerRef}
use Rattle.zir_form.specs.declared.zir.Part.{Part}
use Rattle.zir_form.specs.declared.zir.Part.TheVariants as part
use Rattle.zir_form.specs.Front.{front_in, lines_in}
use Rattle.type_form.specs.declared.index.Index.{Index}
use Rattle.type_form.specs.declared.unit.Unit.{Unit as AnyUnit}
use Rattle.type_form.specs.Known.{Known}
use Rattle.type_form.specs.Means.{IsBytes}
use Rattle.elab_form.specs.Questions as plain
use Rattle.trace_log.specs.declared.answers.Answers.{Answers}
use Rattle.trace_log.specs.declared.question.UnitIndex.{UnitIndex}
use Rattle.trace_log.specs.declared.answer.Answer.{Answer}
use Rattle.trace_log.specs.declared.answer.Answer.TheVariants as answer
use Rattle.trace_log.specs.declared.result.UnitResult.{UnitResult}
use Rattle.trace_log.specs.declared.result.UnitResult.TheVariants as result
use Rattle.trace_log.specs.declared.replies.Extent.{Extent}
use Rattle.trace_log.specs.declared.replies.Extent.TheVariants as extent
use Rattle.trace_log.specs.declared.stands.Place.{Place}
use Rattle.trace_log.specs.Files.{Files, Stand, file_answer, head_at, stand_by, whole_at}
use Rattle.trace_log.specs.Indices.{bytes_index, unit_index}
use Rattle.trace_log.specs.Readings.{IsUnit, IsUnitResult, LinesOf, unit_result_at}
use Rattle.trace_log.specs.TableStates.{table_get, unit_get}

-- the front with a number
unfoldable pub front_get : Answers → ℕ → Option Front
front_get a number = table_get a.fronts number

-- the number of the front of the file whose path is at an index
unfoldable pub file_get : Answers → Index → Option ℕ
file_get a path = table_get a.files path.0

-- the result of a unit
unfoldable pub result_get : Answers → UnitIndex → Option UnitResult
result_get a unit = unit_get a.results unit

-- the lines of each front
abbrev pub front_lines : Option Front → List Form
front_lines None = []
front_lines (Some f) = lines_in f

abbrev pub lines_of : Answers → LinesOf
lines_of a number = front_lines (front_get a number)

-- the front of the file whose path is at an index
abbrev pub front_at : Answers → Index → Option Front
front_at a path = option_and_then (front_get a) (file_get a path)

-- ---- in plain trees

-- the files that are there
abbrev pub files_at : Known → Answers → Files
files_at k a path = option_map front_in (option_and_then (front_at a) (bytes_index k path))

-- the results that are there
abbrev pub results_at : Known → Answers → AnyUnit → Option plain.UnitResult
results_at k a u = option_map (unit_result_at k) (option_and_then (result_get a) (unit_index k u))

-- what the place of a container is
abbrev pub stand_at : Answers → Option Place → Option Stand
stand_at a None = None
stand_at a (Some place) = option_map (λ f. stand_by (front_in f) place.container) (front_get a place.front)

-- a part of a declaration
abbrev pub declared_part : Extent → ContainerRef → List ℕ → Part
declared_part extent.Head container name = part.Head container name
declared_part extent.Whole container name = part.Whole container name

-- and its text in the declaration's container
abbrev pub extent_at : Extent → List ℕ → Stand → Option Core
extent_at extent.Head = head_at
extent_at extent.Whole = whole_at

-- The answer to a question, if there is one: to one about the files always, to one for a result where that is there.
unfoldable pub given_at : Known → Answers → plain.Question → Option plain.Answer
given_at k a (plain.text p) = Some (file_answer (files_at k a) (plain.text p))
given_at k a (plain.name container name) = Some (file_answer (files_at k a) (plain.name container name))
given_at k a (plain.import path) = Some (file_answer (files_at k a) (plain.import path))
given_at k a (plain.result u) = option_map plain.answer_of (results_at k a u)

-- a result, as an answer by indices
abbrev pub answer_of : UnitResult → Answer
answer_of (result.Good v) = answer.Given v
answer_of (result.Failed d) = answer.Failure

-- the indices of a snapshot denote what is wanted there
pub record AreAnswers (k : Known) (a : Answers) : Type 0 where
  pub files : (path : Index) (number : ℕ) → file_get a path ≡ Some number → IsBytes k path
  pub units : (u : UnitIndex) (r : UnitResult) → result_get a u ≡ Some r → IsUnit k u
  pub results : (u : UnitIndex) (r : UnitResult) → result_get a u ≡ Some r → IsUnitResult k r
