-- Which values stand in tables as they are kept.
use Rattle.std.specs.Prelude.{◌≡◌, ℕ, ◌==◌, Bool, false, ◌&&◌, Option, None, Some, if◌then◌else◌}
use Rattle.trace_log.specs.declared.question.TextPart.{TextPart}
use Rattle.trace_log.specs.declared.question.TextPart.TheVariants as part
use Rattle.trace_log.specs.declared.question.UnitIndex.{UnitIndex}
use Rattle.trace_log.specs.declared.question.UnitIndex.TheVariants as unit
use Rattle.trace_log.specs.declared.question.Question.{Question}
use Rattle.trace_log.specs.declared.question.Question.TheVariants as question
use Rattle.trace_log.specs.declared.tables.table.Table.{Table}
use Rattle.trace_log.specs.declared.tables.pairs.PairTable.{PairTable}
use Rattle.trace_log.specs.declared.tables.parts.PartTable.{PartTable}
use Rattle.trace_log.specs.declared.tables.units.UnitTable.{UnitTable}
use Rattle.trace_log.specs.declared.tables.questions.QuestionTable.{QuestionTable}
use Rattle.trace_log.specs.Tables.{link_get}

-- ---- when two are one

abbrev pub same_part : TextPart → TextPart → Bool
same_part (part.Head i) (part.Head j) = i.0 == j.0
same_part (part.Whole i) (part.Whole j) = i.0 == j.0
same_part (part.Fields i) (part.Fields j) = i.0 == j.0
same_part (part.Block file m) (part.Block other n) = (file.0 == other.0) && (m == n)
same_part _ _ = false

abbrev pub same_unit : UnitIndex → UnitIndex → Bool
same_unit (unit.Decl i) (unit.Decl j) = i.0 == j.0
same_unit (unit.Body i) (unit.Body j) = i.0 == j.0
same_unit (unit.ErrorSet i) (unit.ErrorSet j) = i.0 == j.0
same_unit (unit.Fields i) (unit.Fields j) = i.0 == j.0
same_unit (unit.Code i) (unit.Code j) = i.0 == j.0
same_unit (unit.Comptime file m) (unit.Comptime other n) = (file.0 == other.0) && (m == n)
same_unit _ _ = false

abbrev pub same_question : Question → Question → Bool
same_question (question.Text p) (question.Text q) = same_part p q
same_question (question.Name c m) (question.Name d n) = (c.0 == d.0) && (m.0 == n.0)
same_question (question.Import i) (question.Import j) = i.0 == j.0
same_question (question.Result u) (question.Result v) = same_unit u v
same_question _ _ = false

-- ---- what stands where

-- at a number
unfoldable pub table_get : {T : Type 0} → Table T → ℕ → Option T
table_get t number = link_get t.root number

abbrev pub row_get : {T : Type 0} → Option (Table T) → ℕ → Option T
row_get None number = None
row_get (Some t) number = table_get t number

-- at a pair of numbers
unfoldable pub pair_get : {T : Type 0} → PairTable T → ℕ → ℕ → Option T
pair_get t first second = row_get (table_get t.rows first) second

-- at a part
unfoldable pub part_get : {T : Type 0} → PartTable T → TextPart → Option T
part_get t (part.Head i) = table_get t.heads i.0
part_get t (part.Whole i) = table_get t.wholes i.0
part_get t (part.Fields i) = table_get t.fields i.0
part_get t (part.Block file number) = pair_get t.blocks file.0 number

-- at a unit
unfoldable pub unit_get : {T : Type 0} → UnitTable T → UnitIndex → Option T
unit_get t (unit.Decl i) = table_get t.decls i.0
unit_get t (unit.Body i) = table_get t.bodies i.0
unit_get t (unit.ErrorSet i) = table_get t.error_sets i.0
unit_get t (unit.Fields i) = table_get t.fields i.0
unit_get t (unit.Code i) = table_get t.codes i.0
unit_get t (unit.Comptime file number) = pair_get t.comptimes file.0 number

-- at a question
unfoldable pub question_get : {T : Type 0} → QuestionTable T → Question → Option T
question_get t (question.Text p) = part_get t.texts p
question_get t (question.Name c n) = pair_get t.names c.0 n.0
question_get t (question.Import path) = table_get t.imports path.0
question_get t (question.Result u) = unit_get t.results u

-- one value stands at a key now, and every other key has what it had
abbrev pub PutsPair : {T : Type 0} → (ℕ → ℕ → Option T) → (ℕ → ℕ → Option T) → ℕ → ℕ → T → Type 0
PutsPair old new first second value = (m n : ℕ) → new m n ≡ (if (m == first) && (n == second) then Some value else old m n)

abbrev pub PutsPart : {T : Type 0} → (TextPart → Option T) → (TextPart → Option T) → TextPart → T → Type 0
PutsPart old new key value = (p : TextPart) → new p ≡ (if same_part p key then Some value else old p)

abbrev pub PutsUnit : {T : Type 0} → (UnitIndex → Option T) → (UnitIndex → Option T) → UnitIndex → T → Type 0
PutsUnit old new key value = (u : UnitIndex) → new u ≡ (if same_unit u key then Some value else old u)

abbrev pub PutsQuestion : {T : Type 0} → (Question → Option T) → (Question → Option T) → Question → T → Type 0
PutsQuestion old new key value = (q : Question) → new q ≡ (if same_question q key then Some value else old q)
