-- What units of analysis ask, what they are answered, and what they give.
use Rattle.std.specs.Prelude.{ℕ, ◌==◌, Bool, true, false, ◌&&◌, List, Option}
use base.Stored.{Gv, gnil, gnum, gcons}
use Rattle.std.specs.Str.{bytes_eq}
use Rattle.zw_base.specs.declared.diag.DiagCode.{DiagCode}
use Rattle.zir_form.specs.Core.{Core}
use Rattle.zir_form.specs.declared.zir.NameRef.{NameRef}
use Rattle.zir_form.specs.declared.exports.FileExports.{FileExports}
use Rattle.type_form.specs.declared.tree.Ty.{Ty}
use Rattle.type_form.specs.declared.tree.Value.{Value}
use Rattle.type_form.specs.declared.tree.DeclPath.{DeclPath}
use Rattle.type_form.specs.declared.unit.Unit.{Unit as AnyUnit}
use Rattle.type_form.specs.declared.table.Fields.{Fields}
use Rattle.type_form.specs.contracts.tree.Ty as ty_row
use Rattle.type_form.specs.contracts.tree.DeclPath as path_row
use Rattle.type_form.specs.contracts.unit.Unit as unit_row
use Rattle.question_runs.specs.Runs.{Setting}
use Rattle.wasm_form.specs.declared.linked.FnCode.{FnCode}
use Rattle.air_form.specs.Typed.{TypedBody}

-- ---- what is asked

-- a part of a file, whose text is asked for
pub data TextPart : Type 0 where
  -- the head of a function
  head : DeclPath → TextPart
  -- the whole text of a function, a constant or a variable
  whole : DeclPath → TextPart
  -- the fields of a container
  fields : (container : Ty) → TextPart
  -- the top-level block of a file with this number, which is evaluated at comptime
  block : (file : List ℕ) → (number : ℕ) → TextPart

pub data Question : Type 0 where
  -- the core tree of a part
  text : TextPart → Question
  -- the declaration that a container or a file has by a name
  name : (container : Ty) → (name : List ℕ) → Question
  -- what a file exports
  import : (file : List ℕ) → Question
  -- the result of a unit
  result : AnyUnit → Question

-- ---- what a unit gives

pub data UnitValue : Type 0 where
  -- of the declaration of a constant or a function: its value, which has its type
  constant : Value → UnitValue
  -- of the declaration of a variable: its initial value, which has its type
  variable : Value → UnitValue
  -- of the body of an instance
  body : TypedBody → UnitValue
  -- of the inferred error set of an instance: its names
  error_set : (names : List (List ℕ)) → UnitValue
  -- of the fields of a container
  fields : Fields → UnitValue
  -- of the code of an instance
  code : FnCode → UnitValue
  -- of a block that is evaluated at comptime
  nothing : UnitValue

-- what a diagnostic points at
pub data Spot : Type 0 where
  -- a place in a part, counted in bytes from the part's first token
  within : TextPart → (place : ℕ) → Spot
  -- the name of a declaration; of a block, the word `comptime`
  named : DeclPath → Spot

-- `text` is that of `@compileError`, and else empty
pub record Diagnostic : Type 0 where
  pub spot : Spot
  pub code : DiagCode
  pub text : List ℕ

pub data UnitResult : Type 0 where
  good : UnitValue → UnitResult
  -- with a diagnostic, or without one where an answer failed it
  failed : Option Diagnostic → UnitResult

-- ---- what is answered

pub data Answer : Type 0 where
  -- the text of a part, where there is such a part
  tree : Option Core → Answer
  -- whether there is a declaration of the name, and whether other files may use it
  declaration : Option NameRef → Answer
  -- what the file exports, where there is one
  exports : Option FileExports → Answer
  -- what a unit gives
  given : UnitValue → Answer
  -- that a unit failed; what it shows is no part of the answer
  failure : Answer

-- a unit's result, as an answer
abbrev pub answer_of : UnitResult → Answer
answer_of (good v) = given v
answer_of (failed d) = failure

-- ---- when two questions are one, and which answers fail whoever asks

abbrev pub same_code : Gv → Gv → Bool
same_code gnil gnil = true
same_code (gnum m) (gnum n) = m == n
same_code (gcons a b) (gcons c d) = same_code a c && same_code b d
same_code _ _ = false

unfoldable pub same_ty : Ty → Ty → Bool
same_ty a b = same_code (ty_row.the_row.coded.code a) (ty_row.the_row.coded.code b)

unfoldable pub same_path : DeclPath → DeclPath → Bool
same_path a b = same_code (path_row.the_row.coded.code a) (path_row.the_row.coded.code b)

unfoldable pub same_unit : AnyUnit → AnyUnit → Bool
same_unit a b = same_code (unit_row.the_row.coded.code a) (unit_row.the_row.coded.code b)

abbrev pub same_part : TextPart → TextPart → Bool
same_part (head d) (head e) = same_path d e
same_part (whole d) (whole e) = same_path d e
same_part (fields s) (fields t) = same_ty s t
same_part (block f m) (block g n) = bytes_eq f g && (m == n)
same_part _ _ = false

unfoldable pub same_question : Question → Question → Bool
same_question (text p) (text q) = same_part p q
same_question (name c m) (name d n) = same_ty c d && bytes_eq m n
same_question (import f) (import g) = bytes_eq f g
same_question (result u) (result v) = same_unit u v
same_question _ _ = false

abbrev pub is_failure : Answer → Bool
is_failure failure = true
is_failure _ = false

abbrev pub setting : Setting Question Answer
setting = record { same = same_question; failing = is_failure }
