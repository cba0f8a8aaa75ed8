-- What each unit of analysis does with its texts.
use Rattle.std.specs.Prelude.{ℕ, ◌==◌, nat_lt, Bool, true, false, List, [], ◌∷◌, length, Option, Some, None, if◌then◌else◌}
use Rattle.std.specs.Str.Lossy.{utf8_valid_len}
use Rattle.zw_base.specs.declared.diag.DiagCode.{DiagCode}
use Rattle.zw_base.specs.declared.diag.DiagCode.TheVariants as code
use Rattle.zir_form.specs.Core.{Core, Cores}
use Rattle.zir_form.specs.Core as core
use Rattle.type_form.specs.declared.tree.Ty.{Ty, out-Ty}
use Rattle.type_form.specs.declared.tree.Ty.TheVariants as ty
use Rattle.type_form.specs.declared.tree.Value.{Value, out-Value}
use Rattle.type_form.specs.declared.tree.Value.TheVariants as value
use Rattle.type_form.specs.declared.tree.DeclPath.{DeclPath, out-DeclPath}
use Rattle.type_form.specs.declared.tree.DeclPath.TheVariants as path
use Rattle.type_form.specs.declared.tree.Arg.TheOpen as layer
use Rattle.type_form.specs.declared.tree.SimpleTy.TheVariants as simple
use Rattle.type_form.specs.declared.unit.Instance.{Instance}
use Rattle.type_form.specs.declared.unit.Unit.{Unit as AnyUnit}
use Rattle.type_form.specs.declared.unit.Unit.TheVariants as unit
use Rattle.type_form.specs.Tree.{TyLayer, ValueLayer, DeclLayer}
use Rattle.type_form.specs.Spelling.{unit_text}
use Rattle.air_form.specs.Typed.{TypedBody, statements_of}
use Rattle.air_form.specs.Typed as typed
use Rattle.wasm_form.specs.declared.linked.FnCode.{FnCode}
use Rattle.question_runs.specs.Programs.{Prog, done, ask, bind}
use Rattle.question_runs.specs.Rounds.{Language}
use Rattle.elab_form.specs.Questions.{TextPart, head, whole, Question, Answer, tree, given, text, result, UnitValue, constant, body, UnitResult, good, failed, named, answer_of, setting, same_unit}
use Rattle.elab_form.specs.State.{Frame, Operand, known, run, start}
use Rattle.elab_form.specs.Asking.{Out, gives, returns, breaks, continues, wrong_by, Elab, pure, seq, asking, referring, wrong, not_built, acts, evaluated}
use Rattle.elab_form.specs.Places.{place_of, is_absent}
use Rattle.elab_form.specs.Coercion.{is_void}
use Rattle.elab_form.specs.Control.{is_never}
use Rattle.elab_form.specs.Code.{body_code}
use Rattle.elab_form.specs.Elab.{expression}

-- ---- expressions that are evaluated at comptime

-- the value of an operand that is to be known
abbrev pub known_at : Frame → (place : ℕ) → Operand → Elab Value
known_at f place (known v) = pure v
known_at f place (run t e) = wrong f place code.NotComptimeKnown

-- the known value of an expression that is evaluated at comptime, with its result type where it has one
abbrev pub value_form : Frame → Option Ty → Core → Elab Value
value_form f want c = seq (evaluated f (place_of c) (expression (record f { is_comptime = true }) want c)) (known_at f (place_of c))

-- the type that a known value is
abbrev pub type_by : Frame → (place : ℕ) → ValueLayer → Elab Ty
type_by f place (layer.OfType t) = pure t
type_by f place _ = wrong f place code.UndefinedUsed

-- the type that stands at a type position
abbrev pub type_form : Frame → Core → Elab Ty
type_form f c = seq (value_form f (Some (ty.Simple simple.Metatype)) c) (λ v. type_by f (place_of c) (out-Value v))

-- ---- frames

-- the container or the file that a declaration is a member of
abbrev pub container_in : DeclLayer → Ty
container_in (layer.Named container name) = container
container_in (layer.Comptime file number) = ty.File file

abbrev pub name_in : DeclLayer → List ℕ
name_in (layer.Named container name) = name
name_in (layer.Comptime file number) = []

unfoldable pub container_of : DeclPath → Ty
container_of d = container_in (out-DeclPath d)

unfoldable pub name_of : DeclPath → List ℕ
name_of d = name_in (out-DeclPath d)

-- the frame of a part of a declaration
abbrev pub frame : TextPart → DeclPath → Frame
frame part d = record { part = part; container = container_of d; is_comptime = false; result = None }

-- a text that is not there: whoever named it was answered otherwise
abbrev pub no_text : {A : Type 0} → Frame → Elab A
no_text f = not_built f 0

-- ---- the declaration of a constant

-- the value of a constant, with the declared type as its result type; a type that is left out is none
abbrev pub initial_value : Frame → Core → Core → Elab Value
initial_value f t c = if is_absent t then value_form f None c else seq (type_form f t) (λ s. value_form f (Some s) c)

abbrev pub constant_form : Frame → Core → Core → Elab UnitValue
constant_form f t c = seq (initial_value f t c) (λ v. pure (constant v))

-- ---- the declaration of a function

-- the value of a function is its declaration
abbrev pub function_value : DeclPath → Value
function_value d = value.Function d

-- the instance of a function without parameters
abbrev pub only_instance : DeclPath → Instance
only_instance d = record { decl = d; args = [] }

-- whether a function that is exported may take or return values of the type
abbrev pub is_exportable : TyLayer → Bool
is_exportable (layer.Ty::Int is_signed bits) = true
is_exportable (layer.Ty::Simple simple.Usize) = true
is_exportable (layer.Ty::Simple simple.Isize) = true
is_exportable (layer.Ty::Simple simple.Bool) = true
is_exportable (layer.Ty::Simple simple.Void) = true
is_exportable (layer.Pointer is_const child) = true
is_exportable _ = false

-- the name of an export is well-formed UTF-8
abbrev pub is_export_name : List ℕ → Bool
is_export_name name = utf8_valid_len name == length name

-- its result type may be exported, and its code is referred to
abbrev pub exported_result : Frame → DeclPath → (place : ℕ) → Ty → Elab UnitValue
exported_result f d place t =
    if is_exportable (out-Ty t) then referring (unit.Code (only_instance d)) (pure (constant (function_value d)))
    else wrong f place code.TypeNotAllowed

-- a result type; an export has no inferred error set
abbrev pub exported_type : Frame → DeclPath → (mark : Core) → (result : Core) → Elab UnitValue
exported_type f d core.absent t = seq (type_form f t) (exported_result f d (place_of t))
exported_type f d (core.inferred place) t = wrong f place code.TypeNotAllowed
exported_type f d _ t = not_built f (place_of t)

-- parameters have no rule yet
abbrev pub without_parameters : {A : Type 0} → Frame → (place : ℕ) → Cores → Elab A → Elab A
without_parameters f place core.none m = m
without_parameters f place (core.more c rest) m = not_built f place

abbrev pub exported_form : Frame → DeclPath → (name_place : ℕ) → Cores → (mark : Core) → (result : Core) → Elab UnitValue
exported_form f d place parameters mark t =
    if is_export_name (name_of d) then without_parameters f place parameters (exported_type f d mark t)
    else wrong f place code.TypeNotAllowed

-- a function by its head: one that is exported judges its types
abbrev pub function_by : Frame → DeclPath → (linkage : Core) → (name_place : ℕ) → Cores → (mark : Core) → (result : Core) → Elab UnitValue
function_by f d core.absent place parameters mark t = pure (constant (function_value d))
function_by f d core.exported place parameters mark t = exported_form f d place parameters mark t
function_by f d _ place parameters mark t = not_built f place

abbrev pub head_form : Frame → DeclPath → Core → Elab UnitValue
head_form f d (core.head place linkage parameters mark t) = function_by f d linkage place parameters mark t
head_form f d c = not_built f (place_of c)

-- ---- the unit of a declaration

-- the whole text of a declaration that is no function
abbrev pub whole_form : Frame → Core → Elab UnitValue
whole_form f (core.constant place local t c) = constant_form f t c
whole_form f c = not_built f (place_of c)

abbrev pub whole_answer : DeclPath → Answer → Elab UnitValue
whole_answer d (tree (Some c)) = whole_form (frame (whole d) d) c
whole_answer d _ = no_text (frame (whole d) d)

-- whether it has a head says whether it is a function
abbrev pub head_answer : DeclPath → Answer → Elab UnitValue
head_answer d (tree (Some c)) = head_form (frame (head d) d) d c
head_answer d _ = asking (text (whole d)) (whole_answer d)

-- A declaration asks for the head of a function. Where there is none, it is a constant or a variable, and asks
-- for its text: its declared type is met before its value.
abbrev pub declaration : DeclPath → Elab UnitValue
declaration d = asking (text (head d)) (head_answer d)

-- ---- the unit of a body

-- the end of the body: where it is reached, a function without a value returns, and others may not come there
abbrev pub body_end : Frame → (name_place : ℕ) → Ty → Operand → Elab (Unit {0})
body_end f place t o =
    if is_never o then pure tt
    else (if is_void (out-Ty t) then acts (typed.return ∷ []) else wrong f place code.EndsWithoutValue)

-- the typed body that was written
abbrev pub written_body : Ty → Elab UnitValue
written_body t st = done (gives st (body (record {
  params = 0;
  result = t;
  slots = st.slots;
  statements = statements_of st.statements;
  errors = st.errors;
  refers = st.calls;
})))

-- the statements of a function with this result type
abbrev pub body_with : Frame → (name_place : ℕ) → Core → Ty → Elab UnitValue
body_with f place c t =
    seq (expression (record f { result = Some t }) None c)
    (λ o. seq (body_end f place t o) (λ _. written_body t))

-- the types of the head, and then the statements
abbrev pub body_typed : Frame → (name_place : ℕ) → (mark : Core) → (result : Core) → Core → Elab UnitValue
body_typed f place core.absent t c = seq (type_form f t) (body_with f place c)
body_typed f place _ t c = not_built f place

abbrev pub body_by : Frame → (head : Core) → Core → Elab UnitValue
body_by f (core.head place linkage parameters mark t) c = without_parameters f place parameters (body_typed f place mark t c)
body_by f _ c = no_text f

abbrev pub body_form : Frame → Core → Elab UnitValue
body_form f (core.function h c) = body_by f h c
body_form f c = no_text f

abbrev pub body_answer : DeclPath → Answer → Elab UnitValue
body_answer d (tree (Some c)) = body_form (frame (whole d) d) c
body_answer d _ = no_text (frame (whole d) d)

-- A body asks for the whole text of its function.
abbrev pub body_of : Instance → Elab UnitValue
body_of i = asking (text (whole i.decl)) (body_answer i.decl)

-- ---- what is shown at a declaration

-- the declaration that a unit belongs to
abbrev pub decl_of_ty : TyLayer → DeclPath
decl_of_ty (layer.Container d ordinal captures) = d
decl_of_ty (layer.File file) = path.Comptime file 0
decl_of_ty _ = path.Comptime [] 0

unfoldable pub decl_of : AnyUnit → DeclPath
decl_of (unit.Decl d) = d
decl_of (unit.Body i) = i.decl
decl_of (unit.ErrorSet i) = i.decl
decl_of (unit.Fields c) = decl_of_ty (out-Ty c)
decl_of (unit.Code i) = i.decl
decl_of (unit.Comptime file number) = path.Comptime file number

abbrev pub failed_with : AnyUnit → DiagCode → UnitResult
failed_with u c = failed (Some (record { spot = named (decl_of u); code = c; text = [] }))

-- ---- the unit of code

-- the code of a typed body; a form without a template has no code yet
abbrev pub code_by : AnyUnit → Option FnCode → UnitResult
code_by u None = failed_with u code.NotBuilt
code_by u (Some c) = good (UnitValue.code c)

abbrev pub code_answer : AnyUnit → Answer → UnitResult
code_answer u (given (body b)) = code_by u (body_code b)
code_answer u _ = failed_with u code.NotBuilt

-- The code of an instance asks for its typed body. What is wrong with it is shown at the function's name.
abbrev pub code_of : Instance → Prog Question Answer AnyUnit UnitResult
code_of i = ask (result (unit.Body i)) (λ a. done (code_answer (unit.Code i) a))

-- ---- units

-- Nothing leaves a unit.
abbrev pub result_by : Out UnitValue → UnitResult
result_by (gives st v) = good v
result_by (returns st o) = failed None
result_by (breaks st target o) = failed None
result_by (continues st target) = failed None
result_by (wrong_by d) = failed (Some d)

abbrev pub concluded : Elab UnitValue → Prog Question Answer AnyUnit UnitResult
concluded m = bind (m start) (λ out. done (result_by out))

-- the longest spelling of a unit, in bytes
unfoldable pub longest_spelling : ℕ
longest_spelling = 4096

abbrev pub is_too_long : AnyUnit → Bool
is_too_long u = nat_lt longest_spelling (length (unit_text u))

abbrev pub program : AnyUnit → Prog Question Answer AnyUnit UnitResult
program (unit.Decl d) = concluded (declaration d)
program (unit.Body i) = concluded (body_of i)
program (unit.Code i) = code_of i
program u = done (failed_with u code.NotBuilt)

-- What a unit does. One whose spelling is too long asks nothing.
unfoldable pub elab : AnyUnit → Prog Question Answer AnyUnit UnitResult
elab u = if is_too_long u then done (failed_with u code.NameTooLong) else program u

-- ---- the language

-- the unit whose result a question asks for
abbrev pub unit_asked : Question → Option AnyUnit
unit_asked (Question.result u) = Some u
unit_asked _ = None

-- The language, for all that holds of every language of questions.
abbrev pub language : Language Question Answer AnyUnit UnitResult
language = record {
  setting = setting;
  elab = elab;
  unit_asked = unit_asked;
  answer_of = answer_of;
  failed = failed None;
  same_unit = same_unit;
}
