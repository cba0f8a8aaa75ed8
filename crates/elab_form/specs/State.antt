-- What an expression gives, and what elaboration remembers on its way through a unit.
use Rattle.std.specs.Prelude.{ℕ, Bool, List, [], Option}
use Rattle.type_form.specs.declared.tree.Ty.{Ty}
use Rattle.type_form.specs.declared.tree.Value.{Value}
use Rattle.type_form.specs.declared.unit.Instance.{Instance}
use Rattle.air_form.specs.Typed.{Statement}
use Rattle.air_form.specs.Denote.{Air}
use Rattle.elab_form.specs.Questions.{TextPart}

-- what an expression gives
pub data Operand : Type 0 where
  -- a value that is known at comptime
  known : Value → Operand
  -- at run time, what an expression or a place of the typed body has
  run : (ty : Ty) → Air → Operand

-- what a local, a parameter or a capture of a part stands for
pub data Local : Type 0 where
  -- a constant
  constant : Operand → Local
  -- a variable of the body, in a slot
  variable : (ty : Ty) → (slot : ℕ) → Local
  -- a variable that changes at comptime, at a place of comptime memory
  comptime_variable : (ty : Ty) → (place : ℕ) → Local

-- what stands at a place of comptime memory
mutual
  pub data Cell : Type 0 where
    undivided : Value → Cell
    -- a value of this type whose parts are set apart
    divided : (ty : Ty) → (parts : Cells) → Cell

  -- cells in a row
  pub data Cells : Type 0 where
    none : Cells
    more : Cell → Cells → Cells

-- What elaboration remembers.
pub record State : Type 0 where
  -- the locals that are in scope, by their numbers in the part; the last one of a number counts
  pub locals : List (ℕ × Local)
  -- comptime memory
  pub memory : List Cell
  -- turns of loops and calls at comptime so far, and how many there may be
  pub count : ℕ
  pub quota : ℕ
  -- of the typed body: its slots, the statements of the lists that are open, those of the outer lists first, how
  -- many labels it has, the instances that it calls, and the error names that it can return
  pub slots : List Ty
  pub statements : List Statement
  pub labels : ℕ
  pub calls : List Instance
  pub errors : List (List ℕ)

-- how many turns and calls a unit may have at comptime where it sets no quota of its own
unfoldable pub first_quota : ℕ
first_quota = 1000

abbrev pub start : State
start = record {
  locals = [];
  memory = [];
  count = 0;
  quota = first_quota;
  slots = [];
  statements = [];
  labels = 0;
  calls = [];
  errors = [];
}

-- Where a form stands.
pub record Frame : Type 0 where
  -- the part whose text is met, in which places are counted
  pub part : TextPart
  -- the innermost container or file around the part
  pub container : Ty
  -- whether the form is evaluated at comptime
  pub is_comptime : Bool
  -- in a function, the type of its result
  pub result : Option Ty
