-- The words that forms are written in. An elaboration goes from a state to a program of questions, which ends
-- with what the form gives and the state behind it.
use Rattle.std.specs.Prelude.{ℕ, List, [], ◌++◌, length, take, drop}
use Rattle.zw_base.specs.declared.diag.DiagCode.{DiagCode}
use Rattle.zw_base.specs.declared.diag.DiagCode.TheVariants as code
use Rattle.type_form.specs.declared.unit.Unit.{Unit as AnyUnit}
use Rattle.air_form.specs.Typed.{Statement}
use Rattle.question_runs.specs.Programs.{Prog, done, ask, refer, bind}
use Rattle.elab_form.specs.Questions.{Question, Answer, Diagnostic, within}
use Rattle.elab_form.specs.State.{State, Frame, Operand}

-- How a form ends. At comptime, what leaves a function, a block or a loop ends each form on the way out; at run
-- time it is a statement.
pub data Out (A : Type 0) : Type 0 where
  -- with what it gives
  gives : State → A → Out A
  -- by `return`, with the result
  returns : State → Operand → Out A
  -- by `break`, with how many loops and blocks with a label lie between, and the value
  breaks : State → (target : ℕ) → Operand → Out A
  -- by `continue`
  continues : State → (target : ℕ) → Out A
  -- with a diagnostic, which ends the unit
  wrong_by : Diagnostic → Out A

abbrev pub Elab : Type 0 → Type 0
Elab A = State → Prog Question Answer AnyUnit (Out A)

-- what gives this, and asks and changes nothing
unfoldable pub pure : {A : Type 0} → A → Elab A
pure a st = done (gives st a)

-- how another form goes on where the one before it gave something; an exit and a diagnostic pass it by
abbrev pub on_given : {A B : Type 0} → (A → Elab B) → Out A → Prog Question Answer AnyUnit (Out B)
on_given next (gives st a) = next a st
on_given next (returns st o) = done (returns st o)
on_given next (breaks st target o) = done (breaks st target o)
on_given next (continues st target) = done (continues st target)
on_given next (wrong_by d) = done (wrong_by d)

-- one form and then another
unfoldable pub seq : {A B : Type 0} → Elab A → (A → Elab B) → Elab B
seq m next st = bind (m st) (on_given next)

-- a question, and then what its answer says
unfoldable pub asking : {A : Type 0} → Question → (Answer → Elab A) → Elab A
asking q next st = ask q (λ a. next a st)

-- a unit that is referred to, and then another form
unfoldable pub referring : {A : Type 0} → AnyUnit → Elab A → Elab A
referring u next st = refer u (next st)

-- a diagnostic at a place of the part
unfoldable pub wrong : {A : Type 0} → Frame → (place : ℕ) → DiagCode → Elab A
wrong f place c st = done (wrong_by (record { spot = within f.part place; code = c; text = [] }))

-- a form that has no rule yet
abbrev pub not_built : {A : Type 0} → Frame → (place : ℕ) → Elab A
not_built f place = wrong f place code.NotBuilt

-- ---- the statements of the typed body

-- puts statements at the end of the innermost list that is open
unfoldable pub acts : List Statement → Elab (Unit {0})
acts statements st = done (gives (record st { statements = st.statements ++ statements }) tt)

-- closes the list that was opened behind so many statements: its own go beside what was given
abbrev pub closed : {A : Type 0} → ℕ → Out A → Out (List Statement × A)
closed n (gives st a) = gives (record st { statements = take n st.statements }) (drop n st.statements, a)
closed n (returns st o) = returns st o
closed n (breaks st target o) = breaks st target o
closed n (continues st target) = continues st target
closed n (wrong_by d) = wrong_by d

-- a form whose statements belong to an operand: they are written to a list of their own
unfoldable pub apart : {A : Type 0} → Elab A → Elab (List Statement × A)
apart m st = bind (m st) (λ out. done (closed (length st.statements) out))

-- ---- evaluation at comptime

-- What is left out of an expression that is evaluated at comptime is not known there.
abbrev pub kept_in : {A : Type 0} → Frame → (place : ℕ) → Out A → Prog Question Answer AnyUnit (Out A)
kept_in f place (gives st a) = done (gives st a)
kept_in f place (returns st o) = wrong f place code.NotComptimeKnown st
kept_in f place (breaks st target o) = wrong f place code.NotComptimeKnown st
kept_in f place (continues st target) = wrong f place code.NotComptimeKnown st
kept_in f place (wrong_by d) = done (wrong_by d)

-- an expression at a place that is evaluated at comptime, and which `return`, `break` and `continue` may not leave
unfoldable pub evaluated : {A : Type 0} → Frame → (place : ℕ) → Elab A → Elab A
evaluated f place m st = bind (m st) (kept_in f place)
