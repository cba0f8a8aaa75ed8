-- How calls of analysis meet what elaboration gives.
use Rattle.std.specs.Prelude.{◌≡◌, ◌<◌, List, length, Bool, true, false, [], ◌∷◌, ◌++◌, map, All, Option, Some, None, Result, Ok, Err}
use Rattle.std.specs.Option.{option_map}
use Rattle.type_form.specs.declared.index.Index.{Index}
use Rattle.type_form.specs.declared.tree.Ty.{Ty}
use Rattle.type_form.specs.Known.{Known, IsInjective}
use Rattle.type_form.specs.Means.{IsTy, ty_at, IsValue, value_at}
use Rattle.air_form.specs.declared.node.AirRef.{AirRef}
use Rattle.air_form.specs.Nodes.{AirState, AreBelow, IsBuilt, IsNode}
use Rattle.air_form.specs.Typed.{Statement}
use Rattle.air_form.specs.Denote.{air_at, statement_of}
use Rattle.question_runs.specs.Runs.{ends, stops, fails, behind, recall, asked}
use Rattle.elab_form.specs.Questions as plain
use Rattle.elab_form.specs.State as plain_state
use Rattle.elab_form.specs.State.{State, Operand as AnyOperand, Frame as AnyFrame}
use Rattle.elab_form.specs.Asking.{Elab, gives, returns, wrong_by}
use Rattle.elab_form.specs.Standing.{Answers as AnyAnswers, Moves, Course, stand}
use Rattle.trace_log.specs.declared.answer.Answer.{Answer}
use Rattle.sema_body.specs.declared.halt.Operand.{Operand}
use Rattle.sema_body.specs.declared.halt.Operand.TheVariants as operand
use Rattle.sema_body.specs.declared.halt.Halt.{Halt}
use Rattle.sema_body.specs.declared.halt.Halt.TheVariants as halt
use Rattle.sema_body.specs.declared.frame.Frame.{Frame}
use Rattle.trace_log.specs.declared.answers.Answers.{Answers}
use Rattle.sema_body.specs.declared.work.Work.{Work}
use Rattle.trace_log.specs.Readings.{part_at, IsPart, question_at, IsQuestion, answer_at, IsAnswer, moves_at, AreMoves, diagnostic_at, IsSpot}
use Rattle.trace_log.specs.Snapshots.{lines_of, given_at, AreAnswers}

-- ---- states, operands, frames

-- the state that a typed body in the making stands for
unfoldable pub state_at : Known → AirState → State
state_at k b = record {
  locals = [];
  memory = [];
  count = 0;
  quota = plain_state.first_quota;
  slots = map (ty_at k) b.slots;
  statements = map (statement_of (air_at k b.nodes)) b.statements;
  labels = b.labels;
  calls = [];
  errors = [];
}

-- its indices denote
pub record IsState (k : Known) (b : AirState) : Type 0 where
  pub built : IsBuilt b
  pub nodes : All (IsNode k) b.nodes
  pub slots : All (IsTy k) b.slots

abbrev pub operand_at : Known → Work → Operand → AnyOperand
operand_at k s (operand.Known i) = plain_state.known (value_at k i)
operand_at k s (operand.Run t at) = plain_state.run (ty_at k t) (air_at k s.body.nodes at)

abbrev pub IsOperand : Known → Work → Operand → Type 0
IsOperand k s (operand.Known i) = IsValue k i
IsOperand k s (operand.Run t at) = IsTy k t × (at.0 < length s.body.nodes)

abbrev pub frame_at : Known → Frame → AnyFrame
frame_at k f = record { part = part_at k f.part; container = ty_at k f.container; is_comptime = f.is_comptime; result = option_map (ty_at k) f.result }

abbrev pub IsWanted : Known → Option Index → Type 0
IsWanted k None = Unit {0}
IsWanted k (Some i) = IsTy k i

pub record IsFrame (k : Known) (f : Frame) : Type 0 where
  pub part : IsPart k f.part
  pub container : IsTy k f.container
  pub result : IsWanted k f.result

-- ---- where a call stands

-- the answers at hand
unfoldable pub hand : Known → Answers → AnyAnswers
hand k cx = given_at k cx

-- the moves so far
unfoldable pub trace : Known → Answers → Work → Moves
trace k cx s = moves_at k (lines_of cx) s.trace

-- all that a call finds and leaves
pub record Stands (k : Known) (cx : Answers) (s : Work) : Type 0 where
  pub agrees : IsInjective k
  pub answers : AreAnswers k cx
  pub moves : AreMoves k s.trace
  pub body : IsState k s.body

-- the run of an elaboration from there
unfoldable pub from : {A : Type 0} → Known → Answers → Work → Elab A → Course A
from k cx s m = stand (hand k cx) (trace k cx s) m (state_at k s.body)

-- ---- how a call ends

-- a call ends with a value that stands for what elaboration gives, or halts where elaboration does
abbrev pub MeetsBy : {C A : Type 0} → Known → Answers → Work → (C → Type 0) → (C → A) → Result C Halt → Course A → Type 0
MeetsBy k cx s Is at (Ok o) run = Is o × (run ≡ behind (trace k cx s) (ends (gives (state_at k s.body) (at o))))
MeetsBy k cx s Is at (Err (halt.Returns o)) run = IsOperand k s o × (run ≡ behind (trace k cx s) (ends (returns (state_at k s.body) (operand_at k s o))))
MeetsBy k cx s Is at (Err (halt.Wrong d)) run = IsSpot k d.spot × (run ≡ behind (trace k cx s) (ends (wrong_by (diagnostic_at k d))))
MeetsBy k cx s Is at (Err (halt.Needs q)) run = IsQuestion k q × (run ≡ behind (trace k cx s) (stops (question_at k q)))
MeetsBy k cx s Is at (Err halt.Failed) run = run ≡ behind (trace k cx s) fails
MeetsBy k cx s Is at (Err (halt.Full shard)) run = Unit {0}
MeetsBy k cx s Is at (Err halt.OutOfMemory) run = Unit {0}

-- what a call finds stands where it ends; where memory or room runs out, nothing is said
abbrev pub StandsBy : {C : Type 0} → Known → Answers → Work → Result C Halt → Type 0
StandsBy k cx s (Err (halt.Full shard)) = Unit {0}
StandsBy k cx s (Err halt.OutOfMemory) = Unit {0}
StandsBy k cx s _ = Stands k cx s

pub record Meets {C A : Type 0} (k : Known) (cx : Answers) (s : Work) (Is : C → Type 0) (at : C → A) (r : Result C Halt) (run : Course A) : Type 0 where
  pub stands : StandsBy k cx s r
  pub is : MeetsBy k cx s Is at r run

-- a call that gives what an expression gives
abbrev pub MeetsOperand : Known → Answers → Work → Result Operand Halt → Course AnyOperand → Type 0
MeetsOperand k cx s r run = Meets k cx s (IsOperand k s) (operand_at k s) r run

-- a call that gives an expression with the statements that belong to it
abbrev pub IsApart : Known → Work → List AirRef × Operand → Type 0
IsApart k s (rs, o) = AreBelow (length s.body.nodes) rs × IsOperand k s o

abbrev pub apart_at : Known → Work → List AirRef × Operand → List Statement × AnyOperand
apart_at k s (rs, o) = (map (statement_of (air_at k s.body.nodes)) rs, operand_at k s o)

-- a type that is asked for
abbrev pub want_at : Known → Option Index → Option Ty
want_at k want = option_map (ty_at k) want

-- the answer is that a shard is full
abbrev pub halts_full : {C : Type 0} → Result C Halt → Bool
halts_full (Err (halt.Full shard)) = true
halts_full _ = false

-- ---- how a question ends

-- the answer that a question has behind these moves: one that it had before, or a new one, which is a move
pub data Heard (given : AnyAnswers) (t : Moves) (q : plain.Question) (a : plain.Answer) (t' : Moves) : Type 0 where
  again : recall plain.same_question t q ≡ Some a → t' ≡ t → Heard given t q a t'
  anew : recall plain.same_question t q ≡ None → given q ≡ Some a → t' ≡ t ++ asked q a ∷ [] → Heard given t q a t'

-- how a question is answered
abbrev pub HearsBy : Known → Answers → AnyAnswers → Moves → plain.Question → Moves → Result Answer Halt → Type 0
HearsBy k cx given t q t' (Ok a) =
    IsAnswer k a × Heard given t q (answer_at k (lines_of cx) a) t' × (plain.is_failure (answer_at k (lines_of cx) a) ≡ false)
HearsBy k cx given t q t' (Err (halt.Needs p)) =
    IsQuestion k p × (question_at k p ≡ q) × (recall plain.same_question t q ≡ None) × (given q ≡ None) × (t' ≡ t)
HearsBy k cx given t q t' (Err halt.Failed) = Heard given t q plain.failure t'
HearsBy k cx given t q t' (Err (halt.Full shard)) = Unit {0}
HearsBy k cx given t q t' (Err halt.OutOfMemory) = Unit {0}
HearsBy k cx given t q t' _ = ⊥

pub record Hears (k0 : Known) (cx : Answers) (s0 : Work) (q : plain.Question) (k : Known) (s : Work) (r : Result Answer Halt) : Type 0 where
  pub stands : StandsBy k cx s r
  pub body : s.body ≡ s0.body
  pub is : HearsBy k cx (hand k0 cx) (trace k0 cx s0) q (trace k cx s) r
