-- Runs: what a program does with given answers, move by move, up to its end or to the first question without an answer.
use Rattle.std.specs.Prelude.{◌≡◌, Bool, true, false, List, [], ◌∷◌, ◌++◌, ◌⊎◌, Option, Some, None, if◌then◌else◌, ⊤}
use Rattle.question_runs.specs.Programs.{Prog, done, ask, refer}

-- one thing that a program has done: it was answered a question, or it referred to a unit
pub data Move (Q A U : Type 0) : Type 0 where
  asked : Q → A → Move Q A U
  referred : U → Move Q A U

-- the moves of a run in order, and how it stands at its end
pub data Run (Q A U R : Type 0) : Type 0 where
  -- with a result
  ends : R → Run Q A U R
  -- without one: the answer that it was given last, or was given again, fails whoever asks
  fails : Run Q A U R
  -- at a question that has no answer
  stops : Q → Run Q A U R
  -- a move, and what follows
  goes : Move Q A U → Run Q A U R → Run Q A U R

-- when two questions are one, and which answers fail whoever asks
pub record Setting (Q A : Type 0) : Type 0 where
  pub same : Q → Q → Bool
  pub failing : A → Bool

-- the answer that a question was given among these moves
abbrev pub recall : {Q A U : Type 0} → (Q → Q → Bool) → List (Move Q A U) → Q → Option A
recall same [] q = None
recall same (asked p a ∷ moves) q = if same p q then Some a else recall same moves q
recall same (referred u ∷ moves) q = recall same moves q

-- how a run goes on with an answer
abbrev pub unless : {Q A U R : Type 0} → Bool → Run Q A U R → Run Q A U R
unless true rest = fails
unless false rest = rest

-- a question behind these moves: an answer that it had before serves again, without a move; else the one that is at hand, as a move
abbrev pub hears : {Q A U R : Type 0} → Setting Q A → List (Move Q A U) → Q → Option A → Option A → (A → List (Move Q A U) → Run Q A U R) → Run Q A U R
hears s moves q (Some a) hand rest = unless (s.failing a) (rest a moves)
hears s moves q None (Some a) rest = goes (asked q a) (unless (s.failing a) (rest a (moves ++ asked q a ∷ [])))
hears s moves q None None rest = stops q

-- what a program does behind these moves, with the answers at hand
abbrev pub run : {Q A U R : Type 0} → Setting Q A → (Q → Option A) → List (Move Q A U) → Prog Q A U R → Run Q A U R
run s given moves (done r) = ends r
run s given moves (ask q rest) = hears s moves q (recall s.same moves q) (given q) (λ a now. run s given now (rest a))
run s given moves (refer u p) = goes (referred u) (run s given (moves ++ referred u ∷ []) p)

-- no answers at hand, so that a run goes as far as the moves before it take it
abbrev pub nothing : {Q A : Type 0} → Q → Option A
nothing q = None

-- these moves, and then the run
abbrev pub behind : {Q A U R : Type 0} → List (Move Q A U) → Run Q A U R → Run Q A U R
behind [] r = r
behind (m ∷ moves) r = goes m (behind moves r)

-- the whole run of what has made these moves and has a program left
abbrev pub resumed : {Q A U R : Type 0} → Setting Q A → (Q → Option A) → List (Move Q A U) → Prog Q A U R → Run Q A U R
resumed s given moves p = behind moves (run s given moves p)

-- the trace: the moves of a run, in order
abbrev pub trace_of : {Q A U R : Type 0} → Run Q A U R → List (Move Q A U)
trace_of (ends r) = []
trace_of fails = []
trace_of (stops q) = []
trace_of (goes m r) = m ∷ trace_of r

-- the question that a run stops at
abbrev pub stop_of : {Q A U R : Type 0} → Run Q A U R → Option Q
stop_of (ends r) = None
stop_of fails = None
stop_of (stops q) = Some q
stop_of (goes m r) = stop_of r

-- whether the run asks the question, one that it stops at among them
abbrev pub Asks : {Q A U R : Type 0} → Run Q A U R → Q → Type 0
Asks (ends r) q = ⊥
Asks fails q = ⊥
Asks (stops p) q = p ≡ q
Asks (goes (asked p a) r) q = (p ≡ q) ⊎ Asks r q
Asks (goes (referred u) r) q = Asks r q

-- whether the run was given the answer to the question
abbrev pub WasGiven : {Q A U R : Type 0} → Run Q A U R → Q → A → Type 0
WasGiven (ends r) q a = ⊥
WasGiven fails q a = ⊥
WasGiven (stops p) q a = ⊥
WasGiven (goes (asked p b) r) q a = ((p ≡ q) × (b ≡ a)) ⊎ WasGiven r q a
WasGiven (goes (referred u) r) q a = WasGiven r q a

-- a run that is over, with a result or by an answer that fails it
abbrev pub IsOver : {Q A U R : Type 0} → Run Q A U R → Type 0
IsOver (ends r) = ⊤
IsOver fails = ⊤
IsOver (stops q) = ⊥
IsOver (goes m r) = IsOver r

-- each answer of the run is the one at hand, and a question that it stops at has none there
abbrev pub Answers : {Q A U R : Type 0} → (Q → Option A) → Run Q A U R → Type 0
Answers given (ends r) = ⊤
Answers given fails = ⊤
Answers given (stops q) = given q ≡ None
Answers given (goes (asked q a) r) = (given q ≡ Some a) × Answers given r
Answers given (goes (referred u) r) = Answers given r

-- each answer among these moves is the one at hand
abbrev pub Gives : {Q A U : Type 0} → (Q → Option A) → List (Move Q A U) → Type 0
Gives given [] = ⊤
Gives given (asked q a ∷ moves) = (given q ≡ Some a) × Gives given moves
Gives given (referred u ∷ moves) = Gives given moves

-- a run of the program with some answers, which need not be anyone's now
abbrev pub IsRunOf : {Q A U R : Type 0} → Setting Q A → Prog Q A U R → Run Q A U R → Type 0
IsRunOf {Q} {A} s p r = (given : Q → Option A) × (run s given [] p ≡ r)
