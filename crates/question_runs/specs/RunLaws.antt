-- What holds of the run of every program, whatever it asks. Q are questions, A answers, U units and R results.
use Rattle.std.specs.Prelude.{◌≡◌, true, List, [], ◌∷◌, ◌++◌, ◌↔◌, Option, Some, None, ⊤}
use Rattle.question_runs.specs.Programs.{Prog, bind}
use Rattle.question_runs.specs.Runs.{Move, asked, referred, Run, ends, fails, stops, goes, Setting, recall, unless, run, nothing, behind, trace_of, Asks, IsOver, Answers, Gives, IsRunOf}

-- whoever has the answers of one has them of the other
abbrev pub Lower : {Q A : Type 0} → (Q → Option A) → (Q → Option A) → Type 0
Lower {Q} {A} few more = (q : Q) (a : A) → few q ≡ Some a → more q ≡ Some a

-- a question is the same as itself
abbrev pub IsReflexive : {Q A : Type 0} → Setting Q A → Type 0
IsReflexive {Q} {A} s = (q : Q) → s.same q q ≡ true

-- where a run ends, how it goes on with its moves and its result
abbrev pub on_end : {Q A U R S : Type 0} → List (Move Q A U) → Run Q A U R → (List (Move Q A U) → R → Run Q A U S) → Run Q A U S
on_end moves (ends r) next = next moves r
on_end moves fails next = fails
on_end moves (stops q) next = stops q
on_end moves (goes m r) next = goes m (on_end (moves ++ m ∷ []) r next)

-- the run asks the question first
abbrev pub AsksFirst : {Q A U R : Type 0} → Run Q A U R → Q → Type 0
AsksFirst (ends r) q = ⊥
AsksFirst fails q = ⊥
AsksFirst (stops p) q = p ≡ q
AsksFirst (goes (asked p a) r) q = p ≡ q
AsksFirst (goes (referred u) r) q = ⊥

-- the later run makes the moves of the earlier one, and goes on where that one stops for want of an answer
abbrev pub Continues : {Q A U R : Type 0} → Run Q A U R → Run Q A U R → Type 0
Continues (ends r) later = later ≡ ends r
Continues fails later = later ≡ fails
Continues (stops q) later = AsksFirst later q
Continues {Q} {A} {U} {R} (goes m r) later = (rest : Run Q A U R) × ((later ≡ goes m rest) × Continues r rest)

-- no question of the run was asked among these moves, or earlier in the run
abbrev pub AsksAnew : {Q A U R : Type 0} → Setting Q A → List (Move Q A U) → Run Q A U R → Type 0
AsksAnew s moves (ends r) = ⊤
AsksAnew s moves fails = ⊤
AsksAnew s moves (stops q) = recall s.same moves q ≡ None
AsksAnew s moves (goes (asked q a) r) = (recall s.same moves q ≡ None) × AsksAnew s (moves ++ asked q a ∷ []) r
AsksAnew s moves (goes (referred u) r) = AsksAnew s (moves ++ referred u ∷ []) r

-- a run begins with these moves, and then asks the question, which has the answer at hand, if there is one
pub record BeginsWith {Q A U R : Type 0} (whole : Run Q A U R) (given : Q → Option A) (t : List (Move Q A U)) (q : Q) : Type 0 where
  pub rest : Run Q A U R
  pub is : whole ≡ behind t rest
  pub asks : AsksFirst rest q
  pub stop : given q ≡ None → rest ≡ stops q

module _ (Q A U R : Type 0) where
  -- the answers of a run are those at hand, and it asks each question once
  pub record RunsHonestly : Type 0 where
    pub answers : (s : Setting Q A) (p : Prog Q A U R) (moves : List (Move Q A U)) (given : Q → Option A) → Answers given (run s given moves p)
    pub anew : (s : Setting Q A) (p : Prog Q A U R) (moves : List (Move Q A U)) (given : Q → Option A) → AsksAnew s moves (run s given moves p)

  -- a run depends on the answers in it alone: a run of the program with some answers is its run with others exactly where its answers are those
  abbrev pub RunsByAnswers : Type 0
  RunsByAnswers = (s : Setting Q A) (p : Prog Q A U R) (r : Run Q A U R) (given : Q → Option A) → (IsRunOf s p r × Answers given r) ↔ (run s given [] p ≡ r)

  -- more answers keep a run that is over
  abbrev pub MoreAnswers : Type 0
  MoreAnswers = (s : Setting Q A) (p : Prog Q A U R) (moves : List (Move Q A U)) (few more : Q → Option A) → Lower few more → IsOver (run s few moves p) → run s more moves p ≡ run s few moves p

  -- a run goes on in the moves of another, where each answer that it has at hand to a question of that one is the other's too
  abbrev pub OtherAnswers : Type 0
  OtherAnswers = (s : Setting Q A) (p : Prog Q A U R) (moves : List (Move Q A U)) (few more : Q → Option A) → ((q : Q) (a : A) → Asks (run s more moves p) q → few q ≡ Some a → more q ≡ Some a) → Continues (run s few moves p) (run s more moves p)

  -- a run of the program whose answers are at hand is a first part of its run now: where it stops for want of an answer there may be one now
  abbrev pub GoesOn : Type 0
  GoesOn = (s : Setting Q A) (p : Prog Q A U R) (r : Run Q A U R) (given : Q → Option A) → IsRunOf s p r → Gives given (trace_of r) → Continues r (run s given [] p)

  -- as far as the answers of a run are at hand, the program makes the same moves; then it asks the same question
  abbrev pub FirstParts : Type 0
  FirstParts = (s : Setting Q A) (p : Prog Q A U R) (t : List (Move Q A U)) (r : Run Q A U R) (q : Q) (given : Q → Option A) → IsRunOf s p (behind t r) → AsksFirst r q → Gives given t → BeginsWith (run s given [] p) given t q

  -- the answers of a trace lead the program along it, up to the question behind it
  abbrev pub TracesLead : Type 0
  TracesLead = (s : Setting Q A) → IsReflexive s → (p : Prog Q A U R) (t : List (Move Q A U)) (r : Run Q A U R) (q : Q) → IsRunOf s p (behind t r) → AsksFirst r q → run s (recall s.same t) [] p ≡ behind t (stops q)

  -- one turn of a loop that answers: where a program stops with the moves before it alone, it goes on from the answer as it began
  abbrev pub OneTurn : Type 0
  OneTurn = (s : Setting Q A) → IsReflexive s → (p : Prog Q A U R) (moves : List (Move Q A U)) (given : Q → Option A) (q : Q) (a : A) → run s nothing moves p ≡ stops q → given q ≡ Some a → run s given moves p ≡ goes (asked q a) (unless (s.failing a) (run s given (moves ++ asked q a ∷ []) p))

-- the run of one program and then another is the run of the first, and from its end that of the other
abbrev pub OneThenAnother : (Q A U R S : Type 0) → Type 0
OneThenAnother Q A U R S = (s : Setting Q A) (p : Prog Q A U R) (next : R → Prog Q A U S) (moves : List (Move Q A U)) (given : Q → Option A) → run s given moves (bind p next) ≡ on_end moves (run s given moves p) (λ now r. run s given now (next r))
