-- A small update: unit 0 refers to unit 2 and asks for the result of unit 1, which is 5; units 2 and 3 ask for each other. Two workers come to its end in fourteen events.
use Rattle.std.specs.Prelude.{◌≡◌, ℕ, zero, suc, false, nat_eq, List, [], ◌∷◌, Some}
use Rattle.question_runs.specs.Programs.{Prog, done, ask, refer}
use Rattle.question_runs.specs.Rounds.{Language}
use Rattle.sched_core.specs.declared.event.Kind.TheVariants as kind
use Rattle.sched_core.specs.declared.event.Event.{Event}
use Rattle.sched_core.specs.declared.event.Event.TheVariants as event
use Rattle.sched_core.specs.declared.event.Stand.TheVariants as at
use Rattle.sched_core.specs.Machine.{replay}
use Rattle.sched_laws.specs.Laws.{IsUpdate, IsAtRest}

-- what each unit does; a question is the unit whose result it asks for
abbrev pub example_elab : ℕ → Prog ℕ ℕ ℕ ℕ
example_elab zero = refer 2 (ask 1 (λ a. done a))
example_elab (suc zero) = done 5
example_elab (suc (suc zero)) = ask 3 (λ a. done a)
example_elab (suc (suc (suc n))) = ask 2 (λ a. done a)

abbrev pub example : Language ℕ ℕ ℕ ℕ
example = record {
  setting = record { same = nat_eq; failing = λ a. false };
  elab = example_elab;
  unit_asked = λ q. Some q;
  answer_of = λ r. r;
  failed = 0;
  same_unit = nat_eq;
}

-- the newest event first
abbrev pub example_log : List (Event ℕ ℕ)
example_log =
    event.Need 2 3 2 ∷ event.Claim 2 3 kind.Work ∷ event.Need 2 2 3 ∷ event.Demand 3 ∷ event.Finish 1 0 5 ∷ event.Claim 2 2 kind.Work ∷ event.Claim 1 0 kind.Work
    ∷ event.Finish 1 1 5 ∷ event.Claim 1 1 kind.Work ∷ event.Need 1 0 1 ∷ event.Demand 1 ∷ event.Demand 2 ∷ event.Claim 1 0 kind.Work ∷ event.Demand 0 ∷ []

-- such a log is there, and comes to rest with two results and two units that wait for each other
pub record ExampleHolds : Type 0 where
  pub update : IsUpdate example (λ q. 0) (0 ∷ []) [] example_log
  pub at_rest : IsAtRest example (λ q. 0) (0 ∷ []) (replay nat_eq example_log)
  pub ends : replay nat_eq example_log ≡ (0, at.Done 5) ∷ (2, at.Waiting 3) ∷ (1, at.Done 5) ∷ (3, at.Waiting 2) ∷ []
