-- What holds of results by rounds in every language. Q are questions, A answers, U units and R results.
use Rattle.std.specs.Prelude.{◌≡◌, ℕ, ◌≤◌, List, ◌↔◌, Option, Some, None}
use Rattle.std.specs.List.{Contains}
use Rattle.question_runs.specs.RunLaws.{Continues}
use Rattle.question_runs.specs.Rounds.{Language, run_by, result_of, needs, Meets, round, run_at, Demanded, Stuck}

module _ {Q A U R : Type 0} (l : Language Q A U R) (files : Q → A) where
  -- one function with all results: a unit has the one that some round gives it, and none where no round does
  abbrev pub HasAllResults : (U → Option R) → Type 0
  HasAllResults results = (u : U) (r : R) → (results u ≡ Some r) ↔ ((n : ℕ) × (round l files n u ≡ Some r))

  -- the least set that has the roots and all that the runs of its members meet, with these results
  pub data DemandedBy (results : U → Option R) (roots : List U) : U → Type 0 where
    by_root : {u : U} → Contains roots u → DemandedBy results roots u
    by_run : {u v : U} → DemandedBy results roots u → Meets l (run_by l files results u) v → DemandedBy results roots v

  -- what that function of results says of results, demanded units and stuck units
  pub record Together (results : U → Option R) : Type 0 where
    pub fixed : (u : U) → results u ≡ result_of l (run_by l files results u)
    pub demanded : (roots : List U) (u : U) → Demanded l files roots u ↔ DemandedBy results roots u
    pub stuck : (roots : List U) (u v : U) → Stuck l files roots u v ↔ (DemandedBy results roots u × (results u ≡ None) × (needs l (run_by l files results u) ≡ Some v))

module _ (Q A U R : Type 0) where
  -- a result that a round gives stays at every later round
  abbrev pub RoundsGrow : Type 0
  RoundsGrow = (l : Language Q A U R) (files : Q → A) (n m : ℕ) (u : U) (r : R) → n ≤ m → round l files n u ≡ Some r → round l files m u ≡ Some r

  -- and its run goes on in each later one
  abbrev pub RoundRunsGrow : Type 0
  RoundRunsGrow = (l : Language Q A U R) (files : Q → A) (n m : ℕ) (u : U) → n ≤ m → Continues (run_at l files n u) (run_at l files m u)

  -- so the rounds can be read as one function of results
  abbrev pub RoundsTogether : Type 0
  RoundsTogether = (l : Language Q A U R) (files : Q → A) (results : U → Option R) → HasAllResults l files results → Together l files results
