-- What holds of kept units in every language. Q are questions, A answers, U units and R results.
use Rattle.std.specs.Prelude.{◌≡◌, ◌≢◌, ℕ, List, ◌⊎◌, Some}
use Rattle.std.specs.List.{Contains}
use Rattle.question_runs.specs.Runs.{Answers}
use Rattle.question_runs.specs.Rounds.{Language, now, result_of, round, run_at}
use Rattle.question_runs.specs.Kept.{KeptUnit, IsKept, Clean}

-- of two answers it is known whether they are one: they are compared whole
abbrev pub IsCompared : Type 0 → Type 0
IsCompared A = (a b : A) → (a ≡ b) ⊎ (a ≢ b)

-- the kept run is the unit's run in some round now, and has the kept result
pub record Serves {Q A U R : Type 0} (l : Language Q A U R) (files : Q → A) (k : KeptUnit Q A U R) : Type 0 where
  pub level : ℕ
  pub runs : run_at l files level k.unit ≡ k.ran
  pub ended : result_of l k.ran ≡ Some k.result

module _ (Q A U R : Type 0) where
  -- a clean unit's kept run and result serve again
  abbrev pub CleanServes : Type 0
  CleanServes = (l : Language Q A U R) (files : Q → A) (kept : List (KeptUnit Q A U R)) → IsCompared A → IsKept l kept → (k : KeptUnit Q A U R) → Clean l files kept k → Serves l files k

  -- so do those of a kept unit whose answers are all the same now
  abbrev pub SameServes : Type 0
  SameServes = (l : Language Q A U R) (files : Q → A) (kept : List (KeptUnit Q A U R)) → IsKept l kept → (k : KeptUnit Q A U R) → Contains kept k → (n : ℕ) → Answers (now l files (round l files n)) k.ran → Serves l files k
