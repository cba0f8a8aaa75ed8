-- What an update keeps for the next one, and what of it is as it was.
use Rattle.std.specs.Prelude.{◌≡◌, ◌≢◌, ℕ, List, [], ◌⊎◌, Some, None}
use Rattle.std.specs.List.{Contains}
use Rattle.question_runs.specs.Runs.{Run, Asks, WasGiven}
use Rattle.question_runs.specs.Rounds.{Language, result_of, round, run_at, Demanded}

-- a kept unit: its result, and its run, which is its trace with the units that it referred to
pub record KeptUnit (Q A U R : Type 0) : Type 0 where
  pub unit : U
  pub result : R
  pub ran : Run Q A U R

module _ {Q A U R : Type 0} (l : Language Q A U R) where
  -- what an update of these files keeps: all demanded units that some round gives a result, with their runs
  pub record KeptAfter (files : Q → A) (roots : List U) (kept : List (KeptUnit Q A U R)) : Type 0 where
    pub demanded : (k : KeptUnit Q A U R) → Contains kept k → Demanded l files roots k.unit
    pub ran : (k : KeptUnit Q A U R) → Contains kept k → (n : ℕ) × (run_at l files n k.unit ≡ k.ran)
    pub ended : (k : KeptUnit Q A U R) → Contains kept k → result_of l k.ran ≡ Some k.result
    pub all : (u : U) (n : ℕ) (r : R) → Demanded l files roots u → round l files n u ≡ Some r → (k : KeptUnit Q A U R) × Contains kept k × (k.unit ≡ u)

  -- what a session may have kept: nothing, or what an update gave
  abbrev pub IsKept : List (KeptUnit Q A U R) → Type 0
  IsKept kept = (kept ≡ []) ⊎ ((files : Q → A) × ((roots : List U) × KeptAfter files roots kept))

  -- the suspect units: kept ones that asked something of the files that has another answer now, and those that asked for the result of a suspect one
  pub data Suspect (files : Q → A) (kept : List (KeptUnit Q A U R)) : U → Type 0 where
    changed : (k : KeptUnit Q A U R) → Contains kept k → (q : Q) (a : A) → WasGiven k.ran q a → l.unit_asked q ≡ None → a ≢ files q → Suspect files kept k.unit
    follows : (k : KeptUnit Q A U R) → Contains kept k → (q : Q) (u : U) → Asks k.ran q → l.unit_asked q ≡ Some u → Suspect files kept u → Suspect files kept k.unit

  -- a clean unit: a kept one that is not suspect
  pub record Clean (files : Q → A) (kept : List (KeptUnit Q A U R)) (k : KeptUnit Q A U R) : Type 0 where
    pub among : Contains kept k
    pub sound : Suspect files kept k.unit → ⊥
