-- What holds of results by levels in every language that tells units apart. Q are questions, A answers, U units and R results.
use Rattle.std.specs.Prelude.{◌≡◌, ℕ, ◌≤◌, ◌<◌, List, length}
use Rattle.question_runs.specs.Rounds.{Language}
use Rattle.question_runs.specs.RestLaws.{IsWhole}
use Rattle.unit_levels.specs.Levels.{TellsUnits, units_at, result_at, IsSettled, last_level}

-- one level has the known units of another, in the same order, and its results
pub record SameLevel {Q A U R : Type 0} (l : Language Q A U R) (files : Q → A) (roots : List U) (m n : ℕ) : Type 0 where
  pub known : units_at l files roots m ≡ units_at l files roots n
  pub results : (u : U) → result_at l files roots m u ≡ result_at l files roots n u

module _ (Q A U R : Type 0) where
  -- after a settled level nothing changes any more
  abbrev pub SettledStays : Type 0
  SettledStays = (l : Language Q A U R) (files : Q → A) (roots : List U) (n m : ℕ) → TellsUnits l → IsSettled l files roots n → n ≤ m → SameLevel l files roots m n

  -- each settled level with at most so many units is the last one
  abbrev pub LevelsMeet : Type 0
  LevelsMeet = (l : Language Q A U R) (files : Q → A) (roots : List U) (most n : ℕ) → TellsUnits l → IsSettled l files roots n → length (units_at l files roots n) ≤ most → SameLevel l files roots (last_level most) n

  -- where more than so many units are known at some level, more are known at the last one
  abbrev pub ManyShow : Type 0
  ManyShow = (l : Language Q A U R) (files : Q → A) (roots : List U) (most n : ℕ) → TellsUnits l → most < length (units_at l files roots n) → most < length (units_at l files roots (last_level most))

  -- where at most so many units are known at the last level, they are the demanded ones, with all their results
  abbrev pub LevelsAreWhole : Type 0
  LevelsAreWhole = (l : Language Q A U R) (files : Q → A) (roots : List U) (most : ℕ) → TellsUnits l → length (units_at l files roots (last_level most)) ≤ most → IsWhole l files roots (units_at l files roots (last_level most)) (result_at l files roots (last_level most))
