-- Results by levels: what comes to be known and done, one level after the other, where each level goes over the units that are known and sees the results of these alone.
--
-- Q are questions, A answers, U units and R results.
use Rattle.std.specs.Prelude.{◌≡◌, ℕ, zero, suc, ◌+◌, ◌*◌, Bool, true, List, [], ◌∷◌, ◌++◌, ◌↔◌, Option, None, if◌then◌else◌, option_to_list, flat_map}
use Rattle.std.specs.List.{list_any, Contains}
use Rattle.question_runs.specs.Runs.{Run, ends, fails, stops, goes, asked, referred}
use Rattle.question_runs.specs.Rounds.{Language, run_by, result_of}

module _ {Q A U R : Type 0} (l : Language Q A U R) where
  -- the language tells units apart: they are one exactly where it says so
  abbrev pub TellsUnits : Type 0
  TellsUnits = (u v : U) → (l.same_unit u v ≡ true) ↔ (u ≡ v)

  -- whether a unit is among some
  abbrev pub has_unit : List U → U → Bool
  has_unit us u = list_any (l.same_unit u) us

  -- units, and one more behind them unless it is there
  abbrev pub with_unit : List U → U → List U
  with_unit known u = if has_unit known u then known else known ++ u ∷ []

  -- units, and more behind them, each unless it is there
  abbrev pub with_units : List U → List U → List U
  with_units known [] = known
  with_units known (u ∷ us) = with_units (with_unit known u) us

  -- the units that a run meets, in order: those whose results it asks for, the one that it stops at among them, and those that it refers to
  abbrev pub met_in : Run Q A U R → List U
  met_in (ends r) = []
  met_in fails = []
  met_in (stops q) = option_to_list (l.unit_asked q)
  met_in (goes (asked q a) r) = option_to_list (l.unit_asked q) ++ met_in r
  met_in (goes (referred u) r) = u ∷ met_in r

  abbrev mutual
    -- the units that are known at a level: the roots at first, and at each further level also what the runs of known ones meet
    pub units_at : (Q → A) → List U → ℕ → List U
    units_at files roots zero = with_units [] roots
    units_at files roots (suc n) = with_units (units_at files roots n) (flat_map (λ u. met_in (run_by l files (result_at files roots n) u)) (units_at files roots n))

    -- the results at a level: those that the runs of known units gave in the level before
    pub result_at : (Q → A) → List U → ℕ → U → Option R
    result_at files roots zero u = None
    result_at files roots (suc n) u = if has_unit (units_at files roots n) u then result_of l (run_by l files (result_at files roots n) u) else None

  -- the run of a unit with the results of a level
  abbrev pub run_at_level : (Q → A) → List U → ℕ → U → Run Q A U R
  run_at_level files roots n u = run_by l files (result_at files roots n) u

  -- a settled level: the next one has no further unit, and no further result of a known one
  pub record IsSettled (files : Q → A) (roots : List U) (n : ℕ) : Type 0 where
    pub known : units_at files roots (suc n) ≡ units_at files roots n
    pub finished : (u : U) → Contains (units_at files roots n) u → result_at files roots (suc n) u ≡ result_at files roots n u

-- the level at which nothing changes any more, where at most so many units are known at it: each level before that changes something brings a unit, or a unit's result
abbrev pub last_level : ℕ → ℕ
last_level most = 2 * most + 1
