-- A round: the first so many of the known units were attempted, each with the results of the round's beginning. Q are questions, A answers, U units and R results.
use Rattle.std.specs.Prelude.{◌≡◌, ℕ, ◌<◌, Bool, true, false, List, Option, Some, None, IsSome, take, slice_get, flat_map, if◌then◌else◌}
use Rattle.std.specs.List.{Contains}
use Rattle.question_runs.specs.Runs.{Run}
use Rattle.question_runs.specs.Rounds.{Language, run_by, result_of, needs}
use Rattle.unit_levels.specs.Levels.{has_unit, with_units, met_in}

module _ {Q A U R : Type 0} (l : Language Q A U R) where
  -- how a unit stands behind its run: with a result it waits for nothing, and else for the unit with this number
  abbrev pub WaitsSo : List U → Run Q A U R → Option ℕ → Type 0
  WaitsSo known r None = IsSome (result_of l r)
  WaitsSo known r (Some j) = (v : U) × (slice_get known j ≡ Some v) × (needs l r ≡ Some v)

  -- all that a run meets is known
  abbrev pub Knows : List U → Run Q A U R → Type 0
  Knows known r = (v : U) → Contains (met_in l r) v → Contains known v

-- Known units as they stand at a round's beginning. A unit with a result, and one that waits for a unit without one, need no attempt: what their runs give and meet is there.
pub record StandSo {Q A U R : Type 0} (l : Language Q A U R) (files : Q → A) (results : U → Option R) (known : List U) (waits : List (Option ℕ)) : Type 0 where
  pub outside : (u : U) → has_unit l known u ≡ false → results u ≡ None
  pub over : (u : U) (r : R) → Contains known u → results u ≡ Some r → (result_of l (run_by l files results u) ≡ Some r) × Knows l known (run_by l files results u)
  pub clear : (i : ℕ) (u : U) (w : Option ℕ) (r : R) → slice_get known i ≡ Some u → slice_get waits i ≡ Some w → results u ≡ Some r → w ≡ None
  pub waiting : (i j : ℕ) (u : U) → slice_get known i ≡ Some u → slice_get waits i ≡ Some (Some j)
      → (v : U) × (slice_get known j ≡ Some v) × (results v ≡ None → (needs l (run_by l files results u) ≡ Some v) × Knows l known (run_by l files results u))

-- The units, the results and what units wait for, once the first `count` of the units that were known at the beginning were attempted; `moved` tells whether one of them gave a result
pub record IsRound {Q A U R : Type 0} (l : Language Q A U R) (files : Q → A) (results : U → Option R) (known : List U) (count : ℕ) (moved : Bool) (now : List U) (waiting : List (Option ℕ)) (done : U → Option R) : Type 0 where
  pub units : now ≡ with_units l known (flat_map (λ u. met_in l (run_by l files results u)) (take count known))
  pub given : (u : U) → done u ≡ (if has_unit l (take count known) u then result_of l (run_by l files results u) else results u)
  pub waits : (i : ℕ) (u : U) → i < count → slice_get known i ≡ Some u → (w : Option ℕ) × (slice_get waiting i ≡ Some w) × WaitsSo l now (run_by l files results u) w
  pub still : moved ≡ false → (u : U) → Contains (take count known) u → result_of l (run_by l files results u) ≡ results u
  pub some : moved ≡ true → (u : U) × (r : R) × Contains known u × (results u ≡ None) × (result_of l (run_by l files results u) ≡ Some r)
