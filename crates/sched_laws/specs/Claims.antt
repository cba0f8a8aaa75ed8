-- How often a unit is claimed.
--
-- Q are questions, A answers, U units and R results.
use Rattle.std.specs.Prelude.{◌≡◌, ℕ, suc, ◌+◌, ◌≤◌, Bool, false, List, [], ◌∷◌, length, Option, Some, None, if◌then◌else◌}
use Rattle.std.specs.List.{Contains, IsDistinct}
use Rattle.question_runs.specs.Runs.{Asks}
use Rattle.question_runs.specs.Rounds.{Language}
use Rattle.question_runs.specs.Kept.{KeptUnit}
use Rattle.sched_core.specs.declared.event.Kind.TheVariants as kind
use Rattle.sched_core.specs.declared.event.Event.{Event}
use Rattle.sched_core.specs.declared.event.Stand.{Stand}
use Rattle.sched_core.specs.declared.event.Event.TheVariants as event
use Rattle.sched_core.specs.Machine.{is_claimed_by, stand, replay}
use Rattle.sched_laws.specs.Honest.{run_in}
use Rattle.sched_laws.specs.Laws.{IsUpdate}

-- whether the unit that stands so is claimed by the worker
abbrev pub is_had_by : {U R : Type 0} → ℕ → Option (Stand U R) → Bool
is_had_by w None = false
is_had_by w (Some x) = is_claimed_by w x

module _ {U R : Type 0} (same : U → U → Bool) where
  -- the claims of a unit for work
  abbrev pub works : U → List (Event U R) → ℕ
  works u [] = 0
  works u (event.Claim w v kind.Work ∷ past) = if same v u then suc (works u past) else works u past
  works u (_ ∷ past) = works u past

  -- the units that a unit needed, the last first
  abbrev pub needed : U → List (Event U R) → List U
  needed u [] = []
  needed u (event.Need w v on ∷ past) = if same v u then on ∷ needed u past else needed u past
  needed u (_ ∷ past) = needed u past

  -- how often a unit was taken back from its worker
  abbrev pub taken_back : U → List (Event U R) → ℕ
  taken_back u [] = 0
  taken_back u (event.Reclaim w ∷ past) = if is_had_by w (stand same (replay same past) u) then suc (taken_back u past) else taken_back u past
  taken_back u (_ ∷ past) = taken_back u past

-- a unit is claimed for work once at most, and once more for each unit that its run asks for and for each time that it was taken back
pub record HasFewClaims {Q A U R : Type 0} (l : Language Q A U R) (files : Q → A) (log : List (Event U R)) (u : U) : Type 0 where
  pub count : works l.same_unit u log ≤ suc (length (needed l.same_unit u log) + taken_back l.same_unit u log)
  pub distinct : IsDistinct l.same_unit (needed l.same_unit u log)
  pub asked_for : (v : U) → Contains (needed l.same_unit u log) v → (q : Q) × (Asks (run_in l files (replay l.same_unit log) u) q × (l.unit_asked q ≡ Some v))

abbrev pub ClaimsFew : (Q A U R : Type 0) → Type 0
ClaimsFew Q A U R = (l : Language Q A U R) (files : Q → A) (roots : List U) (kept : List (KeptUnit Q A U R)) (log : List (Event U R)) → IsUpdate l files roots kept log → (u : U) → HasFewClaims l files log u
