-- The scheduling machine: which events may happen when, and what each changes. U are units and R results; workers are numbers.
--
-- | Event                | May happen where                                      | Changes                                               |
-- |----------------------|-------------------------------------------------------|-------------------------------------------------------|
-- | Demand unit          | the unit is not known, and there is room for it       | it is queued                                          |
-- | Claim worker unit    | the unit is queued, and the worker has none           | the worker has it                                     |
-- | Need worker unit on  | the worker has the unit, and `on` is known            | it waits for `on`; it is queued where `on` is done    |
-- | Finish worker unit   | the worker has the unit                               | it is done, and each unit that waits for it is queued |
-- | Reclaim worker       | the worker has a unit                                 | that unit is queued                                   |
use Rattle.std.specs.Prelude.{◌≡◌, ℕ, ◌<◌, ◌++◌, Bool, true, false, nat_eq, List, [], ◌∷◌, length, ⊤, Option, Some, None, IsSome, is_some, if◌then◌else◌}
use Rattle.std.specs.Option.{option_and_then}
use Rattle.sched_core.specs.declared.event.TheConstants.{MOST_UNITS}
use Rattle.sched_core.specs.declared.event.Event.{Event}
use Rattle.sched_core.specs.declared.event.Stand.{Stand}
use Rattle.sched_core.specs.declared.event.Event.TheVariants as event
use Rattle.sched_core.specs.declared.event.Stand.TheVariants as at

-- the known units with their stands, in the order in which they were demanded
abbrev pub Schedule : Type 0 → Type 0 → Type 0
Schedule U R = List (U × Stand U R)

-- the result of a unit that is done
abbrev pub result_at : {U R : Type 0} → Stand U R → Option R
result_at (at.Done r) = Some r
result_at _ = None

-- whether the worker has the unit that stands so
abbrev pub is_claimed_by : {U R : Type 0} → ℕ → Stand U R → Bool
is_claimed_by w (at.Claimed v) = nat_eq v w
is_claimed_by w _ = false

-- each stand changed by itself
abbrev pub change : {U R : Type 0} → (U → Stand U R → Stand U R) → Schedule U R → Schedule U R
change f [] = []
change f (p ∷ s) = (p.0, f p.0 p.1) ∷ change f s

-- the test tells which units are one
pub record IsSameness {U : Type 0} (same : U → U → Bool) : Type 0 where
  pub sound : (u v : U) → same u v ≡ true → u ≡ v
  pub self : (u : U) → same u u ≡ true

module _ {U R : Type 0} (same : U → U → Bool) where
  -- where a unit stands; none where it is not known
  abbrev pub stand : Schedule U R → U → Option (Stand U R)
  stand [] u = None
  stand (p ∷ s) u = if same p.0 u then Some p.1 else stand s u

  abbrev pub IsKnown : Schedule U R → U → Type 0
  IsKnown s u = IsSome (stand s u)

  -- the result of a unit that is done
  abbrev pub done_in : Schedule U R → U → Option R
  done_in s u = option_and_then result_at (stand s u)

  -- whether a unit that stands so waits for this one
  abbrev pub is_waiting_for : U → Stand U R → Bool
  is_waiting_for u (at.Waiting v) = same v u
  is_waiting_for u _ = false

  -- which events may happen
  abbrev pub Enabled : Schedule U R → Event U R → Type 0
  Enabled s (event.Demand u) = (stand s u ≡ None) × (length s < MOST_UNITS)
  Enabled s (event.Claim w u kind) = (stand s u ≡ Some at.Queued) × ((v : U) → stand s v ≡ Some (at.Claimed w) → ⊥)
  Enabled s (event.Need w u on) = (stand s u ≡ Some (at.Claimed w)) × IsKnown s on
  Enabled s (event.Finish w u r) = stand s u ≡ Some (at.Claimed w)
  Enabled s (event.Reclaim w) = (u : U) × (stand s u ≡ Some (at.Claimed w))

  -- what an event makes of the stand of one known unit
  abbrev pub moved : Schedule U R → Event U R → U → Stand U R → Stand U R
  moved s (event.Demand u) v x = x
  moved s (event.Claim w u kind) v x = if same v u then at.Claimed w else x
  moved s (event.Need w u on) v x = if same v u then (if is_some (done_in s on) then at.Queued else at.Waiting on) else x
  moved s (event.Finish w u r) v x = if same v u then at.Done r else (if is_waiting_for u x then at.Queued else x)
  moved s (event.Reclaim w) v x = if is_claimed_by w x then at.Queued else x

  -- the schedule after an event
  abbrev pub after : Schedule U R → Event U R → Schedule U R
  after s (event.Demand u) = s ++ (u, at.Queued) ∷ []
  after s e = change (moved s e) s

  -- the schedule after the events of a log, which has its newest event first
  abbrev pub replay : List (Event U R) → Schedule U R
  replay [] = []
  replay (e ∷ past) = after (replay past) e

  -- each event of the log might happen where it did
  abbrev pub IsLog : List (Event U R) → Type 0
  IsLog [] = ⊤
  IsLog (e ∷ past) = Enabled (replay past) e × IsLog past
