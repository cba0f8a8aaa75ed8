-- The machine's tables: what is stored of each unit and each worker, and how the schedule is read from it. One event changes one entry of each at most.
use Rattle.std.specs.Prelude.{◌≡◌, ℕ, ◌+◌, ◌<◌, ◌≤◌, nat_eq, List, length, Option, Some, None, IsSome, is_some, is_none, Bool, true, false, ◌&&◌, nat_lt, ◌↔◌, if◌then◌else◌}
use Rattle.std.specs.Option.{option_map, option_and_then}
use Rattle.sched_core.specs.declared.event.TheConstants.{MOST_UNITS}
use Rattle.sched_core.specs.declared.event.Event.{Event}
use Rattle.sched_core.specs.declared.event.Stand.{Stand}
use Rattle.sched_core.specs.declared.event.Event.TheVariants as event
use Rattle.sched_core.specs.declared.event.Stand.TheVariants as at
use Rattle.sched_core.specs.Machine.{result_at, stand, replay, IsLog}

-- what is stored of each unit
abbrev pub Stands : Type 0
Stands = ℕ → Option (Stand ℕ ℕ)

-- the unit that each worker has, of those workers that ever had one
abbrev pub Claims : Type 0
Claims = ℕ → Option (Option ℕ)

-- a table with one more or another entry
abbrev pub put : {X : Type 0} → (ℕ → Option X) → ℕ → X → ℕ → Option X
put table k x q = if nat_eq k q then Some x else table q

-- a stored stand as it is read: a unit that waits for one that is done is queued, so that a finish needs to change no other entry
abbrev pub as_read : Stands → Stand ℕ ℕ → Stand ℕ ℕ
as_read stands (at.Waiting on) = if is_some (option_and_then result_at (stands on)) then at.Queued else at.Waiting on
as_read stands x = x

-- where a unit stands by the table
abbrev pub read : Stands → ℕ → Option (Stand ℕ ℕ)
read stands u = option_map (as_read stands) (stands u)

-- the unit that a worker has
abbrev pub unit_of : Claims → ℕ → Option ℕ
unit_of claims w = option_and_then (λ u. u) (claims w)

-- the table with another entry for a unit that a worker had
abbrev pub put_back : Stands → Option ℕ → Stands
put_back stands None = stands
put_back stands (Some u) = put stands u at.Queued

-- whether a unit stands so that it may be claimed
abbrev pub is_queued : Option (Stand ℕ ℕ) → Bool
is_queued (Some at.Queued) = true
is_queued _ = false

-- whether this unit is the one
abbrev pub is_unit : ℕ → Option ℕ → Bool
is_unit u None = false
is_unit u (Some v) = nat_eq v u

-- whether an event may happen, by the tables
abbrev pub is_possible : Stands → Claims → ℕ → Event ℕ ℕ → Bool
is_possible stands claims known (event.Demand u) = is_none (read stands u) && nat_lt known MOST_UNITS
is_possible stands claims known (event.Claim w u kind) = is_queued (read stands u) && is_none (unit_of claims w)
is_possible stands claims known (event.Need w u on) = is_unit u (unit_of claims w) && is_some (read stands on)
is_possible stands claims known (event.Finish w u r) = is_unit u (unit_of claims w)
is_possible stands claims known (event.Reclaim w) = is_some (unit_of claims w)

-- the units after an event
abbrev pub stands_after : Stands → Claims → Event ℕ ℕ → Stands
stands_after stands claims (event.Demand u) = put stands u at.Queued
stands_after stands claims (event.Claim w u kind) = put stands u (at.Claimed w)
stands_after stands claims (event.Need w u on) = put stands u (at.Waiting on)
stands_after stands claims (event.Finish w u r) = put stands u (at.Done r)
stands_after stands claims (event.Reclaim w) = put_back stands (unit_of claims w)

-- there is room for a unit that an event makes known, and an entry of each other that it speaks of
abbrev pub IsPlaced : Stands → Claims → ℕ → Event ℕ ℕ → Type 0
IsPlaced stands claims spare (event.Demand u) = (stands u ≡ None) × (0 < spare)
IsPlaced stands claims spare (event.Claim w u kind) = IsSome (stands u)
IsPlaced stands claims spare (event.Need w u on) = IsSome (stands u)
IsPlaced stands claims spare (event.Finish w u r) = IsSome (stands u)
IsPlaced stands claims spare (event.Reclaim w) = (u : ℕ) → unit_of claims w ≡ Some u → IsSome (stands u)

-- the workers after an event
abbrev pub claims_after : Claims → Event ℕ ℕ → Claims
claims_after claims (event.Demand u) = claims
claims_after claims (event.Claim w u kind) = put claims w (Some u)
claims_after claims (event.Need w u on) = put claims w None
claims_after claims (event.Finish w u r) = put claims w None
claims_after claims (event.Reclaim w) = put claims w None

-- how many units an event makes known
abbrev pub new_units : Event ℕ ℕ → ℕ
new_units (event.Demand u) = 1
new_units _ = 0

-- the tables say what the log gives
pub record Shows (stands : Stands) (claims : Claims) (known : ℕ) (log : List (Event ℕ ℕ)) : Type 0 where
  pub possible : IsLog nat_eq log
  pub stands_are : (u : ℕ) → read stands u ≡ stand nat_eq (replay nat_eq log) u
  pub known_are : known ≡ length (replay nat_eq log)
  pub claims_are : (w u : ℕ) → (stands u ≡ Some (at.Claimed w)) ↔ (claims w ≡ Some (Some u))

-- the room that is promised is there
pub record HasRoom (units events : ℕ) (spare_stands spare_claims in_log log_room : ℕ) : Type 0 where
  pub for_units : units ≤ spare_stands
  pub for_claims : events ≤ spare_claims
  pub for_log : in_log + events ≤ log_room
