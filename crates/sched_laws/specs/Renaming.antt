-- A log over numbers of units and results is one over the units and results that they name.
--
-- N are numbers of units and M of results, or whatever else names them; U are units and R results.
use Rattle.std.specs.Prelude.{◌≡◌, Bool, List, map}
use Rattle.sched_core.specs.declared.event.Event.{Event}
use Rattle.sched_core.specs.declared.event.Stand.{Stand}
use Rattle.sched_core.specs.declared.event.Event.TheVariants as event
use Rattle.sched_core.specs.declared.event.Stand.TheVariants as at
use Rattle.sched_core.specs.Machine.{Schedule, IsSameness, IsKnown, replay, IsLog}

module _ {N M U R : Type 0} (unit : N → U) (outcome : M → R) where
  abbrev pub stand_named : Stand N M → Stand U R
  stand_named at.Queued = at.Queued
  stand_named (at.Claimed w) = at.Claimed w
  stand_named (at.Waiting n) = at.Waiting (unit n)
  stand_named (at.Done m) = at.Done (outcome m)

  abbrev pub event_named : Event N M → Event U R
  event_named (event.Demand n) = event.Demand (unit n)
  event_named (event.Claim w n kind) = event.Claim w (unit n) kind
  event_named (event.Need w n on) = event.Need w (unit n) (unit on)
  event_named (event.Finish w n m) = event.Finish w (unit n) (outcome m)
  event_named (event.Reclaim w) = event.Reclaim w

  abbrev pub schedule_named : Schedule N M → Schedule U R
  schedule_named s = map (λ p. (unit p.0, stand_named p.1)) s

  -- the names tell the known units apart
  abbrev pub TellsApart : (N → N → Bool) → (U → U → Bool) → Schedule N M → Type 0
  TellsApart same same_unit s = (n m : N) → IsKnown same s n → IsKnown same s m → same_unit (unit n) (unit m) ≡ same n m

-- so the log of the units is as possible, and its replay is the named one
pub record IsNamedLog {N M U R : Type 0} (unit : N → U) (outcome : M → R) (same : N → N → Bool) (same_unit : U → U → Bool) (log : List (Event N M)) : Type 0 where
  pub possible : IsLog same_unit (map (event_named unit outcome) log)
  pub schedule : replay same_unit (map (event_named unit outcome) log) ≡ schedule_named unit outcome (replay same log)

abbrev pub Renaming : (N M U R : Type 0) → Type 0
Renaming N M U R = (unit : N → U) (outcome : M → R) (same : N → N → Bool) (same_unit : U → U → Bool) (log : List (Event N M)) → IsSameness same → IsLog same log → TellsApart unit outcome same same_unit (replay same log) → IsNamedLog unit outcome same same_unit log
