-- What contracts see of a machine.
use Rattle.std.specs.Prelude.{ℕ, List}
use Rattle.sched_core.specs.declared.event.Event.{Event}

pub record LogWithRoom : Type 0 where
  -- the events, the newest first
  pub log : List (Event ℕ ℕ)
  -- so many more units can become known without taking memory
  pub spare_units : ℕ
  -- so many more events can be taken without taking memory
  pub spare_events : ℕ
