-- What a ticket says.
use Rattle.std.specs.Prelude.{ℕ}

-- a worker, and the unit that it was given
pub record Assignment : Type 0 where
  pub worker : ℕ
  pub unit : ℕ
