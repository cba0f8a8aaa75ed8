-- What contracts see of a reader.
use Rattle.std.specs.Prelude.{ℕ, Option}
use Rattle.zw_base.specs.declared.limits.Limits.{Limits}
use Rattle.script_read.specs.declared.command.Refusal.{Refusal}

-- the limits; the number of the line where the next command begins; how many commands there were; and why there
-- are no more, once that is known
pub record ReaderState : Type 0 where
  pub limits : Limits
  pub line : ℕ
  pub commands : ℕ
  pub stopped : Option Refusal
