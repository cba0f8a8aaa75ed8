-- What contracts see of files in memory.
use Rattle.std.specs.Prelude.{ℕ, List}
use Rattle.zw_base.specs.Plan.{Plan}

-- the files, as pairs of path and bytes, and the calls that are to fail
pub record HeldFiles : Type 0 where
  pub files : List (List ℕ × List ℕ)
  pub plan : Plan
