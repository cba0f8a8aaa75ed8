-- What contracts see of a buffer of bytes.
use Rattle.std.specs.Prelude.{ℕ, List}

-- the bytes, and how many more it takes without asking for memory
pub record Buffer : Type 0 where
  pub bytes : List ℕ
  pub spare : ℕ
