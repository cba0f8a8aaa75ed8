-- Units by indices, and the units that they denote.
use Rattle.std.specs.Prelude.{◌≡◌, ℕ, zero, suc, List, [], ◌∷◌, ◌++◌, map}
use Rattle.std.specs.List.{All}
use Rattle.type_form.specs.declared.index.Index.{Index}
use Rattle.type_form.specs.declared.unit.Unit.{Unit as AnyUnit}
use Rattle.type_form.specs.Known.{Known}
use Rattle.trace_log.specs.declared.question.UnitIndex.{UnitIndex}
use Rattle.trace_log.specs.declared.question.UnitIndex.TheVariants as index
use Rattle.trace_log.specs.Readings.{IsUnit, unit_at}

pub record DenotesUnit (k : Known) (u : UnitIndex) (x : AnyUnit) : Type 0 where
  pub known : IsUnit k u
  pub is : unit_at k u ≡ x

pub record DenoteUnits (k : Known) (us : List UnitIndex) (xs : List AnyUnit) : Type 0 where
  pub known : All (IsUnit k) us
  pub are : map (unit_at k) us ≡ xs

-- the first so many blocks of a file
abbrev pub block_indices : Index → ℕ → List UnitIndex
block_indices path zero = []
block_indices path (suc n) = block_indices path n ++ index.Comptime path n ∷ []
