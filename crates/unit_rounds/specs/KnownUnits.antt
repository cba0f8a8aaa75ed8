-- Lists of units by indices without repeats, and which number each has.
use Rattle.std.specs.Prelude.{◌≡◌, ℕ, Bool, false, List, [], ◌∷◌, ◌++◌, Option, Some, None, slice_get, if◌then◌else◌}
use Rattle.std.specs.List.{list_any}
use Rattle.trace_log.specs.declared.question.UnitIndex.{UnitIndex}
use Rattle.trace_log.specs.TableStates.{same_unit}

-- whether a unit is among some
abbrev pub has_index : List UnitIndex → UnitIndex → Bool
has_index us u = list_any (same_unit u) us

-- units, and one more behind them unless it is there
abbrev pub with_index : List UnitIndex → UnitIndex → List UnitIndex
with_index known u = if has_index known u then known else known ++ u ∷ []

-- units, and more behind them, each unless it is there
abbrev pub with_indices : List UnitIndex → List UnitIndex → List UnitIndex
with_indices known [] = known
with_indices known (u ∷ us) = with_indices (with_index known u) us

-- each unit has the number of its place, and what is not there has none
pub record HasNumbers (known : List UnitIndex) (numbers : UnitIndex → Option ℕ) : Type 0 where
  pub finds : (u : UnitIndex) (n : ℕ) → numbers u ≡ Some n → slice_get known n ≡ Some u
  pub absent : (u : UnitIndex) → numbers u ≡ None → has_index known u ≡ false
