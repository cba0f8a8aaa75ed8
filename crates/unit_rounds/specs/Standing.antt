-- Snapshots that have the same files, and units that need no attempt.
use Rattle.std.specs.Prelude.{◌≡◌, ℕ, ◌<◌, ◌≤◌, Bool, false, ◌||◌, List, Option, None, Some, is_some, is_none, length, slice_get}
use Rattle.type_form.specs.declared.index.Index.{Index}
use Rattle.trace_log.specs.declared.answers.Answers.{Answers}
use Rattle.trace_log.specs.declared.question.UnitIndex.{UnitIndex}
use Rattle.trace_log.specs.Snapshots.{file_get, front_get, result_get}

-- a snapshot has the files of another
pub record SameFiles (old new : Answers) : Type 0 where
  pub fronts : (n : ℕ) → front_get new n ≡ front_get old n
  pub files : (path : Index) → file_get new path ≡ file_get old path

-- whether there is a unit, without a result
abbrev pub lacks_result : Answers → Option UnitIndex → Bool
lacks_result a None = false
lacks_result a (Some u) = is_none (result_get a u)

-- whether a unit that waits for the one with this number, if for any, waits for one without a result
abbrev pub still_waits : Answers → List UnitIndex → Option ℕ → Bool
still_waits a known None = false
still_waits a known (Some j) = lacks_result a (slice_get known j)

-- whether a unit needs no attempt: it has a result, or what it waits for has none
abbrev pub rests : Answers → List UnitIndex → UnitIndex → Option ℕ → Bool
rests a known u wait = is_some (result_get a u) || still_waits a known wait

-- what units wait for, as it was, and nothing for those behind them
pub record IsFilled (before after : List (Option ℕ)) : Type 0 where
  pub same : (i : ℕ) → i < length before → slice_get after i ≡ slice_get before i
  pub fresh : (i : ℕ) (w : Option ℕ) → length before ≤ i → slice_get after i ≡ Some w → w ≡ None
