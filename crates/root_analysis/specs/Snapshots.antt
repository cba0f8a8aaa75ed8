-- The snapshot of a root alone.
use Rattle.std.specs.Prelude.{◌≡◌, ◌==◌, Some, None, if◌then◌else◌}
use Rattle.zir_form.specs.declared.front.Front.{Front}
use Rattle.type_form.specs.declared.index.Index.{Index}
use Rattle.trace_log.specs.declared.answers.Answers.{Answers}
use Rattle.trace_log.specs.declared.question.UnitIndex.{UnitIndex}
use Rattle.trace_log.specs.Snapshots.{file_get, front_get, result_get}

-- the file whose path is at an index has this front, no other file is there, and no unit has a result
pub record IsOfRoot (path : Index) (front : Front) (a : Answers) : Type 0 where
  pub front_is : front_get a 0 ≡ Some front
  pub files : (i : Index) → file_get a i ≡ (if i.0 == path.0 then Some 0 else None)
  pub results : (u : UnitIndex) → result_get a u ≡ None
