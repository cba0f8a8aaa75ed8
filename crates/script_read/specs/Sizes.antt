-- The files as a command would leave them, and whether it may be carried out.
use Rattle.std.specs.Prelude.{ℕ, ◌+◌, Bool, false, not, if◌then◌else◌, ◌∷◌, Option, None, Some, Result, Ok, Err}
use Rattle.std.specs.List.{list_any}
use Rattle.zw_base.specs.declared.limits.Limits.{Limits}
use Rattle.zw_base.specs.declared.reason.Reason.TheVariants.{AbsentPath}
use Rattle.zw_base.specs.declared.status.Which.{Which}
use Rattle.zw_base.specs.Limits.{Sizes, has_path, others, exceeded}
use Rattle.script_read.specs.declared.command.Refusal.{Refusal}
use Rattle.script_read.specs.declared.command.Refusal.TheVariants.{Bad, Over}
use Rattle.script_read.specs.declared.command.Request.{Request}
use Rattle.script_read.specs.declared.command.Request.TheVariants as request

-- the files as a command would leave them
abbrev pub files_after : Request → Sizes → Sizes
files_after (request.File path len) files = (path, len) ∷ others path files
files_after (request.Drop path) files = others path files
files_after request.Update files = files

-- a `drop` names a path that no file has
abbrev pub is_absent : Request → Sizes → Bool
is_absent (request.File path len) files = false
is_absent (request.Drop path) files = not (list_any (has_path path) files)
is_absent request.Update files = false

abbrev pub unless_over : Option Which → Result (Unit {0}) Refusal
unless_over None = Ok tt
unless_over (Some which) = Err (Over which)

-- whether a command may be carried out after so many others: its path is there, and no limit is passed
abbrev pub allowed : Limits → ℕ → Sizes → Request → Result (Unit {0}) Refusal
allowed limits commands files asked =
    if is_absent asked files then Err (Bad AbsentPath)
    else unless_over (exceeded limits (commands + 1) (files_after asked files))
