-- Whether a core tree is the head of a function that is exported, read from the lines of a file.
use Rattle.std.specs.Prelude.{ℕ, Bool, true, false, take, Option, Some, None}
use Rattle.zir_form.specs.Core.{Core}
use Rattle.zir_form.specs.Core as core
use Rattle.zir_form.specs.Lines as lines
use Rattle.trace_log.specs.declared.answer.Answer.{Answer}
use Rattle.trace_log.specs.declared.answer.Answer.TheVariants as answer
use Rattle.trace_log.specs.declared.answer.TreeRef.{TreeRef}
use Rattle.trace_log.specs.declared.answers.Answers.{Answers}
use Rattle.trace_log.specs.Readings as readings
use Rattle.trace_log.specs.Snapshots.{lines_of}

-- ---- trees

-- the mark of an export, where the linkage of a function stands
abbrev pub is_mark : Core → Bool
is_mark core.exported = true
is_mark _ = false

-- the head of a function that is exported
abbrev pub is_head : Core → Bool
is_head (core.head place linkage parameters mark result) = is_mark linkage
is_head _ = false

abbrev pub is_exported : Option Core → Bool
is_exported None = false
is_exported (Some c) = is_head c

-- ---- lines

unfoldable pub tree_at : Answers → TreeRef → Core
tree_at a r = readings.tree_at (lines_of a) r

-- the tree of a line as a child of a tree: its children are earlier lines
unfoldable pub child_at : Answers → TreeRef → ℕ → Core
child_at a r n = lines.tree_at (take r.line (lines.trees_of (lines_of a r.front))) n

-- whether the line of a linkage, where there is one, is the mark of an export
abbrev pub is_linked : (ℕ → Core) → Option ℕ → Bool
is_linked at None = false
is_linked at (Some linkage) = is_mark (at linkage)

-- the tree that an answer gives
abbrev pub tree_in : Option Answer → Option TreeRef
tree_in (Some (answer.Tree r)) = r
tree_in _ = None
