-- Core trees of a snapshot, and of a tree's children.
use Rattle.std.specs.Prelude.{ℕ, Bool, true, false, take}
use Rattle.zir_form.specs.declared.form.Form.{Form}
use Rattle.zir_form.specs.declared.form.Form.TheVariants as form
use Rattle.zir_form.specs.Core.{Core}
use Rattle.zir_form.specs.Lines as lines
use Rattle.trace_log.specs.declared.answer.TreeRef.{TreeRef}
use Rattle.trace_log.specs.declared.answers.Answers.{Answers}
use Rattle.trace_log.specs.Readings as readings
use Rattle.trace_log.specs.Snapshots.{lines_of}

unfoldable pub tree_at : Answers → TreeRef → Core
tree_at cx r = readings.tree_at (lines_of cx) r

-- the tree of a line as a child of a tree: its children are earlier lines
unfoldable pub child_at : Answers → TreeRef → ℕ → Core
child_at cx r n = lines.tree_at (take r.line (lines.trees_of (lines_of cx r.front))) n

-- the forms that have a rule
unfoldable pub has_rule : Form → Bool
has_rule (form.Integer place n) = true
has_rule (form.Primitive place p) = true
has_rule (form.Declared place depth name) = true
has_rule (form.Grouped place inner) = true
has_rule form.Absent = true
has_rule (form.Return place value leaves) = true
has_rule (form.Block place statements leaves) = true
has_rule (form.Ignored place value) = true
has_rule _ = false
