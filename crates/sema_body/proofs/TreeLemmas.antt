-- Trees of lines, and of their children.
use Rattle.std.proofs.Common.{◌≡◌, ℕ, zero, suc, ◌<◌, ◌≤◌, List, [], ◌∷◌, take, refl, arith, Option}
use Rattle.std.specs.Prelude.{slice_get}
use Rattle.zir_form.specs.declared.form.Form.{Form}
use Rattle.zir_form.specs.Core.{Core}
use Rattle.zir_form.specs.Core as core
use Rattle.zir_form.specs.Lines.{tree_at as tree_in, trees_of, core_at, form_tree}
use Rattle.zir_form.proofs.LineLemmas.{line_tree}
use Rattle.trace_log.specs.declared.answer.TreeRef.{TreeRef}
use Rattle.trace_log.specs.declared.answers.Answers.{Answers}
use Rattle.trace_log.specs.Snapshots.{lines_of}
use Rattle.sema_body.specs.Trees.{tree_at, child_at}

-- the tree of a line is its form over its children
pub of_line : (cx : Answers) (r : TreeRef) (o : Option Form) → slice_get (lines_of cx r.front) r.line ≡ o → tree_at cx r ≡ form_tree (child_at cx r) o
unfolding tree_at child_at
of_line cx r o e = line_tree (lines_of cx r.front) r.line o e

-- among the first trees
tree_front : (trees : List Core) (m n : ℕ) → n < m → tree_in (take m trees) n ≡ tree_in trees n
tree_front trees zero n h = absurd (omega arith)
tree_front [] (suc m) n h = refl
tree_front (c ∷ cs) (suc m) zero h = refl
tree_front (c ∷ cs) (suc m) (suc n) h = tree_front cs m n (omega arith)

tree_past : (trees : List Core) (m n : ℕ) → m ≤ n → tree_in (take m trees) n ≡ core.missing
tree_past trees zero n h = refl
tree_past [] (suc m) n h = refl
tree_past (c ∷ cs) (suc m) zero h = absurd (omega arith)
tree_past (c ∷ cs) (suc m) (suc n) h = tree_past cs m n (omega arith)

pub earlier : (cx : Answers) (r : TreeRef) (n : ℕ) → n < r.line → child_at cx r n ≡ tree_at cx (record { front = r.front; line = n })
unfolding tree_at child_at core_at
earlier cx r n h = tree_front (trees_of (lines_of cx r.front)) r.line n h

pub no_earlier : (cx : Answers) (r : TreeRef) (n : ℕ) → r.line ≤ n → child_at cx r n ≡ core.missing
unfolding child_at
no_earlier cx r n h = tree_past (trees_of (lines_of cx r.front)) r.line n h
