-- Trees of lines and of their children, and heads of functions.
use Rattle.std.proofs.Common.{◌≡◌, ℕ, zero, suc, ◌<◌, ◌≤◌, Bool, List, [], ◌∷◌, take, refl, sym, ap, ◌∙◌, arith, Option, Some, None, if◌then◌else◌}
use Rattle.std.specs.Prelude.{slice_get}
use Rattle.std.specs.Option.{option_map}
use Rattle.zir_form.specs.declared.form.Form.{Form}
use Rattle.zir_form.specs.Core.{Core}
use Rattle.zir_form.specs.Core as core
use Rattle.zir_form.specs.Lines.{tree_at as tree_of, trees_of, core_at, form_tree}
use Rattle.zir_form.proofs.LineLemmas.{line_tree}
use Rattle.type_form.specs.Known.{Known}
use Rattle.elab_form.specs.Questions as plain
use Rattle.trace_log.specs.declared.answer.Answer.{Answer}
use Rattle.trace_log.specs.declared.answer.Answer.TheVariants as answer
use Rattle.trace_log.specs.declared.answer.TreeRef.{TreeRef}
use Rattle.trace_log.specs.declared.answers.Answers.{Answers}
use Rattle.trace_log.specs.Files.{file_answer, text_in}
use Rattle.trace_log.specs.Readings.{answer_at}
use Rattle.trace_log.specs.Snapshots.{files_at, given_at, lines_of}
use Rattle.unit_outcomes.specs.Heads.{tree_at, child_at, is_exported, is_head, is_mark, tree_in}
use Rattle.unit_outcomes.specs.Reports.{export_by}

-- ---- lines

-- the tree of a line is its form over its children
pub of_line : (a : Answers) (r : TreeRef) (o : Option Form) → slice_get (lines_of a r.front) r.line ≡ o → tree_at a r ≡ form_tree (child_at a r) o
unfolding tree_at child_at
of_line a r o e = line_tree (lines_of a r.front) r.line o e

-- among the first trees
tree_front : (trees : List Core) (m n : ℕ) → n < m → tree_of (take m trees) n ≡ tree_of trees n
tree_front trees zero n h = absurd (omega arith)
tree_front [] (suc m) n h = refl
tree_front (c ∷ cs) (suc m) zero h = refl
tree_front (c ∷ cs) (suc m) (suc n) h = tree_front cs m n (omega arith)

tree_past : (trees : List Core) (m n : ℕ) → m ≤ n → tree_of (take m trees) n ≡ core.missing
tree_past trees zero n h = refl
tree_past [] (suc m) n h = refl
tree_past (c ∷ cs) (suc m) zero h = absurd (omega arith)
tree_past (c ∷ cs) (suc m) (suc n) h = tree_past cs m n (omega arith)

pub earlier : (a : Answers) (r : TreeRef) (n : ℕ) → n < r.line → child_at a r n ≡ tree_at a (record { front = r.front; line = n })
unfolding tree_at child_at core_at
earlier a r n h = tree_front (trees_of (lines_of a r.front)) r.line n h

pub no_earlier : (a : Answers) (r : TreeRef) (n : ℕ) → r.line ≤ n → child_at a r n ≡ core.missing
unfolding child_at
no_earlier a r n h = tree_past (trees_of (lines_of a r.front)) r.line n h

-- ---- texts

-- the text that an answer tells
pub text_told : (k : Known) (a : Answers) (p : plain.TextPart) (o : Option Answer) → option_map (answer_at k (lines_of a)) o ≡ given_at k a (plain.text p)
    → option_map (tree_at a) (tree_in o) ≡ text_in (files_at k a) p
unfolding given_at file_answer tree_at
text_told k a p None e = absurd (cc)
text_told k a p (Some (answer.Tree r)) e = cc
text_told k a p (Some (answer.Declaration r)) e = absurd (cc)
text_told k a p (Some (answer.Exports r)) e = absurd (cc)
text_told k a p (Some (answer.Given v)) e = absurd (cc)
text_told k a p (Some answer.Failure) e = absurd (cc)

-- ---- names of exports

head_export : (name : List ℕ) (c : Core) → export_by name (Some c) ≡ (if is_head c then Some name else None)
head_export name (core.head place linkage parameters mark result) = by_linkage linkage
  where
    by_linkage : (l : Core) → export_by name (Some (core.head place l parameters mark result)) ≡ (if is_mark l then Some name else None)
    by_linkage core.exported = refl
    by_linkage _ = refl
head_export name _ = refl

pub export-is : (name : List ℕ) (text : Option Core) (b : Bool) → b ≡ is_exported text → export_by name text ≡ (if b then Some name else None)
export-is name None b e = ap (λ (x : Bool). if x then Some name else None) (sym e)
export-is name (Some c) b e = head_export name c ∙ ap (λ (x : Bool). if x then Some name else None) (sym e)
