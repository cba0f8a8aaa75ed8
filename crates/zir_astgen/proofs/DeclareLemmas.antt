-- A function as a declaration: its head, its body and both together are lines, and its row is put behind those so far.
use Rattle.std.proofs.Common.{◌≡◌, ℕ, List, [], ◌∷◌, length, Some, refl, ◌∙◌, ap}
use Rattle.zig_tree.specs.declared.grammar.Rule.{Rule}
use Rattle.zig_tree.specs.declared.grammar.Rule.TheVariants as rule
use Rattle.zig_tree.specs.Kinds.{number_of_rule}
use Rattle.zir_form.specs.Core.{Core}
use Rattle.zir_form.specs.Core as core
use Rattle.zir_form.specs.File.{Declaration}
use Rattle.zir_form.specs.Lines.{tree_at}
use Rattle.zir_form.specs.Tables.{declaration_of}
use Rattle.zir_form.specs.declared.table.BlockRow.{BlockRow}
use Rattle.zir_form.specs.declared.table.ContainerRow.{ContainerRow}
use Rattle.zir_form.specs.declared.table.DeclarationRow.{DeclarationRow}
use Rattle.zir_scope.specs.Syntax.{Syntax}
use Rattle.zir_astgen.specs.Files.{declaration, declared_by, function_by, site_of, start_of}
use Rattle.zir_astgen.specs.Firsts.{Adds}
use Rattle.zir_astgen.specs.Outline.{Where}
use Rattle.zir_astgen.specs.Rows.{Filed, RowsBelow, filed_by, filed_more}
use Rattle.zir_astgen.specs.Site.{File, Site, captures_from}
use Rattle.zir_astgen.proofs.AddLemmas.{grown, grows_more, tree_stays}
use Rattle.zir_astgen.proofs.RowLemmas.{filed_stays}

-- the site of a part, by what it was made of
pub site_known : (f : File) (w : Where) (lead : ℕ) (locals own captured : List ℕ) (written linked linkage : Core) (site : Site)
    → site ≡ record { origin = start_of f lead; locals = locals; containers = w.containers; captured = captured; around = w.around; linkage = written }
    → locals ≡ own → captured ≡ captures_from w.container f.captures → written ≡ linked → linked ≡ linkage → site ≡ site_of f w linkage lead own
site_known f w lead locals own captured written linked linkage site is l c e k = cc

-- the trees of a function, by the lines that stand for them at last
function_stands : (f : File) (w : Where) (inside content : Syntax) (old between now : List Core) (head_line body_line whole : ℕ) (fore body : Core)
    → Adds old between fore head_line → tree_at between body_line ≡ body → Adds between now (core.function (tree_at between head_line) (tree_at between body_line)) whole
    → declaration f w inside content (Some (tree_at now head_line)) (tree_at now whole) ≡ function_by f w inside content fore body
function_stands f w inside content old between now head_line body_line whole fore body h e k =
    ap (λ (c : Core). declaration f w inside content (Some c) (tree_at now whole)) (tree_stays between now head_line (grown between now _ whole k) h.inside ∙ h.stands)
    ∙ ap (λ (c : Core). declaration f w inside content (Some fore) c) (k.stands ∙ ap (λ (c : Core). core.function c (tree_at between body_line)) h.stands ∙ ap (λ (c : Core). core.function fore c) e)

-- its row behind those so far, whose trees stay while the lines are put
pub function_filed : (f : File) (w : Where) (inside content : Syntax) (old between now : List Core) (ds : List DeclarationRow) (cs : List ContainerRow) (bs : List BlockRow) (r : DeclarationRow)
    (head_line body_line whole : ℕ) (fore body : Core) (after : Filed)
    → RowsBelow (length old) ds cs bs → Adds old between fore head_line → tree_at between body_line ≡ body → Adds between now (core.function (tree_at between head_line) (tree_at between body_line)) whole
    → declaration_of now r ≡ declaration f w inside content (Some (tree_at now head_line)) (tree_at now whole)
    → after ≡ filed_more (filed_by now ds cs bs) (declaration_of now r ∷ []) [] []
    → after ≡ filed_more (filed_by old ds cs bs) (function_by f w inside content fore body ∷ []) [] []
function_filed f w inside content old between now ds cs bs r head_line body_line whole fore body after rows h e k stands is =
    is
    ∙ ap (λ (x : Filed). filed_more x (declaration_of now r ∷ []) [] []) (filed_stays old now ds cs bs (grows_more old between now (grown old between fore head_line h) (grown between now _ whole k)) rows)
    ∙ ap (λ (d : Declaration). filed_more (filed_by old ds cs bs) (d ∷ []) [] []) (stands ∙ function_stands f w inside content old between now head_line body_line whole fore body h e k)

-- what is no variable and no function declares nothing
pub declared_none : (f : File) (w : Where) (inside content : Syntax) (r : Rule) → (r ≡ rule.Variable → ⊥) → (r ≡ rule.Function → ⊥) → (r ≡ rule.Prototype → ⊥) → declared_by f w inside content r ≡ []
unfolding declared_by number_of_rule
declared_none f w inside content rule.Variable v u p = absurd (v refl)
declared_none f w inside content rule.Function v u p = absurd (u refl)
declared_none f w inside content rule.Prototype v u p = absurd (p refl)
declared_none f w inside content _ v u p = refl
