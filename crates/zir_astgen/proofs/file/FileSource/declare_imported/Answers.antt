use Rattle.std.proofs.Common.{◌≡◌, ap}
use Rattle.std.proofs.lemmas.Result.{IfOk-weaker}
use Rattle.zig_tree.specs.declared.grammar.Rule.TheVariants as rule
use Rattle.zir_form.specs.Core as core
use Rattle.zir_form.specs.Lines.{trees_of}
use Rattle.zir_scope.specs.Syntax.{row_in}
use Rattle.zir_astgen.specs.Entering.{filed, part_site}
use Rattle.zir_astgen.specs.Files.{linkage_of, site_of}
use Rattle.zir_astgen.specs.Filing.{file_known, where_of}
use Rattle.zir_astgen.specs.Firsts.{Adds}
use Rattle.zir_astgen.specs.Outline.{own_locals}
use Rattle.zir_astgen.specs.Parts.{lead_of}
use Rattle.zir_astgen.specs.Site.{Site}
use Rattle.zir_astgen.specs.Trees.{at_start, tree_at}
use Rattle.zir_astgen.proofs.AddLemmas.{absent_tree, adds_same, grown, grows_more}
use Rattle.zir_astgen.proofs.DeclareLemmas.{function_filed, site_known}
use Rattle.zir_astgen.proofs.RowLemmas.{rows_stay}
use Rattle.zir_astgen.proofs.file.FileSource.declare_imported.Goals as goal

pub enter_declaration-requires-clause-rows : goal.enter_declaration-requires-clause-rows
enter_declaration-requires-clause-rows c =
    rows_stay (trees_of c.args.tables.sheet.lines) (trees_of c.in_ok-sheet-2.field-0.sheet.lines) _ _ _
    (grows_more _ _ _ (grown _ _ _ _ c.in_ok-sheet.ensures) (grown _ _ _ _ c.in_ok-sheet-2.ensures)) c.requires.within

pub returns-clause-filed : goal.returns-clause-filed
returns-clause-filed c =
    let f = file_known c.args.self.now in
    let w = where_of c.args.at.now in
    let inside = row_in c.args.self.now.outline.now c.args.row.now in
    let content = row_in c.args.self.now.outline.now c.args.content.now.row.now in
    let old = trees_of c.args.tables.sheet.lines in
    let between = trees_of c.in_ok-sheet.field-0.sheet.lines in
    let now = trees_of c.in_ok-sheet-2.field-0.sheet.lines in
    let known = site_of f w (linkage_of f inside) (lead_of content) (own_locals content) in
    let site : part_site c.part_at-part.result ≡ known =
    site_known f w (lead_of content) _ _ _ _ _ _ _ c.part_at-part.ensures c.in_ok-locals.ensures c.requires.captured c.linkage.ensures c.in_ok-linked.ensures in
    let fore = tree_at f known at_start rule.Prototype content in
    let head : Adds old between fore c.in_ok-sheet.field-0.line =
    adds_same old between _ fore c.in_ok-sheet.field-0.line c.in_ok-sheet.ensures (ap (λ (s : Site). tree_at f s at_start rule.Prototype content) site) in
    IfOk-weaker c.enter_declaration.result _ _
    (λ t is. function_filed f w inside content old between now _ _ _ c.in_ok-row.row
    c.in_ok-sheet.field-0.line 1 c.in_ok-sheet-2.field-0.line fore core.absent (filed t)
    c.requires.within head (absent_tree c.in_ok-sheet.field-0.sheet.lines c.in_ok-sheet.field-0.sheet.has_firsts) c.in_ok-sheet-2.ensures (c.in_ok-row.ensures.stands now) is)
    c.enter_declaration.ensures.filed
