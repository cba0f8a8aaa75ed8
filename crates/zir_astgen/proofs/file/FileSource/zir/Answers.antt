use Rattle.std.proofs.Common.{◌≡◌, List, ◌∙◌}
use Rattle.std.proofs.lemmas.Result.{IfOk-weaker}
use Rattle.zir_form.specs.declared.table.ImportRow.{ImportRow}
use Rattle.zir_scope.specs.Syntax.{inside_of, row_in}
use Rattle.zir_astgen.specs.Entering.{filed}
use Rattle.zir_astgen.specs.Files.{imports_of}
use Rattle.zir_astgen.specs.Filing.{file_known, imported}
use Rattle.zir_astgen.proofs.CallLemmas.{imports_are}
use Rattle.zir_astgen.proofs.EntryLemmas.{file_entered, file_kept, in_file_is}
use Rattle.zir_astgen.proofs.file.FileSource.zir.Goals as goal

pub returns : goal.returns
returns c =
    let f = file_known c.args.self.now in
    let row = row_in c.args.self.now.outline.now c.kids-row.result.now in
    let inside = inside_of c.args.self.now.outline.now c.args.root in
    let rows : List ImportRow = c.in_ok-imports.imports.items in
    let imports : imported rows ≡ imports_of f row = imports_are f c.args.calls.now (imported rows) row inside c.kids-row.ensures.row c.requires c.in_ok-imports.ensures in
    IfOk-weaker c.of-4.result _ _
    (λ z is. file_kept z c.in_ok-tables.tables rows _ is
    (file_entered f _ row inside (filed c.in_ok-begun.field-0) (filed c.in_ok-tables.tables) (imported rows)
    (in_file_is _ _ _ _ c.in_ok-around.ensures c.in_ok-push.ensures.items c.new-braces.ensures.items (c.in_ok-containers.ensures ∙ c.new.ensures.items))
    c.kids-row.ensures.row c.in_ok-begun.ensures.filed c.in_ok-tables.ensures.filed imports))
    c.of-4.ensures
