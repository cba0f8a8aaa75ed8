use Rattle.std.proofs.Common.{◌≡◌, ◌∙◌, sym, ap, Some, List}
use Rattle.std.specs.Prelude.{slice_get}
use Rattle.zir_form.specs.declared.table.DeclarationRow.{DeclarationRow}
use Rattle.zir_form.specs.Tables.{ZirState, is_row, last_from, row_named}
use Rattle.zir_form.proofs.TableLemmas.{found_row}
use Rattle.zir_form.proofs.zir.Zir.declaration.Goals as goal

pub returns-in-Some : goal.returns-in-Some
returns-in-Some c =
    let rows = c.self.inside.declarations.items in
    let test = is_row c.args.container.0 c.args.name.now in
    let number : last_from 0 test rows ≡ Some c.in-Some.at = sym (c.self.invariant.members_agree c.args.container.0 c.args.name.now) ∙ sym c.member_in.ensures ∙ c.in-Some.is in
    c.declaration_at.ensures ∙ ap (λ (rs : List DeclarationRow). slice_get rs c.in-Some.at) c.as_slice.ensures.value
    ∙ found_row test rows c.in-Some.at number ∙ ap (λ (z : ZirState). row_named z.declarations c.args.container.0 c.args.name.now) c.self.view_is
