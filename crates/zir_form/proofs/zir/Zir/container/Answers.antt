use Rattle.std.proofs.Common.{◌≡◌, ◌∙◌, sym, ap, Some, List}
use Rattle.std.specs.Prelude.{slice_get}
use Rattle.zir_form.specs.declared.table.ContainerRow.{ContainerRow}
use Rattle.zir_form.specs.Tables.{ZirState, is_container_row, last_from, row_with}
use Rattle.zir_form.proofs.TableLemmas.{found_row}
use Rattle.zir_form.proofs.zir.Zir.container.Goals as goal

pub returns-in-Some : goal.returns-in-Some
returns-in-Some c =
    let rows = c.self.inside.containers.items in
    let test = is_container_row c.args.container.0 in
    let number : last_from 0 test rows ≡ Some c.in-Some.at = sym (c.self.invariant.places_agree c.args.container.0) ∙ sym c.number_in.ensures ∙ c.in-Some.is in
    c.container_at.ensures ∙ ap (λ (rs : List ContainerRow). slice_get rs c.in-Some.at) c.as_slice.ensures.value
    ∙ found_row test rows c.in-Some.at number ∙ ap (λ (z : ZirState). row_with z.containers c.args.container.0) c.self.view_is
