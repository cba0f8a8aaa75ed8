use Rattle.std.proofs.Common.{◌∙◌, subst, List}
use Rattle.std.specs.Prelude.{All}
use Rattle.diag_order.specs.declared.line.Diag.{Diag}
use Rattle.watch_core.specs.Placing.{Shows}
use Rattle.watch_core.proofs.PlaceLemmas.{all_in_file, placed_in_order}
use Rattle.watch_core.proofs.placing.placed.Goals as goal

pub sorted-requires : goal.sorted-requires
sorted-requires c =
    all_in_file c.args.files.now.entries c.in_ok-texts.texts c.in_ok-diags.diags.items c.args.diags.items c.in_ok-diags.ensures c.requires
    (subst (λ (ds : List Diag). All (Shows c.args.files.now.entries c.in_ok-texts.texts) ds) c.as_slice.ensures.value c.in_ok-texts.ensures)

pub returns : goal.returns
returns c =
    c.of.ensures
    ∙ placed_in_order c.args.files.now.entries c.in_ok-texts.texts c.in_ok-diags.diags.items c.args.diags.items c.in_ok-sorted.field-0.items c.in_ok-diags.ensures
    (subst (λ (ds : List Diag). All (Shows c.args.files.now.entries c.in_ok-texts.texts) ds) c.as_slice.ensures.value c.in_ok-texts.ensures)
    c.in_ok-sorted.ensures.order c.in_ok-sorted.ensures.each
