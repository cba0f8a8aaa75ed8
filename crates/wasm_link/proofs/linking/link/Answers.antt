use Rattle.std.proofs.Common.{subst}
use Rattle.wasm_link.specs.Link.{Answers, linked, link_sorted}
use Rattle.wasm_link.specs.Order.{in_order, item_cmp}
use Rattle.wasm_link.proofs.linking.link.Goals as goal

pub returns : goal.returns
unfolding linked
returns c =
    let errors = c.args.errors.now in
    subst (λ fs. Answers c.link_sorted.result (link_sorted fs (in_order item_cmp c.args.items.items) errors)) c.in_ok-sort_functions.ensures
    (subst (λ is. Answers c.link_sorted.result (link_sorted c.sort_functions.new.functions.items is errors)) c.in_ok-sort_items.ensures c.link_sorted.ensures)
