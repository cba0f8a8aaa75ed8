use Rattle.std.proofs.Common.{rules}
use Rattle.std.proofs.lemmas.Fn.{always_returns_same}
use Rattle.wasm_link.specs.Order.{export_cmp}
use Rattle.wasm_link.proofs.InOrder.{sorted_in_order}
use Rattle.wasm_link.proofs.Orders.{export_total, less_by, ranked, told_exports}
use Rattle.wasm_link.proofs.order.sort_exports.Goals as goal

pub returns : goal.returns
returns c =
    sorted_in_order export_cmp export_total c.args.exports.now.items c.sort_unstable_by.new.self.items c.sort_unstable_by.ensures.permutation
    (c.sort_unstable_by.ensures.sorted (less_by export_cmp) (ranked export_cmp export_total) (always_returns_same _ _ _ (λ a r f k. search rules)))
    (told_exports c.args.exports.now.items)
