use Rattle.std.proofs.Common.{rules}
use Rattle.std.proofs.lemmas.Fn.{always_returns_same}
use Rattle.wasm_link.specs.Order.{extern_cmp}
use Rattle.wasm_link.proofs.InOrder.{sorted_in_order}
use Rattle.wasm_link.proofs.Orders.{extern_total, less_by, ranked, told_externs}
use Rattle.wasm_link.proofs.order.sort_externs.Goals as goal

pub returns : goal.returns
returns c =
    sorted_in_order extern_cmp extern_total c.args.externs.now.items c.sort_unstable_by.new.self.items c.sort_unstable_by.ensures.permutation
    (c.sort_unstable_by.ensures.sorted (less_by extern_cmp) (ranked extern_cmp extern_total) (always_returns_same _ _ _ (λ a r f k. search rules)))
    (told_externs c.args.externs.now.items c.requires)
