use Rattle.std.proofs.Common.{rules}
use Rattle.std.proofs.lemmas.Fn.{always_returns_same}
use Rattle.wasm_link.specs.Order.{function_cmp}
use Rattle.wasm_link.proofs.InOrder.{stable_in_order}
use Rattle.wasm_link.proofs.Orders.{function_total, less_by, ranked}
use Rattle.wasm_link.proofs.order.sort_functions.Goals as goal

pub returns : goal.returns
returns c =
    stable_in_order function_cmp function_total c.args.functions.now.items c.sort_by.new.self.items c.sort_by.ensures.permutation
    (c.in_ok-sort_by.ensures.sorted (less_by function_cmp) (ranked function_cmp function_total) (always_returns_same _ _ _ (λ a r f k. search rules)))
    (c.sort_by.ensures.stable (less_by function_cmp) (ranked function_cmp function_total) (always_returns_same _ _ _ (λ a r f k. search rules)))
