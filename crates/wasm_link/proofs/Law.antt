-- The order in which functions and items are given changes nothing.
use Rattle.std.proofs.Common.{◌≡◌, ℕ, List, ap, ◌∙◌}
use Rattle.std.specs.List.{IsDistinct}
use Rattle.std.specs.List.Sorted.{IsPermutation}
use Rattle.std.specs.Str.{bytes_eq}
use Rattle.wasm_link.specs.declared.named.Function.{Function}
use Rattle.wasm_link.specs.declared.named.Item.{Item}
use Rattle.wasm_link.specs.Link.{linked, link_sorted}
use Rattle.wasm_link.specs.Order.{function_cmp, function_spellings, in_order, item_cmp, item_spellings}
use Rattle.wasm_link.proofs.InOrder.{in_order-permutation, told_by_key}
use Rattle.wasm_link.proofs.Orders.{function_total, item_total}

pub linked-permutation : (functions moved : List Function) (items shifted : List Item) (errors : List (List ℕ))
    → IsDistinct bytes_eq (function_spellings functions) → IsDistinct bytes_eq (item_spellings items)
    → IsPermutation functions moved → IsPermutation items shifted → linked moved shifted errors ≡ linked functions items errors
unfolding linked
linked-permutation functions moved items shifted errors f_distinct i_distinct f_moved i_moved =
    ap (λ fs. link_sorted fs (in_order item_cmp shifted) errors)
    (in_order-permutation function_cmp function_total functions moved f_moved (told_by_key (λ (f : Function). f.spelling) functions f_distinct))
    ∙ ap (λ is. link_sorted (in_order function_cmp functions) is errors)
    (in_order-permutation item_cmp item_total items shifted i_moved (told_by_key (λ (i : Item). i.spelling) items i_distinct))
