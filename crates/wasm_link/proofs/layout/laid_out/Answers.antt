use Rattle.std.proofs.Common.{◌≡◌, ◌+◌, drop, sym, ap, ◌∙◌, arith}
use Rattle.wasm_link.specs.Layout.{data_start, item_len, item_start, items_end}
use Rattle.wasm_link.proofs.Steps.{next_of, ends_grow}
use Rattle.wasm_link.proofs.layout.laid_out.Goals as goal

pub returns-in-None : goal.returns-in-None
returns-in-None c =
    let items = c.args.items.now in
    let i = c.loop-item.item-index in
    let item = c.item-item.result in
    let rest = drop (i + 1) items in
    let end = item_start c.loop-item.end item.item + item_len item.item in
    let last : items_end end rest ≡ items_end data_start items =
    sym (ap (items_end c.loop-item.end) (next_of items i item c.loop-item-test.true c.item-item.is)) ∙ c.loop-item.invariant.last in
    omega (arith, last, ends_grow end rest, c.in-None.ensures, c.item_start-start.ensures.of)
