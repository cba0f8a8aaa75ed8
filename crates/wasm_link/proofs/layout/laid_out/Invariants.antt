use Rattle.std.proofs.Common.{◌≡◌, ◌≤◌, ◌++◌, drop}
use Rattle.wasm_link.specs.Layout.{data_limit, data_start, item_starts, items_end}
use Rattle.wasm_link.proofs.layout.laid_out.Given as goal

abbrev pub invariant-loop-item : goal.invariant-loop-item
invariant-loop-item l = record {
  addresses : l.addresses.items ++ item_starts l.end (drop l.item-index l.items) ≡ item_starts data_start l.items;
  last : items_end l.end (drop l.item-index l.items) ≡ items_end data_start l.items;
  low : data_start ≤ l.end;
  within : l.end ≤ data_limit;
}
