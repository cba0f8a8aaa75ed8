-- What contracts say of a layout.
use Rattle.std.specs.Prelude.{◌≡◌, ◌+◌, ◌<◌, ◌≤◌, ℕ, List, Option, Some, None}
use Rattle.wasm_link.specs.declared.layout.Layout.{Layout}
use Rattle.wasm_link.specs.declared.named.Item.{Item}
use Rattle.wasm_link.specs.Layout.{data_limit, data_start, item_starts, items_end}

-- it has the addresses of the items and their end, which is within the limit
pub record IsLayout (items : List Item) (laid : Layout) : Type 0 where
  pub addresses : laid.addresses.items ≡ item_starts data_start items
  pub end : laid.end ≡ items_end data_start items
  pub within : laid.end ≤ data_limit

-- where so many bytes from here end, unless it is beyond the limit
abbrev pub EndsAt : ℕ → ℕ → Option ℕ → Type 0
EndsAt start len None = data_limit < start + len
EndsAt start len (Some end) = (end ≡ start + len) × (end ≤ data_limit)

-- the items' layout, unless they end beyond the limit
abbrev pub LaysOut : List Item → Option Layout → Type 0
LaysOut items None = data_limit < items_end data_start items
LaysOut items (Some laid) = IsLayout items laid
