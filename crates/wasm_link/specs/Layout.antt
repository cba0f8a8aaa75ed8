-- Where data items lie in memory.
use Rattle.std.specs.Prelude.{ℕ, ◌+◌, ◌-◌, ◌/◌, ◌%◌, List, [], ◌∷◌, length}
use Rattle.wasm_form.specs.declared.linked.Alignment.{Alignment}
use Rattle.wasm_form.specs.declared.linked.Alignment.TheVariants.{One, Two, Four, Eight}
use Rattle.wasm_form.specs.declared.linked.DataItem.{DataItem}
use Rattle.wasm_form.specs.declared.linked.DataItem.TheVariants as item
use Rattle.wasm_link.specs.declared.named.Item.{Item}

-- where data begins: the shadow stack lies below
abbrev pub data_start : ℕ
data_start = 1048576

-- the most bytes from there to the end of the data
abbrev pub most_data : ℕ
most_data = 67108864

-- where data ends at most
abbrev pub data_limit : ℕ
data_limit = data_start + most_data

abbrev pub alignment_bytes : Alignment → ℕ
alignment_bytes One = 1
alignment_bytes Two = 2
alignment_bytes Four = 4
alignment_bytes Eight = 8

abbrev pub item_alignment : DataItem → ℕ
item_alignment (item.Bytes bytes align relocs) = alignment_bytes align
item_alignment item.TooLarge = 1

-- one that is too large has more bytes than there may be
abbrev pub item_len : DataItem → ℕ
item_len (item.Bytes bytes align relocs) = length bytes
item_len item.TooLarge = most_data + 1

-- how many bytes lie between an address and the next multiple of an alignment
abbrev pub padding : ℕ → ℕ → ℕ
padding address align = (align - address % align) % align

-- where an item lies that comes after what ends at this address
abbrev pub item_start : ℕ → DataItem → ℕ
item_start address i = address + padding address (item_alignment i)

-- the addresses of items, the first after this one
abbrev pub item_starts : ℕ → List Item → List ℕ
item_starts address [] = []
item_starts address (i ∷ items) =
    item_start address i.item ∷ item_starts (item_start address i.item + item_len i.item) items

-- where they end
abbrev pub items_end : ℕ → List Item → ℕ
items_end address [] = address
items_end address (i ∷ items) = items_end (item_start address i.item + item_len i.item) items

-- the pages of 65,536 bytes that reach to an address
abbrev pub pages_to : ℕ → ℕ
pages_to address = (address + 65535) / 65536
