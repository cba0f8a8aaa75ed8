-- Operands that are filled in: what they stand for, in code and in data.
use Rattle.std.specs.Prelude.{ℕ, ◌+◌, ◌%◌, ◌^◌, nat_le, if◌then◌else◌, List, [], ◌++◌, length, take, drop, Option, Some, None, slice_get, slice_set, slice_index, replicate}
use Rattle.std.specs.Int.{w16, w32, cast_signed, to_le_bytes}
use Rattle.std.specs.List.{fold}
use Rattle.wasm_form.specs.declared.instr.Instr.{Instr}
use Rattle.wasm_form.specs.declared.instr.Instr.TheVariants as instr
use Rattle.wasm_form.specs.declared.linked.Symbol.{Symbol}
use Rattle.wasm_form.specs.declared.linked.Symbol.TheVariants as symbol
use Rattle.wasm_form.specs.declared.linked.Reloc.{Reloc}
use Rattle.wasm_form.specs.declared.linked.DataItem.{DataItem}
use Rattle.wasm_form.specs.declared.linked.DataItem.TheVariants as item
use Rattle.wasm_link.specs.declared.named.Item.{Item}
use Rattle.wasm_link.specs.declared.operands.Targets.{Targets}
use Rattle.wasm_link.specs.Names.{number_of}
use Rattle.wasm_link.specs.Layout.{data_start, item_alignment, padding}

-- What a symbol stands for: imported functions come first, then those with a body; an address; an error's
-- number, counted from 1.
abbrev pub symbol_value : Targets → Symbol → ℕ
symbol_value t (symbol.Function spelling) = length t.imports + number_of t.functions spelling
symbol_value t (symbol.Extern e) = number_of t.imports e.spelling
symbol_value t (symbol.Data spelling beyond) = slice_index t.addresses (number_of t.items spelling) + beyond
symbol_value t (symbol.Error name) = number_of t.errors name + 1

-- as a number of 32 bits
abbrev pub operand : Targets → Symbol → ℕ
operand t s = symbol_value t s % 2 ^ 32

-- an instruction with a number as the operand that linking fills in; one without such an operand is left
abbrev pub with_operand : ℕ → Instr → Instr
with_operand n (instr.Call _) = instr.Call n
with_operand n (instr.LinkedConst _) = instr.LinkedConst (cast_signed w32 n)
with_operand n other = other

abbrev pub instr_filled : List Instr → ℕ → ℕ → Option Instr → List Instr
instr_filled body place n None = body
instr_filled body place n (Some i) = slice_set body place (with_operand n i)

-- a body with one operand filled in
abbrev pub body_filled : Targets → List Instr → Reloc → List Instr
body_filled t body r = instr_filled body r.place (operand t r.symbol) (slice_get body r.place)

-- a body with its operands filled in
abbrev pub linked_body : Targets → List Reloc → List Instr → List Instr
linked_body t relocs body = fold (body_filled t) body relocs

-- what a symbol is in data: two bytes for an error's number, four for an address
abbrev pub symbol_bytes : Targets → Symbol → List ℕ
symbol_bytes t (symbol.Error name) = to_le_bytes w16 (operand t (symbol.Error name) % 2 ^ 16)
symbol_bytes t s = to_le_bytes w32 (operand t s)

-- bytes with others written over them from a place on, where they fit
abbrev pub overwritten : List ℕ → ℕ → List ℕ → List ℕ
overwritten bytes place new =
    if nat_le (place + length new) (length bytes) then take place bytes ++ new ++ drop (place + length new) bytes
    else bytes

abbrev pub bytes_filled : Targets → List ℕ → Reloc → List ℕ
bytes_filled t bytes r = overwritten bytes r.place (symbol_bytes t r.symbol)

-- the bytes of an item with its operands filled in
abbrev pub item_bytes : Targets → DataItem → List ℕ
item_bytes t (item.Bytes bytes align relocs) = fold (bytes_filled t) bytes relocs
item_bytes t item.TooLarge = []

-- data with one more item behind it, in its place
abbrev pub with_item : Targets → List ℕ → Item → List ℕ
with_item t laid i =
    (laid ++ replicate (padding (data_start + length laid) (item_alignment i.item)) 0) ++ item_bytes t i.item

-- the bytes from the data's start to its end, zeros between the items
abbrev pub data_bytes : Targets → List Item → List ℕ
data_bytes t items = fold (with_item t) [] items
