-- Linking: the module of functions, data items and error names, or why there is none.
use Rattle.std.specs.Prelude.{◌≡◌, ℕ, ◌+◌, ◌%◌, ◌^◌, ◌||◌, pos, nat_lt, if◌then◌else◌, Bool, true, false, List, [], ◌∷◌, ◌++◌, length, map, Option, Some, None, Result, Ok, Err}
use Rattle.std.specs.List.{IsDistinct}
use Rattle.std.specs.List.Sorted.{IsPermutation}
use Rattle.std.specs.Str.{bytes_eq}
use Rattle.wasm_form.specs.Binary.{fn_type_bytes, module_bytes}
use Rattle.wasm_form.specs.declared.instr.Instr.TheVariants.{I32Const}
use Rattle.wasm_form.specs.declared.linked.ExternFunction.{ExternFunction}
use Rattle.wasm_form.specs.declared.linked.FnCode.{FnCode}
use Rattle.wasm_form.specs.declared.module.Code.{Code}
use Rattle.wasm_form.specs.declared.module.Export.{Export}
use Rattle.wasm_form.specs.declared.module.Exported.TheVariants as exported
use Rattle.wasm_form.specs.declared.module.FnType.{FnType}
use Rattle.wasm_form.specs.declared.module.Global.{Global}
use Rattle.wasm_form.specs.declared.module.Import.{Import}
use Rattle.wasm_form.specs.declared.module.Locals.{Locals}
use Rattle.wasm_form.specs.declared.module.Module.{Module}
use Rattle.wasm_form.specs.declared.module.Segment.{Segment}
use Rattle.wasm_form.specs.declared.module.TypeIndex.{TypeIndex}
use Rattle.wasm_form.specs.declared.module.ValType.{ValType}
use Rattle.wasm_form.specs.declared.module.ValType.TheVariants.{I32, I64}
use Rattle.wasm_link.specs.declared.fault.LinkFault.{LinkFault}
use Rattle.wasm_link.specs.declared.fault.LinkFault.TheVariants.{DuplicateExport, DataTooLarge, ModuleTooLarge, OutOfMemory}
use Rattle.wasm_link.specs.declared.named.Function.{Function}
use Rattle.wasm_link.specs.declared.named.Item.{Item}
use Rattle.wasm_link.specs.declared.named.NamedExport.{NamedExport}
use Rattle.wasm_link.specs.declared.operands.Targets.{Targets}
use Rattle.wasm_link.specs.Exports.{double_name, exports_from, memory_name, places_of}
use Rattle.wasm_link.specs.Imports.{imported}
use Rattle.wasm_link.specs.Layout.{data_start, data_limit, item_starts, items_end, pages_to}
use Rattle.wasm_link.specs.Names.{distinct_by, number_of}
use Rattle.wasm_link.specs.Operands.{data_bytes, linked_body}
use Rattle.wasm_link.specs.Order.{export_cmp, function_cmp, function_spellings, in_order, item_cmp, item_spellings}

-- the types of functions, imported ones first
abbrev pub kinds_of : List ExternFunction → List Function → List FnType
kinds_of imports functions = map (λ (e : ExternFunction). e.kind) imports ++ map (λ (f : Function). f.code.kind) functions

-- each type once, in the order of first use
abbrev pub types_of : List FnType → List FnType
types_of kinds = distinct_by fn_type_bytes kinds

-- the place of a type among the bytes of types
abbrev pub type_index : List (List ℕ) → FnType → TypeIndex
type_index types kind = record { 0 = number_of types (fn_type_bytes kind) % 2 ^ 32 }

abbrev pub import_of : List (List ℕ) → ExternFunction → Import
import_of types e = record { module_name = e.module_name; name = e.name; kind = type_index types e.kind }

abbrev pub is_kind : ValType → ValType → Bool
is_kind I32 I32 = true
is_kind I64 I64 = true
is_kind I32 I64 = false
is_kind I64 I32 = false

-- the groups of neighbouring locals, the first of which is begun
abbrev pub grouped_after : Locals → List ValType → List Locals
grouped_after g [] = g ∷ []
grouped_after g (kind ∷ kinds) =
    if is_kind g.kind kind then grouped_after (record { count = (g.count + 1) % 2 ^ 32; kind = g.kind }) kinds
    else g ∷ grouped_after (record { count = 1; kind = kind }) kinds

abbrev pub grouped : List ValType → List Locals
grouped [] = []
grouped (kind ∷ kinds) = grouped_after (record { count = 1; kind = kind }) kinds

abbrev pub linked_code : Targets → FnCode → Code
linked_code t code = record { locals = grouped code.locals; body = linked_body t code.relocs code.body }

-- the shadow stack's pointer, which begins where data begins: the stack grows down from there
abbrev pub stack_pointer : Global
stack_pointer = record { kind = I32; is_mutable = true; init = I32Const (pos data_start) ∷ [] }

abbrev pub export_of : NamedExport → Export
export_of e = record { name = e.name; what = exported.Function e.function }

-- the memory's export, then those of functions
abbrev pub exports_of : List NamedExport → List Export
exports_of exports = record { name = memory_name; what = exported.Memory 0 } ∷ map export_of exports

-- data as one segment; none where there are no bytes
abbrev pub segments_of : List ℕ → List Segment
segments_of [] = []
segments_of (b ∷ bs) = record { place = pos data_start; bytes = b ∷ bs } ∷ []

abbrev pub item_addresses : List Item → List ℕ
item_addresses items = item_starts data_start items

-- what operands name: imports, functions and items in their order
abbrev pub targets_of : List ExternFunction → List Function → List Item → List (List ℕ) → Targets
targets_of imports functions items errors = record {
  imports = map (λ (e : ExternFunction). e.spelling) imports;
  functions = function_spellings functions;
  items = item_spellings items;
  addresses = item_addresses items;
  errors = errors;
}

-- the exports of functions behind so many imports, by name
abbrev pub sorted_exports : ℕ → List Function → List NamedExport
sorted_exports imports functions = in_order export_cmp (exports_from imports functions)

-- the module of imports, and of functions and items in their order
abbrev pub module_of : List ExternFunction → List Function → List Item → List (List ℕ) → Module
module_of imports functions items errors =
    let types = types_of (kinds_of imports functions) in
    let bytes = map fn_type_bytes types in
    let targets = targets_of imports functions items errors in
    record {
      types = types;
      imports = map (import_of bytes) imports;
      functions = map (λ (f : Function). type_index bytes f.code.kind) functions;
      memories = record { min_pages = pages_to (items_end data_start items) } ∷ [];
      globals = stack_pointer ∷ [];
      exports = exports_of (sorted_exports (length imports) functions);
      codes = map (λ (f : Function). linked_code targets f.code) functions;
      segments = segments_of (data_bytes targets items);
    }

-- more error names than two bytes number from 1 on
abbrev pub most_errors : ℕ
most_errors = 65535

-- the most bytes of a module
abbrev pub most_module : ℕ
most_module = 268435456

-- the bytes of a module, unless it is too large
abbrev pub encoded : ℕ → List ℕ → Result (List ℕ) LinkFault
encoded errors bytes =
    if nat_lt most_errors errors || nat_lt most_module (length bytes) then Err ModuleTooLarge else Ok bytes

-- the refusal of a name under which two things are exported
abbrev pub doubled : List ℕ → List Function → Result (List ℕ) LinkFault
doubled name functions = Err (DuplicateExport name (places_of name functions))

-- functions and items in their order, whose exports have this double name if any
abbrev pub link_named : Option (List ℕ) → List Function → List Item → List (List ℕ) → Result (List ℕ) LinkFault
link_named (Some name) functions items errors = doubled name functions
link_named None functions items errors =
    if nat_lt data_limit (items_end data_start items) then Err DataTooLarge
    else encoded (length errors) (module_bytes (module_of (imported functions) functions items errors))

-- functions and items in their order
abbrev pub link_sorted : List Function → List Item → List (List ℕ) → Result (List ℕ) LinkFault
link_sorted functions items errors =
    link_named (double_name (sorted_exports (length (imported functions)) functions)) functions items errors

-- The module's bytes, or the first cause of the refusals; functions and items in whatever order.
unfoldable pub linked : List Function → List Item → List (List ℕ) → Result (List ℕ) LinkFault
linked functions items errors = link_sorted (in_order function_cmp functions) (in_order item_cmp items) errors

-- a call's answer; want of memory says nothing
abbrev pub Answers : Result (List ℕ) LinkFault → Result (List ℕ) LinkFault → Type 0
Answers (Err OutOfMemory) answer = Unit {0}
Answers result answer = result ≡ answer

-- functions and items in another order give the same answer, where their spellings differ
abbrev pub OrderChangesNothing : Type 0
OrderChangesNothing =
    (functions moved : List Function) (items shifted : List Item) (errors : List (List ℕ))
    → IsDistinct bytes_eq (function_spellings functions) → IsDistinct bytes_eq (item_spellings items)
    → IsPermutation functions moved → IsPermutation items shifted → linked moved shifted errors ≡ linked functions items errors
