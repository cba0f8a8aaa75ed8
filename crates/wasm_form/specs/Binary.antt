-- The bytes of a module (WebAssembly Core 1.0, chapter 5).
use Rattle.std.specs.Prelude.{ℕ, Bool, true, false, List, [], ◌∷◌, ◌++◌, length, Option, None, Some}
use Rattle.std.specs.List.{flat_map}
use Rattle.zw_bytes.specs.Leb.{unsigned_leb, signed_leb, unsigned_padded, signed_padded}
use Rattle.wasm_form.specs.declared.module.ValType.{ValType}
use Rattle.wasm_form.specs.declared.module.ValType.TheVariants.{I32, I64}
use Rattle.wasm_form.specs.declared.instr.BlockType.{BlockType}
use Rattle.wasm_form.specs.declared.instr.BlockType.TheVariants as block
use Rattle.wasm_form.specs.declared.instr.Instr.{Instr}
use Rattle.wasm_form.specs.declared.instr.Instr.TheVariants as instr
use Rattle.wasm_form.specs.Opcodes.{comparison_opcode, unary_opcode, binary_opcode, load_opcode, store_opcode, eqz_opcode}
use Rattle.wasm_form.specs.declared.module.Exported.{Exported}
use Rattle.wasm_form.specs.declared.module.Exported.TheVariants as exported
use Rattle.wasm_form.specs.declared.module.FnType.{FnType}
use Rattle.wasm_form.specs.declared.module.Import.{Import}
use Rattle.wasm_form.specs.declared.module.TypeIndex.{TypeIndex}
use Rattle.wasm_form.specs.declared.module.Memory.{Memory}
use Rattle.wasm_form.specs.declared.module.Global.{Global}
use Rattle.wasm_form.specs.declared.module.Export.{Export}
use Rattle.wasm_form.specs.declared.module.Locals.{Locals}
use Rattle.wasm_form.specs.declared.module.Code.{Code}
use Rattle.wasm_form.specs.declared.module.Segment.{Segment}
use Rattle.wasm_form.specs.declared.module.Module.{Module}

-- a vector: its length, then its entries (5.1.3)
abbrev pub vector_bytes : {T : Type 0} → (T → List ℕ) → List T → List ℕ
vector_bytes entry_bytes entries = unsigned_leb (length entries) ++ flat_map entry_bytes entries

-- a name, as the vector of its bytes (5.2.4)
abbrev pub name_bytes : List ℕ → List ℕ
name_bytes name = unsigned_leb (length name) ++ name

-- 5.3.1
abbrev pub val_type_bytes : ValType → List ℕ
val_type_bytes I32 = 0x7f ∷ []
val_type_bytes I64 = 0x7e ∷ []

-- the list with what is there
abbrev pub optional : {T : Type 0} → Option T → List T
optional None = []
optional (Some x) = x ∷ []

-- 5.3.3
abbrev pub fn_type_bytes : FnType → List ℕ
fn_type_bytes f = (0x60 ∷ vector_bytes val_type_bytes f.params) ++ vector_bytes val_type_bytes (optional f.result)

-- what a block leaves (5.4.1)
abbrev pub block_type_byte : BlockType → ℕ
block_type_byte block.Empty = 0x40
block_type_byte block.I32 = 0x7f

-- 5.4
abbrev pub instr_bytes : Instr → List ℕ
instr_bytes instr.Unreachable = 0x00 ∷ []
instr_bytes (instr.Block kind) = 0x02 ∷ block_type_byte kind ∷ []
instr_bytes (instr.Loop kind) = 0x03 ∷ block_type_byte kind ∷ []
instr_bytes (instr.If kind) = 0x04 ∷ block_type_byte kind ∷ []
instr_bytes instr.Else = 0x05 ∷ []
instr_bytes instr.End = 0x0b ∷ []
instr_bytes (instr.Br label) = 0x0c ∷ unsigned_leb label
instr_bytes instr.Return = 0x0f ∷ []
instr_bytes instr.Drop = 0x1a ∷ []
instr_bytes instr.Select = 0x1b ∷ []
instr_bytes (instr.LocalGet local) = 0x20 ∷ unsigned_leb local
instr_bytes (instr.LocalSet local) = 0x21 ∷ unsigned_leb local
instr_bytes (instr.LocalTee local) = 0x22 ∷ unsigned_leb local
instr_bytes (instr.GlobalGet global) = 0x23 ∷ unsigned_leb global
instr_bytes (instr.GlobalSet global) = 0x24 ∷ unsigned_leb global
instr_bytes (instr.Load kind offset) = load_opcode kind ∷ 0x00 ∷ unsigned_leb offset
instr_bytes (instr.Store kind offset) = store_opcode kind ∷ 0x00 ∷ unsigned_leb offset
instr_bytes (instr.I32Const n) = 0x41 ∷ signed_leb n
instr_bytes (instr.I64Const n) = 0x42 ∷ signed_leb n
instr_bytes (instr.Call function) = 0x10 ∷ unsigned_padded function
instr_bytes (instr.LinkedConst n) = 0x41 ∷ signed_padded n
instr_bytes (instr.IsZero class) = eqz_opcode class ∷ []
instr_bytes (instr.Compare class op) = comparison_opcode class op ∷ []
instr_bytes (instr.Unary class op) = unary_opcode class op ∷ []
instr_bytes (instr.Binary class op) = binary_opcode class op ∷ []
instr_bytes instr.Wrap = 0xa7 ∷ []
instr_bytes instr.ExtendSigned = 0xac ∷ []
instr_bytes instr.ExtendUnsigned = 0xad ∷ []

-- an expression: its instructions, and the `end` that closes it (5.4.6)
abbrev pub expr_bytes : List Instr → List ℕ
expr_bytes instrs = flat_map instr_bytes instrs ++ 0x0b ∷ []

-- an entry of the function section (5.5.6)
abbrev pub type_index_bytes : TypeIndex → List ℕ
type_index_bytes t = unsigned_leb t.0

-- an imported function (5.5.5)
abbrev pub import_bytes : Import → List ℕ
import_bytes i = name_bytes i.module_name ++ name_bytes i.name ++ (0x00 ∷ type_index_bytes i.kind)

-- a memory without a maximum (5.3.4)
abbrev pub memory_bytes : Memory → List ℕ
memory_bytes m = 0x00 ∷ unsigned_leb m.min_pages

-- whether a global may be written (5.3.7)
abbrev pub mutability_byte : Bool → ℕ
mutability_byte false = 0x00
mutability_byte true = 0x01

-- 5.5.9
abbrev pub global_bytes : Global → List ℕ
global_bytes g = val_type_bytes g.kind ++ (mutability_byte g.is_mutable ∷ expr_bytes g.init)

abbrev pub exported_bytes : Exported → List ℕ
exported_bytes (exported.Function index) = 0x00 ∷ unsigned_leb index
exported_bytes (exported.Memory index) = 0x02 ∷ unsigned_leb index

-- 5.5.10
abbrev pub export_bytes : Export → List ℕ
export_bytes e = name_bytes e.name ++ exported_bytes e.what

-- a group of locals (5.5.13)
abbrev pub locals_bytes : Locals → List ℕ
locals_bytes l = unsigned_leb l.count ++ val_type_bytes l.kind

-- the locals and the expression of a function
abbrev pub function_bytes : Code → List ℕ
function_bytes c = vector_bytes locals_bytes c.locals ++ expr_bytes c.body

-- an entry of the code section: its size, and the function (5.5.13)
abbrev pub code_bytes : Code → List ℕ
code_bytes c = unsigned_leb (length (function_bytes c)) ++ function_bytes c

-- a segment of data: memory 0, the expression of its place, and its bytes (5.5.14)
abbrev pub segment_bytes : Segment → List ℕ
segment_bytes s = (0x00 ∷ expr_bytes (instr.I32Const s.place ∷ [])) ++ name_bytes s.bytes

-- a section: its number, its size and its content (5.5.2); one without an entry is left out
abbrev pub section_bytes : {T : Type 0} → ℕ → (T → List ℕ) → List T → List ℕ
section_bytes id entry_bytes [] = []
section_bytes id entry_bytes (x ∷ xs) =
    (id ∷ unsigned_leb (length (vector_bytes entry_bytes (x ∷ xs)))) ++ vector_bytes entry_bytes (x ∷ xs)

-- the magic number and the version (5.5.16)
abbrev pub header_bytes : List ℕ
header_bytes = 0x00 ∷ 0x61 ∷ 0x73 ∷ 0x6d ∷ 0x01 ∷ 0x00 ∷ 0x00 ∷ 0x00 ∷ []

-- 5.5.16
abbrev pub module_bytes : Module → List ℕ
module_bytes m =
    header_bytes
    ++ section_bytes 1 fn_type_bytes m.types
    ++ section_bytes 2 import_bytes m.imports
    ++ section_bytes 3 type_index_bytes m.functions
    ++ section_bytes 5 memory_bytes m.memories
    ++ section_bytes 6 global_bytes m.globals
    ++ section_bytes 7 export_bytes m.exports
    ++ section_bytes 10 code_bytes m.codes
    ++ section_bytes 11 segment_bytes m.segments
