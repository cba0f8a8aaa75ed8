-- The opcodes of the instructions that come in families (WebAssembly Core 1.0, section 5.4).
use Rattle.std.specs.Prelude.{ℕ}
use Rattle.wasm_form.specs.declared.module.ValType.{ValType}
use Rattle.wasm_form.specs.declared.module.ValType.TheVariants.{I32, I64}
use Rattle.wasm_form.specs.declared.instr.Comparison.{Comparison}
use Rattle.wasm_form.specs.declared.instr.Comparison.TheVariants as comparison
use Rattle.wasm_form.specs.declared.instr.UnaryOp.{UnaryOp}
use Rattle.wasm_form.specs.declared.instr.UnaryOp.TheVariants as unary
use Rattle.wasm_form.specs.declared.instr.BinaryOp.{BinaryOp}
use Rattle.wasm_form.specs.declared.instr.BinaryOp.TheVariants as binary
use Rattle.wasm_form.specs.declared.instr.LoadKind.{LoadKind}
use Rattle.wasm_form.specs.declared.instr.LoadKind.TheVariants as load
use Rattle.wasm_form.specs.declared.instr.StoreKind.{StoreKind}
use Rattle.wasm_form.specs.declared.instr.StoreKind.TheVariants as store

-- `eqz`
abbrev pub eqz_opcode : ValType → ℕ
eqz_opcode I32 = 0x45
eqz_opcode I64 = 0x50

-- comparisons
abbrev pub comparison_opcode : ValType → Comparison → ℕ
comparison_opcode I32 comparison.Equal = 0x46
comparison_opcode I32 comparison.NotEqual = 0x47
comparison_opcode I32 comparison.LessSigned = 0x48
comparison_opcode I32 comparison.LessUnsigned = 0x49
comparison_opcode I32 comparison.GreaterSigned = 0x4a
comparison_opcode I32 comparison.GreaterUnsigned = 0x4b
comparison_opcode I32 comparison.AtMostSigned = 0x4c
comparison_opcode I32 comparison.AtMostUnsigned = 0x4d
comparison_opcode I32 comparison.AtLeastSigned = 0x4e
comparison_opcode I32 comparison.AtLeastUnsigned = 0x4f
comparison_opcode I64 comparison.Equal = 0x51
comparison_opcode I64 comparison.NotEqual = 0x52
comparison_opcode I64 comparison.LessSigned = 0x53
comparison_opcode I64 comparison.LessUnsigned = 0x54
comparison_opcode I64 comparison.GreaterSigned = 0x55
comparison_opcode I64 comparison.GreaterUnsigned = 0x56
comparison_opcode I64 comparison.AtMostSigned = 0x57
comparison_opcode I64 comparison.AtMostUnsigned = 0x58
comparison_opcode I64 comparison.AtLeastSigned = 0x59
comparison_opcode I64 comparison.AtLeastUnsigned = 0x5a

-- operations on one number
abbrev pub unary_opcode : ValType → UnaryOp → ℕ
unary_opcode I32 unary.CountLeadingZeros = 0x67
unary_opcode I32 unary.CountTrailingZeros = 0x68
unary_opcode I32 unary.CountOnes = 0x69
unary_opcode I64 unary.CountLeadingZeros = 0x79
unary_opcode I64 unary.CountTrailingZeros = 0x7a
unary_opcode I64 unary.CountOnes = 0x7b

-- operations on two numbers
abbrev pub binary_opcode : ValType → BinaryOp → ℕ
binary_opcode I32 binary.Add = 0x6a
binary_opcode I32 binary.Subtract = 0x6b
binary_opcode I32 binary.Multiply = 0x6c
binary_opcode I32 binary.DivideSigned = 0x6d
binary_opcode I32 binary.DivideUnsigned = 0x6e
binary_opcode I32 binary.RemainderSigned = 0x6f
binary_opcode I32 binary.RemainderUnsigned = 0x70
binary_opcode I32 binary.And = 0x71
binary_opcode I32 binary.Or = 0x72
binary_opcode I32 binary.Xor = 0x73
binary_opcode I32 binary.ShiftLeft = 0x74
binary_opcode I32 binary.ShiftRightSigned = 0x75
binary_opcode I32 binary.ShiftRightUnsigned = 0x76
binary_opcode I32 binary.RotateLeft = 0x77
binary_opcode I32 binary.RotateRight = 0x78
binary_opcode I64 binary.Add = 0x7c
binary_opcode I64 binary.Subtract = 0x7d
binary_opcode I64 binary.Multiply = 0x7e
binary_opcode I64 binary.DivideSigned = 0x7f
binary_opcode I64 binary.DivideUnsigned = 0x80
binary_opcode I64 binary.RemainderSigned = 0x81
binary_opcode I64 binary.RemainderUnsigned = 0x82
binary_opcode I64 binary.And = 0x83
binary_opcode I64 binary.Or = 0x84
binary_opcode I64 binary.Xor = 0x85
binary_opcode I64 binary.ShiftLeft = 0x86
binary_opcode I64 binary.ShiftRightSigned = 0x87
binary_opcode I64 binary.ShiftRightUnsigned = 0x88
binary_opcode I64 binary.RotateLeft = 0x89
binary_opcode I64 binary.RotateRight = 0x8a

-- loads
abbrev pub load_opcode : LoadKind → ℕ
load_opcode load.I32 = 0x28
load_opcode load.I64 = 0x29
load_opcode load.I32Signed8 = 0x2c
load_opcode load.I32Unsigned8 = 0x2d
load_opcode load.I32Signed16 = 0x2e
load_opcode load.I32Unsigned16 = 0x2f

-- stores
abbrev pub store_opcode : StoreKind → ℕ
store_opcode store.I32 = 0x36
store_opcode store.I64 = 0x37
store_opcode store.I32Low8 = 0x3a
store_opcode store.I32Low16 = 0x3b
