-- Operands over indices.
use Rattle.type_trees.specs.declared.operand.Operand.{Operand}
use Rattle.type_trees.specs.declared.operand.Operand.TheVariants as operand
use Rattle.type_form.specs.Known.{Known}
use Rattle.type_form.specs.Means.{IsTy, IsValue}

-- its indices are those of a value, and of a type
abbrev pub IsOperand : Known → Operand → Type 0
IsOperand k (operand.Known i) = IsValue k i
IsOperand k (operand.Run t at) = IsTy k t
