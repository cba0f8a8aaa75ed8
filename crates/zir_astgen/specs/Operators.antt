-- Operators by what they are written as.
use Rattle.std.specs.Prelude.{Option, Some, None}
use Rattle.zig_tree.specs.declared.token.TokenKind.{TokenKind}
use Rattle.zig_tree.specs.declared.token.TokenKind.TheVariants as kind
use Rattle.zir_form.specs.declared.operator.BinaryOperator.{BinaryOperator}
use Rattle.zir_form.specs.declared.operator.BinaryOperator.TheVariants as binary
use Rattle.zir_form.specs.declared.operator.UnaryOperator.{UnaryOperator}
use Rattle.zir_form.specs.declared.operator.UnaryOperator.TheVariants as unary

-- an operator between two operands, also as it leads an assignment
unfoldable pub binary_of : TokenKind → Option BinaryOperator
binary_of kind.Plus = Some binary.Add
binary_of kind.PlusEqual = Some binary.Add
binary_of kind.PlusPercent = Some binary.AddWrap
binary_of kind.PlusPercentEqual = Some binary.AddWrap
binary_of kind.PlusPipe = Some binary.AddSaturate
binary_of kind.PlusPipeEqual = Some binary.AddSaturate
binary_of kind.Minus = Some binary.Subtract
binary_of kind.MinusEqual = Some binary.Subtract
binary_of kind.MinusPercent = Some binary.SubtractWrap
binary_of kind.MinusPercentEqual = Some binary.SubtractWrap
binary_of kind.MinusPipe = Some binary.SubtractSaturate
binary_of kind.MinusPipeEqual = Some binary.SubtractSaturate
binary_of kind.Asterisk = Some binary.Multiply
binary_of kind.AsteriskEqual = Some binary.Multiply
binary_of kind.AsteriskPercent = Some binary.MultiplyWrap
binary_of kind.AsteriskPercentEqual = Some binary.MultiplyWrap
binary_of kind.AsteriskPipe = Some binary.MultiplySaturate
binary_of kind.AsteriskPipeEqual = Some binary.MultiplySaturate
binary_of kind.Slash = Some binary.Divide
binary_of kind.SlashEqual = Some binary.Divide
binary_of kind.Percent = Some binary.Remainder
binary_of kind.PercentEqual = Some binary.Remainder
binary_of kind.PlusPlus = Some binary.Concatenate
binary_of kind.AsteriskAsterisk = Some binary.Repeat
binary_of kind.PipePipe = Some binary.MergeErrors
binary_of kind.AngleLeftAngleLeft = Some binary.ShiftLeft
binary_of kind.AngleLeftAngleLeftEqual = Some binary.ShiftLeft
binary_of kind.AngleLeftAngleLeftPipe = Some binary.ShiftLeftSaturate
binary_of kind.AngleLeftAngleLeftPipeEqual = Some binary.ShiftLeftSaturate
binary_of kind.AngleRightAngleRight = Some binary.ShiftRight
binary_of kind.AngleRightAngleRightEqual = Some binary.ShiftRight
binary_of kind.Ampersand = Some binary.BitAnd
binary_of kind.AmpersandEqual = Some binary.BitAnd
binary_of kind.Caret = Some binary.BitXor
binary_of kind.CaretEqual = Some binary.BitXor
binary_of kind.Pipe = Some binary.BitOr
binary_of kind.PipeEqual = Some binary.BitOr
binary_of kind.EqualEqual = Some binary.Equal
binary_of kind.BangEqual = Some binary.NotEqual
binary_of kind.AngleLeft = Some binary.Less
binary_of kind.AngleLeftEqual = Some binary.LessOrEqual
binary_of kind.AngleRight = Some binary.Greater
binary_of kind.AngleRightEqual = Some binary.GreaterOrEqual
binary_of _ = None

-- an operator before its operand
unfoldable pub unary_of : TokenKind → Option UnaryOperator
unary_of kind.Bang = Some unary.Not
unary_of kind.Minus = Some unary.Negate
unary_of kind.MinusPercent = Some unary.NegateWrap
unary_of kind.Tilde = Some unary.Complement
unary_of _ = None
