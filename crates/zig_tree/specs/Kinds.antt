-- Kinds of token, told apart by their numbers, and classes of them.
use Rattle.std.specs.Prelude.{ℕ, Bool, true, false, ◌||◌, nat_eq}
use Rattle.std.specs.Prelude.{ℕ, Bool, true, false, nat_eq}
use Rattle.zig_tree.specs.declared.token.TokenKind.{TokenKind}
use Rattle.zig_tree.specs.declared.token.TokenKind.TheVariants as kind
use Rattle.zig_tree.specs.declared.grammar.Rule.{Rule}
use Rattle.zig_tree.specs.declared.grammar.Rule.TheVariants as rule
use Rattle.zig_tree.specs.declared.grammar.Group.{Group}
use Rattle.zig_tree.specs.declared.grammar.Group.TheVariants as group
use Rattle.zig_tree.specs.declared.grammar.TokenClass.{TokenClass}
use Rattle.zig_tree.specs.declared.grammar.TokenClass.TheVariants as class
use Rattle.zig_tree.specs.declared.grammar.Part.{Part}
use Rattle.zig_tree.specs.declared.grammar.Part.TheVariants as part

-- where a kind of token stands in the list of kinds
unfoldable pub number_of : TokenKind → ℕ
number_of kind.Identifier = 0
number_of kind.Underscore = 1
number_of kind.Builtin = 2
number_of kind.Integer = 3
number_of kind.Char = 4
number_of kind.Str = 5
number_of kind.MultilineStr = 6
number_of kind.End = 7
number_of kind.LeftParen = 8
number_of kind.RightParen = 9
number_of kind.LeftBracket = 10
number_of kind.RightBracket = 11
number_of kind.LeftBrace = 12
number_of kind.RightBrace = 13
number_of kind.Comma = 14
number_of kind.Semicolon = 15
number_of kind.Colon = 16
number_of kind.Period = 17
number_of kind.Ellipsis2 = 18
number_of kind.Ellipsis3 = 19
number_of kind.PeriodAsterisk = 20
number_of kind.PeriodQuestionMark = 21
number_of kind.Equal = 22
number_of kind.EqualAngleRight = 23
number_of kind.EqualEqual = 24
number_of kind.Bang = 25
number_of kind.BangEqual = 26
number_of kind.AngleLeft = 27
number_of kind.AngleLeftEqual = 28
number_of kind.AngleRight = 29
number_of kind.AngleRightEqual = 30
number_of kind.Plus = 31
number_of kind.PlusPlus = 32
number_of kind.PlusEqual = 33
number_of kind.PlusPercent = 34
number_of kind.PlusPercentEqual = 35
number_of kind.PlusPipe = 36
number_of kind.PlusPipeEqual = 37
number_of kind.Minus = 38
number_of kind.MinusEqual = 39
number_of kind.MinusPercent = 40
number_of kind.MinusPercentEqual = 41
number_of kind.MinusPipe = 42
number_of kind.MinusPipeEqual = 43
number_of kind.Asterisk = 44
number_of kind.AsteriskAsterisk = 45
number_of kind.AsteriskEqual = 46
number_of kind.AsteriskPercent = 47
number_of kind.AsteriskPercentEqual = 48
number_of kind.AsteriskPipe = 49
number_of kind.AsteriskPipeEqual = 50
number_of kind.Slash = 51
number_of kind.SlashEqual = 52
number_of kind.Percent = 53
number_of kind.PercentEqual = 54
number_of kind.Ampersand = 55
number_of kind.AmpersandEqual = 56
number_of kind.Caret = 57
number_of kind.CaretEqual = 58
number_of kind.Pipe = 59
number_of kind.PipePipe = 60
number_of kind.PipeEqual = 61
number_of kind.AngleLeftAngleLeft = 62
number_of kind.AngleLeftAngleLeftEqual = 63
number_of kind.AngleLeftAngleLeftPipe = 64
number_of kind.AngleLeftAngleLeftPipeEqual = 65
number_of kind.AngleRightAngleRight = 66
number_of kind.AngleRightAngleRightEqual = 67
number_of kind.Tilde = 68
number_of kind.QuestionMark = 69
number_of kind.KeywordAddrspace = 70
number_of kind.KeywordAlign = 71
number_of kind.KeywordAllowzero = 72
number_of kind.KeywordAnd = 73
number_of kind.KeywordAnyframe = 74
number_of kind.KeywordAnytype = 75
number_of kind.KeywordAsm = 76
number_of kind.KeywordAsync = 77
number_of kind.KeywordAwait = 78
number_of kind.KeywordBreak = 79
number_of kind.KeywordCallconv = 80
number_of kind.KeywordCatch = 81
number_of kind.KeywordComptime = 82
number_of kind.KeywordConst = 83
number_of kind.KeywordContinue = 84
number_of kind.KeywordDefer = 85
number_of kind.KeywordElse = 86
number_of kind.KeywordEnum = 87
number_of kind.KeywordErrdefer = 88
number_of kind.KeywordError = 89
number_of kind.KeywordExport = 90
number_of kind.KeywordExtern = 91
number_of kind.KeywordFn = 92
number_of kind.KeywordFor = 93
number_of kind.KeywordIf = 94
number_of kind.KeywordInline = 95
number_of kind.KeywordLinksection = 96
number_of kind.KeywordNoalias = 97
number_of kind.KeywordNoinline = 98
number_of kind.KeywordNosuspend = 99
number_of kind.KeywordOpaque = 100
number_of kind.KeywordOr = 101
number_of kind.KeywordOrelse = 102
number_of kind.KeywordPacked = 103
number_of kind.KeywordPub = 104
number_of kind.KeywordResume = 105
number_of kind.KeywordReturn = 106
number_of kind.KeywordStruct = 107
number_of kind.KeywordSuspend = 108
number_of kind.KeywordSwitch = 109
number_of kind.KeywordTest = 110
number_of kind.KeywordThreadlocal = 111
number_of kind.KeywordTry = 112
number_of kind.KeywordUnion = 113
number_of kind.KeywordUnreachable = 114
number_of kind.KeywordUsingnamespace = 115
number_of kind.KeywordVar = 116
number_of kind.KeywordVolatile = 117
number_of kind.KeywordWhile = 118

-- whether two kinds of token are the same
abbrev pub is_kind : TokenKind → TokenKind → Bool
is_kind a b = nat_eq (number_of a) (number_of b)

-- where a rule stands in the list of them
unfoldable pub number_of_rule : Rule → ℕ
number_of_rule rule.Root = 0
number_of_rule rule.Member = 1
number_of_rule rule.Field = 2
number_of_rule rule.Declaration = 3
number_of_rule rule.Variable = 4
number_of_rule rule.Prototype = 5
number_of_rule rule.Function = 6
number_of_rule rule.Parameter = 7
number_of_rule rule.Block = 8
number_of_rule rule.Statement = 9
number_of_rule rule.Body = 10
number_of_rule rule.IfStatement = 11
number_of_rule rule.WhileStatement = 12
number_of_rule rule.ForStatement = 13
number_of_rule rule.Rest = 14
number_of_rule rule.ForArgument = 15
number_of_rule rule.Captures = 16
number_of_rule rule.Capture = 17
number_of_rule rule.Name = 18
number_of_rule rule.Assignment = 19
number_of_rule rule.Or = 20
number_of_rule rule.And = 21
number_of_rule rule.Compare = 22
number_of_rule rule.Bit = 23
number_of_rule rule.Shift = 24
number_of_rule rule.Add = 25
number_of_rule rule.Multiply = 26
number_of_rule rule.Prefix = 27
number_of_rule rule.Primary = 28
number_of_rule rule.IfExpression = 29
number_of_rule rule.WhileExpression = 30
number_of_rule rule.ForExpression = 31
number_of_rule rule.RestExpression = 32
number_of_rule rule.TypeExpression = 33
number_of_rule rule.TypePrefix = 34
number_of_rule rule.Suffix = 35
number_of_rule rule.Atom = 36
number_of_rule rule.Initializer = 37
number_of_rule rule.Container = 38
number_of_rule rule.ContainerBody = 39
number_of_rule rule.Switch = 40
number_of_rule rule.Prong = 41
number_of_rule rule.Item = 42

-- whether two of them are the same
abbrev pub is_rule : Rule → Rule → Bool
is_rule a b = nat_eq (number_of_rule a) (number_of_rule b)

-- where a group stands in the list of them
unfoldable pub number_of_group : Group → ℕ
number_of_group group.RootMembers = 0
number_of_group group.Members = 1
number_of_group group.FieldEnd = 2
number_of_group group.TypeOption = 3
number_of_group group.ValueOption = 4
number_of_group group.StringOption = 5
number_of_group group.PubOption = 6
number_of_group group.Declared = 7
number_of_group group.Parameters = 8
number_of_group group.MoreParameters = 9
number_of_group group.BangOption = 10
number_of_group group.ComptimeOption = 11
number_of_group group.ParameterType = 12
number_of_group group.Statements = 13
number_of_group group.ComptimeStatement = 14
number_of_group group.LabelledStatement = 15
number_of_group group.ContinueOption = 16
number_of_group group.MoreForArguments = 17
number_of_group group.ForArguments = 18
number_of_group group.ElseOption = 19
number_of_group group.RestEnd = 20
number_of_group group.RangeOption = 21
number_of_group group.ExpressionOption = 22
number_of_group group.MoreCaptures = 23
number_of_group group.FurtherCaptures = 24
number_of_group group.PointerOption = 25
number_of_group group.CaptureOption = 26
number_of_group group.AssignTail = 27
number_of_group group.OrTail = 28
number_of_group group.AndTail = 29
number_of_group group.CompareTail = 30
number_of_group group.BitTail = 31
number_of_group group.ShiftTail = 32
number_of_group group.AddTail = 33
number_of_group group.MultiplyTail = 34
number_of_group group.MorePrefixes = 35
number_of_group group.LabelledExpression = 36
number_of_group group.BreakLabel = 37
number_of_group group.InitializerOption = 38
number_of_group group.ElseExpression = 39
number_of_group group.MoreTypePrefixes = 40
number_of_group group.BangTypeOption = 41
number_of_group group.ConstOption = 42
number_of_group group.BracketPrefix = 43
number_of_group group.SuffixTail = 44
number_of_group group.Arguments = 45
number_of_group group.MoreArguments = 46
number_of_group group.DotAtom = 47
number_of_group group.ErrorAtom = 48
number_of_group group.ErrorNames = 49
number_of_group group.MoreErrorNames = 50
number_of_group group.InitializerBody = 51
number_of_group group.MoreFields = 52
number_of_group group.FurtherFields = 53
number_of_group group.TagOption = 54
number_of_group group.UnionTag = 55
number_of_group group.Prongs = 56
number_of_group group.MoreProngs = 57
number_of_group group.ProngHead = 58
number_of_group group.MoreItems = 59
number_of_group group.Items = 60
number_of_group group.ItemRange = 61
number_of_group group.ErrorBraces = 62
number_of_group group.SwitchBraces = 63

-- whether two of them are the same
abbrev pub is_group : Group → Group → Bool
is_group a b = nat_eq (number_of_group a) (number_of_group b)

-- where a class stands in the list of them
unfoldable pub number_of_class : TokenClass → ℕ
number_of_class class.ConstOrVar = 0
number_of_class class.NameWord = 1
number_of_class class.AssignOperator = 2
number_of_class class.CompareOperator = 3
number_of_class class.BitOperator = 4
number_of_class class.ShiftOperator = 5
number_of_class class.AddOperator = 6
number_of_class class.MultiplyOperator = 7
number_of_class class.PrefixOperator = 8
number_of_class class.PointerMark = 9
number_of_class class.AtomWord = 10
number_of_class class.ContainerWord = 11
number_of_class class.CaptureStart = 12
number_of_class class.ParameterStart = 13
number_of_class class.TypePrefixStart = 14
number_of_class class.OperandWord = 15
number_of_class class.StatementWord = 16
number_of_class class.TypeStart = 17
number_of_class class.ExpressionStart = 18
number_of_class class.StatementStart = 19
number_of_class class.ProngStart = 20
number_of_class class.DeclarationStart = 21
number_of_class class.MemberStart = 22

-- whether two of them are the same
abbrev pub is_class : TokenClass → TokenClass → Bool
is_class a b = nat_eq (number_of_class a) (number_of_class b)

-- whether two parts of alternatives are the same
abbrev pub is_part : Part → Part → Bool
is_part (part.Token a) (part.Token b) = is_kind a b
is_part (part.OneOf a) (part.OneOf b) = is_class a b
is_part (part.Rule a) (part.Rule b) = is_rule a b
is_part (part.Group a) (part.Group b) = is_group a b
is_part _ _ = false

-- `const` or `var`
unfoldable pub is_const_or_var : TokenKind → Bool
is_const_or_var kind.KeywordConst = true
is_const_or_var kind.KeywordVar = true
is_const_or_var _ = false

-- a name or the bare `_`
unfoldable pub is_name_word : TokenKind → Bool
is_name_word kind.Identifier = true
is_name_word kind.Underscore = true
is_name_word _ = false

-- `=` or a binary operator with `=`
unfoldable pub is_assign_operator : TokenKind → Bool
is_assign_operator kind.Equal = true
is_assign_operator kind.PlusEqual = true
is_assign_operator kind.PlusPercentEqual = true
is_assign_operator kind.PlusPipeEqual = true
is_assign_operator kind.MinusEqual = true
is_assign_operator kind.MinusPercentEqual = true
is_assign_operator kind.MinusPipeEqual = true
is_assign_operator kind.AsteriskEqual = true
is_assign_operator kind.AsteriskPercentEqual = true
is_assign_operator kind.AsteriskPipeEqual = true
is_assign_operator kind.SlashEqual = true
is_assign_operator kind.PercentEqual = true
is_assign_operator kind.AmpersandEqual = true
is_assign_operator kind.CaretEqual = true
is_assign_operator kind.PipeEqual = true
is_assign_operator kind.AngleLeftAngleLeftEqual = true
is_assign_operator kind.AngleLeftAngleLeftPipeEqual = true
is_assign_operator kind.AngleRightAngleRightEqual = true
is_assign_operator _ = false

-- a comparison
unfoldable pub is_compare_operator : TokenKind → Bool
is_compare_operator kind.EqualEqual = true
is_compare_operator kind.BangEqual = true
is_compare_operator kind.AngleLeft = true
is_compare_operator kind.AngleLeftEqual = true
is_compare_operator kind.AngleRight = true
is_compare_operator kind.AngleRightEqual = true
is_compare_operator _ = false

-- an operator of the level of `&`, but `catch`
unfoldable pub is_bit_operator : TokenKind → Bool
is_bit_operator kind.Ampersand = true
is_bit_operator kind.Caret = true
is_bit_operator kind.Pipe = true
is_bit_operator kind.KeywordOrelse = true
is_bit_operator _ = false

-- a shift
unfoldable pub is_shift_operator : TokenKind → Bool
is_shift_operator kind.AngleLeftAngleLeft = true
is_shift_operator kind.AngleRightAngleRight = true
is_shift_operator kind.AngleLeftAngleLeftPipe = true
is_shift_operator _ = false

-- an operator of the level of `+`
unfoldable pub is_add_operator : TokenKind → Bool
is_add_operator kind.Plus = true
is_add_operator kind.Minus = true
is_add_operator kind.PlusPlus = true
is_add_operator kind.PlusPercent = true
is_add_operator kind.MinusPercent = true
is_add_operator kind.PlusPipe = true
is_add_operator kind.MinusPipe = true
is_add_operator _ = false

-- an operator of the level of `*`
unfoldable pub is_multiply_operator : TokenKind → Bool
is_multiply_operator kind.Asterisk = true
is_multiply_operator kind.Slash = true
is_multiply_operator kind.Percent = true
is_multiply_operator kind.AsteriskAsterisk = true
is_multiply_operator kind.AsteriskPercent = true
is_multiply_operator kind.AsteriskPipe = true
is_multiply_operator kind.PipePipe = true
is_multiply_operator _ = false

-- an operator before its operand
unfoldable pub is_prefix_operator : TokenKind → Bool
is_prefix_operator kind.Bang = true
is_prefix_operator kind.Minus = true
is_prefix_operator kind.MinusPercent = true
is_prefix_operator kind.Tilde = true
is_prefix_operator kind.Ampersand = true
is_prefix_operator kind.KeywordTry = true
is_prefix_operator _ = false

-- `*` or `**` before a type
unfoldable pub is_pointer_mark : TokenKind → Bool
is_pointer_mark kind.Asterisk = true
is_pointer_mark kind.AsteriskAsterisk = true
is_pointer_mark _ = false

-- a token that is an atom by itself
unfoldable pub is_atom_word : TokenKind → Bool
is_atom_word kind.Integer = true
is_atom_word kind.Char = true
is_atom_word kind.Str = true
is_atom_word kind.MultilineStr = true
is_atom_word kind.Identifier = true
is_atom_word kind.KeywordUnreachable = true
is_atom_word _ = false

-- what begins a container
unfoldable pub is_container_word : TokenKind → Bool
is_container_word kind.KeywordStruct = true
is_container_word kind.KeywordEnum = true
is_container_word kind.KeywordUnion = true
is_container_word _ = false

-- what begins a captured name
unfoldable pub is_capture_start : TokenKind → Bool
is_capture_start kind.Asterisk = true
is_capture_start kind.Identifier = true
is_capture_start kind.Underscore = true
is_capture_start _ = false

-- what begins a parameter
unfoldable pub is_parameter_start : TokenKind → Bool
is_parameter_start kind.KeywordComptime = true
is_parameter_start kind.Identifier = true
is_parameter_start kind.Underscore = true
is_parameter_start _ = false

-- what begins a prefix of a type
unfoldable pub is_type_prefix_start : TokenKind → Bool
is_type_prefix_start kind.QuestionMark = true
is_type_prefix_start kind.Asterisk = true
is_type_prefix_start kind.AsteriskAsterisk = true
is_type_prefix_start kind.LeftBracket = true
is_type_prefix_start _ = false

-- a word, or the brace, that begins an operand
unfoldable pub is_operand_word : TokenKind → Bool
is_operand_word kind.KeywordIf = true
is_operand_word kind.LeftBrace = true
is_operand_word kind.KeywordWhile = true
is_operand_word kind.KeywordFor = true
is_operand_word kind.KeywordBreak = true
is_operand_word kind.KeywordContinue = true
is_operand_word kind.KeywordReturn = true
is_operand_word kind.KeywordComptime = true
is_operand_word _ = false

-- what begins a statement and no expression
unfoldable pub is_statement_word : TokenKind → Bool
is_statement_word kind.KeywordConst = true
is_statement_word kind.KeywordVar = true
is_statement_word kind.KeywordDefer = true
is_statement_word kind.KeywordErrdefer = true
is_statement_word kind.Underscore = true
is_statement_word _ = false

-- what begins a type
unfoldable pub is_type_start : TokenKind → Bool
is_type_start kind.QuestionMark = true
is_type_start kind.Asterisk = true
is_type_start kind.AsteriskAsterisk = true
is_type_start kind.LeftBracket = true
is_type_start kind.Integer = true
is_type_start kind.Char = true
is_type_start kind.Str = true
is_type_start kind.MultilineStr = true
is_type_start kind.Identifier = true
is_type_start kind.KeywordUnreachable = true
is_type_start kind.Period = true
is_type_start kind.KeywordError = true
is_type_start kind.Builtin = true
is_type_start kind.LeftParen = true
is_type_start kind.KeywordStruct = true
is_type_start kind.KeywordEnum = true
is_type_start kind.KeywordUnion = true
is_type_start kind.KeywordSwitch = true
is_type_start _ = false

-- what begins an expression
unfoldable pub is_expression_start : TokenKind → Bool
is_expression_start k = is_prefix_operator k || is_operand_word k || is_type_start k

-- what begins a statement
unfoldable pub is_statement_start : TokenKind → Bool
is_statement_start k = is_statement_word k || is_expression_start k

-- what begins a prong of a switch
unfoldable pub is_prong_start : TokenKind → Bool
is_prong_start k = is_kind k kind.KeywordElse || is_expression_start k

-- what begins a declaration
unfoldable pub is_declaration_start : TokenKind → Bool
is_declaration_start kind.KeywordPub = true
is_declaration_start kind.KeywordConst = true
is_declaration_start kind.KeywordVar = true
is_declaration_start kind.KeywordExport = true
is_declaration_start kind.KeywordFn = true
is_declaration_start kind.KeywordExtern = true
is_declaration_start kind.KeywordComptime = true
is_declaration_start kind.KeywordTest = true
is_declaration_start _ = false

-- what begins a member of a container
unfoldable pub is_member_start : TokenKind → Bool
is_member_start k = is_kind k kind.Identifier || is_declaration_start k

-- whether a class has a kind of token
abbrev pub has_kind : TokenClass → TokenKind → Bool
has_kind class.ConstOrVar k = is_const_or_var k
has_kind class.NameWord k = is_name_word k
has_kind class.AssignOperator k = is_assign_operator k
has_kind class.CompareOperator k = is_compare_operator k
has_kind class.BitOperator k = is_bit_operator k
has_kind class.ShiftOperator k = is_shift_operator k
has_kind class.AddOperator k = is_add_operator k
has_kind class.MultiplyOperator k = is_multiply_operator k
has_kind class.PrefixOperator k = is_prefix_operator k
has_kind class.PointerMark k = is_pointer_mark k
has_kind class.AtomWord k = is_atom_word k
has_kind class.ContainerWord k = is_container_word k
has_kind class.CaptureStart k = is_capture_start k
has_kind class.ParameterStart k = is_parameter_start k
has_kind class.TypePrefixStart k = is_type_prefix_start k
has_kind class.OperandWord k = is_operand_word k
has_kind class.StatementWord k = is_statement_word k
has_kind class.TypeStart k = is_type_start k
has_kind class.ExpressionStart k = is_expression_start k
has_kind class.StatementStart k = is_statement_start k
has_kind class.ProngStart k = is_prong_start k
has_kind class.DeclarationStart k = is_declaration_start k
has_kind class.MemberStart k = is_member_start k
