-- How parts end most quickly: the tokens of a shortest derivation, and which tokens may follow, as tables.
use Rattle.std.specs.Prelude.{ℕ, zero, suc, Bool, true, false, ◌&&◌, ◌||◌, nat_lt, if◌then◌else◌, List, [], ◌∷◌, ◌++◌}
use Rattle.zig_tree.specs.declared.token.TokenKind.{TokenKind}
use Rattle.zig_tree.specs.declared.token.TokenKind.TheVariants as kind
use Rattle.zig_tree.specs.declared.grammar.Rule.{Rule}
use Rattle.zig_tree.specs.declared.grammar.Rule.TheVariants as rule
use Rattle.zig_tree.specs.declared.grammar.Group.{Group}
use Rattle.zig_tree.specs.declared.grammar.Group.TheVariants as group
use Rattle.zig_tree.specs.declared.grammar.TokenClass.{TokenClass}
use Rattle.zig_tree.specs.declared.grammar.TokenClass.TheVariants as class
use Rattle.zig_tree.specs.declared.grammar.When.{When}
use Rattle.zig_tree.specs.declared.grammar.When.TheVariants as when
use Rattle.zig_tree.specs.declared.grammar.Part.{Part}
use Rattle.zig_tree.specs.declared.grammar.Part.TheVariants as part
use Rattle.zig_tree.specs.Kinds.{is_kind}
use Rattle.zig_tree.specs.Grammar.{Alternative, holds}
use Rattle.zig_tree.specs.GrammarSentences.{next_kind, second_kind}

-- a token of each class that alternatives name
abbrev pub sample : TokenClass → TokenKind
sample class.ConstOrVar = kind.KeywordConst
sample class.NameWord = kind.Identifier
sample class.AssignOperator = kind.Equal
sample class.CompareOperator = kind.EqualEqual
sample class.BitOperator = kind.Caret
sample class.ShiftOperator = kind.AngleLeftAngleLeft
sample class.AddOperator = kind.Plus
sample class.MultiplyOperator = kind.Slash
sample class.PrefixOperator = kind.Bang
sample class.PointerMark = kind.Asterisk
sample class.AtomWord = kind.Identifier
sample class.ContainerWord = kind.KeywordStruct
sample _ = kind.Identifier

-- the classes that alternatives name
abbrev pub is_sampled : TokenClass → Bool
is_sampled class.CaptureStart = false
is_sampled class.ParameterStart = false
is_sampled class.TypePrefixStart = false
is_sampled class.OperandWord = false
is_sampled class.StatementWord = false
is_sampled class.TypeStart = false
is_sampled class.ExpressionStart = false
is_sampled class.StatementStart = false
is_sampled class.ProngStart = false
is_sampled class.DeclarationStart = false
is_sampled class.MemberStart = false
is_sampled _ = true

-- the shortest tokens of a rule
abbrev pub quick_rule : Rule → List TokenKind
quick_rule rule.Root = kind.End ∷ []
quick_rule rule.Member = kind.Identifier ∷ kind.Comma ∷ []
quick_rule rule.Declaration = kind.KeywordComptime ∷ kind.LeftBrace ∷ kind.RightBrace ∷ []
quick_rule rule.Variable = kind.KeywordConst ∷ kind.Identifier ∷ kind.Equal ∷ kind.Identifier ∷ kind.Semicolon ∷ []
quick_rule rule.Prototype = kind.KeywordFn ∷ kind.Identifier ∷ kind.LeftParen ∷ kind.RightParen ∷ kind.Identifier ∷ []
quick_rule rule.Function = kind.KeywordFn ∷ kind.Identifier ∷ kind.LeftParen ∷ kind.RightParen ∷ kind.Identifier ∷ kind.LeftBrace ∷ kind.RightBrace ∷ []
quick_rule rule.Parameter = kind.Identifier ∷ kind.Colon ∷ kind.KeywordAnytype ∷ []
quick_rule rule.Block = kind.LeftBrace ∷ kind.RightBrace ∷ []
quick_rule rule.Statement = kind.LeftBrace ∷ kind.RightBrace ∷ []
quick_rule rule.Body = kind.LeftBrace ∷ kind.RightBrace ∷ []
quick_rule rule.IfStatement = kind.KeywordIf ∷ kind.LeftParen ∷ kind.Identifier ∷ kind.RightParen ∷ kind.LeftBrace ∷ kind.RightBrace ∷ []
quick_rule rule.WhileStatement = kind.KeywordWhile ∷ kind.LeftParen ∷ kind.Identifier ∷ kind.RightParen ∷ kind.LeftBrace ∷ kind.RightBrace ∷ []
quick_rule rule.ForStatement = kind.KeywordFor ∷ kind.LeftParen ∷ kind.Identifier ∷ kind.RightParen ∷ kind.Pipe ∷ kind.Identifier ∷ kind.Pipe ∷ kind.LeftBrace ∷ kind.RightBrace ∷ []
quick_rule rule.Rest = kind.LeftBrace ∷ kind.RightBrace ∷ []
quick_rule rule.Capture = kind.Pipe ∷ kind.Identifier ∷ kind.Pipe ∷ []
quick_rule rule.IfExpression = kind.KeywordIf ∷ kind.LeftParen ∷ kind.Identifier ∷ kind.RightParen ∷ kind.Identifier ∷ []
quick_rule rule.WhileExpression = kind.KeywordWhile ∷ kind.LeftParen ∷ kind.Identifier ∷ kind.RightParen ∷ kind.Identifier ∷ []
quick_rule rule.ForExpression = kind.KeywordFor ∷ kind.LeftParen ∷ kind.Identifier ∷ kind.RightParen ∷ kind.Pipe ∷ kind.Identifier ∷ kind.Pipe ∷ kind.Identifier ∷ []
quick_rule rule.TypePrefix = kind.QuestionMark ∷ []
quick_rule rule.Initializer = kind.LeftBrace ∷ kind.RightBrace ∷ []
quick_rule rule.Container = kind.KeywordStruct ∷ kind.LeftBrace ∷ kind.RightBrace ∷ []
quick_rule rule.ContainerBody = kind.LeftBrace ∷ kind.RightBrace ∷ []
quick_rule rule.Switch = kind.KeywordSwitch ∷ kind.LeftParen ∷ kind.Identifier ∷ kind.RightParen ∷ kind.LeftBrace ∷ kind.RightBrace ∷ []
quick_rule rule.Prong = kind.KeywordElse ∷ kind.EqualAngleRight ∷ kind.Identifier ∷ []
quick_rule _ = kind.Identifier ∷ []

-- and of a group
abbrev pub quick_group : Group → List TokenKind
quick_group group.FieldEnd = kind.Comma ∷ []
quick_group group.Declared = kind.KeywordConst ∷ kind.Identifier ∷ kind.Equal ∷ kind.Identifier ∷ kind.Semicolon ∷ []
quick_group group.ParameterType = kind.KeywordAnytype ∷ []
quick_group group.ComptimeStatement = kind.LeftBrace ∷ kind.RightBrace ∷ []
quick_group group.LabelledStatement = kind.LeftBrace ∷ kind.RightBrace ∷ []
quick_group group.RestEnd = kind.Semicolon ∷ []
quick_group group.LabelledExpression = kind.LeftBrace ∷ kind.RightBrace ∷ []
quick_group group.BracketPrefix = kind.RightBracket ∷ []
quick_group group.DotAtom = kind.Identifier ∷ []
quick_group group.ErrorAtom = kind.Period ∷ kind.Identifier ∷ []
quick_group group.InitializerBody = kind.RightBrace ∷ []
quick_group group.UnionTag = kind.KeywordEnum ∷ []
quick_group group.ProngHead = kind.KeywordElse ∷ []
quick_group group.ErrorBraces = kind.LeftBrace ∷ kind.RightBrace ∷ []
quick_group group.SwitchBraces = kind.LeftBrace ∷ kind.RightBrace ∷ []
quick_group _ = []

abbrev pub quick : Part → List TokenKind
quick (part.Token k) = k ∷ []
quick (part.OneOf c) = sample c ∷ []
quick (part.Rule r) = quick_rule r
quick (part.Group g) = quick_group g

abbrev pub quick_all : List Part → List TokenKind
quick_all [] = []
quick_all (p ∷ ps) = quick p ++ quick_all ps

-- the tokens that may follow an expression, and a type
abbrev ends_expression : List TokenKind
ends_expression = kind.Comma ∷ kind.EqualAngleRight ∷ kind.RightBrace ∷ kind.RightBracket ∷ kind.RightParen ∷ kind.Semicolon ∷ []

abbrev ends_type : List TokenKind
ends_type = kind.Comma ∷ kind.Equal ∷ kind.EqualAngleRight ∷ kind.LeftBrace ∷ kind.RightBrace ∷ kind.RightBracket ∷ kind.RightParen ∷ kind.Semicolon ∷ []

-- the tokens that may follow a rule where all ends most quickly
abbrev pub after_rule : Rule → List TokenKind
after_rule rule.Root = kind.End ∷ []
after_rule rule.Member = kind.End ∷ kind.RightBrace ∷ []
after_rule rule.Field = kind.Comma ∷ []
after_rule rule.Declaration = kind.End ∷ kind.RightBrace ∷ []
after_rule rule.Variable = kind.End ∷ kind.RightBrace ∷ []
after_rule rule.Prototype = kind.LeftBrace ∷ kind.Semicolon ∷ []
after_rule rule.Function = kind.End ∷ kind.RightBrace ∷ []
after_rule rule.Parameter = kind.RightParen ∷ []
after_rule rule.Block = kind.Comma ∷ kind.End ∷ kind.EqualAngleRight ∷ kind.RightBrace ∷ kind.RightBracket ∷ kind.RightParen ∷ kind.Semicolon ∷ []
after_rule rule.Statement = kind.RightBrace ∷ []
after_rule rule.Body = kind.RightBrace ∷ []
after_rule rule.IfStatement = kind.RightBrace ∷ []
after_rule rule.WhileStatement = kind.RightBrace ∷ []
after_rule rule.ForStatement = kind.RightBrace ∷ []
after_rule rule.Rest = kind.RightBrace ∷ []
after_rule rule.ForArgument = kind.RightParen ∷ []
after_rule rule.Captures = kind.Pipe ∷ []
after_rule rule.Capture = kind.Identifier ∷ kind.LeftBrace ∷ []
after_rule rule.Name = kind.Pipe ∷ []
after_rule rule.Assignment = kind.RightBrace ∷ kind.RightParen ∷ kind.Semicolon ∷ []
after_rule rule.TypeExpression = ends_type
after_rule rule.TypePrefix = kind.Identifier ∷ []
after_rule rule.Suffix = ends_type
after_rule rule.Atom = ends_type
after_rule rule.Initializer = ends_type
after_rule rule.Container = ends_type
after_rule rule.ContainerBody = ends_type
after_rule rule.Switch = ends_type
after_rule rule.Prong = kind.RightBrace ∷ []
after_rule rule.Item = kind.EqualAngleRight ∷ []
after_rule _ = ends_expression

-- and a group
abbrev pub after_group : Group → List TokenKind
after_group group.RootMembers = kind.End ∷ []
after_group group.FieldEnd = kind.End ∷ kind.RightBrace ∷ []
after_group group.TypeOption = kind.Comma ∷ kind.Equal ∷ []
after_group group.ValueOption = kind.Comma ∷ []
after_group group.StringOption = kind.KeywordFn ∷ kind.LeftBrace ∷ []
after_group group.PubOption = kind.KeywordConst ∷ []
after_group group.Declared = kind.End ∷ kind.RightBrace ∷ []
after_group group.Parameters = kind.RightParen ∷ []
after_group group.MoreParameters = kind.RightParen ∷ []
after_group group.BangOption = kind.Identifier ∷ []
after_group group.ComptimeOption = kind.Identifier ∷ []
after_group group.ParameterType = kind.RightParen ∷ []
after_group group.ContinueOption = kind.Identifier ∷ kind.LeftBrace ∷ []
after_group group.MoreForArguments = kind.RightParen ∷ []
after_group group.ForArguments = kind.RightParen ∷ []
after_group group.RangeOption = kind.RightBracket ∷ kind.RightParen ∷ []
after_group group.ExpressionOption = ends_expression
after_group group.MoreCaptures = kind.Pipe ∷ []
after_group group.FurtherCaptures = kind.Pipe ∷ []
after_group group.PointerOption = kind.Identifier ∷ []
after_group group.CaptureOption = kind.Identifier ∷ kind.LeftBrace ∷ []
after_group group.AssignTail = kind.RightBrace ∷ kind.RightParen ∷ kind.Semicolon ∷ []
after_group group.OrTail = ends_expression
after_group group.AndTail = ends_expression
after_group group.CompareTail = ends_expression
after_group group.BitTail = ends_expression
after_group group.ShiftTail = ends_expression
after_group group.AddTail = ends_expression
after_group group.MultiplyTail = ends_expression
after_group group.MorePrefixes = kind.Identifier ∷ []
after_group group.LabelledExpression = ends_expression
after_group group.BreakLabel = ends_expression
after_group group.InitializerOption = ends_expression
after_group group.ElseExpression = ends_expression
after_group group.MoreTypePrefixes = kind.Identifier ∷ []
after_group group.BangTypeOption = ends_type
after_group group.ConstOption = kind.Identifier ∷ []
after_group group.BracketPrefix = kind.Identifier ∷ []
after_group group.SuffixTail = ends_type
after_group group.Arguments = kind.RightBrace ∷ kind.RightParen ∷ []
after_group group.MoreArguments = kind.RightBrace ∷ kind.RightParen ∷ []
after_group group.DotAtom = ends_type
after_group group.ErrorAtom = ends_type
after_group group.InitializerBody = ends_type
after_group group.TagOption = kind.LeftBrace ∷ []
after_group group.UnionTag = kind.RightParen ∷ []
after_group group.ProngHead = kind.EqualAngleRight ∷ []
after_group group.MoreItems = kind.EqualAngleRight ∷ []
after_group group.Items = kind.EqualAngleRight ∷ []
after_group group.ItemRange = kind.EqualAngleRight ∷ []
after_group group.ErrorBraces = ends_type
after_group group.SwitchBraces = ends_type
after_group _ = kind.RightBrace ∷ []

-- the alternative with the shortest tokens
abbrev pub quick_row_of_rule : Rule → ℕ
quick_row_of_rule rule.Member = 1
quick_row_of_rule rule.Statement = 5
quick_row_of_rule rule.Body = 4
quick_row_of_rule rule.Assignment = 1
quick_row_of_rule rule.Prefix = 1
quick_row_of_rule rule.Primary = 9
quick_row_of_rule rule.TypeExpression = 1
quick_row_of_rule _ = 0

-- and of a group
abbrev pub quick_row_of_group : Group → ℕ
quick_row_of_group group.FieldEnd = 0
quick_row_of_group group.Declared = 0
quick_row_of_group group.ParameterType = 0
quick_row_of_group group.ComptimeStatement = 2
quick_row_of_group group.LabelledStatement = 2
quick_row_of_group group.RestEnd = 0
quick_row_of_group group.BitTail = 2
quick_row_of_group group.LabelledExpression = 0
quick_row_of_group group.BracketPrefix = 0
quick_row_of_group group.SuffixTail = 5
quick_row_of_group group.DotAtom = 0
quick_row_of_group group.ErrorAtom = 0
quick_row_of_group group.InitializerBody = 0
quick_row_of_group group.UnionTag = 0
quick_row_of_group group.ProngHead = 0
quick_row_of_group group.ErrorBraces = 0
quick_row_of_group group.SwitchBraces = 0
quick_row_of_group _ = 1

-- how many alternatives lie one in the other in it
abbrev pub quick_depth_of_rule : Rule → ℕ
quick_depth_of_rule rule.Member = 3
quick_depth_of_rule rule.Declaration = 3
quick_depth_of_rule rule.Variable = 13
quick_depth_of_rule rule.Prototype = 4
quick_depth_of_rule rule.Function = 5
quick_depth_of_rule rule.Statement = 4
quick_depth_of_rule rule.Body = 3
quick_depth_of_rule rule.IfStatement = 13
quick_depth_of_rule rule.WhileStatement = 13
quick_depth_of_rule rule.ForStatement = 14
quick_depth_of_rule rule.Rest = 3
quick_depth_of_rule rule.ForArgument = 13
quick_depth_of_rule rule.Name = 1
quick_depth_of_rule rule.Assignment = 13
quick_depth_of_rule rule.Or = 12
quick_depth_of_rule rule.And = 11
quick_depth_of_rule rule.Compare = 10
quick_depth_of_rule rule.Bit = 9
quick_depth_of_rule rule.Shift = 8
quick_depth_of_rule rule.Add = 7
quick_depth_of_rule rule.Multiply = 6
quick_depth_of_rule rule.Prefix = 5
quick_depth_of_rule rule.Primary = 4
quick_depth_of_rule rule.IfExpression = 14
quick_depth_of_rule rule.WhileExpression = 14
quick_depth_of_rule rule.ForExpression = 14
quick_depth_of_rule rule.RestExpression = 13
quick_depth_of_rule rule.TypeExpression = 3
quick_depth_of_rule rule.TypePrefix = 1
quick_depth_of_rule rule.Atom = 1
quick_depth_of_rule rule.Container = 3
quick_depth_of_rule rule.Switch = 13
quick_depth_of_rule rule.Prong = 14
quick_depth_of_rule rule.Item = 13
quick_depth_of_rule _ = 2

-- and in that of a group
abbrev pub quick_depth_of_group : Group → ℕ
quick_depth_of_group group.Declared = 14
quick_depth_of_group group.ComptimeStatement = 4
quick_depth_of_group group.LabelledStatement = 3
quick_depth_of_group group.LabelledExpression = 3
quick_depth_of_group group.BracketPrefix = 2
quick_depth_of_group group.ErrorBraces = 2
quick_depth_of_group group.SwitchBraces = 2
quick_depth_of_group _ = 1

abbrev pub quick_depth : Part → ℕ
quick_depth (part.Token _) = 0
quick_depth (part.OneOf _) = 0
quick_depth (part.Rule r) = quick_depth_of_rule r
quick_depth (part.Group g) = quick_depth_of_group g

-- ---- tests

abbrev pub is_in : TokenKind → List TokenKind → Bool
is_in k [] = false
is_in k (j ∷ js) = is_kind k j || is_in k js

abbrev pub each_kind : (TokenKind → Bool) → List TokenKind → Bool
each_kind f [] = true
each_kind f (k ∷ ks) = f k && each_kind f ks

abbrev pub first_or : List TokenKind → TokenKind → TokenKind
first_or [] k = k
first_or (j ∷ js) k = j

abbrev pub may_follow : TokenKind → Part → Bool
may_follow k (part.Token _) = true
may_follow k (part.OneOf c) = is_sampled c
may_follow k (part.Rule r) = is_in k (after_rule r)
may_follow k (part.Group g) = is_in k (after_group g)

-- whether each part may be followed by what ends the next ones most quickly, and then by this token
abbrev pub ends_before : TokenKind → List Part → Bool
ends_before k [] = true
ends_before k (p ∷ ps) = may_follow (first_or (quick_all ps) k) p && ends_before k ps

abbrev pub row_ends_before : List TokenKind → Alternative → Bool
row_ends_before ks a = each_kind (λ k. ends_before k a.parts) ks

abbrev pub is_low : ℕ → List Part → Bool
is_low n [] = true
is_low n (p ∷ ps) = nat_lt (quick_depth p) n && is_low n ps

abbrev pub same_kinds : List TokenKind → List TokenKind → Bool
same_kinds [] [] = true
same_kinds (j ∷ js) (k ∷ ks) = is_kind j k && same_kinds js ks
same_kinds [] (k ∷ ks) = false
same_kinds (j ∷ js) [] = false

-- whether the first two of these tokens open the alternative of this number
abbrev pub opens_next : ℕ → List TokenKind → List Alternative → Bool
opens_next n tokens [] = false
opens_next zero tokens (a ∷ more) = holds (next_kind tokens) (second_kind tokens) a.at
opens_next (suc n) tokens (a ∷ more) = if holds (next_kind tokens) (second_kind tokens) a.at then false else opens_next n tokens more

abbrev pub opens_behind : When → ℕ → List TokenKind → List Alternative → Bool
opens_behind (when.Both _) n tokens more = opens_next n tokens more
opens_behind when.Always n tokens more = false
opens_behind (when.Is _) n tokens more = false
opens_behind (when.In _) n tokens more = false
opens_behind when.Label n tokens more = false

abbrev pub opens : ℕ → List TokenKind → List Alternative → Bool
opens n tokens [] = false
opens zero tokens (a ∷ more) = holds (next_kind tokens) (second_kind tokens) a.at
opens (suc n) tokens (a ∷ more) = if holds (next_kind tokens) (second_kind tokens) a.at then opens_behind a.at n tokens more else opens n tokens more

-- whether an alternative of a number has these shortest tokens, lower parts, and is open before each token that may follow
abbrev pub row_is_quick : ℕ → List TokenKind → List Alternative → Bool
row_is_quick n tokens [] = false
row_is_quick zero tokens (a ∷ more) = same_kinds (quick_all a.parts) tokens
row_is_quick (suc n) tokens (a ∷ more) = row_is_quick n tokens more

abbrev pub row_is_low : ℕ → ℕ → List Alternative → Bool
row_is_low depth n [] = false
row_is_low depth zero (a ∷ more) = is_low depth a.parts
row_is_low depth (suc n) (a ∷ more) = row_is_low depth n more

abbrev pub ends_well : ℕ → ℕ → List TokenKind → List TokenKind → List Alternative → Bool
ends_well n depth tokens after rows = (row_is_quick n tokens rows && row_is_low depth n rows) && each_kind (λ k. opens n (tokens ++ k ∷ []) rows) after
