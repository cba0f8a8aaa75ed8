-- The grammar as data. Each rule has its alternatives in the order of preference, one a row: the next
-- tokens at which it is taken, and its parts. A group is a piece of a rule that makes no node.
use Rattle.std.specs.Prelude.{Bool, true, ◌&&◌, List, [], ◌∷◌}
use Rattle.zig_tree.specs.declared.token.TokenKind.{TokenKind}
use Rattle.zig_tree.specs.declared.token.TokenKind.TheVariants as kind
use Rattle.zig_tree.specs.declared.grammar.Rule.{Rule}
use Rattle.zig_tree.specs.declared.grammar.Rule.TheVariants as rule
use Rattle.zig_tree.specs.declared.grammar.Group.{Group}
use Rattle.zig_tree.specs.declared.grammar.Group.TheVariants as group
use Rattle.zig_tree.specs.declared.grammar.TokenClass.TheVariants as class
use Rattle.zig_tree.specs.declared.grammar.Part.{Part}
use Rattle.zig_tree.specs.declared.grammar.Part.TheVariants as part
use Rattle.zig_tree.specs.declared.grammar.When.{When}
use Rattle.zig_tree.specs.declared.grammar.When.TheVariants as when
use Rattle.zig_tree.specs.Kinds.{is_kind, has_kind}

-- whether an alternative may be taken where the next tokens are of these two kinds
abbrev pub holds : TokenKind → TokenKind → When → Bool
holds first second when.Always = true
holds first second (when.Is wanted) = is_kind wanted first
holds first second (when.In wanted) = has_kind wanted first
holds first second when.Label = is_kind first kind.Identifier && is_kind second kind.Colon
holds first second (when.Both wanted) = is_kind wanted first

-- an alternative of a rule or a group
pub record Alternative : Type 0 where
  pub at : When
  pub parts : List Part

abbrev pub row : When → List Part → Alternative
row w ps = record { at = w; parts = ps }

-- the alternatives of each rule
unfoldable pub rule_rows : Rule → List Alternative
-- 1
rule_rows rule.Root =
    row (when.Always) (part.Group group.RootMembers ∷ part.Token kind.End ∷ []) ∷
    []
-- 2
rule_rows rule.Member =
    row (when.In class.DeclarationStart) (part.Rule rule.Declaration ∷ []) ∷
    row (when.Is kind.Identifier) (part.Rule rule.Field ∷ part.Group group.FieldEnd ∷ []) ∷
    []
-- 3
rule_rows rule.Field =
    row (when.Always) (part.Token kind.Identifier ∷ part.Group group.TypeOption ∷ part.Group group.ValueOption ∷ []) ∷
    []
-- 4
rule_rows rule.Declaration =
    row (when.Is kind.KeywordComptime) (part.Token kind.KeywordComptime ∷ part.Rule rule.Block ∷ []) ∷
    row (when.Is kind.KeywordTest) (part.Token kind.KeywordTest ∷ part.Group group.StringOption ∷ part.Rule rule.Block ∷ []) ∷
    row (when.Always) (part.Group group.PubOption ∷ part.Group group.Declared ∷ []) ∷
    []
-- 5
rule_rows rule.Variable =
    row (when.Always) (part.OneOf class.ConstOrVar ∷ part.Token kind.Identifier ∷ part.Group group.TypeOption ∷ part.Token kind.Equal ∷ part.Rule rule.Or ∷ part.Token kind.Semicolon ∷ []) ∷
    []
-- 6
rule_rows rule.Prototype =
    row (when.Always) (part.Token kind.KeywordFn ∷ part.Token kind.Identifier ∷ part.Token kind.LeftParen ∷ part.Group group.Parameters ∷ part.Token kind.RightParen ∷ part.Group group.BangOption ∷ part.Rule rule.TypeExpression ∷ []) ∷
    []
rule_rows rule.Function =
    row (when.Always) (part.Rule rule.Prototype ∷ part.Rule rule.Block ∷ []) ∷
    []
-- 7
rule_rows rule.Parameter =
    row (when.Always) (part.Group group.ComptimeOption ∷ part.OneOf class.NameWord ∷ part.Token kind.Colon ∷ part.Group group.ParameterType ∷ []) ∷
    []
-- 8
rule_rows rule.Block =
    row (when.Always) (part.Token kind.LeftBrace ∷ part.Group group.Statements ∷ part.Token kind.RightBrace ∷ []) ∷
    []
-- 9
rule_rows rule.Statement =
    row (when.Is kind.KeywordConst) (part.Rule rule.Variable ∷ []) ∷
    row (when.Is kind.KeywordVar) (part.Rule rule.Variable ∷ []) ∷
    row (when.Is kind.KeywordComptime) (part.Token kind.KeywordComptime ∷ part.Group group.ComptimeStatement ∷ []) ∷
    row (when.Is kind.KeywordDefer) (part.Token kind.KeywordDefer ∷ part.Rule rule.Body ∷ []) ∷
    row (when.Is kind.KeywordErrdefer) (part.Token kind.KeywordErrdefer ∷ part.Group group.CaptureOption ∷ part.Rule rule.Body ∷ []) ∷
    row (when.Always) (part.Rule rule.Body ∷ []) ∷
    []
-- 10
rule_rows rule.Body =
    row (when.Is kind.KeywordIf) (part.Rule rule.IfStatement ∷ []) ∷
    row (when.Is kind.KeywordWhile) (part.Rule rule.WhileStatement ∷ []) ∷
    row (when.Is kind.KeywordFor) (part.Rule rule.ForStatement ∷ []) ∷
    row (when.Both kind.Identifier) (part.Token kind.Identifier ∷ part.Token kind.Colon ∷ part.Group group.LabelledStatement ∷ []) ∷
    row (when.Both kind.LeftBrace) (part.Rule rule.Block ∷ []) ∷
    row (when.Both kind.KeywordSwitch) (part.Rule rule.Switch ∷ []) ∷
    row (when.Always) (part.Rule rule.Assignment ∷ part.Token kind.Semicolon ∷ []) ∷
    []
-- 11
rule_rows rule.IfStatement =
    row (when.Always) (part.Token kind.KeywordIf ∷ part.Token kind.LeftParen ∷ part.Rule rule.Or ∷ part.Token kind.RightParen ∷ part.Group group.CaptureOption ∷ part.Rule rule.Rest ∷ []) ∷
    []
rule_rows rule.WhileStatement =
    row (when.Always) (part.Token kind.KeywordWhile ∷ part.Token kind.LeftParen ∷ part.Rule rule.Or ∷ part.Token kind.RightParen ∷ part.Group group.CaptureOption ∷ part.Group group.ContinueOption ∷ part.Rule rule.Rest ∷ []) ∷
    []
rule_rows rule.ForStatement =
    row (when.Always) (part.Token kind.KeywordFor ∷ part.Token kind.LeftParen ∷ part.Rule rule.ForArgument ∷ part.Group group.MoreForArguments ∷ part.Token kind.RightParen ∷ part.Token kind.Pipe ∷ part.Rule rule.Captures ∷ part.Token kind.Pipe ∷ part.Rule rule.Rest ∷ []) ∷
    []
-- 12
rule_rows rule.Rest =
    row (when.Both kind.LeftBrace) (part.Rule rule.Block ∷ part.Group group.ElseOption ∷ []) ∷
    row (when.Always) (part.Rule rule.Assignment ∷ part.Group group.RestEnd ∷ []) ∷
    []
-- 13
rule_rows rule.ForArgument =
    row (when.Always) (part.Rule rule.Or ∷ part.Group group.RangeOption ∷ []) ∷
    []
rule_rows rule.Captures =
    row (when.Always) (part.Group group.PointerOption ∷ part.Rule rule.Name ∷ part.Group group.MoreCaptures ∷ []) ∷
    []
rule_rows rule.Capture =
    row (when.Always) (part.Token kind.Pipe ∷ part.Group group.PointerOption ∷ part.Rule rule.Name ∷ part.Token kind.Pipe ∷ []) ∷
    []
rule_rows rule.Name =
    row (when.Always) (part.OneOf class.NameWord ∷ []) ∷
    []
-- 14
rule_rows rule.Assignment =
    row (when.Is kind.Underscore) (part.Token kind.Underscore ∷ part.Token kind.Equal ∷ part.Rule rule.Or ∷ []) ∷
    row (when.Always) (part.Rule rule.Or ∷ part.Group group.AssignTail ∷ []) ∷
    []
-- 15
rule_rows rule.Or =
    row (when.Always) (part.Rule rule.And ∷ part.Group group.OrTail ∷ []) ∷
    []
rule_rows rule.And =
    row (when.Always) (part.Rule rule.Compare ∷ part.Group group.AndTail ∷ []) ∷
    []
rule_rows rule.Compare =
    row (when.Always) (part.Rule rule.Bit ∷ part.Group group.CompareTail ∷ []) ∷
    []
-- 16
rule_rows rule.Bit =
    row (when.Always) (part.Rule rule.Shift ∷ part.Group group.BitTail ∷ []) ∷
    []
rule_rows rule.Shift =
    row (when.Always) (part.Rule rule.Add ∷ part.Group group.ShiftTail ∷ []) ∷
    []
-- 17
rule_rows rule.Add =
    row (when.Always) (part.Rule rule.Multiply ∷ part.Group group.AddTail ∷ []) ∷
    []
rule_rows rule.Multiply =
    row (when.Always) (part.Rule rule.Prefix ∷ part.Group group.MultiplyTail ∷ []) ∷
    []
-- 18
rule_rows rule.Prefix =
    row (when.In class.PrefixOperator) (part.OneOf class.PrefixOperator ∷ part.Group group.MorePrefixes ∷ part.Rule rule.Primary ∷ []) ∷
    row (when.Always) (part.Rule rule.Primary ∷ []) ∷
    []
-- 19
rule_rows rule.Primary =
    row (when.Is kind.KeywordIf) (part.Rule rule.IfExpression ∷ []) ∷
    row (when.Label) (part.Token kind.Identifier ∷ part.Token kind.Colon ∷ part.Group group.LabelledExpression ∷ []) ∷
    row (when.Is kind.LeftBrace) (part.Rule rule.Block ∷ []) ∷
    row (when.Is kind.KeywordWhile) (part.Rule rule.WhileExpression ∷ []) ∷
    row (when.Is kind.KeywordFor) (part.Rule rule.ForExpression ∷ []) ∷
    row (when.Is kind.KeywordBreak) (part.Token kind.KeywordBreak ∷ part.Group group.BreakLabel ∷ part.Group group.ExpressionOption ∷ []) ∷
    row (when.Is kind.KeywordContinue) (part.Token kind.KeywordContinue ∷ part.Group group.BreakLabel ∷ []) ∷
    row (when.Is kind.KeywordReturn) (part.Token kind.KeywordReturn ∷ part.Group group.ExpressionOption ∷ []) ∷
    row (when.Is kind.KeywordComptime) (part.Token kind.KeywordComptime ∷ part.Rule rule.Or ∷ []) ∷
    row (when.In class.TypeStart) (part.Rule rule.TypeExpression ∷ part.Group group.InitializerOption ∷ []) ∷
    []
-- 20
rule_rows rule.IfExpression =
    row (when.Always) (part.Token kind.KeywordIf ∷ part.Token kind.LeftParen ∷ part.Rule rule.Or ∷ part.Token kind.RightParen ∷ part.Group group.CaptureOption ∷ part.Rule rule.RestExpression ∷ []) ∷
    []
rule_rows rule.WhileExpression =
    row (when.Always) (part.Token kind.KeywordWhile ∷ part.Token kind.LeftParen ∷ part.Rule rule.Or ∷ part.Token kind.RightParen ∷ part.Group group.CaptureOption ∷ part.Group group.ContinueOption ∷ part.Rule rule.RestExpression ∷ []) ∷
    []
rule_rows rule.ForExpression =
    row (when.Always) (part.Token kind.KeywordFor ∷ part.Token kind.LeftParen ∷ part.Rule rule.ForArgument ∷ part.Group group.MoreForArguments ∷ part.Token kind.RightParen ∷ part.Token kind.Pipe ∷ part.Rule rule.Captures ∷ part.Token kind.Pipe ∷ part.Rule rule.RestExpression ∷ []) ∷
    []
rule_rows rule.RestExpression =
    row (when.Always) (part.Rule rule.Or ∷ part.Group group.ElseExpression ∷ []) ∷
    []
-- 21
rule_rows rule.TypeExpression =
    row (when.In class.TypePrefixStart) (part.Rule rule.TypePrefix ∷ part.Group group.MoreTypePrefixes ∷ part.Rule rule.Suffix ∷ part.Group group.BangTypeOption ∷ []) ∷
    row (when.Always) (part.Rule rule.Suffix ∷ part.Group group.BangTypeOption ∷ []) ∷
    []
rule_rows rule.TypePrefix =
    row (when.Is kind.QuestionMark) (part.Token kind.QuestionMark ∷ []) ∷
    row (when.In class.PointerMark) (part.OneOf class.PointerMark ∷ part.Group group.ConstOption ∷ []) ∷
    row (when.Is kind.LeftBracket) (part.Token kind.LeftBracket ∷ part.Group group.BracketPrefix ∷ []) ∷
    []
-- 22
rule_rows rule.Suffix =
    row (when.Always) (part.Rule rule.Atom ∷ part.Group group.SuffixTail ∷ []) ∷
    []
-- 23
rule_rows rule.Atom =
    row (when.In class.AtomWord) (part.OneOf class.AtomWord ∷ []) ∷
    row (when.Is kind.Period) (part.Token kind.Period ∷ part.Group group.DotAtom ∷ []) ∷
    row (when.Is kind.KeywordError) (part.Token kind.KeywordError ∷ part.Group group.ErrorAtom ∷ []) ∷
    row (when.Is kind.Builtin) (part.Token kind.Builtin ∷ part.Token kind.LeftParen ∷ part.Group group.Arguments ∷ part.Token kind.RightParen ∷ []) ∷
    row (when.Is kind.LeftParen) (part.Token kind.LeftParen ∷ part.Rule rule.Or ∷ part.Token kind.RightParen ∷ []) ∷
    row (when.In class.ContainerWord) (part.Rule rule.Container ∷ []) ∷
    row (when.Is kind.KeywordSwitch) (part.Rule rule.Switch ∷ []) ∷
    []
-- 24
rule_rows rule.Initializer =
    row (when.Always) (part.Token kind.LeftBrace ∷ part.Group group.InitializerBody ∷ []) ∷
    []
-- 25
rule_rows rule.Container =
    row (when.Is kind.KeywordStruct) (part.Token kind.KeywordStruct ∷ part.Rule rule.ContainerBody ∷ []) ∷
    row (when.Is kind.KeywordEnum) (part.Token kind.KeywordEnum ∷ part.Group group.TagOption ∷ part.Rule rule.ContainerBody ∷ []) ∷
    row (when.Is kind.KeywordUnion) (part.Token kind.KeywordUnion ∷ part.Token kind.LeftParen ∷ part.Group group.UnionTag ∷ part.Token kind.RightParen ∷ part.Rule rule.ContainerBody ∷ []) ∷
    []
rule_rows rule.ContainerBody =
    row (when.Always) (part.Token kind.LeftBrace ∷ part.Group group.Members ∷ part.Token kind.RightBrace ∷ []) ∷
    []
-- 26
rule_rows rule.Switch =
    row (when.Always) (part.Token kind.KeywordSwitch ∷ part.Token kind.LeftParen ∷ part.Rule rule.Or ∷ part.Token kind.RightParen ∷ part.Group group.SwitchBraces ∷ []) ∷
    []
rule_rows rule.Prong =
    row (when.Always) (part.Group group.ProngHead ∷ part.Token kind.EqualAngleRight ∷ part.Group group.CaptureOption ∷ part.Rule rule.Assignment ∷ []) ∷
    []
rule_rows rule.Item =
    row (when.Always) (part.Rule rule.Or ∷ part.Group group.ItemRange ∷ []) ∷
    []

-- the alternatives of each group
unfoldable pub group_rows : Group → List Alternative
group_rows group.RootMembers =
    row (when.In class.DeclarationStart) (part.Rule rule.Member ∷ part.Group group.RootMembers ∷ []) ∷
    row (when.Always) ([]) ∷
    []
group_rows group.Members =
    row (when.In class.MemberStart) (part.Rule rule.Member ∷ part.Group group.Members ∷ []) ∷
    row (when.Always) ([]) ∷
    []
group_rows group.FieldEnd =
    row (when.Is kind.Comma) (part.Token kind.Comma ∷ []) ∷
    row (when.Is kind.RightBrace) ([]) ∷
    []
group_rows group.TypeOption =
    row (when.Is kind.Colon) (part.Token kind.Colon ∷ part.Rule rule.TypeExpression ∷ []) ∷
    row (when.Always) ([]) ∷
    []
group_rows group.ValueOption =
    row (when.Is kind.Equal) (part.Token kind.Equal ∷ part.Rule rule.Or ∷ []) ∷
    row (when.Always) ([]) ∷
    []
group_rows group.StringOption =
    row (when.Is kind.Str) (part.Token kind.Str ∷ []) ∷
    row (when.Always) ([]) ∷
    []
group_rows group.PubOption =
    row (when.Is kind.KeywordPub) (part.Token kind.KeywordPub ∷ []) ∷
    row (when.Always) ([]) ∷
    []
group_rows group.Declared =
    row (when.Is kind.KeywordConst) (part.Rule rule.Variable ∷ []) ∷
    row (when.Is kind.KeywordVar) (part.Rule rule.Variable ∷ []) ∷
    row (when.Is kind.KeywordExport) (part.Token kind.KeywordExport ∷ part.Rule rule.Function ∷ []) ∷
    row (when.Is kind.KeywordFn) (part.Rule rule.Function ∷ []) ∷
    row (when.Is kind.KeywordExtern) (part.Token kind.KeywordExtern ∷ part.Group group.StringOption ∷ part.Rule rule.Prototype ∷ part.Token kind.Semicolon ∷ []) ∷
    []
group_rows group.Parameters =
    row (when.In class.ParameterStart) (part.Rule rule.Parameter ∷ part.Group group.MoreParameters ∷ []) ∷
    row (when.Always) ([]) ∷
    []
group_rows group.MoreParameters =
    row (when.Is kind.Comma) (part.Token kind.Comma ∷ part.Group group.Parameters ∷ []) ∷
    row (when.Always) ([]) ∷
    []
group_rows group.BangOption =
    row (when.Is kind.Bang) (part.Token kind.Bang ∷ []) ∷
    row (when.Always) ([]) ∷
    []
group_rows group.ComptimeOption =
    row (when.Is kind.KeywordComptime) (part.Token kind.KeywordComptime ∷ []) ∷
    row (when.Always) ([]) ∷
    []
group_rows group.ParameterType =
    row (when.Is kind.KeywordAnytype) (part.Token kind.KeywordAnytype ∷ []) ∷
    row (when.Always) (part.Rule rule.TypeExpression ∷ []) ∷
    []
group_rows group.Statements =
    row (when.In class.StatementStart) (part.Rule rule.Statement ∷ part.Group group.Statements ∷ []) ∷
    row (when.Always) ([]) ∷
    []
group_rows group.ComptimeStatement =
    row (when.Is kind.KeywordConst) (part.Rule rule.Variable ∷ []) ∷
    row (when.Is kind.KeywordVar) (part.Rule rule.Variable ∷ []) ∷
    row (when.Always) (part.Rule rule.Body ∷ []) ∷
    []
group_rows group.LabelledStatement =
    row (when.Is kind.KeywordWhile) (part.Rule rule.WhileStatement ∷ []) ∷
    row (when.Is kind.KeywordFor) (part.Rule rule.ForStatement ∷ []) ∷
    row (when.Is kind.LeftBrace) (part.Rule rule.Block ∷ []) ∷
    []
group_rows group.ContinueOption =
    row (when.Is kind.Colon) (part.Token kind.Colon ∷ part.Token kind.LeftParen ∷ part.Rule rule.Assignment ∷ part.Token kind.RightParen ∷ []) ∷
    row (when.Always) ([]) ∷
    []
group_rows group.MoreForArguments =
    row (when.Is kind.Comma) (part.Token kind.Comma ∷ part.Group group.ForArguments ∷ []) ∷
    row (when.Always) ([]) ∷
    []
group_rows group.ForArguments =
    row (when.In class.ExpressionStart) (part.Rule rule.ForArgument ∷ part.Group group.MoreForArguments ∷ []) ∷
    row (when.Always) ([]) ∷
    []
group_rows group.ElseOption =
    row (when.Is kind.KeywordElse) (part.Token kind.KeywordElse ∷ part.Group group.CaptureOption ∷ part.Rule rule.Body ∷ []) ∷
    row (when.Always) ([]) ∷
    []
group_rows group.RestEnd =
    row (when.Is kind.Semicolon) (part.Token kind.Semicolon ∷ []) ∷
    row (when.Is kind.KeywordElse) (part.Token kind.KeywordElse ∷ part.Group group.CaptureOption ∷ part.Rule rule.Body ∷ []) ∷
    []
group_rows group.RangeOption =
    row (when.Is kind.Ellipsis2) (part.Token kind.Ellipsis2 ∷ part.Group group.ExpressionOption ∷ []) ∷
    row (when.Always) ([]) ∷
    []
group_rows group.ExpressionOption =
    row (when.In class.ExpressionStart) (part.Rule rule.Or ∷ []) ∷
    row (when.Always) ([]) ∷
    []
group_rows group.MoreCaptures =
    row (when.Is kind.Comma) (part.Token kind.Comma ∷ part.Group group.FurtherCaptures ∷ []) ∷
    row (when.Always) ([]) ∷
    []
group_rows group.FurtherCaptures =
    row (when.In class.CaptureStart) (part.Group group.PointerOption ∷ part.Rule rule.Name ∷ part.Group group.MoreCaptures ∷ []) ∷
    row (when.Always) ([]) ∷
    []
group_rows group.PointerOption =
    row (when.Is kind.Asterisk) (part.Token kind.Asterisk ∷ []) ∷
    row (when.Always) ([]) ∷
    []
group_rows group.CaptureOption =
    row (when.Is kind.Pipe) (part.Rule rule.Capture ∷ []) ∷
    row (when.Always) ([]) ∷
    []
group_rows group.AssignTail =
    row (when.In class.AssignOperator) (part.OneOf class.AssignOperator ∷ part.Rule rule.Or ∷ []) ∷
    row (when.Always) ([]) ∷
    []
group_rows group.OrTail =
    row (when.Is kind.KeywordOr) (part.Token kind.KeywordOr ∷ part.Rule rule.And ∷ part.Group group.OrTail ∷ []) ∷
    row (when.Always) ([]) ∷
    []
group_rows group.AndTail =
    row (when.Is kind.KeywordAnd) (part.Token kind.KeywordAnd ∷ part.Rule rule.Compare ∷ part.Group group.AndTail ∷ []) ∷
    row (when.Always) ([]) ∷
    []
group_rows group.CompareTail =
    row (when.In class.CompareOperator) (part.OneOf class.CompareOperator ∷ part.Rule rule.Bit ∷ []) ∷
    row (when.Always) ([]) ∷
    []
group_rows group.BitTail =
    row (when.In class.BitOperator) (part.OneOf class.BitOperator ∷ part.Rule rule.Shift ∷ part.Group group.BitTail ∷ []) ∷
    row (when.Is kind.KeywordCatch) (part.Token kind.KeywordCatch ∷ part.Group group.CaptureOption ∷ part.Rule rule.Shift ∷ part.Group group.BitTail ∷ []) ∷
    row (when.Always) ([]) ∷
    []
group_rows group.ShiftTail =
    row (when.In class.ShiftOperator) (part.OneOf class.ShiftOperator ∷ part.Rule rule.Add ∷ part.Group group.ShiftTail ∷ []) ∷
    row (when.Always) ([]) ∷
    []
group_rows group.AddTail =
    row (when.In class.AddOperator) (part.OneOf class.AddOperator ∷ part.Rule rule.Multiply ∷ part.Group group.AddTail ∷ []) ∷
    row (when.Always) ([]) ∷
    []
group_rows group.MultiplyTail =
    row (when.In class.MultiplyOperator) (part.OneOf class.MultiplyOperator ∷ part.Rule rule.Prefix ∷ part.Group group.MultiplyTail ∷ []) ∷
    row (when.Always) ([]) ∷
    []
group_rows group.MorePrefixes =
    row (when.In class.PrefixOperator) (part.OneOf class.PrefixOperator ∷ part.Group group.MorePrefixes ∷ []) ∷
    row (when.Always) ([]) ∷
    []
group_rows group.LabelledExpression =
    row (when.Is kind.LeftBrace) (part.Rule rule.Block ∷ []) ∷
    row (when.Is kind.KeywordWhile) (part.Rule rule.WhileExpression ∷ []) ∷
    row (when.Is kind.KeywordFor) (part.Rule rule.ForExpression ∷ []) ∷
    []
group_rows group.BreakLabel =
    row (when.Is kind.Colon) (part.Token kind.Colon ∷ part.Token kind.Identifier ∷ []) ∷
    row (when.Always) ([]) ∷
    []
group_rows group.InitializerOption =
    row (when.Is kind.LeftBrace) (part.Rule rule.Initializer ∷ []) ∷
    row (when.Always) ([]) ∷
    []
group_rows group.ElseExpression =
    row (when.Is kind.KeywordElse) (part.Token kind.KeywordElse ∷ part.Group group.CaptureOption ∷ part.Rule rule.Or ∷ []) ∷
    row (when.Always) ([]) ∷
    []
group_rows group.MoreTypePrefixes =
    row (when.In class.TypePrefixStart) (part.Rule rule.TypePrefix ∷ part.Group group.MoreTypePrefixes ∷ []) ∷
    row (when.Always) ([]) ∷
    []
group_rows group.BangTypeOption =
    row (when.Is kind.Bang) (part.Token kind.Bang ∷ part.Rule rule.TypeExpression ∷ []) ∷
    row (when.Always) ([]) ∷
    []
group_rows group.ConstOption =
    row (when.Is kind.KeywordConst) (part.Token kind.KeywordConst ∷ []) ∷
    row (when.Always) ([]) ∷
    []
group_rows group.BracketPrefix =
    row (when.Is kind.RightBracket) (part.Token kind.RightBracket ∷ part.Group group.ConstOption ∷ []) ∷
    row (when.Is kind.Underscore) (part.Token kind.Underscore ∷ part.Token kind.RightBracket ∷ []) ∷
    row (when.Always) (part.Rule rule.Or ∷ part.Token kind.RightBracket ∷ []) ∷
    []
group_rows group.SuffixTail =
    row (when.Is kind.Period) (part.Token kind.Period ∷ part.Token kind.Identifier ∷ part.Group group.SuffixTail ∷ []) ∷
    row (when.Is kind.PeriodAsterisk) (part.Token kind.PeriodAsterisk ∷ part.Group group.SuffixTail ∷ []) ∷
    row (when.Is kind.PeriodQuestionMark) (part.Token kind.PeriodQuestionMark ∷ part.Group group.SuffixTail ∷ []) ∷
    row (when.Is kind.LeftBracket) (part.Token kind.LeftBracket ∷ part.Rule rule.Or ∷ part.Group group.RangeOption ∷ part.Token kind.RightBracket ∷ part.Group group.SuffixTail ∷ []) ∷
    row (when.Is kind.LeftParen) (part.Token kind.LeftParen ∷ part.Group group.Arguments ∷ part.Token kind.RightParen ∷ part.Group group.SuffixTail ∷ []) ∷
    row (when.Always) ([]) ∷
    []
group_rows group.Arguments =
    row (when.In class.ExpressionStart) (part.Rule rule.Or ∷ part.Group group.MoreArguments ∷ []) ∷
    row (when.Always) ([]) ∷
    []
group_rows group.MoreArguments =
    row (when.Is kind.Comma) (part.Token kind.Comma ∷ part.Group group.Arguments ∷ []) ∷
    row (when.Always) ([]) ∷
    []
group_rows group.DotAtom =
    row (when.Is kind.Identifier) (part.Token kind.Identifier ∷ []) ∷
    row (when.Is kind.LeftBrace) (part.Rule rule.Initializer ∷ []) ∷
    []
group_rows group.ErrorAtom =
    row (when.Is kind.Period) (part.Token kind.Period ∷ part.Token kind.Identifier ∷ []) ∷
    row (when.Is kind.LeftBrace) (part.Group group.ErrorBraces ∷ []) ∷
    []
group_rows group.ErrorNames =
    row (when.Is kind.Identifier) (part.Token kind.Identifier ∷ part.Group group.MoreErrorNames ∷ []) ∷
    row (when.Always) ([]) ∷
    []
group_rows group.MoreErrorNames =
    row (when.Is kind.Comma) (part.Token kind.Comma ∷ part.Group group.ErrorNames ∷ []) ∷
    row (when.Always) ([]) ∷
    []
group_rows group.InitializerBody =
    row (when.Is kind.RightBrace) (part.Token kind.RightBrace ∷ []) ∷
    row (when.Both kind.Period) (part.Token kind.Period ∷ part.Token kind.Identifier ∷ part.Token kind.Equal ∷ part.Rule rule.Or ∷ part.Group group.MoreFields ∷ part.Token kind.RightBrace ∷ []) ∷
    row (when.Always) (part.Rule rule.Or ∷ part.Group group.MoreArguments ∷ part.Token kind.RightBrace ∷ []) ∷
    []
group_rows group.MoreFields =
    row (when.Is kind.Comma) (part.Token kind.Comma ∷ part.Group group.FurtherFields ∷ []) ∷
    row (when.Always) ([]) ∷
    []
group_rows group.FurtherFields =
    row (when.Is kind.Period) (part.Token kind.Period ∷ part.Token kind.Identifier ∷ part.Token kind.Equal ∷ part.Rule rule.Or ∷ part.Group group.MoreFields ∷ []) ∷
    row (when.Always) ([]) ∷
    []
group_rows group.TagOption =
    row (when.Is kind.LeftParen) (part.Token kind.LeftParen ∷ part.Rule rule.Or ∷ part.Token kind.RightParen ∷ []) ∷
    row (when.Always) ([]) ∷
    []
group_rows group.UnionTag =
    row (when.Both kind.KeywordEnum) (part.Token kind.KeywordEnum ∷ []) ∷
    row (when.Always) (part.Rule rule.Or ∷ []) ∷
    []
group_rows group.Prongs =
    row (when.In class.ProngStart) (part.Rule rule.Prong ∷ part.Group group.MoreProngs ∷ []) ∷
    row (when.Always) ([]) ∷
    []
group_rows group.MoreProngs =
    row (when.Is kind.Comma) (part.Token kind.Comma ∷ part.Group group.Prongs ∷ []) ∷
    row (when.Always) ([]) ∷
    []
group_rows group.ProngHead =
    row (when.Is kind.KeywordElse) (part.Token kind.KeywordElse ∷ []) ∷
    row (when.Always) (part.Rule rule.Item ∷ part.Group group.MoreItems ∷ []) ∷
    []
group_rows group.MoreItems =
    row (when.Is kind.Comma) (part.Token kind.Comma ∷ part.Group group.Items ∷ []) ∷
    row (when.Always) ([]) ∷
    []
group_rows group.Items =
    row (when.In class.ExpressionStart) (part.Rule rule.Item ∷ part.Group group.MoreItems ∷ []) ∷
    row (when.Always) ([]) ∷
    []
group_rows group.ItemRange =
    row (when.Is kind.Ellipsis3) (part.Token kind.Ellipsis3 ∷ part.Rule rule.Or ∷ []) ∷
    row (when.Always) ([]) ∷
    []
group_rows group.ErrorBraces =
    row (when.Always) (part.Token kind.LeftBrace ∷ part.Group group.ErrorNames ∷ part.Token kind.RightBrace ∷ []) ∷
    []
group_rows group.SwitchBraces =
    row (when.Always) (part.Token kind.LeftBrace ∷ part.Group group.Prongs ∷ part.Token kind.RightBrace ∷ []) ∷
    []
