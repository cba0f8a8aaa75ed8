-- What scoping sees of a rule and of a kind of token.
use Rattle.zig_tree.specs.declared.token.TokenKind.{TokenKind}
use Rattle.zig_tree.specs.declared.token.TokenKind.TheVariants as kind
use Rattle.zig_tree.specs.declared.grammar.Rule.{Rule}
use Rattle.zig_tree.specs.declared.grammar.Rule.TheVariants as rule
use Rattle.zir_scope.specs.declared.roles.Role.{Role}
use Rattle.zir_scope.specs.declared.roles.Role.TheVariants as role
use Rattle.zir_scope.specs.declared.roles.Mark.{Mark}
use Rattle.zir_scope.specs.declared.roles.Mark.TheVariants as mark

-- what a node of a rule is to the scopes
unfoldable pub role_of : Rule → Role
role_of rule.Root = role.Members
role_of rule.ContainerBody = role.Members
role_of rule.Member = role.Member
role_of rule.Declaration = role.Declaration
role_of rule.Field = role.Field
role_of rule.Variable = role.Variable
role_of rule.Function = role.Function
role_of rule.Prototype = role.Prototype
role_of rule.Parameter = role.Parameter
role_of rule.Statement = role.Statement
role_of rule.Body = role.Labelled
role_of rule.Primary = role.Labelled
role_of rule.IfStatement = role.If
role_of rule.IfExpression = role.If
role_of rule.WhileStatement = role.While
role_of rule.WhileExpression = role.While
role_of rule.ForStatement = role.For
role_of rule.ForExpression = role.For
role_of rule.Rest = role.Parts
role_of rule.RestExpression = role.Parts
role_of rule.ForArgument = role.ForArgument
role_of rule.Capture = role.Captures
role_of rule.Captures = role.Captures
role_of rule.Name = role.Name
role_of rule.Block = role.Block
role_of rule.Assignment = role.Assignment
role_of rule.Bit = role.Bit
role_of rule.Prefix = role.Prefix
role_of rule.Suffix = role.Suffix
role_of rule.Atom = role.Atom
role_of rule.Container = role.Container
role_of rule.Switch = role.Switch
role_of rule.Prong = role.Prong
role_of _ = role.Other

-- what a token of a kind is to the scopes
unfoldable pub mark_of : TokenKind → Mark
mark_of kind.Identifier = mark.Identifier
mark_of kind.Builtin = mark.Builtin
mark_of kind.KeywordVar = mark.Var
mark_of kind.KeywordComptime = mark.Comptime
mark_of kind.KeywordDefer = mark.Defer
mark_of kind.KeywordErrdefer = mark.Defer
mark_of kind.KeywordCatch = mark.Catch
mark_of kind.KeywordElse = mark.Else
mark_of kind.KeywordTest = mark.Test
mark_of kind.KeywordTry = mark.Try
mark_of kind.KeywordReturn = mark.Return
mark_of kind.KeywordBreak = mark.Break
mark_of kind.KeywordContinue = mark.Continue
mark_of kind.LeftParen = mark.LeftParen
mark_of kind.RightParen = mark.RightParen
mark_of kind.LeftBracket = mark.LeftBracket
mark_of kind.RightBracket = mark.RightBracket
mark_of kind.Colon = mark.Colon
mark_of kind.Period = mark.Period
mark_of kind.PeriodAsterisk = mark.Follow
mark_of kind.PeriodQuestionMark = mark.Follow
mark_of kind.Ellipsis2 = mark.Ellipsis
mark_of kind.EqualAngleRight = mark.Arrow
mark_of kind.Ampersand = mark.Ampersand
mark_of kind.Asterisk = mark.Asterisk
mark_of _ = mark.Other
