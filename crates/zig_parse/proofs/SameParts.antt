-- Parts that are tested to be the same are the same.
use Rattle.std.proofs.Common.{◌≡◌, true, List, [], ◌∷◌, get_or, refl, sym, ◌∙◌, ap}
use Rattle.std.proofs.lemmas.Bool.{eqb-true}
use Rattle.zig_tree.specs.declared.grammar.Rule.{Rule}
use Rattle.zig_tree.specs.declared.grammar.Rule.TheVariants as rule
use Rattle.zig_tree.specs.declared.grammar.Group.{Group}
use Rattle.zig_tree.specs.declared.grammar.Group.TheVariants as group
use Rattle.zig_tree.specs.declared.grammar.TokenClass.{TokenClass}
use Rattle.zig_tree.specs.declared.grammar.TokenClass.TheVariants as class
use Rattle.zig_tree.specs.declared.grammar.Part.{Part}
use Rattle.zig_tree.specs.declared.grammar.Part.TheVariants as part
use Rattle.zig_tree.specs.Kinds.{is_part, is_rule, is_group, is_class, number_of_rule, number_of_group, number_of_class}
use Rattle.zig_parse.proofs.Tables.{same_kind}

rules : List Rule
rules = rule.Root ∷ rule.Member ∷ rule.Field ∷ rule.Declaration ∷ rule.Variable ∷ rule.Prototype ∷ rule.Function ∷ rule.Parameter ∷ rule.Block ∷ rule.Statement ∷ rule.Body ∷ rule.IfStatement ∷ rule.WhileStatement ∷ rule.ForStatement ∷ rule.Rest ∷ rule.ForArgument ∷ rule.Captures ∷ rule.Capture ∷ rule.Name ∷ rule.Assignment ∷ rule.Or ∷ rule.And ∷ rule.Compare ∷ rule.Bit ∷ rule.Shift ∷ rule.Add ∷ rule.Multiply ∷ rule.Prefix ∷ rule.Primary ∷ rule.IfExpression ∷ rule.WhileExpression ∷ rule.ForExpression ∷ rule.RestExpression ∷ rule.TypeExpression ∷ rule.TypePrefix ∷ rule.Suffix ∷ rule.Atom ∷ rule.Initializer ∷ rule.Container ∷ rule.ContainerBody ∷ rule.Switch ∷ rule.Prong ∷ rule.Item ∷ []

rule_numbered : (x : Rule) → get_or rules (number_of_rule x) rule.Root ≡ x
unfolding rules number_of_rule
rule_numbered rule.Root = refl
rule_numbered rule.Member = refl
rule_numbered rule.Field = refl
rule_numbered rule.Declaration = refl
rule_numbered rule.Variable = refl
rule_numbered rule.Prototype = refl
rule_numbered rule.Function = refl
rule_numbered rule.Parameter = refl
rule_numbered rule.Block = refl
rule_numbered rule.Statement = refl
rule_numbered rule.Body = refl
rule_numbered rule.IfStatement = refl
rule_numbered rule.WhileStatement = refl
rule_numbered rule.ForStatement = refl
rule_numbered rule.Rest = refl
rule_numbered rule.ForArgument = refl
rule_numbered rule.Captures = refl
rule_numbered rule.Capture = refl
rule_numbered rule.Name = refl
rule_numbered rule.Assignment = refl
rule_numbered rule.Or = refl
rule_numbered rule.And = refl
rule_numbered rule.Compare = refl
rule_numbered rule.Bit = refl
rule_numbered rule.Shift = refl
rule_numbered rule.Add = refl
rule_numbered rule.Multiply = refl
rule_numbered rule.Prefix = refl
rule_numbered rule.Primary = refl
rule_numbered rule.IfExpression = refl
rule_numbered rule.WhileExpression = refl
rule_numbered rule.ForExpression = refl
rule_numbered rule.RestExpression = refl
rule_numbered rule.TypeExpression = refl
rule_numbered rule.TypePrefix = refl
rule_numbered rule.Suffix = refl
rule_numbered rule.Atom = refl
rule_numbered rule.Initializer = refl
rule_numbered rule.Container = refl
rule_numbered rule.ContainerBody = refl
rule_numbered rule.Switch = refl
rule_numbered rule.Prong = refl
rule_numbered rule.Item = refl

pub same_rule : (x y : Rule) → is_rule x y ≡ true → x ≡ y
same_rule x y h = sym (rule_numbered x) ∙ ap (λ n. get_or rules n rule.Root) (eqb-true (number_of_rule x) (number_of_rule y) h) ∙ rule_numbered y

groups : List Group
groups = group.RootMembers ∷ group.Members ∷ group.FieldEnd ∷ group.TypeOption ∷ group.ValueOption ∷ group.StringOption ∷ group.PubOption ∷ group.Declared ∷ group.Parameters ∷ group.MoreParameters ∷ group.BangOption ∷ group.ComptimeOption ∷ group.ParameterType ∷ group.Statements ∷ group.ComptimeStatement ∷ group.LabelledStatement ∷ group.ContinueOption ∷ group.MoreForArguments ∷ group.ForArguments ∷ group.ElseOption ∷ group.RestEnd ∷ group.RangeOption ∷ group.ExpressionOption ∷ group.MoreCaptures ∷ group.FurtherCaptures ∷ group.PointerOption ∷ group.CaptureOption ∷ group.AssignTail ∷ group.OrTail ∷ group.AndTail ∷ group.CompareTail ∷ group.BitTail ∷ group.ShiftTail ∷ group.AddTail ∷ group.MultiplyTail ∷ group.MorePrefixes ∷ group.LabelledExpression ∷ group.BreakLabel ∷ group.InitializerOption ∷ group.ElseExpression ∷ group.MoreTypePrefixes ∷ group.BangTypeOption ∷ group.ConstOption ∷ group.BracketPrefix ∷ group.SuffixTail ∷ group.Arguments ∷ group.MoreArguments ∷ group.DotAtom ∷ group.ErrorAtom ∷ group.ErrorNames ∷ group.MoreErrorNames ∷ group.InitializerBody ∷ group.MoreFields ∷ group.FurtherFields ∷ group.TagOption ∷ group.UnionTag ∷ group.Prongs ∷ group.MoreProngs ∷ group.ProngHead ∷ group.MoreItems ∷ group.Items ∷ group.ItemRange ∷ group.ErrorBraces ∷ group.SwitchBraces ∷ []

group_numbered : (x : Group) → get_or groups (number_of_group x) group.Items ≡ x
unfolding groups number_of_group
group_numbered group.RootMembers = refl
group_numbered group.Members = refl
group_numbered group.FieldEnd = refl
group_numbered group.TypeOption = refl
group_numbered group.ValueOption = refl
group_numbered group.StringOption = refl
group_numbered group.PubOption = refl
group_numbered group.Declared = refl
group_numbered group.Parameters = refl
group_numbered group.MoreParameters = refl
group_numbered group.BangOption = refl
group_numbered group.ComptimeOption = refl
group_numbered group.ParameterType = refl
group_numbered group.Statements = refl
group_numbered group.ComptimeStatement = refl
group_numbered group.LabelledStatement = refl
group_numbered group.ContinueOption = refl
group_numbered group.MoreForArguments = refl
group_numbered group.ForArguments = refl
group_numbered group.ElseOption = refl
group_numbered group.RestEnd = refl
group_numbered group.RangeOption = refl
group_numbered group.ExpressionOption = refl
group_numbered group.MoreCaptures = refl
group_numbered group.FurtherCaptures = refl
group_numbered group.PointerOption = refl
group_numbered group.CaptureOption = refl
group_numbered group.AssignTail = refl
group_numbered group.OrTail = refl
group_numbered group.AndTail = refl
group_numbered group.CompareTail = refl
group_numbered group.BitTail = refl
group_numbered group.ShiftTail = refl
group_numbered group.AddTail = refl
group_numbered group.MultiplyTail = refl
group_numbered group.MorePrefixes = refl
group_numbered group.LabelledExpression = refl
group_numbered group.BreakLabel = refl
group_numbered group.InitializerOption = refl
group_numbered group.ElseExpression = refl
group_numbered group.MoreTypePrefixes = refl
group_numbered group.BangTypeOption = refl
group_numbered group.ConstOption = refl
group_numbered group.BracketPrefix = refl
group_numbered group.SuffixTail = refl
group_numbered group.Arguments = refl
group_numbered group.MoreArguments = refl
group_numbered group.DotAtom = refl
group_numbered group.ErrorAtom = refl
group_numbered group.ErrorNames = refl
group_numbered group.MoreErrorNames = refl
group_numbered group.InitializerBody = refl
group_numbered group.MoreFields = refl
group_numbered group.FurtherFields = refl
group_numbered group.TagOption = refl
group_numbered group.UnionTag = refl
group_numbered group.Prongs = refl
group_numbered group.MoreProngs = refl
group_numbered group.ProngHead = refl
group_numbered group.MoreItems = refl
group_numbered group.Items = refl
group_numbered group.ItemRange = refl
group_numbered group.ErrorBraces = refl
group_numbered group.SwitchBraces = refl

pub same_group : (x y : Group) → is_group x y ≡ true → x ≡ y
same_group x y h = sym (group_numbered x) ∙ ap (λ n. get_or groups n group.Items) (eqb-true (number_of_group x) (number_of_group y) h) ∙ group_numbered y

classes : List TokenClass
classes = class.ConstOrVar ∷ class.NameWord ∷ class.AssignOperator ∷ class.CompareOperator ∷ class.BitOperator ∷ class.ShiftOperator ∷ class.AddOperator ∷ class.MultiplyOperator ∷ class.PrefixOperator ∷ class.PointerMark ∷ class.AtomWord ∷ class.ContainerWord ∷ class.CaptureStart ∷ class.ParameterStart ∷ class.TypePrefixStart ∷ class.OperandWord ∷ class.StatementWord ∷ class.TypeStart ∷ class.ExpressionStart ∷ class.StatementStart ∷ class.ProngStart ∷ class.DeclarationStart ∷ class.MemberStart ∷ []

class_numbered : (x : TokenClass) → get_or classes (number_of_class x) class.NameWord ≡ x
unfolding classes number_of_class
class_numbered class.ConstOrVar = refl
class_numbered class.NameWord = refl
class_numbered class.AssignOperator = refl
class_numbered class.CompareOperator = refl
class_numbered class.BitOperator = refl
class_numbered class.ShiftOperator = refl
class_numbered class.AddOperator = refl
class_numbered class.MultiplyOperator = refl
class_numbered class.PrefixOperator = refl
class_numbered class.PointerMark = refl
class_numbered class.AtomWord = refl
class_numbered class.ContainerWord = refl
class_numbered class.CaptureStart = refl
class_numbered class.ParameterStart = refl
class_numbered class.TypePrefixStart = refl
class_numbered class.OperandWord = refl
class_numbered class.StatementWord = refl
class_numbered class.TypeStart = refl
class_numbered class.ExpressionStart = refl
class_numbered class.StatementStart = refl
class_numbered class.ProngStart = refl
class_numbered class.DeclarationStart = refl
class_numbered class.MemberStart = refl

pub same_class : (x y : TokenClass) → is_class x y ≡ true → x ≡ y
same_class x y h = sym (class_numbered x) ∙ ap (λ n. get_or classes n class.NameWord) (eqb-true (number_of_class x) (number_of_class y) h) ∙ class_numbered y

pub same_part : (x y : Part) → is_part x y ≡ true → x ≡ y
same_part (part.Token a) (part.Token b) h = ap part.Token (same_kind a b h)
same_part (part.OneOf a) (part.OneOf b) h = ap part.OneOf (same_class a b h)
same_part (part.Rule a) (part.Rule b) h = ap part.Rule (same_rule a b h)
same_part (part.Group a) (part.Group b) h = ap part.Group (same_group a b h)
same_part (part.Token a) _ h = absurd (cc)
same_part (part.OneOf a) _ h = absurd (cc)
same_part (part.Rule a) _ h = absurd (cc)
same_part (part.Group a) _ h = absurd (cc)
