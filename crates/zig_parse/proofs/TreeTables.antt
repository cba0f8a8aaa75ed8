-- Facts about each row of the grammar that the second pass stands on, which the checker computes.
use Rattle.std.proofs.Common.{◌≡◌, true, ◌⊎◌, inl, inr, refl}
use Rattle.zig_tree.specs.declared.grammar.Rule.{Rule}
use Rattle.zig_tree.specs.declared.grammar.Rule.TheVariants as rule
use Rattle.zig_tree.specs.declared.grammar.Group.{Group}
use Rattle.zig_tree.specs.declared.grammar.Group.TheVariants as group
use Rattle.zig_tree.specs.Grammar.{rule_rows, group_rows}
use Rattle.zig_tree.specs.GrammarSentences.{makes_no_node_alone}
use Rattle.zig_parse.specs.Threads.{collapses, is_never_alone}
use Rattle.zig_parse.proofs.Derived.{each_row}
use Rattle.zig_parse.proofs.Shapes.{row_has_piece, row_led}

-- a rule that makes no node of one part takes a part at least
pub lone_filled : (r : Rule) → makes_no_node_alone r ≡ true → each_row row_has_piece (rule_rows r) ≡ true
unfolding rule_rows
lone_filled rule.Root h = absurd (cc)
lone_filled rule.Member h = absurd (cc)
lone_filled rule.Field h = absurd (cc)
lone_filled rule.Declaration h = absurd (cc)
lone_filled rule.Variable h = absurd (cc)
lone_filled rule.Prototype h = absurd (cc)
lone_filled rule.Function h = absurd (cc)
lone_filled rule.Parameter h = absurd (cc)
lone_filled rule.Block h = absurd (cc)
lone_filled rule.Statement h = absurd (cc)
lone_filled rule.Body h = absurd (cc)
lone_filled rule.IfStatement h = absurd (cc)
lone_filled rule.WhileStatement h = absurd (cc)
lone_filled rule.ForStatement h = absurd (cc)
lone_filled rule.Rest h = absurd (cc)
lone_filled rule.ForArgument h = absurd (cc)
lone_filled rule.Captures h = absurd (cc)
lone_filled rule.Capture h = absurd (cc)
lone_filled rule.Name h = absurd (cc)
lone_filled rule.Assignment h = absurd (cc)
lone_filled rule.Or h = refl
lone_filled rule.And h = refl
lone_filled rule.Compare h = refl
lone_filled rule.Bit h = refl
lone_filled rule.Shift h = refl
lone_filled rule.Add h = refl
lone_filled rule.Multiply h = refl
lone_filled rule.Prefix h = refl
lone_filled rule.Primary h = refl
lone_filled rule.IfExpression h = refl
lone_filled rule.WhileExpression h = refl
lone_filled rule.ForExpression h = refl
lone_filled rule.RestExpression h = refl
lone_filled rule.TypeExpression h = refl
lone_filled rule.TypePrefix h = refl
lone_filled rule.Suffix h = refl
lone_filled rule.Atom h = absurd (cc)
lone_filled rule.Initializer h = absurd (cc)
lone_filled rule.Container h = absurd (cc)
lone_filled rule.ContainerBody h = absurd (cc)
lone_filled rule.Switch h = absurd (cc)
lone_filled rule.Prong h = absurd (cc)
lone_filled rule.Item h = absurd (cc)

-- the code's list of these rules is the grammar's
pub same_lone : (r : Rule) → collapses r ≡ makes_no_node_alone r
unfolding collapses
same_lone rule.Root = refl
same_lone rule.Member = refl
same_lone rule.Field = refl
same_lone rule.Declaration = refl
same_lone rule.Variable = refl
same_lone rule.Prototype = refl
same_lone rule.Function = refl
same_lone rule.Parameter = refl
same_lone rule.Block = refl
same_lone rule.Statement = refl
same_lone rule.Body = refl
same_lone rule.IfStatement = refl
same_lone rule.WhileStatement = refl
same_lone rule.ForStatement = refl
same_lone rule.Rest = refl
same_lone rule.ForArgument = refl
same_lone rule.Captures = refl
same_lone rule.Capture = refl
same_lone rule.Name = refl
same_lone rule.Assignment = refl
same_lone rule.Or = refl
same_lone rule.And = refl
same_lone rule.Compare = refl
same_lone rule.Bit = refl
same_lone rule.Shift = refl
same_lone rule.Add = refl
same_lone rule.Multiply = refl
same_lone rule.Prefix = refl
same_lone rule.Primary = refl
same_lone rule.IfExpression = refl
same_lone rule.WhileExpression = refl
same_lone rule.ForExpression = refl
same_lone rule.RestExpression = refl
same_lone rule.TypeExpression = refl
same_lone rule.TypePrefix = refl
same_lone rule.Suffix = refl
same_lone rule.Atom = refl
same_lone rule.Initializer = refl
same_lone rule.Container = refl
same_lone rule.ContainerBody = refl
same_lone rule.Switch = refl
same_lone rule.Prong = refl
same_lone rule.Item = refl

-- a prefix of a type stands before another part
pub rule_led : (r : Rule) → each_row row_led (rule_rows r) ≡ true
unfolding rule_rows is_never_alone
rule_led rule.Root = refl
rule_led rule.Member = refl
rule_led rule.Field = refl
rule_led rule.Declaration = refl
rule_led rule.Variable = refl
rule_led rule.Prototype = refl
rule_led rule.Function = refl
rule_led rule.Parameter = refl
rule_led rule.Block = refl
rule_led rule.Statement = refl
rule_led rule.Body = refl
rule_led rule.IfStatement = refl
rule_led rule.WhileStatement = refl
rule_led rule.ForStatement = refl
rule_led rule.Rest = refl
rule_led rule.ForArgument = refl
rule_led rule.Captures = refl
rule_led rule.Capture = refl
rule_led rule.Name = refl
rule_led rule.Assignment = refl
rule_led rule.Or = refl
rule_led rule.And = refl
rule_led rule.Compare = refl
rule_led rule.Bit = refl
rule_led rule.Shift = refl
rule_led rule.Add = refl
rule_led rule.Multiply = refl
rule_led rule.Prefix = refl
rule_led rule.Primary = refl
rule_led rule.IfExpression = refl
rule_led rule.WhileExpression = refl
rule_led rule.ForExpression = refl
rule_led rule.RestExpression = refl
rule_led rule.TypeExpression = refl
rule_led rule.TypePrefix = refl
rule_led rule.Suffix = refl
rule_led rule.Atom = refl
rule_led rule.Initializer = refl
rule_led rule.Container = refl
rule_led rule.ContainerBody = refl
rule_led rule.Switch = refl
rule_led rule.Prong = refl
rule_led rule.Item = refl

pub group_led : (g : Group) → (g ≡ group.MoreTypePrefixes) ⊎ (each_row row_led (group_rows g) ≡ true)
unfolding group_rows is_never_alone
group_led group.RootMembers = inr refl
group_led group.Members = inr refl
group_led group.FieldEnd = inr refl
group_led group.TypeOption = inr refl
group_led group.ValueOption = inr refl
group_led group.StringOption = inr refl
group_led group.PubOption = inr refl
group_led group.Declared = inr refl
group_led group.Parameters = inr refl
group_led group.MoreParameters = inr refl
group_led group.BangOption = inr refl
group_led group.ComptimeOption = inr refl
group_led group.ParameterType = inr refl
group_led group.Statements = inr refl
group_led group.ComptimeStatement = inr refl
group_led group.LabelledStatement = inr refl
group_led group.ContinueOption = inr refl
group_led group.MoreForArguments = inr refl
group_led group.ForArguments = inr refl
group_led group.ElseOption = inr refl
group_led group.RestEnd = inr refl
group_led group.RangeOption = inr refl
group_led group.ExpressionOption = inr refl
group_led group.MoreCaptures = inr refl
group_led group.FurtherCaptures = inr refl
group_led group.PointerOption = inr refl
group_led group.CaptureOption = inr refl
group_led group.AssignTail = inr refl
group_led group.OrTail = inr refl
group_led group.AndTail = inr refl
group_led group.CompareTail = inr refl
group_led group.BitTail = inr refl
group_led group.ShiftTail = inr refl
group_led group.AddTail = inr refl
group_led group.MultiplyTail = inr refl
group_led group.MorePrefixes = inr refl
group_led group.LabelledExpression = inr refl
group_led group.BreakLabel = inr refl
group_led group.InitializerOption = inr refl
group_led group.ElseExpression = inr refl
group_led group.MoreTypePrefixes = inl refl
group_led group.BangTypeOption = inr refl
group_led group.ConstOption = inr refl
group_led group.BracketPrefix = inr refl
group_led group.SuffixTail = inr refl
group_led group.Arguments = inr refl
group_led group.MoreArguments = inr refl
group_led group.DotAtom = inr refl
group_led group.ErrorAtom = inr refl
group_led group.ErrorNames = inr refl
group_led group.MoreErrorNames = inr refl
group_led group.InitializerBody = inr refl
group_led group.MoreFields = inr refl
group_led group.FurtherFields = inr refl
group_led group.TagOption = inr refl
group_led group.UnionTag = inr refl
group_led group.Prongs = inr refl
group_led group.MoreProngs = inr refl
group_led group.ProngHead = inr refl
group_led group.MoreItems = inr refl
group_led group.Items = inr refl
group_led group.ItemRange = inr refl
group_led group.ErrorBraces = inr refl
group_led group.SwitchBraces = inr refl
