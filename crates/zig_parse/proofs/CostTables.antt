-- The cost of each rule and group in moves, and that an alternative of it costs less, as the checker computes.
use Rattle.std.proofs.Common.{◌≡◌, ℕ, ◌+◌, Bool, true, false, ◌&&◌, ◌||◌, List, [], ◌∷◌, refl}
use Rattle.std.specs.Prelude.{if◌then◌else◌, nat_lt, nat_le, not}
use Rattle.zig_tree.specs.declared.grammar.Rule.{Rule}
use Rattle.zig_tree.specs.declared.grammar.Rule.TheVariants as rule
use Rattle.zig_tree.specs.declared.grammar.Group.{Group}
use Rattle.zig_tree.specs.declared.grammar.Group.TheVariants as group
use Rattle.zig_tree.specs.declared.grammar.When.{When}
use Rattle.zig_tree.specs.declared.grammar.When.TheVariants as when
use Rattle.zig_tree.specs.declared.grammar.Part.{Part}
use Rattle.zig_tree.specs.declared.grammar.Part.TheVariants as part
use Rattle.zig_tree.specs.Grammar.{Alternative, group_rows, rule_rows}
use Rattle.zig_parse.proofs.Derived.{each_row}

abbrev pub cost_of_rule : Rule → ℕ
cost_of_rule rule.Root = 11
cost_of_rule rule.Member = 8
cost_of_rule rule.Field = 2
cost_of_rule rule.Declaration = 7
cost_of_rule rule.Variable = 2
cost_of_rule rule.Prototype = 2
cost_of_rule rule.Function = 3
cost_of_rule rule.Parameter = 4
cost_of_rule rule.Block = 2
cost_of_rule rule.Statement = 20
cost_of_rule rule.Body = 19
cost_of_rule rule.IfStatement = 2
cost_of_rule rule.WhileStatement = 2
cost_of_rule rule.ForStatement = 2
cost_of_rule rule.Rest = 19
cost_of_rule rule.ForArgument = 15
cost_of_rule rule.Captures = 5
cost_of_rule rule.Capture = 2
cost_of_rule rule.Name = 2
cost_of_rule rule.Assignment = 15
cost_of_rule rule.Or = 14
cost_of_rule rule.And = 13
cost_of_rule rule.Compare = 12
cost_of_rule rule.Bit = 11
cost_of_rule rule.Shift = 10
cost_of_rule rule.Add = 9
cost_of_rule rule.Multiply = 8
cost_of_rule rule.Prefix = 7
cost_of_rule rule.Primary = 6
cost_of_rule rule.IfExpression = 2
cost_of_rule rule.WhileExpression = 2
cost_of_rule rule.ForExpression = 2
cost_of_rule rule.RestExpression = 15
cost_of_rule rule.TypeExpression = 5
cost_of_rule rule.TypePrefix = 2
cost_of_rule rule.Suffix = 4
cost_of_rule rule.Atom = 3
cost_of_rule rule.Initializer = 2
cost_of_rule rule.Container = 2
cost_of_rule rule.ContainerBody = 2
cost_of_rule rule.Switch = 2
cost_of_rule rule.Prong = 17
cost_of_rule rule.Item = 15

abbrev pub cost_of_group : Group → ℕ
cost_of_group group.RootMembers = 9
cost_of_group group.Members = 9
cost_of_group group.FieldEnd = 2
cost_of_group group.TypeOption = 2
cost_of_group group.ValueOption = 2
cost_of_group group.StringOption = 2
cost_of_group group.PubOption = 2
cost_of_group group.Declared = 4
cost_of_group group.Parameters = 5
cost_of_group group.MoreParameters = 2
cost_of_group group.BangOption = 2
cost_of_group group.ComptimeOption = 2
cost_of_group group.ParameterType = 6
cost_of_group group.Statements = 21
cost_of_group group.ComptimeStatement = 20
cost_of_group group.LabelledStatement = 3
cost_of_group group.ContinueOption = 2
cost_of_group group.MoreForArguments = 2
cost_of_group group.ForArguments = 16
cost_of_group group.ElseOption = 2
cost_of_group group.RestEnd = 2
cost_of_group group.RangeOption = 2
cost_of_group group.ExpressionOption = 15
cost_of_group group.MoreCaptures = 2
cost_of_group group.FurtherCaptures = 5
cost_of_group group.PointerOption = 2
cost_of_group group.CaptureOption = 3
cost_of_group group.AssignTail = 2
cost_of_group group.OrTail = 2
cost_of_group group.AndTail = 2
cost_of_group group.CompareTail = 2
cost_of_group group.BitTail = 2
cost_of_group group.ShiftTail = 2
cost_of_group group.AddTail = 2
cost_of_group group.MultiplyTail = 2
cost_of_group group.MorePrefixes = 2
cost_of_group group.LabelledExpression = 3
cost_of_group group.BreakLabel = 2
cost_of_group group.InitializerOption = 3
cost_of_group group.ElseExpression = 2
cost_of_group group.MoreTypePrefixes = 3
cost_of_group group.BangTypeOption = 2
cost_of_group group.ConstOption = 2
cost_of_group group.BracketPrefix = 15
cost_of_group group.SuffixTail = 2
cost_of_group group.Arguments = 15
cost_of_group group.MoreArguments = 2
cost_of_group group.DotAtom = 3
cost_of_group group.ErrorAtom = 4
cost_of_group group.ErrorNames = 2
cost_of_group group.MoreErrorNames = 2
cost_of_group group.InitializerBody = 17
cost_of_group group.MoreFields = 2
cost_of_group group.FurtherFields = 2
cost_of_group group.TagOption = 2
cost_of_group group.UnionTag = 17
cost_of_group group.Prongs = 18
cost_of_group group.MoreProngs = 2
cost_of_group group.ProngHead = 16
cost_of_group group.MoreItems = 2
cost_of_group group.Items = 16
cost_of_group group.ItemRange = 2
cost_of_group group.ErrorBraces = 2
cost_of_group group.SwitchBraces = 2

abbrev pub cost_of : Part → ℕ
cost_of (part.Token _) = 1
cost_of (part.OneOf _) = 1
cost_of (part.Rule r) = cost_of_rule r
cost_of (part.Group g) = cost_of_group g

-- whether a group has an empty alternative
abbrev pub may_be_empty : Group → Bool
may_be_empty group.Declared = false
may_be_empty group.ParameterType = false
may_be_empty group.ComptimeStatement = false
may_be_empty group.LabelledStatement = false
may_be_empty group.RestEnd = false
may_be_empty group.LabelledExpression = false
may_be_empty group.BracketPrefix = false
may_be_empty group.DotAtom = false
may_be_empty group.ErrorAtom = false
may_be_empty group.InitializerBody = false
may_be_empty group.UnionTag = false
may_be_empty group.ProngHead = false
may_be_empty group.ErrorBraces = false
may_be_empty group.SwitchBraces = false
may_be_empty _ = true

abbrev pub may_be_nothing : Part → Bool
may_be_nothing (part.Token _) = false
may_be_nothing (part.OneOf _) = false
may_be_nothing (part.Rule _) = false
may_be_nothing (part.Group g) = may_be_empty g

-- the cost of parts up to the first that is not empty, and whether there is one
abbrev pub front_cost : List Part → ℕ
front_cost [] = 0
front_cost (p ∷ ps) = cost_of p + (if may_be_nothing p then front_cost ps else 0)

abbrev pub has_some : List Part → Bool
has_some [] = false
has_some (p ∷ ps) = not (may_be_nothing p) || has_some ps

-- an alternative costs less than this, and is empty only where that is allowed
abbrev pub row_fits : ℕ → Bool → Alternative → Bool
row_fits bound empty a = nat_lt (front_cost a.parts) bound && (has_some a.parts || empty)

-- two that are tried together
abbrev pub pair_fits : ℕ → Alternative → Alternative → Bool
pair_fits bound a b = nat_le (front_cost a.parts + front_cost b.parts + 2) bound && (has_some a.parts && has_some b.parts)

abbrev pub pairs_fit : ℕ → Alternative → When → List Alternative → Bool
pairs_fit bound a (when.Both _) more = each_row (pair_fits bound a) more
pairs_fit bound a when.Always more = true
pairs_fit bound a (when.Is _) more = true
pairs_fit bound a (when.In _) more = true
pairs_fit bound a when.Label more = true

abbrev pub rows_fit : ℕ → Bool → List Alternative → Bool
rows_fit bound empty [] = true
rows_fit bound empty (a ∷ more) = row_fits bound empty a && (pairs_fit bound a a.at more && rows_fit bound empty more)

pub rule_costs : (r : Rule) → rows_fit (cost_of_rule r) false (rule_rows r) ≡ true
unfolding rule_rows
rule_costs rule.Root = refl
rule_costs rule.Member = refl
rule_costs rule.Field = refl
rule_costs rule.Declaration = refl
rule_costs rule.Variable = refl
rule_costs rule.Prototype = refl
rule_costs rule.Function = refl
rule_costs rule.Parameter = refl
rule_costs rule.Block = refl
rule_costs rule.Statement = refl
rule_costs rule.Body = refl
rule_costs rule.IfStatement = refl
rule_costs rule.WhileStatement = refl
rule_costs rule.ForStatement = refl
rule_costs rule.Rest = refl
rule_costs rule.ForArgument = refl
rule_costs rule.Captures = refl
rule_costs rule.Capture = refl
rule_costs rule.Name = refl
rule_costs rule.Assignment = refl
rule_costs rule.Or = refl
rule_costs rule.And = refl
rule_costs rule.Compare = refl
rule_costs rule.Bit = refl
rule_costs rule.Shift = refl
rule_costs rule.Add = refl
rule_costs rule.Multiply = refl
rule_costs rule.Prefix = refl
rule_costs rule.Primary = refl
rule_costs rule.IfExpression = refl
rule_costs rule.WhileExpression = refl
rule_costs rule.ForExpression = refl
rule_costs rule.RestExpression = refl
rule_costs rule.TypeExpression = refl
rule_costs rule.TypePrefix = refl
rule_costs rule.Suffix = refl
rule_costs rule.Atom = refl
rule_costs rule.Initializer = refl
rule_costs rule.Container = refl
rule_costs rule.ContainerBody = refl
rule_costs rule.Switch = refl
rule_costs rule.Prong = refl
rule_costs rule.Item = refl

pub group_costs : (g : Group) → rows_fit (cost_of_group g) (may_be_empty g) (group_rows g) ≡ true
unfolding group_rows
group_costs group.RootMembers = refl
group_costs group.Members = refl
group_costs group.FieldEnd = refl
group_costs group.TypeOption = refl
group_costs group.ValueOption = refl
group_costs group.StringOption = refl
group_costs group.PubOption = refl
group_costs group.Declared = refl
group_costs group.Parameters = refl
group_costs group.MoreParameters = refl
group_costs group.BangOption = refl
group_costs group.ComptimeOption = refl
group_costs group.ParameterType = refl
group_costs group.Statements = refl
group_costs group.ComptimeStatement = refl
group_costs group.LabelledStatement = refl
group_costs group.ContinueOption = refl
group_costs group.MoreForArguments = refl
group_costs group.ForArguments = refl
group_costs group.ElseOption = refl
group_costs group.RestEnd = refl
group_costs group.RangeOption = refl
group_costs group.ExpressionOption = refl
group_costs group.MoreCaptures = refl
group_costs group.FurtherCaptures = refl
group_costs group.PointerOption = refl
group_costs group.CaptureOption = refl
group_costs group.AssignTail = refl
group_costs group.OrTail = refl
group_costs group.AndTail = refl
group_costs group.CompareTail = refl
group_costs group.BitTail = refl
group_costs group.ShiftTail = refl
group_costs group.AddTail = refl
group_costs group.MultiplyTail = refl
group_costs group.MorePrefixes = refl
group_costs group.LabelledExpression = refl
group_costs group.BreakLabel = refl
group_costs group.InitializerOption = refl
group_costs group.ElseExpression = refl
group_costs group.MoreTypePrefixes = refl
group_costs group.BangTypeOption = refl
group_costs group.ConstOption = refl
group_costs group.BracketPrefix = refl
group_costs group.SuffixTail = refl
group_costs group.Arguments = refl
group_costs group.MoreArguments = refl
group_costs group.DotAtom = refl
group_costs group.ErrorAtom = refl
group_costs group.ErrorNames = refl
group_costs group.MoreErrorNames = refl
group_costs group.InitializerBody = refl
group_costs group.MoreFields = refl
group_costs group.FurtherFields = refl
group_costs group.TagOption = refl
group_costs group.UnionTag = refl
group_costs group.Prongs = refl
group_costs group.MoreProngs = refl
group_costs group.ProngHead = refl
group_costs group.MoreItems = refl
group_costs group.Items = refl
group_costs group.ItemRange = refl
group_costs group.ErrorBraces = refl
group_costs group.SwitchBraces = refl

pub rule_cost_small : (r : Rule) → nat_lt (cost_of_rule r) 30 ≡ true
rule_cost_small rule.Root = refl
rule_cost_small rule.Member = refl
rule_cost_small rule.Field = refl
rule_cost_small rule.Declaration = refl
rule_cost_small rule.Variable = refl
rule_cost_small rule.Prototype = refl
rule_cost_small rule.Function = refl
rule_cost_small rule.Parameter = refl
rule_cost_small rule.Block = refl
rule_cost_small rule.Statement = refl
rule_cost_small rule.Body = refl
rule_cost_small rule.IfStatement = refl
rule_cost_small rule.WhileStatement = refl
rule_cost_small rule.ForStatement = refl
rule_cost_small rule.Rest = refl
rule_cost_small rule.ForArgument = refl
rule_cost_small rule.Captures = refl
rule_cost_small rule.Capture = refl
rule_cost_small rule.Name = refl
rule_cost_small rule.Assignment = refl
rule_cost_small rule.Or = refl
rule_cost_small rule.And = refl
rule_cost_small rule.Compare = refl
rule_cost_small rule.Bit = refl
rule_cost_small rule.Shift = refl
rule_cost_small rule.Add = refl
rule_cost_small rule.Multiply = refl
rule_cost_small rule.Prefix = refl
rule_cost_small rule.Primary = refl
rule_cost_small rule.IfExpression = refl
rule_cost_small rule.WhileExpression = refl
rule_cost_small rule.ForExpression = refl
rule_cost_small rule.RestExpression = refl
rule_cost_small rule.TypeExpression = refl
rule_cost_small rule.TypePrefix = refl
rule_cost_small rule.Suffix = refl
rule_cost_small rule.Atom = refl
rule_cost_small rule.Initializer = refl
rule_cost_small rule.Container = refl
rule_cost_small rule.ContainerBody = refl
rule_cost_small rule.Switch = refl
rule_cost_small rule.Prong = refl
rule_cost_small rule.Item = refl

pub group_cost_small : (g : Group) → nat_lt (cost_of_group g) 30 ≡ true
group_cost_small group.RootMembers = refl
group_cost_small group.Members = refl
group_cost_small group.FieldEnd = refl
group_cost_small group.TypeOption = refl
group_cost_small group.ValueOption = refl
group_cost_small group.StringOption = refl
group_cost_small group.PubOption = refl
group_cost_small group.Declared = refl
group_cost_small group.Parameters = refl
group_cost_small group.MoreParameters = refl
group_cost_small group.BangOption = refl
group_cost_small group.ComptimeOption = refl
group_cost_small group.ParameterType = refl
group_cost_small group.Statements = refl
group_cost_small group.ComptimeStatement = refl
group_cost_small group.LabelledStatement = refl
group_cost_small group.ContinueOption = refl
group_cost_small group.MoreForArguments = refl
group_cost_small group.ForArguments = refl
group_cost_small group.ElseOption = refl
group_cost_small group.RestEnd = refl
group_cost_small group.RangeOption = refl
group_cost_small group.ExpressionOption = refl
group_cost_small group.MoreCaptures = refl
group_cost_small group.FurtherCaptures = refl
group_cost_small group.PointerOption = refl
group_cost_small group.CaptureOption = refl
group_cost_small group.AssignTail = refl
group_cost_small group.OrTail = refl
group_cost_small group.AndTail = refl
group_cost_small group.CompareTail = refl
group_cost_small group.BitTail = refl
group_cost_small group.ShiftTail = refl
group_cost_small group.AddTail = refl
group_cost_small group.MultiplyTail = refl
group_cost_small group.MorePrefixes = refl
group_cost_small group.LabelledExpression = refl
group_cost_small group.BreakLabel = refl
group_cost_small group.InitializerOption = refl
group_cost_small group.ElseExpression = refl
group_cost_small group.MoreTypePrefixes = refl
group_cost_small group.BangTypeOption = refl
group_cost_small group.ConstOption = refl
group_cost_small group.BracketPrefix = refl
group_cost_small group.SuffixTail = refl
group_cost_small group.Arguments = refl
group_cost_small group.MoreArguments = refl
group_cost_small group.DotAtom = refl
group_cost_small group.ErrorAtom = refl
group_cost_small group.ErrorNames = refl
group_cost_small group.MoreErrorNames = refl
group_cost_small group.InitializerBody = refl
group_cost_small group.MoreFields = refl
group_cost_small group.FurtherFields = refl
group_cost_small group.TagOption = refl
group_cost_small group.UnionTag = refl
group_cost_small group.Prongs = refl
group_cost_small group.MoreProngs = refl
group_cost_small group.ProngHead = refl
group_cost_small group.MoreItems = refl
group_cost_small group.Items = refl
group_cost_small group.ItemRange = refl
group_cost_small group.ErrorBraces = refl
group_cost_small group.SwitchBraces = refl
