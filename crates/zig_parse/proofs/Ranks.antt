-- No part begins with itself: a rank of rules and groups that falls where a part may read all that its rule
-- or group reads. And alternatives that are tried together are not the same.
use Rattle.std.proofs.Common.{◌≡◌, ℕ, Bool, true, false, ◌&&◌, ◌||◌, List, [], ◌∷◌, refl}
use Rattle.std.specs.Prelude.{nat_lt, not}
use Rattle.zig_tree.specs.declared.token.TokenKind.{TokenKind}
use Rattle.zig_tree.specs.declared.grammar.Rule.{Rule}
use Rattle.zig_tree.specs.declared.grammar.Rule.TheVariants as rule
use Rattle.zig_tree.specs.declared.grammar.Group.{Group}
use Rattle.zig_tree.specs.declared.grammar.Group.TheVariants as group
use Rattle.zig_tree.specs.declared.grammar.When.{When}
use Rattle.zig_tree.specs.declared.grammar.When.TheVariants as when
use Rattle.zig_tree.specs.declared.grammar.Part.{Part}
use Rattle.zig_tree.specs.declared.grammar.Part.TheVariants as part
use Rattle.zig_tree.specs.Kinds.{is_kind, number_of}
use Rattle.zig_tree.specs.Grammar.{Alternative, group_rows, rule_rows}
use Rattle.zig_parse.proofs.Derived.{each_row}
use Rattle.zig_parse.proofs.Shapes.{fills}

abbrev pub rank_of_rule : Rule → ℕ
rank_of_rule rule.Member = 4
rank_of_rule rule.Declaration = 3
rank_of_rule rule.Statement = 3
rank_of_rule rule.Body = 2
rank_of_rule rule.Rest = 15
rank_of_rule rule.ForArgument = 14
rank_of_rule rule.Captures = 2
rank_of_rule rule.Assignment = 14
rank_of_rule rule.Or = 13
rank_of_rule rule.And = 12
rank_of_rule rule.Compare = 11
rank_of_rule rule.Bit = 10
rank_of_rule rule.Shift = 9
rank_of_rule rule.Add = 8
rank_of_rule rule.Multiply = 7
rank_of_rule rule.Prefix = 6
rank_of_rule rule.Primary = 5
rank_of_rule rule.RestExpression = 14
rank_of_rule rule.TypeExpression = 4
rank_of_rule rule.Suffix = 3
rank_of_rule rule.Atom = 2
rank_of_rule rule.Item = 14
rank_of_rule _ = 1

abbrev pub rank_of_group : Group → ℕ
rank_of_group group.RootMembers = 5
rank_of_group group.Members = 5
rank_of_group group.Declared = 2
rank_of_group group.Parameters = 2
rank_of_group group.ParameterType = 5
rank_of_group group.Statements = 4
rank_of_group group.ComptimeStatement = 3
rank_of_group group.LabelledStatement = 2
rank_of_group group.ForArguments = 15
rank_of_group group.ExpressionOption = 14
rank_of_group group.FurtherCaptures = 2
rank_of_group group.CaptureOption = 2
rank_of_group group.LabelledExpression = 2
rank_of_group group.InitializerOption = 2
rank_of_group group.MoreTypePrefixes = 2
rank_of_group group.Arguments = 14
rank_of_group group.DotAtom = 2
rank_of_group group.ErrorAtom = 2
rank_of_group group.UnionTag = 14
rank_of_group group.Prongs = 2
rank_of_group group.ProngHead = 15
rank_of_group group.Items = 15
rank_of_group _ = 1

abbrev pub rank_of : Part → ℕ
rank_of (part.Token _) = 0
rank_of (part.OneOf _) = 0
rank_of (part.Rule r) = rank_of_rule r
rank_of (part.Group g) = rank_of_group g

-- each part of a row is of a lower rank, or others beside it read a token
abbrev pub is_ranked : ℕ → Bool → List Part → Bool
is_ranked rank before [] = true
is_ranked rank before (p ∷ ps) = ((before || fills ps) || nat_lt (rank_of p) rank) && is_ranked rank (before || fills (p ∷ [])) ps

abbrev pub row_ranked : ℕ → Alternative → Bool
row_ranked rank a = is_ranked rank false a.parts

-- an alternative beside which the next one is tried is not given twice
abbrev pub is_other : TokenKind → When → Bool
is_other k (when.Both j) = not (is_kind k j)
is_other k when.Always = true
is_other k (when.Is _) = true
is_other k (when.In _) = true
is_other k when.Label = true

abbrev pub is_apart_from : When → List Alternative → Bool
is_apart_from (when.Both k) more = each_row (λ (b : Alternative). is_other k b.at) more
is_apart_from when.Always more = true
is_apart_from (when.Is _) more = true
is_apart_from (when.In _) more = true
is_apart_from when.Label more = true

abbrev pub are_apart : List Alternative → Bool
are_apart [] = true
are_apart (a ∷ more) = is_apart_from a.at more && are_apart more

pub rule_ranked : (r : Rule) → each_row (row_ranked (rank_of_rule r)) (rule_rows r) ≡ true
unfolding rule_rows
rule_ranked rule.Root = refl
rule_ranked rule.Member = refl
rule_ranked rule.Field = refl
rule_ranked rule.Declaration = refl
rule_ranked rule.Variable = refl
rule_ranked rule.Prototype = refl
rule_ranked rule.Function = refl
rule_ranked rule.Parameter = refl
rule_ranked rule.Block = refl
rule_ranked rule.Statement = refl
rule_ranked rule.Body = refl
rule_ranked rule.IfStatement = refl
rule_ranked rule.WhileStatement = refl
rule_ranked rule.ForStatement = refl
rule_ranked rule.Rest = refl
rule_ranked rule.ForArgument = refl
rule_ranked rule.Captures = refl
rule_ranked rule.Capture = refl
rule_ranked rule.Name = refl
rule_ranked rule.Assignment = refl
rule_ranked rule.Or = refl
rule_ranked rule.And = refl
rule_ranked rule.Compare = refl
rule_ranked rule.Bit = refl
rule_ranked rule.Shift = refl
rule_ranked rule.Add = refl
rule_ranked rule.Multiply = refl
rule_ranked rule.Prefix = refl
rule_ranked rule.Primary = refl
rule_ranked rule.IfExpression = refl
rule_ranked rule.WhileExpression = refl
rule_ranked rule.ForExpression = refl
rule_ranked rule.RestExpression = refl
rule_ranked rule.TypeExpression = refl
rule_ranked rule.TypePrefix = refl
rule_ranked rule.Suffix = refl
rule_ranked rule.Atom = refl
rule_ranked rule.Initializer = refl
rule_ranked rule.Container = refl
rule_ranked rule.ContainerBody = refl
rule_ranked rule.Switch = refl
rule_ranked rule.Prong = refl
rule_ranked rule.Item = refl

pub group_ranked : (g : Group) → each_row (row_ranked (rank_of_group g)) (group_rows g) ≡ true
unfolding group_rows
group_ranked group.RootMembers = refl
group_ranked group.Members = refl
group_ranked group.FieldEnd = refl
group_ranked group.TypeOption = refl
group_ranked group.ValueOption = refl
group_ranked group.StringOption = refl
group_ranked group.PubOption = refl
group_ranked group.Declared = refl
group_ranked group.Parameters = refl
group_ranked group.MoreParameters = refl
group_ranked group.BangOption = refl
group_ranked group.ComptimeOption = refl
group_ranked group.ParameterType = refl
group_ranked group.Statements = refl
group_ranked group.ComptimeStatement = refl
group_ranked group.LabelledStatement = refl
group_ranked group.ContinueOption = refl
group_ranked group.MoreForArguments = refl
group_ranked group.ForArguments = refl
group_ranked group.ElseOption = refl
group_ranked group.RestEnd = refl
group_ranked group.RangeOption = refl
group_ranked group.ExpressionOption = refl
group_ranked group.MoreCaptures = refl
group_ranked group.FurtherCaptures = refl
group_ranked group.PointerOption = refl
group_ranked group.CaptureOption = refl
group_ranked group.AssignTail = refl
group_ranked group.OrTail = refl
group_ranked group.AndTail = refl
group_ranked group.CompareTail = refl
group_ranked group.BitTail = refl
group_ranked group.ShiftTail = refl
group_ranked group.AddTail = refl
group_ranked group.MultiplyTail = refl
group_ranked group.MorePrefixes = refl
group_ranked group.LabelledExpression = refl
group_ranked group.BreakLabel = refl
group_ranked group.InitializerOption = refl
group_ranked group.ElseExpression = refl
group_ranked group.MoreTypePrefixes = refl
group_ranked group.BangTypeOption = refl
group_ranked group.ConstOption = refl
group_ranked group.BracketPrefix = refl
group_ranked group.SuffixTail = refl
group_ranked group.Arguments = refl
group_ranked group.MoreArguments = refl
group_ranked group.DotAtom = refl
group_ranked group.ErrorAtom = refl
group_ranked group.ErrorNames = refl
group_ranked group.MoreErrorNames = refl
group_ranked group.InitializerBody = refl
group_ranked group.MoreFields = refl
group_ranked group.FurtherFields = refl
group_ranked group.TagOption = refl
group_ranked group.UnionTag = refl
group_ranked group.Prongs = refl
group_ranked group.MoreProngs = refl
group_ranked group.ProngHead = refl
group_ranked group.MoreItems = refl
group_ranked group.Items = refl
group_ranked group.ItemRange = refl
group_ranked group.ErrorBraces = refl
group_ranked group.SwitchBraces = refl

pub rule_rank_small : (r : Rule) → nat_lt (rank_of_rule r) 16 ≡ true
rule_rank_small rule.Root = refl
rule_rank_small rule.Member = refl
rule_rank_small rule.Field = refl
rule_rank_small rule.Declaration = refl
rule_rank_small rule.Variable = refl
rule_rank_small rule.Prototype = refl
rule_rank_small rule.Function = refl
rule_rank_small rule.Parameter = refl
rule_rank_small rule.Block = refl
rule_rank_small rule.Statement = refl
rule_rank_small rule.Body = refl
rule_rank_small rule.IfStatement = refl
rule_rank_small rule.WhileStatement = refl
rule_rank_small rule.ForStatement = refl
rule_rank_small rule.Rest = refl
rule_rank_small rule.ForArgument = refl
rule_rank_small rule.Captures = refl
rule_rank_small rule.Capture = refl
rule_rank_small rule.Name = refl
rule_rank_small rule.Assignment = refl
rule_rank_small rule.Or = refl
rule_rank_small rule.And = refl
rule_rank_small rule.Compare = refl
rule_rank_small rule.Bit = refl
rule_rank_small rule.Shift = refl
rule_rank_small rule.Add = refl
rule_rank_small rule.Multiply = refl
rule_rank_small rule.Prefix = refl
rule_rank_small rule.Primary = refl
rule_rank_small rule.IfExpression = refl
rule_rank_small rule.WhileExpression = refl
rule_rank_small rule.ForExpression = refl
rule_rank_small rule.RestExpression = refl
rule_rank_small rule.TypeExpression = refl
rule_rank_small rule.TypePrefix = refl
rule_rank_small rule.Suffix = refl
rule_rank_small rule.Atom = refl
rule_rank_small rule.Initializer = refl
rule_rank_small rule.Container = refl
rule_rank_small rule.ContainerBody = refl
rule_rank_small rule.Switch = refl
rule_rank_small rule.Prong = refl
rule_rank_small rule.Item = refl

pub group_rank_small : (g : Group) → nat_lt (rank_of_group g) 16 ≡ true
group_rank_small group.RootMembers = refl
group_rank_small group.Members = refl
group_rank_small group.FieldEnd = refl
group_rank_small group.TypeOption = refl
group_rank_small group.ValueOption = refl
group_rank_small group.StringOption = refl
group_rank_small group.PubOption = refl
group_rank_small group.Declared = refl
group_rank_small group.Parameters = refl
group_rank_small group.MoreParameters = refl
group_rank_small group.BangOption = refl
group_rank_small group.ComptimeOption = refl
group_rank_small group.ParameterType = refl
group_rank_small group.Statements = refl
group_rank_small group.ComptimeStatement = refl
group_rank_small group.LabelledStatement = refl
group_rank_small group.ContinueOption = refl
group_rank_small group.MoreForArguments = refl
group_rank_small group.ForArguments = refl
group_rank_small group.ElseOption = refl
group_rank_small group.RestEnd = refl
group_rank_small group.RangeOption = refl
group_rank_small group.ExpressionOption = refl
group_rank_small group.MoreCaptures = refl
group_rank_small group.FurtherCaptures = refl
group_rank_small group.PointerOption = refl
group_rank_small group.CaptureOption = refl
group_rank_small group.AssignTail = refl
group_rank_small group.OrTail = refl
group_rank_small group.AndTail = refl
group_rank_small group.CompareTail = refl
group_rank_small group.BitTail = refl
group_rank_small group.ShiftTail = refl
group_rank_small group.AddTail = refl
group_rank_small group.MultiplyTail = refl
group_rank_small group.MorePrefixes = refl
group_rank_small group.LabelledExpression = refl
group_rank_small group.BreakLabel = refl
group_rank_small group.InitializerOption = refl
group_rank_small group.ElseExpression = refl
group_rank_small group.MoreTypePrefixes = refl
group_rank_small group.BangTypeOption = refl
group_rank_small group.ConstOption = refl
group_rank_small group.BracketPrefix = refl
group_rank_small group.SuffixTail = refl
group_rank_small group.Arguments = refl
group_rank_small group.MoreArguments = refl
group_rank_small group.DotAtom = refl
group_rank_small group.ErrorAtom = refl
group_rank_small group.ErrorNames = refl
group_rank_small group.MoreErrorNames = refl
group_rank_small group.InitializerBody = refl
group_rank_small group.MoreFields = refl
group_rank_small group.FurtherFields = refl
group_rank_small group.TagOption = refl
group_rank_small group.UnionTag = refl
group_rank_small group.Prongs = refl
group_rank_small group.MoreProngs = refl
group_rank_small group.ProngHead = refl
group_rank_small group.MoreItems = refl
group_rank_small group.Items = refl
group_rank_small group.ItemRange = refl
group_rank_small group.ErrorBraces = refl
group_rank_small group.SwitchBraces = refl

pub rule_apart : (r : Rule) → are_apart (rule_rows r) ≡ true
unfolding rule_rows number_of
rule_apart rule.Root = refl
rule_apart rule.Member = refl
rule_apart rule.Field = refl
rule_apart rule.Declaration = refl
rule_apart rule.Variable = refl
rule_apart rule.Prototype = refl
rule_apart rule.Function = refl
rule_apart rule.Parameter = refl
rule_apart rule.Block = refl
rule_apart rule.Statement = refl
rule_apart rule.Body = refl
rule_apart rule.IfStatement = refl
rule_apart rule.WhileStatement = refl
rule_apart rule.ForStatement = refl
rule_apart rule.Rest = refl
rule_apart rule.ForArgument = refl
rule_apart rule.Captures = refl
rule_apart rule.Capture = refl
rule_apart rule.Name = refl
rule_apart rule.Assignment = refl
rule_apart rule.Or = refl
rule_apart rule.And = refl
rule_apart rule.Compare = refl
rule_apart rule.Bit = refl
rule_apart rule.Shift = refl
rule_apart rule.Add = refl
rule_apart rule.Multiply = refl
rule_apart rule.Prefix = refl
rule_apart rule.Primary = refl
rule_apart rule.IfExpression = refl
rule_apart rule.WhileExpression = refl
rule_apart rule.ForExpression = refl
rule_apart rule.RestExpression = refl
rule_apart rule.TypeExpression = refl
rule_apart rule.TypePrefix = refl
rule_apart rule.Suffix = refl
rule_apart rule.Atom = refl
rule_apart rule.Initializer = refl
rule_apart rule.Container = refl
rule_apart rule.ContainerBody = refl
rule_apart rule.Switch = refl
rule_apart rule.Prong = refl
rule_apart rule.Item = refl

pub group_apart : (g : Group) → are_apart (group_rows g) ≡ true
unfolding group_rows number_of
group_apart group.RootMembers = refl
group_apart group.Members = refl
group_apart group.FieldEnd = refl
group_apart group.TypeOption = refl
group_apart group.ValueOption = refl
group_apart group.StringOption = refl
group_apart group.PubOption = refl
group_apart group.Declared = refl
group_apart group.Parameters = refl
group_apart group.MoreParameters = refl
group_apart group.BangOption = refl
group_apart group.ComptimeOption = refl
group_apart group.ParameterType = refl
group_apart group.Statements = refl
group_apart group.ComptimeStatement = refl
group_apart group.LabelledStatement = refl
group_apart group.ContinueOption = refl
group_apart group.MoreForArguments = refl
group_apart group.ForArguments = refl
group_apart group.ElseOption = refl
group_apart group.RestEnd = refl
group_apart group.RangeOption = refl
group_apart group.ExpressionOption = refl
group_apart group.MoreCaptures = refl
group_apart group.FurtherCaptures = refl
group_apart group.PointerOption = refl
group_apart group.CaptureOption = refl
group_apart group.AssignTail = refl
group_apart group.OrTail = refl
group_apart group.AndTail = refl
group_apart group.CompareTail = refl
group_apart group.BitTail = refl
group_apart group.ShiftTail = refl
group_apart group.AddTail = refl
group_apart group.MultiplyTail = refl
group_apart group.MorePrefixes = refl
group_apart group.LabelledExpression = refl
group_apart group.BreakLabel = refl
group_apart group.InitializerOption = refl
group_apart group.ElseExpression = refl
group_apart group.MoreTypePrefixes = refl
group_apart group.BangTypeOption = refl
group_apart group.ConstOption = refl
group_apart group.BracketPrefix = refl
group_apart group.SuffixTail = refl
group_apart group.Arguments = refl
group_apart group.MoreArguments = refl
group_apart group.DotAtom = refl
group_apart group.ErrorAtom = refl
group_apart group.ErrorNames = refl
group_apart group.MoreErrorNames = refl
group_apart group.InitializerBody = refl
group_apart group.MoreFields = refl
group_apart group.FurtherFields = refl
group_apart group.TagOption = refl
group_apart group.UnionTag = refl
group_apart group.Prongs = refl
group_apart group.MoreProngs = refl
group_apart group.ProngHead = refl
group_apart group.MoreItems = refl
group_apart group.Items = refl
group_apart group.ItemRange = refl
group_apart group.ErrorBraces = refl
group_apart group.SwitchBraces = refl
