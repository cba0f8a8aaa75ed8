-- Which parts come to a token with no choice before it, and which groups lead to no brace, as the checker
-- computes over the rows of the grammar.
use Rattle.std.proofs.Common.{◌≡◌, Bool, true, false, ◌&&◌, ◌||◌, ◌⊎◌, inl, inr, List, [], ◌∷◌, refl}
use Rattle.std.specs.Prelude.{not, if◌then◌else◌}
use Rattle.std.proofs.lemmas.Bool.{and_parts}
use Rattle.zig_tree.specs.declared.token.TokenKind.{TokenKind}
use Rattle.zig_tree.specs.declared.grammar.Rule.{Rule}
use Rattle.zig_tree.specs.declared.grammar.Rule.TheVariants as rule
use Rattle.zig_tree.specs.declared.grammar.Group.{Group}
use Rattle.zig_tree.specs.declared.grammar.Group.TheVariants as group
use Rattle.zig_tree.specs.declared.grammar.When.{When}
use Rattle.zig_tree.specs.declared.grammar.When.TheVariants as when
use Rattle.zig_tree.specs.declared.grammar.Part.{Part}
use Rattle.zig_tree.specs.declared.grammar.Part.TheVariants as part
use Rattle.zig_tree.specs.Grammar.{Alternative, group_rows, holds, rule_rows}
use Rattle.zig_tree.specs.GrammarSentences.{makes_no_node_alone, next_kind, second_kind, with_shared, open_at, Among}
use Rattle.zig_parse.specs.Choices.{is_shared}
use Rattle.zig_parse.proofs.Derived.{each_row, row_tested, open_is_row}
use Rattle.zig_parse.specs.Threads.{has_braces}
use Rattle.zig_parse.specs.Ways.{Taken, taken_sole, taken_first, taken_second}

-- ---- up to the next token with no choice

-- rules each alternative of which begins with a token or again with such a rule
abbrev pub is_calm_rule : Rule → Bool
is_calm_rule rule.IfStatement = true
is_calm_rule rule.WhileStatement = true
is_calm_rule rule.ForStatement = true
is_calm_rule rule.Block = true
is_calm_rule rule.Assignment = true
is_calm_rule rule.Or = true
is_calm_rule rule.And = true
is_calm_rule rule.Compare = true
is_calm_rule rule.Bit = true
is_calm_rule rule.Shift = true
is_calm_rule rule.Add = true
is_calm_rule rule.Multiply = true
is_calm_rule rule.Prefix = true
is_calm_rule rule.Primary = true
is_calm_rule rule.IfExpression = true
is_calm_rule rule.WhileExpression = true
is_calm_rule rule.ForExpression = true
is_calm_rule rule.TypeExpression = true
is_calm_rule rule.TypePrefix = true
is_calm_rule rule.Suffix = true
is_calm_rule rule.Atom = true
is_calm_rule rule.Container = true
is_calm_rule rule.Switch = true
is_calm_rule _ = false

abbrev pub starts_calm : List Part → Bool
starts_calm [] = false
starts_calm (part.Token _ ∷ ps) = true
starts_calm (part.OneOf _ ∷ ps) = true
starts_calm (part.Rule r ∷ ps) = is_calm_rule r
starts_calm (part.Group g ∷ ps) = false

abbrev pub row_starts : Alternative → Bool
row_starts a = starts_calm a.parts

abbrev pub row_calm : Alternative → Bool
row_calm a = not (is_shared a.at) && starts_calm a.parts

abbrev pub has_shared : List Alternative → Bool
has_shared [] = false
has_shared (a ∷ more) = is_shared a.at || has_shared more

-- where two alternatives may be taken, each begins so
abbrev pub forks_calm : List Alternative → Bool
forks_calm rows = not (has_shared rows) || each_row row_starts rows

rule_calm : (r : Rule) → (not (is_calm_rule r) || each_row row_calm (rule_rows r)) ≡ true
unfolding rule_rows
rule_calm rule.Root = refl
rule_calm rule.Member = refl
rule_calm rule.Field = refl
rule_calm rule.Declaration = refl
rule_calm rule.Variable = refl
rule_calm rule.Prototype = refl
rule_calm rule.Function = refl
rule_calm rule.Parameter = refl
rule_calm rule.Block = refl
rule_calm rule.Statement = refl
rule_calm rule.Body = refl
rule_calm rule.IfStatement = refl
rule_calm rule.WhileStatement = refl
rule_calm rule.ForStatement = refl
rule_calm rule.Rest = refl
rule_calm rule.ForArgument = refl
rule_calm rule.Captures = refl
rule_calm rule.Capture = refl
rule_calm rule.Name = refl
rule_calm rule.Assignment = refl
rule_calm rule.Or = refl
rule_calm rule.And = refl
rule_calm rule.Compare = refl
rule_calm rule.Bit = refl
rule_calm rule.Shift = refl
rule_calm rule.Add = refl
rule_calm rule.Multiply = refl
rule_calm rule.Prefix = refl
rule_calm rule.Primary = refl
rule_calm rule.IfExpression = refl
rule_calm rule.WhileExpression = refl
rule_calm rule.ForExpression = refl
rule_calm rule.RestExpression = refl
rule_calm rule.TypeExpression = refl
rule_calm rule.TypePrefix = refl
rule_calm rule.Suffix = refl
rule_calm rule.Atom = refl
rule_calm rule.Initializer = refl
rule_calm rule.Container = refl
rule_calm rule.ContainerBody = refl
rule_calm rule.Switch = refl
rule_calm rule.Prong = refl
rule_calm rule.Item = refl

pub rule_forks : (r : Rule) → forks_calm (rule_rows r) ≡ true
unfolding rule_rows
rule_forks rule.Root = refl
rule_forks rule.Member = refl
rule_forks rule.Field = refl
rule_forks rule.Declaration = refl
rule_forks rule.Variable = refl
rule_forks rule.Prototype = refl
rule_forks rule.Function = refl
rule_forks rule.Parameter = refl
rule_forks rule.Block = refl
rule_forks rule.Statement = refl
rule_forks rule.Body = refl
rule_forks rule.IfStatement = refl
rule_forks rule.WhileStatement = refl
rule_forks rule.ForStatement = refl
rule_forks rule.Rest = refl
rule_forks rule.ForArgument = refl
rule_forks rule.Captures = refl
rule_forks rule.Capture = refl
rule_forks rule.Name = refl
rule_forks rule.Assignment = refl
rule_forks rule.Or = refl
rule_forks rule.And = refl
rule_forks rule.Compare = refl
rule_forks rule.Bit = refl
rule_forks rule.Shift = refl
rule_forks rule.Add = refl
rule_forks rule.Multiply = refl
rule_forks rule.Prefix = refl
rule_forks rule.Primary = refl
rule_forks rule.IfExpression = refl
rule_forks rule.WhileExpression = refl
rule_forks rule.ForExpression = refl
rule_forks rule.RestExpression = refl
rule_forks rule.TypeExpression = refl
rule_forks rule.TypePrefix = refl
rule_forks rule.Suffix = refl
rule_forks rule.Atom = refl
rule_forks rule.Initializer = refl
rule_forks rule.Container = refl
rule_forks rule.ContainerBody = refl
rule_forks rule.Switch = refl
rule_forks rule.Prong = refl
rule_forks rule.Item = refl

pub group_forks : (g : Group) → forks_calm (group_rows g) ≡ true
unfolding group_rows
group_forks group.RootMembers = refl
group_forks group.Members = refl
group_forks group.FieldEnd = refl
group_forks group.TypeOption = refl
group_forks group.ValueOption = refl
group_forks group.StringOption = refl
group_forks group.PubOption = refl
group_forks group.Declared = refl
group_forks group.Parameters = refl
group_forks group.MoreParameters = refl
group_forks group.BangOption = refl
group_forks group.ComptimeOption = refl
group_forks group.ParameterType = refl
group_forks group.Statements = refl
group_forks group.ComptimeStatement = refl
group_forks group.LabelledStatement = refl
group_forks group.ContinueOption = refl
group_forks group.MoreForArguments = refl
group_forks group.ForArguments = refl
group_forks group.ElseOption = refl
group_forks group.RestEnd = refl
group_forks group.RangeOption = refl
group_forks group.ExpressionOption = refl
group_forks group.MoreCaptures = refl
group_forks group.FurtherCaptures = refl
group_forks group.PointerOption = refl
group_forks group.CaptureOption = refl
group_forks group.AssignTail = refl
group_forks group.OrTail = refl
group_forks group.AndTail = refl
group_forks group.CompareTail = refl
group_forks group.BitTail = refl
group_forks group.ShiftTail = refl
group_forks group.AddTail = refl
group_forks group.MultiplyTail = refl
group_forks group.MorePrefixes = refl
group_forks group.LabelledExpression = refl
group_forks group.BreakLabel = refl
group_forks group.InitializerOption = refl
group_forks group.ElseExpression = refl
group_forks group.MoreTypePrefixes = refl
group_forks group.BangTypeOption = refl
group_forks group.ConstOption = refl
group_forks group.BracketPrefix = refl
group_forks group.SuffixTail = refl
group_forks group.Arguments = refl
group_forks group.MoreArguments = refl
group_forks group.DotAtom = refl
group_forks group.ErrorAtom = refl
group_forks group.ErrorNames = refl
group_forks group.MoreErrorNames = refl
group_forks group.InitializerBody = refl
group_forks group.MoreFields = refl
group_forks group.FurtherFields = refl
group_forks group.TagOption = refl
group_forks group.UnionTag = refl
group_forks group.Prongs = refl
group_forks group.MoreProngs = refl
group_forks group.ProngHead = refl
group_forks group.MoreItems = refl
group_forks group.Items = refl
group_forks group.ItemRange = refl
group_forks group.ErrorBraces = refl
group_forks group.SwitchBraces = refl

-- ---- no brace in the same node

-- groups that lead to no brace
abbrev pub is_free_group : Group → Bool
is_free_group group.ErrorAtom = false
is_free_group group.ErrorBraces = false
is_free_group group.SwitchBraces = false
is_free_group _ = true

abbrev pub is_free : List Part → Bool
is_free [] = true
is_free (part.Token _ ∷ ps) = is_free ps
is_free (part.OneOf _ ∷ ps) = is_free ps
is_free (part.Rule _ ∷ ps) = is_free ps
is_free (part.Group g ∷ ps) = is_free_group g && is_free ps

abbrev pub row_free : Alternative → Bool
row_free a = is_free a.parts

pub braces_not_free : (g : Group) → has_braces g ≡ true → is_free_group g ≡ false
braces_not_free group.ErrorBraces h = refl
braces_not_free group.SwitchBraces h = refl
braces_not_free _ h = absurd (cc)

rule_free : (r : Rule) → (not (makes_no_node_alone r) || each_row row_free (rule_rows r)) ≡ true
unfolding rule_rows
rule_free rule.Root = refl
rule_free rule.Member = refl
rule_free rule.Field = refl
rule_free rule.Declaration = refl
rule_free rule.Variable = refl
rule_free rule.Prototype = refl
rule_free rule.Function = refl
rule_free rule.Parameter = refl
rule_free rule.Block = refl
rule_free rule.Statement = refl
rule_free rule.Body = refl
rule_free rule.IfStatement = refl
rule_free rule.WhileStatement = refl
rule_free rule.ForStatement = refl
rule_free rule.Rest = refl
rule_free rule.ForArgument = refl
rule_free rule.Captures = refl
rule_free rule.Capture = refl
rule_free rule.Name = refl
rule_free rule.Assignment = refl
rule_free rule.Or = refl
rule_free rule.And = refl
rule_free rule.Compare = refl
rule_free rule.Bit = refl
rule_free rule.Shift = refl
rule_free rule.Add = refl
rule_free rule.Multiply = refl
rule_free rule.Prefix = refl
rule_free rule.Primary = refl
rule_free rule.IfExpression = refl
rule_free rule.WhileExpression = refl
rule_free rule.ForExpression = refl
rule_free rule.RestExpression = refl
rule_free rule.TypeExpression = refl
rule_free rule.TypePrefix = refl
rule_free rule.Suffix = refl
rule_free rule.Atom = refl
rule_free rule.Initializer = refl
rule_free rule.Container = refl
rule_free rule.ContainerBody = refl
rule_free rule.Switch = refl
rule_free rule.Prong = refl
rule_free rule.Item = refl

group_free : (g : Group) → (not (is_free_group g) || each_row row_free (group_rows g)) ≡ true
unfolding group_rows
group_free group.RootMembers = refl
group_free group.Members = refl
group_free group.FieldEnd = refl
group_free group.TypeOption = refl
group_free group.ValueOption = refl
group_free group.StringOption = refl
group_free group.PubOption = refl
group_free group.Declared = refl
group_free group.Parameters = refl
group_free group.MoreParameters = refl
group_free group.BangOption = refl
group_free group.ComptimeOption = refl
group_free group.ParameterType = refl
group_free group.Statements = refl
group_free group.ComptimeStatement = refl
group_free group.LabelledStatement = refl
group_free group.ContinueOption = refl
group_free group.MoreForArguments = refl
group_free group.ForArguments = refl
group_free group.ElseOption = refl
group_free group.RestEnd = refl
group_free group.RangeOption = refl
group_free group.ExpressionOption = refl
group_free group.MoreCaptures = refl
group_free group.FurtherCaptures = refl
group_free group.PointerOption = refl
group_free group.CaptureOption = refl
group_free group.AssignTail = refl
group_free group.OrTail = refl
group_free group.AndTail = refl
group_free group.CompareTail = refl
group_free group.BitTail = refl
group_free group.ShiftTail = refl
group_free group.AddTail = refl
group_free group.MultiplyTail = refl
group_free group.MorePrefixes = refl
group_free group.LabelledExpression = refl
group_free group.BreakLabel = refl
group_free group.InitializerOption = refl
group_free group.ElseExpression = refl
group_free group.MoreTypePrefixes = refl
group_free group.BangTypeOption = refl
group_free group.ConstOption = refl
group_free group.BracketPrefix = refl
group_free group.SuffixTail = refl
group_free group.Arguments = refl
group_free group.MoreArguments = refl
group_free group.DotAtom = refl
group_free group.ErrorAtom = refl
group_free group.ErrorNames = refl
group_free group.MoreErrorNames = refl
group_free group.InitializerBody = refl
group_free group.MoreFields = refl
group_free group.FurtherFields = refl
group_free group.TagOption = refl
group_free group.UnionTag = refl
group_free group.Prongs = refl
group_free group.MoreProngs = refl
group_free group.ProngHead = refl
group_free group.MoreItems = refl
group_free group.Items = refl
group_free group.ItemRange = refl
group_free group.ErrorBraces = refl
group_free group.SwitchBraces = refl

implied : (x y : Bool) → (not x || y) ≡ true → x ≡ true → y ≡ true
implied true y h e = h
implied false y h e = absurd (cc)

pub lone_row_free : (r : Rule) (a : Alternative) (tokens : List TokenKind) → makes_no_node_alone r ≡ true → Among a (open_at tokens (rule_rows r)) → is_free a.parts ≡ true
lone_row_free r a tokens h m = row_tested row_free a (rule_rows r) (implied (makes_no_node_alone r) (each_row row_free (rule_rows r)) (rule_free r) h) (open_is_row tokens a (rule_rows r) m)

pub group_row_free : (g : Group) (a : Alternative) (tokens : List TokenKind) → is_free_group g ≡ true → Among a (open_at tokens (group_rows g)) → is_free a.parts ≡ true
group_row_free g a tokens h m = row_tested row_free a (group_rows g) (implied (is_free_group g) (each_row row_free (group_rows g)) (group_free g) h) (open_is_row tokens a (group_rows g) m)

-- ---- what is taken

pub taken_among : (later : List Part) (tokens end : List TokenKind) (rows : List Alternative) (a : Alternative) (choices : List Bool) → Taken later tokens end rows a choices → Among a rows
taken_among later tokens end rows a choices (taken_sole _) = inl refl
taken_among later tokens end rows a choices (taken_first _ b) = inl refl
taken_among later tokens end rows a choices (taken_second _ b _) = inr (inl refl)

-- whether there are two at least
abbrev are_two : List Alternative → Bool
are_two [] = false
are_two (a ∷ []) = false
are_two (a ∷ b ∷ more) = true

taken_two : (later : List Part) (tokens end : List TokenKind) (rows : List Alternative) (a : Alternative) (choices : List Bool) → Taken later tokens end rows a choices → (choices ≡ []) ⊎ (are_two rows ≡ true)
taken_two later tokens end rows a choices (taken_sole _) = inl refl
taken_two later tokens end rows a choices (taken_first _ b) = inr refl
taken_two later tokens end rows a choices (taken_second _ b _) = inr refl

two_shared : (tokens : List TokenKind) (a : Alternative) (w : When) (more : List Alternative) → are_two (with_shared tokens a w more) ≡ true → is_shared w ≡ true
two_shared tokens a (when.Both _) more h = refl
two_shared tokens a when.Always more h = absurd (cc)
two_shared tokens a (when.Is _) more h = absurd (cc)
two_shared tokens a (when.In _) more h = absurd (cc)
two_shared tokens a when.Label more h = absurd (cc)

two_if : (t : Bool) (xs ys : List Alternative) → are_two (if t then xs else ys) ≡ true → (are_two xs ≡ true) ⊎ (are_two ys ≡ true)
two_if true xs ys h = inl h
two_if false xs ys h = inr h

or_left : (x y : Bool) → x ≡ true → (x || y) ≡ true
or_left true y h = refl
or_left false y h = absurd (cc)

or_right : (x y : Bool) → y ≡ true → (x || y) ≡ true
or_right true y h = refl
or_right false y h = h

two_open : (tokens : List TokenKind) (rows : List Alternative) → are_two (open_at tokens rows) ≡ true → has_shared rows ≡ true
two_open tokens [] h = absurd (cc)
two_open tokens (a ∷ more) h =
    elim (two_if (holds (next_kind tokens) (second_kind tokens) a.at) (with_shared tokens a a.at more) (open_at tokens more) h) [
      | inl t ↦ or_left (is_shared a.at) (has_shared more) (two_shared tokens a a.at more t)
      | inr t ↦ or_right (is_shared a.at) (has_shared more) (two_open tokens more t)
    ]

-- a choice is between alternatives that begin so
pub fork_starts : (rows : List Alternative) → forks_calm rows ≡ true → (later : List Part) (tokens end : List TokenKind) (a : Alternative) (choices : List Bool) → Taken later tokens end (open_at tokens rows) a choices
    → (choices ≡ []) ⊎ (starts_calm a.parts ≡ true)
fork_starts rows h later tokens end a choices t =
    elim (taken_two later tokens end (open_at tokens rows) a choices t) [
      | inl none ↦ inl none
      | inr two ↦ inr (row_tested row_starts a rows (implied (has_shared rows) (each_row row_starts rows) h (two_open tokens rows two)) (open_is_row tokens a rows (taken_among later tokens end (open_at tokens rows) a choices t)))
    ]

not_or_left : (x y z : Bool) → (not x && y) ≡ true → (x || z) ≡ true → z ≡ true
not_or_left true y z h e = absurd (cc)
not_or_left false y z h e = e

not_shared : (rows : List Alternative) → each_row row_calm rows ≡ true → has_shared rows ≡ true → ⊥
not_shared [] h e = cc
not_shared (a ∷ more) h e =
    let both = and_parts (row_calm a) (each_row row_calm more) h in
    not_shared more both.1 (not_or_left (is_shared a.at) (starts_calm a.parts) (has_shared more) both.0 e)

row_calm_starts : (a : Alternative) → row_calm a ≡ true → starts_calm a.parts ≡ true
row_calm_starts a h = (and_parts (not (is_shared a.at)) (starts_calm a.parts) h).1

-- in such a rule there is none
pub calm_starts : (r : Rule) (later : List Part) (tokens end : List TokenKind) (a : Alternative) (choices : List Bool) → is_calm_rule r ≡ true → Taken later tokens end (open_at tokens (rule_rows r)) a choices
    → (choices ≡ []) × (starts_calm a.parts ≡ true)
calm_starts r later tokens end a choices h t =
    let calm = implied (is_calm_rule r) (each_row row_calm (rule_rows r)) (rule_calm r) h in
    let among = open_is_row tokens a (rule_rows r) (taken_among later tokens end (open_at tokens (rule_rows r)) a choices t) in (
      elim (taken_two later tokens end (open_at tokens (rule_rows r)) a choices t) [ inl none ↦ none | inr two ↦ absurd (not_shared (rule_rows r) calm (two_open tokens (rule_rows r) two)) ],
      row_calm_starts a (row_tested row_calm a (rule_rows r) calm among),
    )
