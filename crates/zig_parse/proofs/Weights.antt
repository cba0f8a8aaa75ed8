-- How many tokens parts read at least, commas not counted: those of a shortest derivation.
use Rattle.std.proofs.Common.{◌≡◌, ℕ, ◌+◌, ◌≤◌, Bool, true, false, ◌&&◌, ◌||◌, ◌⊎◌, inl, inr, List, [], ◌∷◌, ◌++◌, refl, sym, ◌∙◌, ap, subst, arith}
use Rattle.std.specs.Prelude.{not, nat_lt}
use Rattle.std.proofs.lemmas.Bool.{and_parts, ltb-true, ltb-false, not-true}
use Rattle.zig_tree.specs.declared.token.TokenKind.{TokenKind}
use Rattle.zig_tree.specs.declared.token.TokenKind.TheVariants as kind
use Rattle.zig_tree.specs.declared.grammar.Rule.{Rule}
use Rattle.zig_tree.specs.declared.grammar.Rule.TheVariants as rule
use Rattle.zig_tree.specs.declared.grammar.Group.{Group}
use Rattle.zig_tree.specs.declared.grammar.Group.TheVariants as group
use Rattle.zig_tree.specs.declared.grammar.TokenClass.{TokenClass}
use Rattle.zig_tree.specs.declared.grammar.TokenClass.TheVariants as class
use Rattle.zig_tree.specs.declared.grammar.Part.{Part}
use Rattle.zig_tree.specs.declared.grammar.Part.TheVariants as part
use Rattle.zig_tree.specs.Kinds.{has_kind, number_of}
use Rattle.zig_tree.specs.Kinds as kinds
use Rattle.zig_tree.specs.Grammar.{Alternative, group_rows, rule_rows}
use Rattle.zig_tree.specs.GrammarSentences.{Pieces, nothing, followed, makes_no_node_alone, open_at, Among, Derives, derives_none, derives_token, derives_one_of, derives_group, derives_rule}
use Rattle.zig_parse.specs.Threads.{is_never_alone}
use Rattle.zig_parse.specs.Leads.{heavy, weight}
use Rattle.zig_parse.proofs.Derived.{Taken, each_row, group_derived, none_derived, open_is_row, row_tested}
use Rattle.zig_parse.proofs.Endings.{quick, quick_all, quick_group, quick_rule, sample}

-- ---- how many

pub heavy_joined : (a b : List TokenKind) → heavy (a ++ b) ≡ heavy a + heavy b
heavy_joined [] b = omega arith
heavy_joined (k ∷ a) b = omega (arith, heavy_joined a b)

-- of the parts in a row
abbrev pub lightest : List Part → ℕ
lightest ps = heavy (quick_all ps)

pub lightest_joined : (ps qs : List Part) → lightest (ps ++ qs) ≡ lightest ps + lightest qs
lightest_joined [] qs = omega arith
lightest_joined (p ∷ ps) qs = omega (arith, lightest_joined ps qs, heavy_joined (quick p) (quick_all ps), heavy_joined (quick p) (quick_all (ps ++ qs)))

pub lightest_more : (p : Part) (ps : List Part) → lightest (p ∷ ps) ≡ heavy (quick p) + lightest ps
lightest_more p ps = heavy_joined (quick p) (quick_all ps)

-- ---- the rows of the grammar

abbrev row_weighs : ℕ → Alternative → Bool
row_weighs n a = not (nat_lt (lightest a.parts) n)

rule_weighs : (r : Rule) → each_row (row_weighs (heavy (quick_rule r))) (rule_rows r) ≡ true
unfolding rule_rows
rule_weighs rule.Root = refl
rule_weighs rule.Member = refl
rule_weighs rule.Field = refl
rule_weighs rule.Declaration = refl
rule_weighs rule.Variable = refl
rule_weighs rule.Prototype = refl
rule_weighs rule.Function = refl
rule_weighs rule.Parameter = refl
rule_weighs rule.Block = refl
rule_weighs rule.Statement = refl
rule_weighs rule.Body = refl
rule_weighs rule.IfStatement = refl
rule_weighs rule.WhileStatement = refl
rule_weighs rule.ForStatement = refl
rule_weighs rule.Rest = refl
rule_weighs rule.ForArgument = refl
rule_weighs rule.Captures = refl
rule_weighs rule.Capture = refl
rule_weighs rule.Name = refl
rule_weighs rule.Assignment = refl
rule_weighs rule.Or = refl
rule_weighs rule.And = refl
rule_weighs rule.Compare = refl
rule_weighs rule.Bit = refl
rule_weighs rule.Shift = refl
rule_weighs rule.Add = refl
rule_weighs rule.Multiply = refl
rule_weighs rule.Prefix = refl
rule_weighs rule.Primary = refl
rule_weighs rule.IfExpression = refl
rule_weighs rule.WhileExpression = refl
rule_weighs rule.ForExpression = refl
rule_weighs rule.RestExpression = refl
rule_weighs rule.TypeExpression = refl
rule_weighs rule.TypePrefix = refl
rule_weighs rule.Suffix = refl
rule_weighs rule.Atom = refl
rule_weighs rule.Initializer = refl
rule_weighs rule.Container = refl
rule_weighs rule.ContainerBody = refl
rule_weighs rule.Switch = refl
rule_weighs rule.Prong = refl
rule_weighs rule.Item = refl

group_weighs : (g : Group) → each_row (row_weighs (heavy (quick_group g))) (group_rows g) ≡ true
unfolding group_rows
group_weighs group.RootMembers = refl
group_weighs group.Members = refl
group_weighs group.FieldEnd = refl
group_weighs group.TypeOption = refl
group_weighs group.ValueOption = refl
group_weighs group.StringOption = refl
group_weighs group.PubOption = refl
group_weighs group.Declared = refl
group_weighs group.Parameters = refl
group_weighs group.MoreParameters = refl
group_weighs group.BangOption = refl
group_weighs group.ComptimeOption = refl
group_weighs group.ParameterType = refl
group_weighs group.Statements = refl
group_weighs group.ComptimeStatement = refl
group_weighs group.LabelledStatement = refl
group_weighs group.ContinueOption = refl
group_weighs group.MoreForArguments = refl
group_weighs group.ForArguments = refl
group_weighs group.ElseOption = refl
group_weighs group.RestEnd = refl
group_weighs group.RangeOption = refl
group_weighs group.ExpressionOption = refl
group_weighs group.MoreCaptures = refl
group_weighs group.FurtherCaptures = refl
group_weighs group.PointerOption = refl
group_weighs group.CaptureOption = refl
group_weighs group.AssignTail = refl
group_weighs group.OrTail = refl
group_weighs group.AndTail = refl
group_weighs group.CompareTail = refl
group_weighs group.BitTail = refl
group_weighs group.ShiftTail = refl
group_weighs group.AddTail = refl
group_weighs group.MultiplyTail = refl
group_weighs group.MorePrefixes = refl
group_weighs group.LabelledExpression = refl
group_weighs group.BreakLabel = refl
group_weighs group.InitializerOption = refl
group_weighs group.ElseExpression = refl
group_weighs group.MoreTypePrefixes = refl
group_weighs group.BangTypeOption = refl
group_weighs group.ConstOption = refl
group_weighs group.BracketPrefix = refl
group_weighs group.SuffixTail = refl
group_weighs group.Arguments = refl
group_weighs group.MoreArguments = refl
group_weighs group.DotAtom = refl
group_weighs group.ErrorAtom = refl
group_weighs group.ErrorNames = refl
group_weighs group.MoreErrorNames = refl
group_weighs group.InitializerBody = refl
group_weighs group.MoreFields = refl
group_weighs group.FurtherFields = refl
group_weighs group.TagOption = refl
group_weighs group.UnionTag = refl
group_weighs group.Prongs = refl
group_weighs group.MoreProngs = refl
group_weighs group.ProngHead = refl
group_weighs group.MoreItems = refl
group_weighs group.Items = refl
group_weighs group.ItemRange = refl
group_weighs group.ErrorBraces = refl
group_weighs group.SwitchBraces = refl

no_comma : (c : TokenClass) → has_kind c kind.Comma ≡ false
unfolding number_of kinds.is_add_operator kinds.is_assign_operator kinds.is_atom_word kinds.is_bit_operator kinds.is_capture_start kinds.is_compare_operator kinds.is_const_or_var kinds.is_container_word kinds.is_declaration_start kinds.is_expression_start kinds.is_member_start kinds.is_multiply_operator kinds.is_name_word kinds.is_operand_word kinds.is_parameter_start kinds.is_pointer_mark kinds.is_prefix_operator kinds.is_prong_start kinds.is_shift_operator kinds.is_statement_start kinds.is_statement_word kinds.is_type_prefix_start kinds.is_type_start
no_comma class.ConstOrVar = refl
no_comma class.NameWord = refl
no_comma class.AssignOperator = refl
no_comma class.CompareOperator = refl
no_comma class.BitOperator = refl
no_comma class.ShiftOperator = refl
no_comma class.AddOperator = refl
no_comma class.MultiplyOperator = refl
no_comma class.PrefixOperator = refl
no_comma class.PointerMark = refl
no_comma class.AtomWord = refl
no_comma class.ContainerWord = refl
no_comma class.CaptureStart = refl
no_comma class.ParameterStart = refl
no_comma class.TypePrefixStart = refl
no_comma class.OperandWord = refl
no_comma class.StatementWord = refl
no_comma class.TypeStart = refl
no_comma class.ExpressionStart = refl
no_comma class.StatementStart = refl
no_comma class.ProngStart = refl
no_comma class.DeclarationStart = refl
no_comma class.MemberStart = refl

weight_or : (k : TokenKind) → (k ≡ kind.Comma) ⊎ (weight k ≡ 1)
weight_or kind.Comma = inl refl
weight_or _ = inr refl

sample_one : (c : TokenClass) → weight (sample c) ≡ 1
sample_one class.ConstOrVar = refl
sample_one class.NameWord = refl
sample_one class.AssignOperator = refl
sample_one class.CompareOperator = refl
sample_one class.BitOperator = refl
sample_one class.ShiftOperator = refl
sample_one class.AddOperator = refl
sample_one class.MultiplyOperator = refl
sample_one class.PrefixOperator = refl
sample_one class.PointerMark = refl
sample_one class.AtomWord = refl
sample_one class.ContainerWord = refl
sample_one class.CaptureStart = refl
sample_one class.ParameterStart = refl
sample_one class.TypePrefixStart = refl
sample_one class.OperandWord = refl
sample_one class.StatementWord = refl
sample_one class.TypeStart = refl
sample_one class.ExpressionStart = refl
sample_one class.StatementStart = refl
sample_one class.ProngStart = refl
sample_one class.DeclarationStart = refl
sample_one class.MemberStart = refl

class_one : (c : TokenClass) (k : TokenKind) → has_kind c k ≡ true → weight k ≡ 1
class_one c k h = elim (weight_or k) [
  | inl e ↦ absurd (let wrong : true ≡ false = sym h ∙ ap (has_kind c) e ∙ no_comma c in cc)
  | inr e ↦ e
]

-- ---- what is derived weighs no less

not_less : (n m : ℕ) → not (nat_lt n m) ≡ true → m ≤ n
not_less n m h = let l = ltb-false n m (not-true (nat_lt n m) h) in omega arith

row_least : (n : ℕ) (rows : List Alternative) (a : Alternative) (tokens : List TokenKind) → each_row (row_weighs n) rows ≡ true → Among a (open_at tokens rows) → n ≤ lightest a.parts
row_least n rows a tokens h m = not_less (lightest a.parts) n (row_tested (row_weighs n) a rows h (open_is_row tokens a rows m))

pub weighs : (ps : List Part) (tokens next : List TokenKind) (p : Pieces) → Derives ps tokens next p → lightest ps + heavy next ≤ heavy tokens
weighs ps tokens next p (derives_none _) = omega arith
weighs ps tokens next p (derives_token k more after _ later d) = omega (arith, weighs more after next later d)
weighs ps tokens next p (derives_one_of c k more after _ later h d) = omega (arith, weighs more after next later d, sample_one c, class_one c k h)
weighs ps tokens next p (derives_group g a more _ mid _ inside later m d e) =
    omega (arith, lightest_more (part.Group g) more, row_least (heavy (quick_group g)) (group_rows g) a tokens (group_weighs g) m, weighs a.parts tokens mid inside d, weighs more mid next later e)
weighs ps tokens next p (derives_rule r a more _ mid _ inside later m d e) =
    omega (arith, lightest_more (part.Rule r) more, row_least (heavy (quick_rule r)) (rule_rows r) a tokens (rule_weighs r) m, weighs a.parts tokens mid inside d, weighs more mid next later e)

-- ---- tails, which may be nothing

-- a group that follows the first part of a rule which makes no node alone
abbrev pub is_tail_group : Group → Bool
is_tail_group group.OrTail = true
is_tail_group group.AndTail = true
is_tail_group group.CompareTail = true
is_tail_group group.BitTail = true
is_tail_group group.ShiftTail = true
is_tail_group group.AddTail = true
is_tail_group group.MultiplyTail = true
is_tail_group group.InitializerOption = true
is_tail_group group.ElseExpression = true
is_tail_group group.BangTypeOption = true
is_tail_group group.SuffixTail = true
is_tail_group _ = false

abbrev pub are_tails : List Part → Bool
are_tails [] = true
are_tails (part.Group g ∷ ps) = is_tail_group g && are_tails ps
are_tails (part.Token _ ∷ ps) = false
are_tails (part.OneOf _ ∷ ps) = false
are_tails (part.Rule _ ∷ ps) = false

abbrev has_none : List Part → Bool
has_none [] = true
has_none (p ∷ ps) = false

abbrev row_tails : Alternative → Bool
row_tails a = has_none a.parts || nat_lt 0 (lightest a.parts)

tail_rows : (g : Group) → (not (is_tail_group g) || each_row row_tails (group_rows g)) ≡ true
unfolding group_rows
tail_rows group.RootMembers = refl
tail_rows group.Members = refl
tail_rows group.FieldEnd = refl
tail_rows group.TypeOption = refl
tail_rows group.ValueOption = refl
tail_rows group.StringOption = refl
tail_rows group.PubOption = refl
tail_rows group.Declared = refl
tail_rows group.Parameters = refl
tail_rows group.MoreParameters = refl
tail_rows group.BangOption = refl
tail_rows group.ComptimeOption = refl
tail_rows group.ParameterType = refl
tail_rows group.Statements = refl
tail_rows group.ComptimeStatement = refl
tail_rows group.LabelledStatement = refl
tail_rows group.ContinueOption = refl
tail_rows group.MoreForArguments = refl
tail_rows group.ForArguments = refl
tail_rows group.ElseOption = refl
tail_rows group.RestEnd = refl
tail_rows group.RangeOption = refl
tail_rows group.ExpressionOption = refl
tail_rows group.MoreCaptures = refl
tail_rows group.FurtherCaptures = refl
tail_rows group.PointerOption = refl
tail_rows group.CaptureOption = refl
tail_rows group.AssignTail = refl
tail_rows group.OrTail = refl
tail_rows group.AndTail = refl
tail_rows group.CompareTail = refl
tail_rows group.BitTail = refl
tail_rows group.ShiftTail = refl
tail_rows group.AddTail = refl
tail_rows group.MultiplyTail = refl
tail_rows group.MorePrefixes = refl
tail_rows group.LabelledExpression = refl
tail_rows group.BreakLabel = refl
tail_rows group.InitializerOption = refl
tail_rows group.ElseExpression = refl
tail_rows group.MoreTypePrefixes = refl
tail_rows group.BangTypeOption = refl
tail_rows group.ConstOption = refl
tail_rows group.BracketPrefix = refl
tail_rows group.SuffixTail = refl
tail_rows group.Arguments = refl
tail_rows group.MoreArguments = refl
tail_rows group.DotAtom = refl
tail_rows group.ErrorAtom = refl
tail_rows group.ErrorNames = refl
tail_rows group.MoreErrorNames = refl
tail_rows group.InitializerBody = refl
tail_rows group.MoreFields = refl
tail_rows group.FurtherFields = refl
tail_rows group.TagOption = refl
tail_rows group.UnionTag = refl
tail_rows group.Prongs = refl
tail_rows group.MoreProngs = refl
tail_rows group.ProngHead = refl
tail_rows group.MoreItems = refl
tail_rows group.Items = refl
tail_rows group.ItemRange = refl
tail_rows group.ErrorBraces = refl
tail_rows group.SwitchBraces = refl

tail_light : (g : Group) → is_tail_group g ≡ true → heavy (quick_group g) ≡ 0
tail_light group.OrTail h = refl
tail_light group.AndTail h = refl
tail_light group.CompareTail h = refl
tail_light group.BitTail h = refl
tail_light group.ShiftTail h = refl
tail_light group.AddTail h = refl
tail_light group.MultiplyTail h = refl
tail_light group.InitializerOption h = refl
tail_light group.ElseExpression h = refl
tail_light group.BangTypeOption h = refl
tail_light group.SuffixTail h = refl
tail_light _ h = absurd (cc)

implied : (x y : Bool) → (not x || y) ≡ true → x ≡ true → y ≡ true
implied true y h e = h
implied false y h e = absurd (cc)

-- a row that is none, or weighs something
none_or : (ps : List Part) (b : Bool) → (has_none ps || b) ≡ true → (ps ≡ []) ⊎ (b ≡ true)
none_or [] b h = inl refl
none_or (p ∷ ps) b h = inr h

-- tails weigh nothing at least, and something where they are something
pub tails_weigh : (ps : List Part) (tokens next : List TokenKind) (p : Pieces) → are_tails ps ≡ true → Derives ps tokens next p → (p ≡ nothing) ⊎ (1 + heavy next ≤ heavy tokens)
tails_weigh [] tokens next p h d = inl (none_derived tokens next p d).1
tails_weigh (part.Token k ∷ ps) tokens next p h d = absurd (cc)
tails_weigh (part.OneOf c ∷ ps) tokens next p h d = absurd (cc)
tails_weigh (part.Rule r ∷ ps) tokens next p h d = absurd (cc)
tails_weigh (part.Group g ∷ ps) tokens next p h d =
    let s = group_derived g ps tokens next p d in
    let t = s.0 in
    let both = and_parts (is_tail_group g) (are_tails ps) h in
    let row = row_tested row_tails t.a (group_rows g) (implied (is_tail_group g) (each_row row_tails (group_rows g)) (tail_rows g) both.0) (open_is_row tokens t.a (group_rows g) t.among) in
    let first = weighs t.a.parts tokens t.next t.inside t.first in
    let more = weighs ps t.next next t.later t.others in
    elim (none_or t.a.parts (nat_lt 0 (lightest t.a.parts)) row) [
      | inl none ↦ by t none s.1 (tails_weigh ps t.next next t.later both.1 t.others)
      | inr some ↦ inr (let l = ltb-true 0 (lightest t.a.parts) some in omega (arith, l, first, more))
    ]
  where
    by : (t : Taken (group_rows g) ps tokens next) → t.a.parts ≡ [] → p ≡ followed t.inside t.later → (t.later ≡ nothing) ⊎ (1 + heavy next ≤ heavy t.next) → (p ≡ nothing) ⊎ (1 + heavy next ≤ heavy tokens)
    by t none s (inl e) =
        (let d = none_derived tokens t.next t.inside (subst (λ (l : List Part). Derives l tokens t.next t.inside) none t.first) in
        inl (s ∙ ap (λ (x : Pieces). followed x t.later) d.1 ∙ e))
    by t none s (inr l) =
        (let d = none_derived tokens t.next t.inside (subst (λ (l : List Part). Derives l tokens t.next t.inside) none t.first) in
        inr (omega (arith, l, ap heavy d.0)))

pub tails_light : (ps : List Part) → are_tails ps ≡ true → lightest ps ≡ 0
tails_light [] h = refl
tails_light (part.Token k ∷ ps) h = absurd (cc)
tails_light (part.OneOf c ∷ ps) h = absurd (cc)
tails_light (part.Rule r ∷ ps) h = absurd (cc)
tails_light (part.Group g ∷ ps) h = let both = and_parts (is_tail_group g) (are_tails ps) h in omega (arith, lightest_more (part.Group g) ps, tail_light g both.0, tails_light ps both.1)

-- ---- rules that make no node alone

-- whether an alternative begins with a token, or with a rule after which tails come alone, or which stands never alone
abbrev pub begins_lone : List Part → Bool
begins_lone [] = false
begins_lone (part.Token _ ∷ ps) = true
begins_lone (part.OneOf _ ∷ ps) = true
begins_lone (part.Rule r ∷ ps) = is_never_alone r || are_tails ps
begins_lone (part.Group g ∷ ps) = false

abbrev row_lone : Alternative → Bool
row_lone a = begins_lone a.parts

lone_rows : (r : Rule) → (not (makes_no_node_alone r) || each_row row_lone (rule_rows r)) ≡ true
unfolding rule_rows is_never_alone
lone_rows rule.Root = refl
lone_rows rule.Member = refl
lone_rows rule.Field = refl
lone_rows rule.Declaration = refl
lone_rows rule.Variable = refl
lone_rows rule.Prototype = refl
lone_rows rule.Function = refl
lone_rows rule.Parameter = refl
lone_rows rule.Block = refl
lone_rows rule.Statement = refl
lone_rows rule.Body = refl
lone_rows rule.IfStatement = refl
lone_rows rule.WhileStatement = refl
lone_rows rule.ForStatement = refl
lone_rows rule.Rest = refl
lone_rows rule.ForArgument = refl
lone_rows rule.Captures = refl
lone_rows rule.Capture = refl
lone_rows rule.Name = refl
lone_rows rule.Assignment = refl
lone_rows rule.Or = refl
lone_rows rule.And = refl
lone_rows rule.Compare = refl
lone_rows rule.Bit = refl
lone_rows rule.Shift = refl
lone_rows rule.Add = refl
lone_rows rule.Multiply = refl
lone_rows rule.Prefix = refl
lone_rows rule.Primary = refl
lone_rows rule.IfExpression = refl
lone_rows rule.WhileExpression = refl
lone_rows rule.ForExpression = refl
lone_rows rule.RestExpression = refl
lone_rows rule.TypeExpression = refl
lone_rows rule.TypePrefix = refl
lone_rows rule.Suffix = refl
lone_rows rule.Atom = refl
lone_rows rule.Initializer = refl
lone_rows rule.Container = refl
lone_rows rule.ContainerBody = refl
lone_rows rule.Switch = refl
lone_rows rule.Prong = refl
lone_rows rule.Item = refl

pub lone_begins : (r : Rule) (a : Alternative) (tokens : List TokenKind) → makes_no_node_alone r ≡ true → Among a (open_at tokens (rule_rows r)) → begins_lone a.parts ≡ true
lone_begins r a tokens h m = row_tested row_lone a (rule_rows r) (implied (makes_no_node_alone r) (each_row row_lone (rule_rows r)) (lone_rows r) h) (open_is_row tokens a (rule_rows r) m)
