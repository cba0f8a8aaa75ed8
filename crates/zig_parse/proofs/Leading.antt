-- The shortest tokens of the way that leads: with them all ends, and they begin with a colon only where one is to come.
use Rattle.std.proofs.Common.{◌≡◌, ℕ, Bool, true, false, List, [], ◌∷◌, ◌++◌, refl, sym, ◌∙◌, ap, subst, append-nil}
use Rattle.std.specs.Prelude.{not}
use Rattle.std.proofs.lemmas.Bool.{and_parts, not-true}
use Rattle.zig_tree.specs.declared.token.TokenKind.{TokenKind}
use Rattle.zig_tree.specs.declared.token.TokenKind.TheVariants as kind
use Rattle.zig_tree.specs.declared.grammar.Rule.{Rule}
use Rattle.zig_tree.specs.declared.grammar.Rule.TheVariants as rule
use Rattle.zig_tree.specs.declared.grammar.Group.{Group}
use Rattle.zig_tree.specs.declared.grammar.Group.TheVariants as group
use Rattle.zig_tree.specs.declared.grammar.TokenClass.{TokenClass}
use Rattle.zig_tree.specs.declared.grammar.TokenClass.TheVariants as class
use Rattle.zig_tree.specs.declared.grammar.Part.{Part}
use Rattle.zig_tree.specs.declared.grammar.Part.TheVariants as part
use Rattle.zig_tree.specs.Kinds.{is_part, number_of}
use Rattle.zig_tree.specs.GrammarSentences.{next_kind}
use Rattle.zig_parse.specs.declared.thread.Item.{Item}
use Rattle.zig_parse.specs.declared.thread.Thread.{Thread}
use Rattle.zig_parse.specs.declared.state.State.{State}
use Rattle.zig_parse.specs.Stack.{rest}
use Rattle.zig_parse.specs.Leads.{Leader, Leads, any_reads, begins_colon, leads_brace, leads_file}
use Rattle.zig_parse.proofs.Paths.{parts_of_items}
use Rattle.zig_parse.proofs.Moving.{Each, coming, each_at, waits_front}
use Rattle.zig_parse.proofs.Opening.{Five, five_block, five_initializer, five_body, five_errors, five_switch, apart_five}
use Rattle.zig_parse.proofs.Endings.{after_group, after_rule, each_kind, ends_before, first_or, is_in, may_follow, quick_all, quick_group, quick_rule, sample}
use Rattle.zig_parse.proofs.Completing.{kind_among}
use Rattle.zig_parse.proofs.Lively.{is_colon}
use Rattle.zig_parse.proofs.Lasting.{Alive, Around, around_brace, Lasts, Waits}
use Rattle.zig_parse.proofs.LastingEnds.{Completes, brace_completes, file_completes, some_is}

-- ---- what ends the braces

-- the tokens that come after the innermost brace
abbrev pub ends_of : (waiting : List (List Thread)) {alive : Part → Bool} {more : ℕ} (p : Part) (depth : ℕ) → Leads waiting alive p depth more → List TokenKind
ends_of waiting p depth (leads_file _ _) = []
ends_of waiting p depth (leads_brace those before after t others _ _ around _ _ _ e more none w least sits) = quick_all (parts_of_items (rest t.items)) ++ ends_of others t.goal around more

pub ends_file : {alive : Part → Bool} {more : ℕ} (p : Part) (depth : ℕ) (l : Leads [] alive p depth more) → ends_of [] p depth l ≡ []
ends_file p depth (leads_file _ _) = refl

-- all ends with them
pub led_completes : (before : List TokenKind) (those : List Thread) (waiting : List (List Thread)) (goal : Part) (depth : ℕ) → Around before (those ∷ waiting) → {alive : Part → Bool} {more : ℕ} (l : Leads (those ∷ waiting) alive goal depth more) → Completes before goal (ends_of (those ∷ waiting) goal depth l)
led_completes before those [] goal depth (around_brace front read _ _ a starts each) (leads_brace _ b c t _ _ _ around _ _ _ e more none w least sits) =
    let h : Waits [] read t = each_at (Waits [] read) b c t (subst (Each (Waits [] read)) e each) in
    let qs = quick_all (parts_of_items (rest t.items)) in
    subst (Completes (front ++ read) goal) (sym (append-nil qs) ∙ ap (λ (l : List TokenKind). qs ++ l) (sym (ends_file t.goal around more))) (file_completes front read t goal a h (some_is h.p goal (sym h.waits ∙ w)))
led_completes before those (others ∷ waiting) goal depth (around_brace front read _ _ a starts each) (leads_brace _ b c t _ _ _ around _ _ _ e more none w least sits) =
    let h : Waits (others ∷ waiting) read t = each_at (Waits (others ∷ waiting) read) b c t (subst (Each (Waits (others ∷ waiting) read)) e each) in
    brace_completes others waiting front read t goal (ends_of (others ∷ waiting) t.goal around more) starts h (some_is h.p goal (sym h.waits ∙ w)) (led_completes front others waiting t.goal around a more)

-- the tokens that end what was read, by the way that leads
abbrev pub ending : (next : TokenKind) (s : State) → Leader next s → List TokenKind
ending next s led = quick_all (coming led.t) ++ ends_of s.waiting led.t.goal led.depth led.leads

pub led_alive : (next : TokenKind) (s : State) (front : List TokenKind) (led : Leader next s) (l : Lasts s.live s.waiting front next) → Alive s.waiting l.read next led.t
led_alive next s front led l = each_at (Alive s.waiting l.read next) led.before led.after led.t (subst (Each (Alive s.waiting l.read next)) led.live_is l.alive)

-- ---- a colon

sample_plain : (c : TokenClass) → is_colon (sample c) ≡ false
unfolding number_of
sample_plain class.ConstOrVar = refl
sample_plain class.NameWord = refl
sample_plain class.AssignOperator = refl
sample_plain class.CompareOperator = refl
sample_plain class.BitOperator = refl
sample_plain class.ShiftOperator = refl
sample_plain class.AddOperator = refl
sample_plain class.MultiplyOperator = refl
sample_plain class.PrefixOperator = refl
sample_plain class.PointerMark = refl
sample_plain class.AtomWord = refl
sample_plain class.ContainerWord = refl
sample_plain class.CaptureStart = refl
sample_plain class.ParameterStart = refl
sample_plain class.TypePrefixStart = refl
sample_plain class.OperandWord = refl
sample_plain class.StatementWord = refl
sample_plain class.TypeStart = refl
sample_plain class.ExpressionStart = refl
sample_plain class.StatementStart = refl
sample_plain class.ProngStart = refl
sample_plain class.DeclarationStart = refl
sample_plain class.MemberStart = refl

rule_plain : (r : Rule) (l : List TokenKind) (k : TokenKind) → is_colon (first_or (quick_rule r ++ l) k) ≡ false
unfolding number_of
rule_plain rule.Root l k = refl
rule_plain rule.Member l k = refl
rule_plain rule.Field l k = refl
rule_plain rule.Declaration l k = refl
rule_plain rule.Variable l k = refl
rule_plain rule.Prototype l k = refl
rule_plain rule.Function l k = refl
rule_plain rule.Parameter l k = refl
rule_plain rule.Block l k = refl
rule_plain rule.Statement l k = refl
rule_plain rule.Body l k = refl
rule_plain rule.IfStatement l k = refl
rule_plain rule.WhileStatement l k = refl
rule_plain rule.ForStatement l k = refl
rule_plain rule.Rest l k = refl
rule_plain rule.ForArgument l k = refl
rule_plain rule.Captures l k = refl
rule_plain rule.Capture l k = refl
rule_plain rule.Name l k = refl
rule_plain rule.Assignment l k = refl
rule_plain rule.Or l k = refl
rule_plain rule.And l k = refl
rule_plain rule.Compare l k = refl
rule_plain rule.Bit l k = refl
rule_plain rule.Shift l k = refl
rule_plain rule.Add l k = refl
rule_plain rule.Multiply l k = refl
rule_plain rule.Prefix l k = refl
rule_plain rule.Primary l k = refl
rule_plain rule.IfExpression l k = refl
rule_plain rule.WhileExpression l k = refl
rule_plain rule.ForExpression l k = refl
rule_plain rule.RestExpression l k = refl
rule_plain rule.TypeExpression l k = refl
rule_plain rule.TypePrefix l k = refl
rule_plain rule.Suffix l k = refl
rule_plain rule.Atom l k = refl
rule_plain rule.Initializer l k = refl
rule_plain rule.Container l k = refl
rule_plain rule.ContainerBody l k = refl
rule_plain rule.Switch l k = refl
rule_plain rule.Prong l k = refl
rule_plain rule.Item l k = refl

after_plain : (g : Group) → each_kind (λ j. not (is_colon j)) (after_group g) ≡ true
unfolding number_of
after_plain group.RootMembers = refl
after_plain group.Members = refl
after_plain group.FieldEnd = refl
after_plain group.TypeOption = refl
after_plain group.ValueOption = refl
after_plain group.StringOption = refl
after_plain group.PubOption = refl
after_plain group.Declared = refl
after_plain group.Parameters = refl
after_plain group.MoreParameters = refl
after_plain group.BangOption = refl
after_plain group.ComptimeOption = refl
after_plain group.ParameterType = refl
after_plain group.Statements = refl
after_plain group.ComptimeStatement = refl
after_plain group.LabelledStatement = refl
after_plain group.ContinueOption = refl
after_plain group.MoreForArguments = refl
after_plain group.ForArguments = refl
after_plain group.ElseOption = refl
after_plain group.RestEnd = refl
after_plain group.RangeOption = refl
after_plain group.ExpressionOption = refl
after_plain group.MoreCaptures = refl
after_plain group.FurtherCaptures = refl
after_plain group.PointerOption = refl
after_plain group.CaptureOption = refl
after_plain group.AssignTail = refl
after_plain group.OrTail = refl
after_plain group.AndTail = refl
after_plain group.CompareTail = refl
after_plain group.BitTail = refl
after_plain group.ShiftTail = refl
after_plain group.AddTail = refl
after_plain group.MultiplyTail = refl
after_plain group.MorePrefixes = refl
after_plain group.LabelledExpression = refl
after_plain group.BreakLabel = refl
after_plain group.InitializerOption = refl
after_plain group.ElseExpression = refl
after_plain group.MoreTypePrefixes = refl
after_plain group.BangTypeOption = refl
after_plain group.ConstOption = refl
after_plain group.BracketPrefix = refl
after_plain group.SuffixTail = refl
after_plain group.Arguments = refl
after_plain group.MoreArguments = refl
after_plain group.DotAtom = refl
after_plain group.ErrorAtom = refl
after_plain group.ErrorNames = refl
after_plain group.MoreErrorNames = refl
after_plain group.InitializerBody = refl
after_plain group.MoreFields = refl
after_plain group.FurtherFields = refl
after_plain group.TagOption = refl
after_plain group.UnionTag = refl
after_plain group.Prongs = refl
after_plain group.MoreProngs = refl
after_plain group.ProngHead = refl
after_plain group.MoreItems = refl
after_plain group.Items = refl
after_plain group.ItemRange = refl
after_plain group.ErrorBraces = refl
after_plain group.SwitchBraces = refl

after_rule_plain : (r : Rule) → each_kind (λ j. not (is_colon j)) (after_rule r) ≡ true
unfolding number_of
after_rule_plain rule.Root = refl
after_rule_plain rule.Member = refl
after_rule_plain rule.Field = refl
after_rule_plain rule.Declaration = refl
after_rule_plain rule.Variable = refl
after_rule_plain rule.Prototype = refl
after_rule_plain rule.Function = refl
after_rule_plain rule.Parameter = refl
after_rule_plain rule.Block = refl
after_rule_plain rule.Statement = refl
after_rule_plain rule.Body = refl
after_rule_plain rule.IfStatement = refl
after_rule_plain rule.WhileStatement = refl
after_rule_plain rule.ForStatement = refl
after_rule_plain rule.Rest = refl
after_rule_plain rule.ForArgument = refl
after_rule_plain rule.Captures = refl
after_rule_plain rule.Capture = refl
after_rule_plain rule.Name = refl
after_rule_plain rule.Assignment = refl
after_rule_plain rule.Or = refl
after_rule_plain rule.And = refl
after_rule_plain rule.Compare = refl
after_rule_plain rule.Bit = refl
after_rule_plain rule.Shift = refl
after_rule_plain rule.Add = refl
after_rule_plain rule.Multiply = refl
after_rule_plain rule.Prefix = refl
after_rule_plain rule.Primary = refl
after_rule_plain rule.IfExpression = refl
after_rule_plain rule.WhileExpression = refl
after_rule_plain rule.ForExpression = refl
after_rule_plain rule.RestExpression = refl
after_rule_plain rule.TypeExpression = refl
after_rule_plain rule.TypePrefix = refl
after_rule_plain rule.Suffix = refl
after_rule_plain rule.Atom = refl
after_rule_plain rule.Initializer = refl
after_rule_plain rule.Container = refl
after_rule_plain rule.ContainerBody = refl
after_rule_plain rule.Switch = refl
after_rule_plain rule.Prong = refl
after_rule_plain rule.Item = refl

no_colon : (k : TokenKind) (ks : List TokenKind) → each_kind (λ j. not (is_colon j)) ks ≡ true → is_in k ks ≡ true → is_colon k ≡ false
no_colon k ks e h = not-true (is_colon k) (kind_among (λ j. not (is_colon j)) k ks h e)

group_plain : (g : Group) (l : List TokenKind) (k : TokenKind) → is_in (first_or l k) (after_group g) ≡ true → is_colon (first_or (quick_group g ++ l) k) ≡ false
unfolding number_of
group_plain group.RootMembers l k h = no_colon (first_or l k) (after_group group.RootMembers) (after_plain group.RootMembers) h
group_plain group.Members l k h = no_colon (first_or l k) (after_group group.Members) (after_plain group.Members) h
group_plain group.FieldEnd l k h = refl
group_plain group.TypeOption l k h = no_colon (first_or l k) (after_group group.TypeOption) (after_plain group.TypeOption) h
group_plain group.ValueOption l k h = no_colon (first_or l k) (after_group group.ValueOption) (after_plain group.ValueOption) h
group_plain group.StringOption l k h = no_colon (first_or l k) (after_group group.StringOption) (after_plain group.StringOption) h
group_plain group.PubOption l k h = no_colon (first_or l k) (after_group group.PubOption) (after_plain group.PubOption) h
group_plain group.Declared l k h = refl
group_plain group.Parameters l k h = no_colon (first_or l k) (after_group group.Parameters) (after_plain group.Parameters) h
group_plain group.MoreParameters l k h = no_colon (first_or l k) (after_group group.MoreParameters) (after_plain group.MoreParameters) h
group_plain group.BangOption l k h = no_colon (first_or l k) (after_group group.BangOption) (after_plain group.BangOption) h
group_plain group.ComptimeOption l k h = no_colon (first_or l k) (after_group group.ComptimeOption) (after_plain group.ComptimeOption) h
group_plain group.ParameterType l k h = refl
group_plain group.Statements l k h = no_colon (first_or l k) (after_group group.Statements) (after_plain group.Statements) h
group_plain group.ComptimeStatement l k h = refl
group_plain group.LabelledStatement l k h = refl
group_plain group.ContinueOption l k h = no_colon (first_or l k) (after_group group.ContinueOption) (after_plain group.ContinueOption) h
group_plain group.MoreForArguments l k h = no_colon (first_or l k) (after_group group.MoreForArguments) (after_plain group.MoreForArguments) h
group_plain group.ForArguments l k h = no_colon (first_or l k) (after_group group.ForArguments) (after_plain group.ForArguments) h
group_plain group.ElseOption l k h = no_colon (first_or l k) (after_group group.ElseOption) (after_plain group.ElseOption) h
group_plain group.RestEnd l k h = refl
group_plain group.RangeOption l k h = no_colon (first_or l k) (after_group group.RangeOption) (after_plain group.RangeOption) h
group_plain group.ExpressionOption l k h = no_colon (first_or l k) (after_group group.ExpressionOption) (after_plain group.ExpressionOption) h
group_plain group.MoreCaptures l k h = no_colon (first_or l k) (after_group group.MoreCaptures) (after_plain group.MoreCaptures) h
group_plain group.FurtherCaptures l k h = no_colon (first_or l k) (after_group group.FurtherCaptures) (after_plain group.FurtherCaptures) h
group_plain group.PointerOption l k h = no_colon (first_or l k) (after_group group.PointerOption) (after_plain group.PointerOption) h
group_plain group.CaptureOption l k h = no_colon (first_or l k) (after_group group.CaptureOption) (after_plain group.CaptureOption) h
group_plain group.AssignTail l k h = no_colon (first_or l k) (after_group group.AssignTail) (after_plain group.AssignTail) h
group_plain group.OrTail l k h = no_colon (first_or l k) (after_group group.OrTail) (after_plain group.OrTail) h
group_plain group.AndTail l k h = no_colon (first_or l k) (after_group group.AndTail) (after_plain group.AndTail) h
group_plain group.CompareTail l k h = no_colon (first_or l k) (after_group group.CompareTail) (after_plain group.CompareTail) h
group_plain group.BitTail l k h = no_colon (first_or l k) (after_group group.BitTail) (after_plain group.BitTail) h
group_plain group.ShiftTail l k h = no_colon (first_or l k) (after_group group.ShiftTail) (after_plain group.ShiftTail) h
group_plain group.AddTail l k h = no_colon (first_or l k) (after_group group.AddTail) (after_plain group.AddTail) h
group_plain group.MultiplyTail l k h = no_colon (first_or l k) (after_group group.MultiplyTail) (after_plain group.MultiplyTail) h
group_plain group.MorePrefixes l k h = no_colon (first_or l k) (after_group group.MorePrefixes) (after_plain group.MorePrefixes) h
group_plain group.LabelledExpression l k h = refl
group_plain group.BreakLabel l k h = no_colon (first_or l k) (after_group group.BreakLabel) (after_plain group.BreakLabel) h
group_plain group.InitializerOption l k h = no_colon (first_or l k) (after_group group.InitializerOption) (after_plain group.InitializerOption) h
group_plain group.ElseExpression l k h = no_colon (first_or l k) (after_group group.ElseExpression) (after_plain group.ElseExpression) h
group_plain group.MoreTypePrefixes l k h = no_colon (first_or l k) (after_group group.MoreTypePrefixes) (after_plain group.MoreTypePrefixes) h
group_plain group.BangTypeOption l k h = no_colon (first_or l k) (after_group group.BangTypeOption) (after_plain group.BangTypeOption) h
group_plain group.ConstOption l k h = no_colon (first_or l k) (after_group group.ConstOption) (after_plain group.ConstOption) h
group_plain group.BracketPrefix l k h = refl
group_plain group.SuffixTail l k h = no_colon (first_or l k) (after_group group.SuffixTail) (after_plain group.SuffixTail) h
group_plain group.Arguments l k h = no_colon (first_or l k) (after_group group.Arguments) (after_plain group.Arguments) h
group_plain group.MoreArguments l k h = no_colon (first_or l k) (after_group group.MoreArguments) (after_plain group.MoreArguments) h
group_plain group.DotAtom l k h = refl
group_plain group.ErrorAtom l k h = refl
group_plain group.ErrorNames l k h = no_colon (first_or l k) (after_group group.ErrorNames) (after_plain group.ErrorNames) h
group_plain group.MoreErrorNames l k h = no_colon (first_or l k) (after_group group.MoreErrorNames) (after_plain group.MoreErrorNames) h
group_plain group.InitializerBody l k h = refl
group_plain group.MoreFields l k h = no_colon (first_or l k) (after_group group.MoreFields) (after_plain group.MoreFields) h
group_plain group.FurtherFields l k h = no_colon (first_or l k) (after_group group.FurtherFields) (after_plain group.FurtherFields) h
group_plain group.TagOption l k h = no_colon (first_or l k) (after_group group.TagOption) (after_plain group.TagOption) h
group_plain group.UnionTag l k h = refl
group_plain group.Prongs l k h = no_colon (first_or l k) (after_group group.Prongs) (after_plain group.Prongs) h
group_plain group.MoreProngs l k h = no_colon (first_or l k) (after_group group.MoreProngs) (after_plain group.MoreProngs) h
group_plain group.ProngHead l k h = refl
group_plain group.MoreItems l k h = no_colon (first_or l k) (after_group group.MoreItems) (after_plain group.MoreItems) h
group_plain group.Items l k h = no_colon (first_or l k) (after_group group.Items) (after_plain group.Items) h
group_plain group.ItemRange l k h = no_colon (first_or l k) (after_group group.ItemRange) (after_plain group.ItemRange) h
group_plain group.ErrorBraces l k h = refl
group_plain group.SwitchBraces l k h = refl

abbrev starts_colon : List Part → Bool
starts_colon [] = false
starts_colon (p ∷ ps) = is_part p (part.Token kind.Colon)

quick_colon : (ps : List Part) (k : TokenKind) → is_colon k ≡ false → ends_before k ps ≡ true → is_colon (first_or (quick_all ps) k) ≡ starts_colon ps
quick_colon [] k c h = c
quick_colon (part.Token j ∷ ps) k c h = refl
quick_colon (part.OneOf d ∷ ps) k c h = sample_plain d
quick_colon (part.Rule r ∷ ps) k c h = rule_plain r (quick_all ps) k
quick_colon (part.Group g ∷ ps) k c h = group_plain g (quick_all ps) k (and_parts (may_follow (first_or (quick_all ps) k) (part.Group g)) (ends_before k ps) h).0

items_colon : (items : List Item) → begins_colon items ≡ starts_colon (parts_of_items items)
items_colon [] = refl
items_colon (i ∷ items) = refl

next_joined : (l m : List TokenKind) → next_kind (l ++ m) ≡ first_or l (next_kind m)
next_joined [] m = refl
next_joined (k ∷ l) m = refl

follow_plain : (k : TokenKind) (p : Part) → Five p → may_follow k p ≡ true → is_colon k ≡ false
follow_plain k p five_block h = no_colon k (after_rule rule.Block) (after_rule_plain rule.Block) h
follow_plain k p five_initializer h = no_colon k (after_rule rule.Initializer) (after_rule_plain rule.Initializer) h
follow_plain k p five_body h = no_colon k (after_rule rule.ContainerBody) (after_rule_plain rule.ContainerBody) h
follow_plain k p five_errors h = no_colon k (after_group group.ErrorBraces) (after_plain group.ErrorBraces) h
follow_plain k p five_switch h = no_colon k (after_group group.SwitchBraces) (after_plain group.SwitchBraces) h

end_plain : is_colon kind.End ≡ false
unfolding number_of
end_plain = refl

root_follows : may_follow kind.End (part.Rule rule.Root) ≡ true
unfolding number_of
root_follows = refl

five_of : (those : List Thread) (waiting : List (List Thread)) {alive : Part → Bool} {more : ℕ} (p : Part) (depth : ℕ) → Leads (those ∷ waiting) alive p depth more → Five p
five_of those waiting p depth (leads_brace _ before after t _ _ _ around _ _ _ e more none w least sits) = apart_five p (waits_front t p w).apart

-- the tokens begin with a colon where the way has one to come first, and only there
pub led_colon : (next : TokenKind) (s : State) (front : List TokenKind) (led : Leader next s) → Lasts s.live s.waiting front next → is_colon (next_kind (ending next s led)) ≡ is_colon next
led_colon next s front led l = by s.waiting led.leads l.around (led_alive next s front led l) ∙ sym (items_colon led.t.items) ∙ led.colon
  where
    first : (tail : List TokenKind) (k : TokenKind) → next_kind tail ≡ k → is_colon k ≡ false → ends_before k (coming led.t) ≡ true → is_colon (next_kind (quick_all (coming led.t) ++ tail)) ≡ starts_colon (coming led.t)
    first tail k e c h = ap is_colon (next_joined (quick_all (coming led.t)) tail ∙ ap (first_or (quick_all (coming led.t))) e) ∙ quick_colon (coming led.t) k c h

    by : (ws : List (List Thread)) (leads : Leads ws (λ q. any_reads q s.live) led.t.goal led.depth led.more) → Around l.before ws → Alive ws l.read next led.t → is_colon (next_kind (quick_all (coming led.t) ++ ends_of ws led.t.goal led.depth leads)) ≡ starts_colon (coming led.t)
    by [] leads a alive =
        first (ends_of [] led.t.goal led.depth leads) kind.End (ap next_kind (ends_file led.t.goal led.depth leads)) end_plain (alive.lively.ended kind.End (subst (λ (g : Part). may_follow kind.End g ≡ true) (sym alive.wanted) root_follows))
    by (those ∷ others) leads a alive =
        (let o = led_completes l.before those others led.t.goal led.depth a leads in
        first (ends_of (those ∷ others) led.t.goal led.depth leads) o.k (ap next_kind o.tail_is) (follow_plain o.k led.t.goal (five_of those others led.t.goal led.depth leads) o.follows) (alive.lively.ended o.k o.follows))
