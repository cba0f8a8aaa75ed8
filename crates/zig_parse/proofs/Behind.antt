-- A token is refused whatever stands behind it.
use Rattle.std.proofs.Common.{◌≡◌, ℕ, zero, suc, ◌<◌, Bool, true, false, ◌&&◌, ◌||◌, ◌⊎◌, inl, inr, List, [], ◌∷◌, ◌++◌, map, length, refl, sym, ◌∙◌, ap, arith}
use Rattle.std.specs.Prelude.{if◌then◌else◌, nat_lt, not, is_some, Option, Some, None}
use Rattle.std.proofs.lemmas.Bool.{and_parts, le-ltb}
use Rattle.zig_tree.specs.declared.token.TokenKind.{TokenKind}
use Rattle.zig_tree.specs.declared.token.TokenKind.TheVariants as kind
use Rattle.zig_tree.specs.declared.grammar.Rule.{Rule}
use Rattle.zig_tree.specs.declared.grammar.Rule.TheVariants as rule
use Rattle.zig_tree.specs.declared.grammar.Group.{Group}
use Rattle.zig_tree.specs.declared.grammar.Group.TheVariants as group
use Rattle.zig_tree.specs.declared.grammar.TokenClass.TheVariants as class
use Rattle.zig_tree.specs.declared.grammar.When.{When}
use Rattle.zig_tree.specs.declared.grammar.When.TheVariants as when
use Rattle.zig_tree.specs.declared.grammar.Part.{Part}
use Rattle.zig_tree.specs.declared.grammar.Part.TheVariants as part
use Rattle.zig_tree.specs.Kinds.{is_kind, has_kind, number_of}
use Rattle.zig_tree.specs.Kinds as kinds
use Rattle.zig_tree.specs.Grammar.{Alternative, holds, group_rows, rule_rows}
use Rattle.zig_parse.specs.declared.choice.Look.{Look}
use Rattle.zig_parse.specs.declared.thread.Item.{Item}
use Rattle.zig_parse.specs.declared.thread.Thread.{Thread}
use Rattle.zig_parse.specs.declared.thread.Move.{Move}
use Rattle.zig_parse.specs.declared.thread.Move.TheVariants as move
use Rattle.zig_parse.specs.declared.state.State.{State}
use Rattle.zig_parse.specs.declared.survey.Verdict.TheVariants as verdict
use Rattle.zig_parse.specs.Stack.{rest}
use Rattle.zig_parse.specs.Choices.{choices, matching, is_shared, first_parts, taken}
use Rattle.zig_parse.specs.Moves.{apart_from, move_at, move_from, moves_for_all, moving, moving_by, next_move, readers, reading, reading_by, settled, settled_all, spread, waits_for}
use Rattle.zig_parse.specs.Threads.{after_read, fresh, has_braces, is_apart, is_braced, met, opened, passed, put, replaced}
use Rattle.zig_parse.specs.Passes.{after_token, all_deep, any_shallow, any_waits, begun, begun_at, begun_by, begun_for, enclosed, finished, has_read_all, inside, is_among, is_closed, kept_with, least_from, part_choices, resumed_top, those_waiting, verdict_of}
use Rattle.zig_parse.specs.Surveys.{entered, entered_waiting, is_spared, left, left_waiting, next_live, next_state, next_verdict, read_live, read_waiting}
use Rattle.zig_parse.proofs.Derived.{each_row}
use Rattle.zig_parse.proofs.Tables.{same_kind}
use Rattle.zig_parse.proofs.Costs.{settled_one, settled_nothing, settled_less, total_work}

-- ---- what stands behind the next token counts for a label alone

abbrev pub is_no_label : When → Bool
is_no_label when.Label = false
is_no_label when.Always = true
is_no_label (when.Is _) = true
is_no_label (when.In _) = true
is_no_label (when.Both _) = true

-- two looks take the same rows
pub data Agree (a b : Look) : List Alternative → Type 0 where
  agree_none : Agree a b []
  agree_more : (r : Alternative) (rows : List Alternative) → holds a.kind a.next r.at ≡ holds b.kind b.next r.at → Agree a b rows → Agree a b (r ∷ rows)

plain_holds : (k x y : TokenKind) (w : When) → is_no_label w ≡ true → holds k x w ≡ holds k y w
plain_holds k x y when.Label h = absurd (cc)
plain_holds k x y when.Always h = refl
plain_holds k x y (when.Is _) h = refl
plain_holds k x y (when.In _) h = refl
plain_holds k x y (when.Both _) h = refl

other_holds : (k x y : TokenKind) (w : When) → is_kind k kind.Identifier ≡ false → holds k x w ≡ holds k y w
other_holds k x y when.Label h = rw h refl
other_holds k x y when.Always h = refl
other_holds k x y (when.Is _) h = refl
other_holds k x y (when.In _) h = refl
other_holds k x y (when.Both _) h = refl

pub agree_plain : (a b : Look) (rows : List Alternative) → a.kind ≡ b.kind → each_row (λ (r : Alternative). is_no_label r.at) rows ≡ true → Agree a b rows
agree_plain a b [] e h = agree_none
agree_plain a b (r ∷ rows) e h =
    let s = and_parts (is_no_label r.at) (each_row (λ (q : Alternative). is_no_label q.at) rows) h in
    agree_more r rows (plain_holds a.kind a.next b.next r.at s.0 ∙ ap (λ (k : TokenKind). holds k b.next r.at) e) (agree_plain a b rows e s.1)

pub agree_other : (a b : Look) (rows : List Alternative) → a.kind ≡ b.kind → is_kind a.kind kind.Identifier ≡ false → Agree a b rows
agree_other a b [] e h = agree_none
agree_other a b (r ∷ rows) e h = agree_more r rows (other_holds a.kind a.next b.next r.at h ∙ ap (λ (k : TokenKind). holds k b.next r.at) e) (agree_other a b rows e h)

if_same : {A : Type 0} (x y : Bool) (l m n : A) → x ≡ y → m ≡ n → (if x then l else m) ≡ (if y then l else n)
if_same x y l m n e f = rw (e, f) refl

matching_same : (a b : Look) (rows : List Alternative) → Agree a b rows → matching a rows ≡ matching b rows
unfolding matching
matching_same a b [] agree_none = refl
matching_same a b (r ∷ rows) (agree_more _ _ e h) = if_same (holds a.kind a.next r.at) (holds b.kind b.next r.at) (r ∷ rows) (matching a rows) (matching b rows) e (matching_same a b rows h)

if_none : (x : Bool) (l m : List (List Part)) → l ≡ m → (if x then l else []) ≡ (if x then m else [])
if_none x l m e = rw e refl

-- those from the first one that holds on agree too
agree_matching : (a b : Look) (rows : List Alternative) → Agree a b rows → Agree a b (matching b rows)
unfolding matching
agree_matching a b [] agree_none = agree_none
agree_matching a b (r ∷ rows) (agree_more _ _ e h) = by (holds b.kind b.next r.at) (agree_matching a b rows h)
  where
    by : (x : Bool) → Agree a b (matching b rows) → Agree a b (if x then r ∷ rows else matching b rows)
    by true i = agree_more r rows e h
    by false i = i

taken_same : (a b : Look) (rows : List Alternative) → Agree a b rows → taken a rows ≡ taken b rows
taken_same a b [] agree_none = refl
taken_same a b (r ∷ rows) (agree_more _ _ e h) =
    ap (λ (l : List (List Part)). r.parts ∷ l) (if_none (is_shared r.at) (first_parts (matching a rows)) (first_parts (matching b rows)) (ap first_parts (matching_same a b rows h)))

pub choices_agree : (a b : Look) (rows : List Alternative) → Agree a b rows → choices a rows ≡ choices b rows
unfolding choices
choices_agree a b rows h = ap (taken a) (matching_same a b rows h) ∙ taken_same a b (matching b rows) (agree_matching a b rows h)

-- ---- moves

abbrev pub SameChoices : Look → Look → Type 0
SameChoices a b = (rows : List Alternative) → choices a rows ≡ choices b rows

move_same : (a b : Look) (apart : Bool) (p : Part) → a.kind ≡ b.kind → move_at a apart p ≡ move_at b apart p
move_same a b apart (part.Token k) e = ap (λ (j : TokenKind). reading (is_kind k j)) e
move_same a b apart (part.OneOf c) e = ap (λ (j : TokenKind). reading (has_kind c j)) e
move_same a b apart (part.Rule r) e = ap (λ (j : TokenKind). if apart && is_braced r then reading (is_kind j kind.LeftBrace) else move.Rule r) e
move_same a b apart (part.Group g) e = ap (λ (j : TokenKind). if apart && has_braces g then reading (is_kind j kind.LeftBrace) else move.Group g) e

from_same : (a b : Look) (apart : Bool) (n : ℕ) (is : List Item) → a.kind ≡ b.kind → move_from a apart n is ≡ move_from b apart n is
from_same a b apart n [] e = refl
from_same a b apart n (i ∷ is) e = ap (λ (m : Move). if nat_lt i.level n then move.Close else m) (move_same a b apart i.part e)

pub next_same : (a b : Look) (apart : Bool) (t : Thread) → a.kind ≡ b.kind → next_move a apart t ≡ next_move b apart t
unfolding next_move
next_same a b apart t e = from_same a b apart (length t.frames) t.items e

pub readers_same : (a b : Look) (t : Thread) → a.kind ≡ b.kind → readers a t ≡ readers b t
unfolding readers
readers_same a b t e = ap (reading_by t) (next_same a b true t e)

by_same : (a b : Look) (at : ℕ) (t : Thread) (m : Move) → ((r : Rule) → m ≡ move.Rule r → choices a (rule_rows r) ≡ choices b (rule_rows r)) → ((g : Group) → choices a (group_rows g) ≡ choices b (group_rows g)) → moving_by a at t m ≡ moving_by b at t m
by_same a b at t move.Stop f g = refl
by_same a b at t move.Read f g = refl
by_same a b at t move.Close f g = refl
by_same a b at t (move.Rule r) f g = ap (λ (l : List (List Part)). spread at (Some r) l t) (f r refl)
by_same a b at t (move.Group k) f g = ap (λ (l : List (List Part)). spread at None l t) (g k)

pub moving_same : (a b : Look) (at : ℕ) (t : Thread) → a.kind ≡ b.kind → ((r : Rule) → next_move a true t ≡ move.Rule r → choices a (rule_rows r) ≡ choices b (rule_rows r)) → ((g : Group) → choices a (group_rows g) ≡ choices b (group_rows g)) → moving a at t ≡ moving b at t
unfolding moving
moving_same a b at t e f g = by_same a b at t (next_move a true t) f g ∙ ap (moving_by b at t) (next_same a b true t e)

settled_same : (n : ℕ) (a b : Look) (at : ℕ) (ts : List Thread) → a.kind ≡ b.kind → SameChoices a b → settled n a at ts ≡ settled n b at ts
unfolding settled
settled_same zero a b at ts e f = refl
settled_same (suc n) a b at [] e f = refl
settled_same (suc n) a b at (t ∷ ts) e f =
    ap (λ (l : List Thread). l ++ settled n a at (moving a at t ++ ts)) (readers_same a b t e)
    ∙ ap (λ (l : List Thread). readers b t ++ settled n a at (l ++ ts)) (moving_same a b at t e (λ r m. f (rule_rows r)) (λ g. f (group_rows g)))
    ∙ ap (λ (l : List Thread). readers b t ++ l) (settled_same n a b at (moving b at t ++ ts) e f)

-- ---- at an identifier one rule alone looks at what stands behind it

pub rule_plain : (r : Rule) → (r ≡ rule.Primary) ⊎ (each_row (λ (a : Alternative). is_no_label a.at) (rule_rows r) ≡ true)
unfolding rule_rows
rule_plain rule.Root = inr refl
rule_plain rule.Member = inr refl
rule_plain rule.Field = inr refl
rule_plain rule.Declaration = inr refl
rule_plain rule.Variable = inr refl
rule_plain rule.Prototype = inr refl
rule_plain rule.Function = inr refl
rule_plain rule.Parameter = inr refl
rule_plain rule.Block = inr refl
rule_plain rule.Statement = inr refl
rule_plain rule.Body = inr refl
rule_plain rule.IfStatement = inr refl
rule_plain rule.WhileStatement = inr refl
rule_plain rule.ForStatement = inr refl
rule_plain rule.Rest = inr refl
rule_plain rule.ForArgument = inr refl
rule_plain rule.Captures = inr refl
rule_plain rule.Capture = inr refl
rule_plain rule.Name = inr refl
rule_plain rule.Assignment = inr refl
rule_plain rule.Or = inr refl
rule_plain rule.And = inr refl
rule_plain rule.Compare = inr refl
rule_plain rule.Bit = inr refl
rule_plain rule.Shift = inr refl
rule_plain rule.Add = inr refl
rule_plain rule.Multiply = inr refl
rule_plain rule.Prefix = inr refl
rule_plain rule.Primary = inl refl
rule_plain rule.IfExpression = inr refl
rule_plain rule.WhileExpression = inr refl
rule_plain rule.ForExpression = inr refl
rule_plain rule.RestExpression = inr refl
rule_plain rule.TypeExpression = inr refl
rule_plain rule.TypePrefix = inr refl
rule_plain rule.Suffix = inr refl
rule_plain rule.Atom = inr refl
rule_plain rule.Initializer = inr refl
rule_plain rule.Container = inr refl
rule_plain rule.ContainerBody = inr refl
rule_plain rule.Switch = inr refl
rule_plain rule.Prong = inr refl
rule_plain rule.Item = inr refl

pub group_plain : (g : Group) → each_row (λ (a : Alternative). is_no_label a.at) (group_rows g) ≡ true
unfolding group_rows
group_plain group.RootMembers = refl
group_plain group.Members = refl
group_plain group.FieldEnd = refl
group_plain group.TypeOption = refl
group_plain group.ValueOption = refl
group_plain group.StringOption = refl
group_plain group.PubOption = refl
group_plain group.Declared = refl
group_plain group.Parameters = refl
group_plain group.MoreParameters = refl
group_plain group.BangOption = refl
group_plain group.ComptimeOption = refl
group_plain group.ParameterType = refl
group_plain group.Statements = refl
group_plain group.ComptimeStatement = refl
group_plain group.LabelledStatement = refl
group_plain group.ContinueOption = refl
group_plain group.MoreForArguments = refl
group_plain group.ForArguments = refl
group_plain group.ElseOption = refl
group_plain group.RestEnd = refl
group_plain group.RangeOption = refl
group_plain group.ExpressionOption = refl
group_plain group.MoreCaptures = refl
group_plain group.FurtherCaptures = refl
group_plain group.PointerOption = refl
group_plain group.CaptureOption = refl
group_plain group.AssignTail = refl
group_plain group.OrTail = refl
group_plain group.AndTail = refl
group_plain group.CompareTail = refl
group_plain group.BitTail = refl
group_plain group.ShiftTail = refl
group_plain group.AddTail = refl
group_plain group.MultiplyTail = refl
group_plain group.MorePrefixes = refl
group_plain group.LabelledExpression = refl
group_plain group.BreakLabel = refl
group_plain group.InitializerOption = refl
group_plain group.ElseExpression = refl
group_plain group.MoreTypePrefixes = refl
group_plain group.BangTypeOption = refl
group_plain group.ConstOption = refl
group_plain group.BracketPrefix = refl
group_plain group.SuffixTail = refl
group_plain group.Arguments = refl
group_plain group.MoreArguments = refl
group_plain group.DotAtom = refl
group_plain group.ErrorAtom = refl
group_plain group.ErrorNames = refl
group_plain group.MoreErrorNames = refl
group_plain group.InitializerBody = refl
group_plain group.MoreFields = refl
group_plain group.FurtherFields = refl
group_plain group.TagOption = refl
group_plain group.UnionTag = refl
group_plain group.Prongs = refl
group_plain group.MoreProngs = refl
group_plain group.ProngHead = refl
group_plain group.MoreItems = refl
group_plain group.Items = refl
group_plain group.ItemRange = refl
group_plain group.ErrorBraces = refl
group_plain group.SwitchBraces = refl

-- ---- a token that is an identifier is read where an operand begins

unfoldable pub identifier : TokenKind → Look
identifier n = record { kind = kind.Identifier; next = n }

unfoldable pub label_parts : List Part
label_parts = part.Token kind.Identifier ∷ part.Token kind.Colon ∷ part.Group group.LabelledExpression ∷ []

unfoldable pub type_parts : List Part
type_parts = part.Rule rule.TypeExpression ∷ part.Group group.InitializerOption ∷ []

pub primary_choices : (n : TokenKind) (b : Bool) → is_kind n kind.Colon ≡ b → choices (identifier n) (rule_rows rule.Primary) ≡ (if b then label_parts else type_parts) ∷ []
unfolding choices matching rule_rows number_of identifier label_parts type_parts kinds.is_type_start
primary_choices n true e = rw e refl
primary_choices n false e = rw e refl

pub type_choices : (n : TokenKind) → choices (identifier n) (rule_rows rule.TypeExpression) ≡ (part.Rule rule.Suffix ∷ part.Group group.BangTypeOption ∷ []) ∷ []
unfolding choices matching rule_rows number_of identifier kinds.is_type_prefix_start kinds.is_atom_word
type_choices n = refl

pub suffix_choices : (n : TokenKind) → choices (identifier n) (rule_rows rule.Suffix) ≡ (part.Rule rule.Atom ∷ part.Group group.SuffixTail ∷ []) ∷ []
unfolding choices matching rule_rows number_of identifier kinds.is_type_prefix_start kinds.is_atom_word
suffix_choices n = refl

pub atom_choices : (n : TokenKind) → choices (identifier n) (rule_rows rule.Atom) ≡ (part.OneOf class.AtomWord ∷ []) ∷ []
unfolding choices matching rule_rows number_of identifier kinds.is_type_prefix_start kinds.is_atom_word
atom_choices n = refl

pub fresh_move : (look : Look) (r : Rule) (p : Part) (ps : List Part) (t : Thread) → next_move look true (replaced (Some r) (p ∷ ps) t) ≡ move_at look true p
unfolding next_move replaced put
fresh_move look r p ps t = let n = length (opened r (met r (passed t))).frames in rw (le-ltb n n (omega arith)) refl

both_none : (x y : List Thread) → x ++ y ≡ [] → (x ≡ []) × (y ≡ [])
both_none [] y h = (refl, h)
both_none (t ∷ x) y h = absurd (cc)

one_ready : (look : Look) (at : ℕ) (t : Thread) (ts : List Thread) → next_move look true t ≡ move.Read → settled_all look at (t ∷ ts) ≡ [] → ⊥
unfolding readers
one_ready look at t ts m h =
    let e = (both_none (readers look t) (settled_all look at (moving look at t ++ ts)) (sym (settled_one look at t ts) ∙ h)).0 in
    let some : t ∷ [] ≡ [] = sym (ap (reading_by t) m) ∙ e in
    cc

one_replaced : (look : Look) (at : ℕ) (r : Rule) (ps : List Part) (t : Thread) (ts : List Thread) → next_move look true t ≡ move.Rule r → choices look (rule_rows r) ≡ ps ∷ []
    → (settled_all look at (replaced (Some r) ps t ∷ ts) ≡ [] → ⊥) → settled_all look at (t ∷ ts) ≡ [] → ⊥
unfolding moving spread
one_replaced look at r ps t ts m c f h =
    let e = (both_none (readers look t) (settled_all look at (moving look at t ++ ts)) (sym (settled_one look at t ts) ∙ h)).1 in
    let one : moving look at t ≡ replaced (Some r) ps t ∷ [] = ap (moving_by look at t) m ∙ ap (λ (l : List (List Part)). spread at (Some r) l t) c in
    f (sym (ap (λ (l : List Thread). settled_all look at (l ++ ts)) one) ∙ e)

operand_read : (n : TokenKind) (at : ℕ) (t : Thread) (ts : List Thread) → next_move (identifier n) true t ≡ move.Rule rule.Primary → settled_all (identifier n) at (t ∷ ts) ≡ [] → ⊥
unfolding identifier number_of is_braced type_parts kinds.is_atom_word label_parts
operand_read n at t ts m = by (is_kind n kind.Colon) refl
  where
    look : Look
    look = identifier n

    by : (b : Bool) → is_kind n kind.Colon ≡ b → settled_all look at (t ∷ ts) ≡ [] → ⊥
    by true e =
        one_replaced look at rule.Primary label_parts t ts m (primary_choices n true e)
        (one_ready look at (replaced (Some rule.Primary) label_parts t) ts (fresh_move look rule.Primary (part.Token kind.Identifier) (part.Token kind.Colon ∷ part.Group group.LabelledExpression ∷ []) t))
    by false e =
        let u = replaced (Some rule.Primary) type_parts t in
        let v = replaced (Some rule.TypeExpression) (part.Rule rule.Suffix ∷ part.Group group.BangTypeOption ∷ []) u in
        let w = replaced (Some rule.Suffix) (part.Rule rule.Atom ∷ part.Group group.SuffixTail ∷ []) v in
        let x = replaced (Some rule.Atom) (part.OneOf class.AtomWord ∷ []) w in
        one_replaced look at rule.Primary type_parts t ts m (primary_choices n false e)
        (one_replaced look at rule.TypeExpression (part.Rule rule.Suffix ∷ part.Group group.BangTypeOption ∷ []) u ts (fresh_move look rule.Primary (part.Rule rule.TypeExpression) (part.Group group.InitializerOption ∷ []) t) (type_choices n)
        (one_replaced look at rule.Suffix (part.Rule rule.Atom ∷ part.Group group.SuffixTail ∷ []) v ts (fresh_move look rule.TypeExpression (part.Rule rule.Suffix) (part.Group group.BangTypeOption ∷ []) u) (suffix_choices n)
        (one_replaced look at rule.Atom (part.OneOf class.AtomWord ∷ []) w ts (fresh_move look rule.Suffix (part.Rule rule.Atom) (part.Group group.SuffixTail ∷ []) v) (atom_choices n)
        (one_ready look at x ts (fresh_move look rule.Atom (part.OneOf class.AtomWord) [] w)))))

-- ---- whether a thread reads an identifier

none_step : (a b : Look) (at : ℕ) (t : Thread) (ts : List Thread) → a.kind ≡ b.kind → moving a at t ≡ moving b at t
    → (settled_all a at (moving a at t ++ ts) ≡ [] → settled_all b at (moving a at t ++ ts) ≡ []) → settled_all a at (t ∷ ts) ≡ [] → settled_all b at (t ∷ ts) ≡ []
none_step a b at t ts e m f h =
    let s = both_none (readers a t) (settled_all a at (moving a at t ++ ts)) (sym (settled_one a at t ts) ∙ h) in
    settled_one b at t ts ∙ ap (λ (l : List Thread). l ++ settled_all b at (moving b at t ++ ts)) (sym (readers_same a b t e) ∙ s.0)
    ∙ ap (λ (l : List Thread). settled_all b at (l ++ ts)) (sym m) ∙ f s.1

none_reads : (fuel : ℕ) (x y : TokenKind) (at : ℕ) (ts : List Thread) → total_work ts < fuel → settled_all (identifier x) at ts ≡ [] → settled_all (identifier y) at ts ≡ []
unfolding identifier moving
none_reads zero x y at ts h = absurd (omega arith)
none_reads (suc fuel) x y at [] h = λ e. settled_nothing (identifier y) at
none_reads (suc fuel) x y at (t ∷ ts) h =
    by (let less = settled_less (identifier x) at (t ∷ ts) (moving (identifier x) at t ++ ts) ts t refl refl in none_reads fuel x y at (moving (identifier x) at t ++ ts) (omega (arith, less, h))) (next_move (identifier x) true t) refl
  where
    a : Look
    a = identifier x

    b : Look
    b = identifier y

    groups : (g : Group) → choices a (group_rows g) ≡ choices b (group_rows g)
    groups g = choices_agree a b (group_rows g) (agree_plain a b (group_rows g) refl (group_plain g))

    Fewer : Type 0
    Fewer = settled_all (identifier x) at (moving (identifier x) at t ++ ts) ≡ [] → settled_all (identifier y) at (moving (identifier x) at t ++ ts) ≡ []

    by_rule : Fewer → (r : Rule) → next_move a true t ≡ move.Rule r → (r ≡ rule.Primary) ⊎ (each_row (λ (q : Alternative). is_no_label q.at) (rule_rows r) ≡ true) → settled_all a at (t ∷ ts) ≡ [] → settled_all b at (t ∷ ts) ≡ []
    by_rule i r m (inl e) = λ none. absurd (operand_read x at t ts (m ∙ ap move.Rule e) none)
    by_rule i r m (inr e) =
        none_step a b at t ts refl
        (ap (moving_by a at t) m ∙ ap (λ (l : List (List Part)). spread at (Some r) l t) (choices_agree a b (rule_rows r) (agree_plain a b (rule_rows r) refl e)) ∙ sym (ap (moving_by b at t) (sym (next_same a b true t refl) ∙ m))) i

    by : Fewer → (m : Move) → next_move a true t ≡ m → settled_all a at (t ∷ ts) ≡ [] → settled_all b at (t ∷ ts) ≡ []
    by i (move.Rule r) e = by_rule i r e (rule_plain r)
    by i move.Stop e = none_step a b at t ts refl (moving_same a b at t refl (λ r f. absurd (cc)) groups) i
    by i move.Read e = none_step a b at t ts refl (moving_same a b at t refl (λ r f. absurd (cc)) groups) i
    by i move.Close e = none_step a b at t ts refl (moving_same a b at t refl (λ r f. absurd (cc)) groups) i
    by i (move.Group g) e = none_step a b at t ts refl (moving_same a b at t refl (λ r f. absurd (cc)) groups) i

-- ---- what becomes of the tokens

part_same : (a b : Look) (p : Part) → SameChoices a b → part_choices a p ≡ part_choices b p
part_same a b (part.Rule r) f = f (rule_rows r)
part_same a b (part.Group g) f = f (group_rows g)
part_same a b (part.Token _) f = refl
part_same a b (part.OneOf _) f = refl

begun_same : (a b : Look) (goal : Part) (depth : ℕ) → SameChoices a b → begun a goal depth ≡ begun b goal depth
unfolding begun
begun_same a b goal depth f = ap (λ (l : List (List Part)). begun_by l (enclosed goal (fresh goal depth))) (part_same a b goal f)

for_same : (a b : Look) (waiting : List Thread) (goal : Part) → SameChoices a b → begun_for a waiting goal ≡ begun_for b waiting goal
for_same a b waiting goal f = by (least_from None goal waiting)
  where
    by : (o : Option ℕ) → begun_at a goal o ≡ begun_at b goal o
    by None = refl
    by (Some d) = ap (λ (t : Thread). t ∷ []) (begun_same a b goal d f)

inside_same : (a b : Look) (waiting : List Thread) → SameChoices a b → inside a waiting ≡ inside b waiting
unfolding inside
inside_same a b waiting f =
    rw (for_same a b waiting (part.Rule rule.Block) f, for_same a b waiting (part.Rule rule.Initializer) f, for_same a b waiting (part.Rule rule.ContainerBody) f, for_same a b waiting (part.Group group.ErrorBraces) f, for_same a b waiting (part.Group group.SwitchBraces) f) refl

entered_same : (a b : Look) (ready : List Thread) → SameChoices a b → entered a ready ≡ entered b ready
unfolding entered
entered_same a b ready f = ap (λ (l : List Thread). if any_waits ready then l else ready) (inside_same a b (those_waiting ready) f)

left_same : (a b : Look) (live : List Thread) (waiting : List (List Thread)) → a.kind ≡ b.kind → left a live waiting ≡ left b live waiting
unfolding left is_closed
left_same a b live waiting e = ap (λ (k : TokenKind). if is_kind k kind.RightBrace && has_read_all live then resumed_top (map finished live) waiting else live) e

-- where the same rows are taken, the same becomes of the tokens
pub same_verdict : (a b : Look) (at : ℕ) (s : State) → a.kind ≡ b.kind → SameChoices a b → next_verdict a at s ≡ next_verdict b at s
unfolding next_verdict next_live is_spared read_live read_waiting settled_all
same_verdict a b at s e f =
    let ready = settled_same (moves_for_all s.live) a b at s.live e f in
    let live : read_live a at s ≡ read_live b at s = ap (λ (l : List Thread). after_token [] (entered a l)) ready ∙ ap (after_token []) (entered_same a b (settled_all b at s.live) f) in
    let waiting : read_waiting a at s ≡ read_waiting b at s = ap (λ (l : List Thread). entered_waiting l s.waiting) ready in
    let spared : is_spared a at s ≡ is_spared b at s =
    ap (λ (k : TokenKind). is_kind k kind.Identifier && any_shallow (entered a (settled_all a at s.live))) e
    ∙ ap (λ (l : List Thread). is_kind b.kind kind.Identifier && any_shallow l) (ap (entered a) ready ∙ entered_same a b (settled_all b at s.live) f) in
    ap (λ (x : Bool). verdict_of x (next_live a at s)) spared
    ∙ ap (verdict_of (is_spared b at s)) (left_same a b (read_live a at s) (read_waiting a at s) e ∙ ap (λ (l : List Thread). left b l (read_waiting a at s)) live ∙ ap (left b (read_live b at s)) waiting)

-- so the same state
pub same_state : (a b : Look) (at : ℕ) (s : State) → a.kind ≡ b.kind → SameChoices a b → next_state a at s ≡ next_state b at s
unfolding next_state next_live read_live read_waiting settled_all left_waiting is_closed
same_state a b at s e f =
    let ready = settled_same (moves_for_all s.live) a b at s.live e f in
    let live : read_live a at s ≡ read_live b at s = ap (λ (l : List Thread). after_token [] (entered a l)) ready ∙ ap (after_token []) (entered_same a b (settled_all b at s.live) f) in
    let waiting : read_waiting a at s ≡ read_waiting b at s = ap (λ (l : List Thread). entered_waiting l s.waiting) ready in
    let lives : next_live a at s ≡ next_live b at s = left_same a b (read_live a at s) (read_waiting a at s) e ∙ ap (λ (l : List Thread). left b l (read_waiting a at s)) live ∙ ap (left b (read_live b at s)) waiting in
    let waits : left_waiting a (read_live a at s) (read_waiting a at s) ≡ left_waiting b (read_live b at s) (read_waiting b at s) =
    ap (λ (k : TokenKind). if is_kind k kind.RightBrace && has_read_all (read_live a at s) then rest (read_waiting a at s) else read_waiting a at s) e
    ∙ ap (λ (l : List Thread). left_waiting b l (read_waiting a at s)) live ∙ ap (left_waiting b (read_live b at s)) waiting in
    rw (waits, lives) refl

-- and where the token behind is a colon for both or for none
label_holds : (k x y : TokenKind) (w : When) → is_kind x kind.Colon ≡ is_kind y kind.Colon → holds k x w ≡ holds k y w
label_holds k x y when.Label e = ap (λ (b : Bool). is_kind k kind.Identifier && b) e
label_holds k x y when.Always e = refl
label_holds k x y (when.Is _) e = refl
label_holds k x y (when.In _) e = refl
label_holds k x y (when.Both _) e = refl

agree_colon : (k x y : TokenKind) (rows : List Alternative) → is_kind x kind.Colon ≡ is_kind y kind.Colon → Agree (record { kind = k; next = x }) (record { kind = k; next = y }) rows
agree_colon k x y [] e = agree_none
agree_colon k x y (r ∷ rows) e = agree_more r rows (label_holds k x y r.at e) (agree_colon k x y rows e)

pub colon_state : (k x y : TokenKind) (at : ℕ) (s : State) → is_kind x kind.Colon ≡ is_kind y kind.Colon → next_state (record { kind = k; next = x }) at s ≡ next_state (record { kind = k; next = y }) at s
colon_state k x y at s e =
    same_state (record { kind = k; next = x }) (record { kind = k; next = y }) at s refl (λ rows. choices_agree (record { kind = k; next = x }) (record { kind = k; next = y }) rows (agree_colon k x y rows e))

pub other_state : (a b : Look) (at : ℕ) (s : State) → a.kind ≡ b.kind → is_kind a.kind kind.Identifier ≡ false → next_state a at s ≡ next_state b at s
other_state a b at s e h = same_state a b at s e (λ rows. choices_agree a b rows (agree_other a b rows e h))

pub last_look : (a b : Look) (at : ℕ) (s : State) → a.kind ≡ b.kind → is_kind a.kind kind.Identifier ≡ false → next_verdict a at s ≡ next_verdict b at s
last_look a b at s e h = same_verdict a b at s e (λ rows. choices_agree a b rows (agree_other a b rows e h))

-- ---- an identifier

some_kept : (kept ts : List Thread) → after_token kept ts ≡ [] → kept ≡ []
unfolding after_token
some_kept kept [] h = h
some_kept kept (t ∷ ts) h = by (is_among kept (after_read t)) (some_kept (kept_with kept (after_read t)) ts h)
  where
    by : (x : Bool) → (if x then kept else kept ++ after_read t ∷ []) ≡ [] → kept ≡ []
    by true e = e
    by false e = (both_none kept (after_read t ∷ []) e).0

none_kept : (ts : List Thread) → after_token [] ts ≡ [] → ts ≡ []
unfolding after_token is_among
none_kept [] h = refl
none_kept (t ∷ ts) h = let e : after_read t ∷ [] ≡ [] = some_kept (after_read t ∷ []) ts h in absurd (cc)

-- none of the threads that read an identifier waits for a brace
abbrev NoneWaits : List Thread → Type 0
NoneWaits ts = any_waits ts ≡ false

apart_part : (p : Part) → move_at (identifier kind.End) true p ≡ move.Read → is_apart p ≡ false
unfolding identifier number_of
apart_part (part.Token k) e = refl
apart_part (part.OneOf c) e = refl
apart_part (part.Rule r) e = by (is_braced r) e
  where
    by : (x : Bool) → (if x then reading (is_kind kind.Identifier kind.LeftBrace) else move.Rule r) ≡ move.Read → x ≡ false
    by true f = absurd (cc)
    by false f = refl
apart_part (part.Group g) e = by (has_braces g) e
  where
    by : (x : Bool) → (if x then reading (is_kind kind.Identifier kind.LeftBrace) else move.Group g) ≡ move.Read → x ≡ false
    by true f = absurd (cc)
    by false f = refl

read_part : (n : TokenKind) (is : List Item) (count : ℕ) → move_from (identifier n) true count is ≡ move.Read → apart_from is ≡ None
unfolding identifier
read_part n [] count h = refl
read_part n (i ∷ is) count h = by (nat_lt i.level count) h
  where
    by : (x : Bool) → (if x then move.Close else move_at (identifier n) true i.part) ≡ move.Read → (if is_apart i.part then Some i.part else None) ≡ None
    by true e = absurd (cc)
    by false e = rw (apart_part i.part (move_same (identifier kind.End) (identifier n) true i.part refl ∙ e)) refl

one_waits : (n : TokenKind) (t : Thread) → any_waits (readers (identifier n) t) ≡ false
unfolding readers any_waits waits_for next_move
one_waits n t = by (next_move (identifier n) true t) refl
  where
    by : (m : Move) → next_move (identifier n) true t ≡ m → any_waits (reading_by t m) ≡ false
    by move.Read e = rw (read_part n t.items (length t.frames) e) refl
    by move.Stop e = refl
    by move.Close e = refl
    by (move.Rule _) e = refl
    by (move.Group _) e = refl

waits_joined : (x y : List Thread) → any_waits x ≡ false → any_waits y ≡ false → any_waits (x ++ y) ≡ false
unfolding any_waits
waits_joined [] y h k = k
waits_joined (t ∷ x) y h k = by (is_some (waits_for t)) (any_waits x) h (waits_joined x y)
  where
    by : (u v : Bool) → (u || v) ≡ false → (v ≡ false → any_waits y ≡ false → any_waits (x ++ y) ≡ false) → (u || any_waits (x ++ y)) ≡ false
    by true v e f = absurd (cc)
    by false v e f = f e k

pub none_waits : (fuel : ℕ) (n : TokenKind) (at : ℕ) (ts : List Thread) → any_waits (settled fuel (identifier n) at ts) ≡ false
unfolding settled any_waits
none_waits zero n at ts = refl
none_waits (suc fuel) n at [] = refl
none_waits (suc fuel) n at (t ∷ ts) = waits_joined (readers (identifier n) t) (settled fuel (identifier n) at (moving (identifier n) at t ++ ts)) (one_waits n t) (none_waits fuel n at (moving (identifier n) at t ++ ts))

-- after an identifier no thread is left exactly where none reads it
pub live_is : (n : TokenKind) (at : ℕ) (s : State) → next_live (identifier n) at s ≡ after_token [] (settled_all (identifier n) at s.live)
unfolding next_live left is_closed read_live entered identifier number_of settled_all
live_is n at s = rw (none_waits (moves_for_all s.live) n at s.live) refl

unexpected_none : (spared : Bool) (ts : List Thread) → verdict_of spared ts ≡ verdict.Unexpected → ts ≡ []
unexpected_none spared [] h = refl
unexpected_none spared (t ∷ ts) h = absurd (by (all_deep (t ∷ ts) && not spared) h)
  where
    by : (x : Bool) → (if x then verdict.TooDeep else verdict.Fine) ≡ verdict.Unexpected → ⊥
    by true e = cc
    by false e = cc

pub identifier_unexpected : (x y : TokenKind) (at : ℕ) (s : State) → next_verdict (identifier x) at s ≡ verdict.Unexpected → next_verdict (identifier y) at s ≡ verdict.Unexpected
unfolding next_verdict after_token
identifier_unexpected x y at s h =
    let none : settled_all (identifier x) at s.live ≡ [] = none_kept (settled_all (identifier x) at s.live) (sym (live_is x at s) ∙ unexpected_none (is_spared (identifier x) at s) (next_live (identifier x) at s) h) in
    let other = none_reads (suc (total_work s.live)) x y at s.live (omega arith) none in
    ap (verdict_of (is_spared (identifier y) at s)) (live_is y at s ∙ ap (after_token []) other)

pub is_identifier : (a : Look) → is_kind a.kind kind.Identifier ≡ true → a ≡ identifier a.next
unfolding identifier
is_identifier a h = let e : a.kind ≡ kind.Identifier = same_kind a.kind kind.Identifier h in ap (λ (k : TokenKind). record { kind = k; next = a.next }) e

pub last_unexpected : (a b : Look) (at : ℕ) (s : State) → a.kind ≡ b.kind → next_verdict a at s ≡ verdict.Unexpected → next_verdict b at s ≡ verdict.Unexpected
last_unexpected a b at s e h = by (is_kind a.kind kind.Identifier) refl
  where
    by : (x : Bool) → is_kind a.kind kind.Identifier ≡ x → next_verdict b at s ≡ verdict.Unexpected
    by false f = sym (last_look a b at s e f) ∙ h
    by true f =
        let ia = is_identifier a f in
        let ib = is_identifier b (ap (λ (k : TokenKind). is_kind k kind.Identifier) (sym e) ∙ f) in
        ap (λ (l : Look). next_verdict l at s) ib ∙ identifier_unexpected a.next b.next at s (ap (λ (l : Look). next_verdict l at s) (sym ia) ∙ h)
