-- An expression that no prefix begins: its first operand, and the tails of its operators.
use Rattle.std.proofs.Common.{◌≡◌, Bool, true, false, ◌⊎◌, inl, inr, List, [], ◌∷◌, refl, sym, subst}
use Rattle.zig_tree.specs.declared.token.TokenKind.{TokenKind}
use Rattle.zig_tree.specs.declared.token.TokenKind.TheVariants as kind
use Rattle.zig_tree.specs.declared.grammar.Rule.TheVariants as rule
use Rattle.zig_tree.specs.declared.grammar.Group.{Group}
use Rattle.zig_tree.specs.declared.grammar.Group.TheVariants as group
use Rattle.zig_tree.specs.declared.grammar.TokenClass.TheVariants as class
use Rattle.zig_tree.specs.declared.grammar.When.TheVariants as when
use Rattle.zig_tree.specs.declared.grammar.Part.{Part}
use Rattle.zig_tree.specs.declared.grammar.Part.TheVariants as part
use Rattle.zig_tree.specs.Kinds.{is_kind, number_of, is_assign_operator, is_multiply_operator, is_add_operator, is_shift_operator, is_bit_operator, is_compare_operator, is_prefix_operator}
use Rattle.zig_tree.specs.Grammar.{Alternative, row, group_rows, rule_rows}
use Rattle.zig_tree.specs.GrammarSentences.{next_kind, open_at, Among}
use Rattle.zig_parse.proofs.Reading.{Reads, none_read, class_read, rule_opened, group_opened}

-- ---- the first operand

-- the tails of the operators, from the innermost on
abbrev pub tails : List Part → List Part
tails k = part.Group group.MultiplyTail ∷ part.Group group.AddTail ∷ part.Group group.ShiftTail ∷ part.Group group.BitTail ∷ part.Group group.CompareTail ∷ part.Group group.AndTail ∷ part.Group group.OrTail ∷ k

prefix_open : (tokens : List TokenKind) → is_prefix_operator (next_kind tokens) ≡ false → open_at tokens (rule_rows rule.Prefix) ≡ row when.Always (part.Rule rule.Primary ∷ []) ∷ []
unfolding rule_rows
prefix_open tokens h = rw h refl

pub operand_read : (k : List Part) (tokens rest : List TokenKind) → is_prefix_operator (next_kind tokens) ≡ false → Reads (part.Rule rule.Or ∷ k) tokens rest → Reads (part.Rule rule.Primary ∷ tails k) tokens rest
unfolding rule_rows
operand_read k tokens rest h d =
    let a = rule_opened rule.Or (row when.Always (part.Rule rule.And ∷ part.Group group.OrTail ∷ [])) k tokens rest refl d in
    let b = rule_opened rule.And (row when.Always (part.Rule rule.Compare ∷ part.Group group.AndTail ∷ [])) (part.Group group.OrTail ∷ k) tokens rest refl a in
    let c = rule_opened rule.Compare (row when.Always (part.Rule rule.Bit ∷ part.Group group.CompareTail ∷ [])) (part.Group group.AndTail ∷ part.Group group.OrTail ∷ k) tokens rest refl b in
    let e = rule_opened rule.Bit (row when.Always (part.Rule rule.Shift ∷ part.Group group.BitTail ∷ [])) (part.Group group.CompareTail ∷ part.Group group.AndTail ∷ part.Group group.OrTail ∷ k) tokens rest refl c in
    let f = rule_opened rule.Shift (row when.Always (part.Rule rule.Add ∷ part.Group group.ShiftTail ∷ [])) (part.Group group.BitTail ∷ part.Group group.CompareTail ∷ part.Group group.AndTail ∷ part.Group group.OrTail ∷ k) tokens rest refl e in
    let g = rule_opened rule.Add (row when.Always (part.Rule rule.Multiply ∷ part.Group group.AddTail ∷ []))
    (part.Group group.ShiftTail ∷ part.Group group.BitTail ∷ part.Group group.CompareTail ∷ part.Group group.AndTail ∷ part.Group group.OrTail ∷ k) tokens rest refl f in
    let i = rule_opened rule.Multiply (row when.Always (part.Rule rule.Prefix ∷ part.Group group.MultiplyTail ∷ []))
    (part.Group group.AddTail ∷ part.Group group.ShiftTail ∷ part.Group group.BitTail ∷ part.Group group.CompareTail ∷ part.Group group.AndTail ∷ part.Group group.OrTail ∷ k) tokens rest refl g in
    rule_opened rule.Prefix (row when.Always (part.Rule rule.Primary ∷ [])) (tails k) tokens rest (prefix_open tokens h) i

-- ---- tails that are left out

-- whether a token ends what operators join: an assignment, a semicolon or `else`
abbrev pub ends_operand : TokenKind → Bool
ends_operand kind.Semicolon = true
ends_operand kind.KeywordElse = true
ends_operand k = is_assign_operator k

-- it is no operator, then
abbrev NoOperator : TokenKind → Type 0
NoOperator k =
    (is_multiply_operator k ≡ false) × (is_add_operator k ≡ false) × (is_shift_operator k ≡ false) × (is_bit_operator k ≡ false) × (is_kind kind.KeywordCatch k ≡ false)
    × (is_compare_operator k ≡ false) × (is_kind kind.KeywordAnd k ≡ false) × (is_kind kind.KeywordOr k ≡ false)

no_operator : (k : TokenKind) → ends_operand k ≡ true → NoOperator k
unfolding number_of is_assign_operator is_multiply_operator is_add_operator is_shift_operator is_bit_operator is_compare_operator
no_operator kind.Semicolon h = (refl, refl, refl, refl, refl, refl, refl, refl)
no_operator kind.KeywordElse h = (refl, refl, refl, refl, refl, refl, refl, refl)
no_operator kind.Equal h = (refl, refl, refl, refl, refl, refl, refl, refl)
no_operator kind.PlusEqual h = (refl, refl, refl, refl, refl, refl, refl, refl)
no_operator kind.PlusPercentEqual h = (refl, refl, refl, refl, refl, refl, refl, refl)
no_operator kind.PlusPipeEqual h = (refl, refl, refl, refl, refl, refl, refl, refl)
no_operator kind.MinusEqual h = (refl, refl, refl, refl, refl, refl, refl, refl)
no_operator kind.MinusPercentEqual h = (refl, refl, refl, refl, refl, refl, refl, refl)
no_operator kind.MinusPipeEqual h = (refl, refl, refl, refl, refl, refl, refl, refl)
no_operator kind.AsteriskEqual h = (refl, refl, refl, refl, refl, refl, refl, refl)
no_operator kind.AsteriskPercentEqual h = (refl, refl, refl, refl, refl, refl, refl, refl)
no_operator kind.AsteriskPipeEqual h = (refl, refl, refl, refl, refl, refl, refl, refl)
no_operator kind.SlashEqual h = (refl, refl, refl, refl, refl, refl, refl, refl)
no_operator kind.PercentEqual h = (refl, refl, refl, refl, refl, refl, refl, refl)
no_operator kind.AmpersandEqual h = (refl, refl, refl, refl, refl, refl, refl, refl)
no_operator kind.CaretEqual h = (refl, refl, refl, refl, refl, refl, refl, refl)
no_operator kind.PipeEqual h = (refl, refl, refl, refl, refl, refl, refl, refl)
no_operator kind.AngleLeftAngleLeftEqual h = (refl, refl, refl, refl, refl, refl, refl, refl)
no_operator kind.AngleLeftAngleLeftPipeEqual h = (refl, refl, refl, refl, refl, refl, refl, refl)
no_operator kind.AngleRightAngleRightEqual h = (refl, refl, refl, refl, refl, refl, refl, refl)
no_operator _ h = absurd (cc)

-- whether a group is the tail of an operator
abbrev pub is_tail : Group → Bool
is_tail group.MultiplyTail = true
is_tail group.AddTail = true
is_tail group.ShiftTail = true
is_tail group.BitTail = true
is_tail group.CompareTail = true
is_tail group.AndTail = true
is_tail group.OrTail = true
is_tail _ = false

tail_open : (g : Group) (tokens : List TokenKind) → is_tail g ≡ true → NoOperator (next_kind tokens) → open_at tokens (group_rows g) ≡ row when.Always [] ∷ []
unfolding group_rows
tail_open group.MultiplyTail tokens h n = rw n.0 refl
tail_open group.AddTail tokens h n = rw n.1 refl
tail_open group.ShiftTail tokens h n = rw n.2 refl
tail_open group.BitTail tokens h n = rw (n.3, n.4) refl
tail_open group.CompareTail tokens h n = rw n.5 refl
tail_open group.AndTail tokens h n = rw n.6 refl
tail_open group.OrTail tokens h n = rw n.7 refl
tail_open _ tokens h n = absurd (cc)

-- some tails, and then other parts
pub data Trail (end : List Part) : List Part → Type 0 where
  trail_ends : Trail end end
  trail_more : (g : Group) (k : List Part) → is_tail g ≡ true → Trail end k → Trail end (part.Group g ∷ k)

pub tails_trail : (end k : List Part) → Trail end k → Trail end (tails k)
tails_trail end k t =
    let a = trail_more group.OrTail k refl t in
    let b = trail_more group.AndTail (part.Group group.OrTail ∷ k) refl a in
    let c = trail_more group.CompareTail (part.Group group.AndTail ∷ part.Group group.OrTail ∷ k) refl b in
    let d = trail_more group.BitTail (part.Group group.CompareTail ∷ part.Group group.AndTail ∷ part.Group group.OrTail ∷ k) refl c in
    let e = trail_more group.ShiftTail (part.Group group.BitTail ∷ part.Group group.CompareTail ∷ part.Group group.AndTail ∷ part.Group group.OrTail ∷ k) refl d in
    let f = trail_more group.AddTail (part.Group group.ShiftTail ∷ part.Group group.BitTail ∷ part.Group group.CompareTail ∷ part.Group group.AndTail ∷ part.Group group.OrTail ∷ k) refl e in
    trail_more group.MultiplyTail (part.Group group.AddTail ∷ part.Group group.ShiftTail ∷ part.Group group.BitTail ∷ part.Group group.CompareTail ∷ part.Group group.AndTail ∷ part.Group group.OrTail ∷ k) refl f

-- before such a token the tails read none
pub trail_read : (end k : List Part) (tokens rest : List TokenKind) → Trail end k → ends_operand (next_kind tokens) ≡ true → Reads k tokens rest → Reads end tokens rest
trail_read end k tokens rest trail_ends h d = d
trail_read end k tokens rest (trail_more g more t u) h d =
    trail_read end more tokens rest u h (group_opened g (row when.Always []) more tokens rest (tail_open g tokens t (no_operator (next_kind tokens) h)) d)

-- ---- the tail of an assignment

assign_ends : (k : TokenKind) → is_assign_operator k ≡ true → ends_operand k ≡ true
unfolding is_assign_operator
assign_ends kind.Semicolon h = refl
assign_ends kind.KeywordElse h = refl
assign_ends _ h = h

pub assign_tail : (a : Alternative) (tokens next : List TokenKind) → Among a (group_rows group.AssignTail) → Reads a.parts tokens next → (ends_operand (next_kind tokens) ≡ true) ⊎ (tokens ≡ next)
unfolding group_rows
assign_tail a tokens next (inl e) d =
    let c = class_read class.AssignOperator (part.Rule rule.Or ∷ []) tokens next (subst (λ (x : Alternative). Reads x.parts tokens next) e d) in
    inl (subst (λ (l : List TokenKind). ends_operand (next_kind l) ≡ true) (sym c.2) (assign_ends c.0 c.3))
assign_tail a tokens next (inr (inl e)) d = inr (none_read tokens next (subst (λ (x : Alternative). Reads x.parts tokens next) e d))
assign_tail a tokens next (inr (inr n)) d = elim n [ ]
