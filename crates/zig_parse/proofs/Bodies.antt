-- A statement that is an expression and a semicolon, beside the same tokens read as a statement of
-- another form: the other one ends no later, or reads as far as well.
use Rattle.std.proofs.Common.{◌≡◌, ℕ, zero, suc, ◌<◌, ◌≤◌, true, false, ◌⊎◌, inl, inr, List, [], ◌∷◌, ◌++◌, length, refl, sym, ◌∙◌, ap, subst, arith}
use Rattle.zig_tree.specs.declared.token.TokenKind.{TokenKind}
use Rattle.zig_tree.specs.declared.token.TokenKind.TheVariants as kind
use Rattle.zig_tree.specs.declared.grammar.Rule.TheVariants as rule
use Rattle.zig_tree.specs.declared.grammar.Group.TheVariants as group
use Rattle.zig_tree.specs.declared.grammar.TokenClass.TheVariants as class
use Rattle.zig_tree.specs.declared.grammar.When.TheVariants as when
use Rattle.zig_tree.specs.declared.grammar.Part.{Part}
use Rattle.zig_tree.specs.declared.grammar.Part.TheVariants as part
use Rattle.zig_tree.specs.Kinds.{is_kind, number_of, is_assign_operator, is_prefix_operator, is_type_start, is_type_prefix_start, is_atom_word, is_container_word, is_expression_start, is_operand_word}
use Rattle.zig_tree.specs.Grammar.{Alternative, row, group_rows, rule_rows}
use Rattle.zig_tree.specs.GrammarSentences.{next_kind, open_at, Among, derives_none, nothing}
use Rattle.zig_parse.proofs.Derived.{open_is_row}
use Rattle.zig_parse.proofs.Shapes.{fills, is_closed}
use Rattle.zig_parse.proofs.Begins.{expression_begins}
use Rattle.zig_parse.proofs.Reading.{Reads, split_read, joined_read, none_read, token_read, group_read, rule_alone, group_alone, rule_opened, group_opened, rule_made, group_made, among_sole, closed_read, shorter_read, less_read, split_both}
use Rattle.zig_parse.proofs.Operands.{tails, operand_read, ends_operand, Trail, trail_ends, tails_trail, trail_read, assign_tail}

-- ---- one row beside another

-- what others read ends no later than one row, or the row reads as far
abbrev pub Reaches : List Part → List TokenKind → List TokenKind → List TokenKind → Type 0
Reaches ps tokens n far = (length far ≤ length n) ⊎ Reads ps tokens far

reaches_as : (ps qs : List Part) (tokens n far : List TokenKind) → Reaches ps tokens n far → (Reads ps tokens far → Reads qs tokens far) → Reaches qs tokens n far
reaches_as ps qs tokens n far (inl l) f = inl l
reaches_as ps qs tokens n far (inr d) f = inr (f d)

reaches_after : (front ps : List Part) (tokens next n far : List TokenKind) → Reads front tokens next → Reaches ps next n far → Reaches (front ++ ps) tokens n far
reaches_after front ps tokens next n far d (inl l) = inl l
reaches_after front ps tokens next n far d (inr e) = inr (joined_read front ps tokens next far d e)

same_length : (far n : List TokenKind) → n ≡ far → length far ≤ length n
same_length far n e = omega (arith, ap length e)

-- ---- the first operand, by the token that leads

if_operand : (k : List Part) (more far : List TokenKind) → Reads (part.Rule rule.Or ∷ k) (kind.KeywordIf ∷ more) far → Reads (part.Rule rule.IfExpression ∷ tails k) (kind.KeywordIf ∷ more) far
unfolding rule_rows number_of is_prefix_operator
if_operand k more far d = rule_opened rule.Primary (row (when.Is kind.KeywordIf) (part.Rule rule.IfExpression ∷ [])) (tails k) (kind.KeywordIf ∷ more) far refl (operand_read k (kind.KeywordIf ∷ more) far refl d)

while_operand : (k : List Part) (more far : List TokenKind) → Reads (part.Rule rule.Or ∷ k) (kind.KeywordWhile ∷ more) far → Reads (part.Rule rule.WhileExpression ∷ tails k) (kind.KeywordWhile ∷ more) far
unfolding rule_rows number_of is_prefix_operator
while_operand k more far d = rule_opened rule.Primary (row (when.Is kind.KeywordWhile) (part.Rule rule.WhileExpression ∷ [])) (tails k) (kind.KeywordWhile ∷ more) far refl (operand_read k (kind.KeywordWhile ∷ more) far refl d)

for_operand : (k : List Part) (more far : List TokenKind) → Reads (part.Rule rule.Or ∷ k) (kind.KeywordFor ∷ more) far → Reads (part.Rule rule.ForExpression ∷ tails k) (kind.KeywordFor ∷ more) far
unfolding rule_rows number_of is_prefix_operator
for_operand k more far d = rule_opened rule.Primary (row (when.Is kind.KeywordFor) (part.Rule rule.ForExpression ∷ [])) (tails k) (kind.KeywordFor ∷ more) far refl (operand_read k (kind.KeywordFor ∷ more) far refl d)

block_operand : (k : List Part) (more far : List TokenKind) → Reads (part.Rule rule.Or ∷ k) (kind.LeftBrace ∷ more) far → Reads (part.Rule rule.Block ∷ tails k) (kind.LeftBrace ∷ more) far
unfolding rule_rows number_of is_prefix_operator
block_operand k more far d = rule_opened rule.Primary (row (when.Is kind.LeftBrace) (part.Rule rule.Block ∷ [])) (tails k) (kind.LeftBrace ∷ more) far refl (operand_read k (kind.LeftBrace ∷ more) far refl d)

label_operand : (k : List Part) (more far : List TokenKind) → Reads (part.Rule rule.Or ∷ k) (kind.Identifier ∷ kind.Colon ∷ more) far → Reads (part.Group group.LabelledExpression ∷ tails k) more far
unfolding rule_rows number_of is_prefix_operator
label_operand k more far d =
    let a = rule_opened rule.Primary (row when.Label (part.Token kind.Identifier ∷ part.Token kind.Colon ∷ part.Group group.LabelledExpression ∷ [])) (tails k) (kind.Identifier ∷ kind.Colon ∷ more) far refl (operand_read k (kind.Identifier ∷ kind.Colon ∷ more) far refl d) in
    let b = token_read kind.Identifier (part.Token kind.Colon ∷ part.Group group.LabelledExpression ∷ tails k) (kind.Identifier ∷ kind.Colon ∷ more) far a in
    let c = token_read kind.Colon (part.Group group.LabelledExpression ∷ tails k) b.0 far b.2 in
    let whole : kind.Identifier ∷ kind.Colon ∷ more ≡ kind.Identifier ∷ kind.Colon ∷ c.0 = b.1 ∙ ap (λ (l : List TokenKind). kind.Identifier ∷ l) c.1 in
    let same : c.0 ≡ more = cc in
    subst (λ (l : List TokenKind). Reads (part.Group group.LabelledExpression ∷ tails k) l far) same c.2

-- what follows a switch in an operand
abbrev switch_tails : List Part → List Part
switch_tails k = part.Group group.SuffixTail ∷ part.Group group.BangTypeOption ∷ part.Group group.InitializerOption ∷ k

switch_operand : (k : List Part) (more far : List TokenKind) → Reads (part.Rule rule.Or ∷ k) (kind.KeywordSwitch ∷ more) far → Reads (part.Rule rule.Switch ∷ switch_tails (tails k)) (kind.KeywordSwitch ∷ more) far
unfolding rule_rows number_of is_prefix_operator is_type_start is_type_prefix_start is_atom_word is_container_word
switch_operand k more far d =
    let a = rule_opened rule.Primary (row (when.In class.TypeStart) (part.Rule rule.TypeExpression ∷ part.Group group.InitializerOption ∷ [])) (tails k) (kind.KeywordSwitch ∷ more) far refl (operand_read k (kind.KeywordSwitch ∷ more) far refl d) in
    let b = rule_opened rule.TypeExpression (row when.Always (part.Rule rule.Suffix ∷ part.Group group.BangTypeOption ∷ [])) (part.Group group.InitializerOption ∷ tails k) (kind.KeywordSwitch ∷ more) far refl a in
    let c = rule_opened rule.Suffix (row when.Always (part.Rule rule.Atom ∷ part.Group group.SuffixTail ∷ [])) (part.Group group.BangTypeOption ∷ part.Group group.InitializerOption ∷ tails k) (kind.KeywordSwitch ∷ more) far refl b in
    rule_opened rule.Atom (row (when.Is kind.KeywordSwitch) (part.Rule rule.Switch ∷ [])) (switch_tails (tails k)) (kind.KeywordSwitch ∷ more) far refl c

-- ---- an assignment

no_underscore : (k : TokenKind) → is_expression_start k ≡ true → is_kind kind.Underscore k ≡ false
unfolding number_of is_expression_start is_prefix_operator is_operand_word is_type_start
no_underscore kind.Underscore h = absurd (cc)
no_underscore _ h = refl

pub expression_no_underscore : (k : List Part) (tokens far : List TokenKind) → Reads (part.Rule rule.Or ∷ k) tokens far → is_kind kind.Underscore (next_kind tokens) ≡ false
expression_no_underscore k tokens far d = no_underscore (next_kind tokens) (expression_begins k tokens far d.0 d.1)

assignment_open : (tokens : List TokenKind) → is_kind kind.Underscore (next_kind tokens) ≡ false → open_at tokens (rule_rows rule.Assignment) ≡ row when.Always (part.Rule rule.Or ∷ part.Group group.AssignTail ∷ []) ∷ []
unfolding rule_rows
assignment_open tokens h = rw h refl

pub assignment_opened : (ps : List Part) (tokens n : List TokenKind) → is_kind kind.Underscore (next_kind tokens) ≡ false → Reads (part.Rule rule.Assignment ∷ ps) tokens n → Reads (part.Rule rule.Or ∷ part.Group group.AssignTail ∷ ps) tokens n
assignment_opened ps tokens n h d = rule_opened rule.Assignment (row when.Always (part.Rule rule.Or ∷ part.Group group.AssignTail ∷ [])) ps tokens n (assignment_open tokens h) d

assignment_made : (tokens n : List TokenKind) → is_kind kind.Underscore (next_kind tokens) ≡ false → Reads (part.Rule rule.Or ∷ part.Group group.AssignTail ∷ []) tokens n → Reads (part.Rule rule.Assignment ∷ []) tokens n
assignment_made tokens n h d =
    rule_made rule.Assignment (row when.Always (part.Rule rule.Or ∷ part.Group group.AssignTail ∷ [])) tokens n
    (among_sole (row when.Always (part.Rule rule.Or ∷ part.Group group.AssignTail ∷ [])) (open_at tokens (rule_rows rule.Assignment)) (assignment_open tokens h)) d

-- before `else` an expression is a whole assignment
no_assign_tail : (ps : List Part) (more n : List TokenKind) → Reads (part.Group group.AssignTail ∷ ps) (kind.KeywordElse ∷ more) n → Reads ps (kind.KeywordElse ∷ more) n
unfolding group_rows is_assign_operator
no_assign_tail ps more n d = group_opened group.AssignTail (row when.Always []) ps (kind.KeywordElse ∷ more) n refl d

pub else_assignment : (tokens more : List TokenKind) → Reads (part.Rule rule.Or ∷ []) tokens (kind.KeywordElse ∷ more) → Reads (part.Rule rule.Assignment ∷ []) tokens (kind.KeywordElse ∷ more)
unfolding group_rows is_assign_operator
else_assignment tokens more d =
    let none = group_made group.AssignTail (row when.Always []) (kind.KeywordElse ∷ more) (kind.KeywordElse ∷ more) (inl refl) (nothing, derives_none (kind.KeywordElse ∷ more)) in
    assignment_made tokens (kind.KeywordElse ∷ more) (expression_no_underscore [] tokens (kind.KeywordElse ∷ more) d)
    (joined_read (part.Rule rule.Or ∷ []) (part.Group group.AssignTail ∷ []) tokens (kind.KeywordElse ∷ more) (kind.KeywordElse ∷ more) d none)

-- ---- `else`

-- an `else` part, up to what follows its capture
abbrev else_with : Part → List Part → List Part
else_with p k = part.Token kind.KeywordElse ∷ part.Group group.CaptureOption ∷ p ∷ k

else_body_read : (more n : List TokenKind) → Reads (part.Group group.ElseOption ∷ []) (kind.KeywordElse ∷ more) n → Reads (else_with (part.Rule rule.Body) []) (kind.KeywordElse ∷ more) n
unfolding group_rows number_of
else_body_read more n d = group_opened group.ElseOption (row (when.Is kind.KeywordElse) (else_with (part.Rule rule.Body) [])) [] (kind.KeywordElse ∷ more) n refl d

else_body_made : (more n : List TokenKind) → Reads (else_with (part.Rule rule.Body) []) (kind.KeywordElse ∷ more) n → Reads (part.Group group.ElseOption ∷ []) (kind.KeywordElse ∷ more) n
unfolding group_rows number_of
else_body_made more n d = group_made group.ElseOption (row (when.Is kind.KeywordElse) (else_with (part.Rule rule.Body) [])) (kind.KeywordElse ∷ more) n (inl refl) d

rest_end_read : (more n : List TokenKind) → Reads (part.Group group.RestEnd ∷ []) (kind.KeywordElse ∷ more) n → Reads (else_with (part.Rule rule.Body) []) (kind.KeywordElse ∷ more) n
unfolding group_rows number_of
rest_end_read more n d = group_opened group.RestEnd (row (when.Is kind.KeywordElse) (else_with (part.Rule rule.Body) [])) [] (kind.KeywordElse ∷ more) n refl d

rest_end_made : (more n : List TokenKind) → Reads (else_with (part.Rule rule.Body) []) (kind.KeywordElse ∷ more) n → Reads (part.Group group.RestEnd ∷ []) (kind.KeywordElse ∷ more) n
unfolding group_rows number_of
rest_end_made more n d = group_made group.RestEnd (row (when.Is kind.KeywordElse) (else_with (part.Rule rule.Body) [])) (kind.KeywordElse ∷ more) n (inl refl) d

else_expression_read : (k : List Part) (more n : List TokenKind) → Reads (part.Group group.ElseExpression ∷ k) (kind.KeywordElse ∷ more) n → Reads (else_with (part.Rule rule.Or) k) (kind.KeywordElse ∷ more) n
unfolding group_rows number_of
else_expression_read k more n d = group_opened group.ElseExpression (row (when.Is kind.KeywordElse) (else_with (part.Rule rule.Or) [])) k (kind.KeywordElse ∷ more) n refl d

-- an `else` part leads with `else`, or is left out
else_or_none : (tokens n : List TokenKind) → Reads (part.Group group.ElseOption ∷ []) tokens n → (tokens ≡ n) ⊎ ((more : List TokenKind) × (tokens ≡ kind.KeywordElse ∷ more))
unfolding group_rows
else_or_none tokens n d = let a = group_alone group.ElseOption tokens n d in by a.0 (open_is_row tokens a.0 (group_rows group.ElseOption) a.1) a.2
  where
    by : (a : Alternative) → Among a (group_rows group.ElseOption) → Reads a.parts tokens n → (tokens ≡ n) ⊎ ((more : List TokenKind) × (tokens ≡ kind.KeywordElse ∷ more))
    by a (inl e) i = let t = token_read kind.KeywordElse (part.Group group.CaptureOption ∷ part.Rule rule.Body ∷ []) tokens n (subst (λ (x : Alternative). Reads x.parts tokens n) e i) in inr (t.0, t.1)
    by a (inr (inl e)) i = inl (none_read tokens n (subst (λ (x : Alternative). Reads x.parts tokens n) e i))
    by a (inr (inr m)) i = elim m [ ]

else_expression_or_none : (k : List Part) (tokens far : List TokenKind) → Reads (part.Group group.ElseExpression ∷ k) tokens far → Reads k tokens far ⊎ ((more : List TokenKind) × (tokens ≡ kind.KeywordElse ∷ more))
unfolding group_rows
else_expression_or_none k tokens far d =
    let o = group_read group.ElseExpression k tokens far d in
    by o.a o.next (open_is_row tokens o.a (group_rows group.ElseExpression) o.among) o.first o.others
  where
    by : (a : Alternative) (next : List TokenKind) → Among a (group_rows group.ElseExpression) → Reads a.parts tokens next → Reads k next far → Reads k tokens far ⊎ ((more : List TokenKind) × (tokens ≡ kind.KeywordElse ∷ more))
    by a next (inl e) i r = let t = token_read kind.KeywordElse (part.Group group.CaptureOption ∷ part.Rule rule.Or ∷ []) tokens next (subst (λ (x : Alternative). Reads x.parts tokens next) e i) in inr (t.0, t.1)
    by a next (inr (inl e)) i r = inl (subst (λ (l : List TokenKind). Reads k l far) (sym (none_read tokens next (subst (λ (x : Alternative). Reads x.parts tokens next) e i))) r)
    by a next (inr (inr m)) i r = elim m [ ]

-- ---- a block and an `else` part, beside an expression that the block leads

record BlockLed (k : List Part) (tokens n far : List TokenKind) : Type 0 where
  more : List TokenKind
  block : Reads (part.Rule rule.Block ∷ []) tokens (kind.KeywordElse ∷ more)
  left : Reads (part.Group group.ElseOption ∷ []) (kind.KeywordElse ∷ more) n
  others : Reads k (kind.KeywordElse ∷ more) far

block_begins : (ps : List Part) (tokens n : List TokenKind) → Reads (part.Rule rule.Block ∷ ps) tokens n → (more : List TokenKind) × (tokens ≡ kind.LeftBrace ∷ more)
unfolding rule_rows
block_begins ps tokens n d =
    let a = rule_opened rule.Block (row when.Always (part.Token kind.LeftBrace ∷ part.Group group.Statements ∷ part.Token kind.RightBrace ∷ [])) ps tokens n refl d in
    let t = token_read kind.LeftBrace (part.Group group.Statements ∷ part.Token kind.RightBrace ∷ ps) tokens n a in
    (t.0, t.1)

block_operand_of : (k ps : List Part) (tokens n far : List TokenKind) → Reads (part.Rule rule.Block ∷ ps) tokens n → Reads (part.Rule rule.Or ∷ k) tokens far → Reads (part.Rule rule.Block ∷ tails k) tokens far
block_operand_of k ps tokens n far d e =
    let b = block_begins ps tokens n d in
    subst (λ (l : List TokenKind). Reads (part.Rule rule.Block ∷ tails k) l far) (sym b.1) (block_operand k b.0 far (subst (λ (l : List TokenKind). Reads (part.Rule rule.Or ∷ k) l far) b.1 e))

block_led : (k : List Part) (tokens n far : List TokenKind) → Reads (part.Rule rule.Block ∷ part.Group group.ElseOption ∷ []) tokens n → Reads (part.Rule rule.Or ∷ k) tokens far → (length far ≤ length n) ⊎ BlockLed k tokens n far
block_led k tokens n far d e =
    let o = block_operand_of k (part.Group group.ElseOption ∷ []) tokens n far d e in
    let s = split_both (part.Rule rule.Block ∷ []) (part.Group group.ElseOption ∷ []) (tails k) tokens n far refl d o in
    elim (else_or_none s.0 n s.2) [
      | inl e ↦ inl (let l = shorter_read (tails k) s.0 far s.3 in omega (arith, ap length e))
      | inr m ↦ inr (record {
        more = m.0;
        block = subst (Reads (part.Rule rule.Block ∷ []) tokens) m.1 s.1;
        left = subst (λ (l : List TokenKind). Reads (part.Group group.ElseOption ∷ []) l n) m.1 s.2;
        others = trail_read k (tails k) (kind.KeywordElse ∷ m.0) far (tails_trail k k trail_ends) refl (subst (λ (l : List TokenKind). Reads (tails k) l far) m.1 s.3);
      })
    ]

-- ---- the body of a loop or a condition, where bodies that are shorter are told

-- how a statement of this form ends, after its expression
abbrev statement_end : List Part
statement_end = part.Group group.AssignTail ∷ part.Token kind.Semicolon ∷ []

abbrev Bodies : ℕ → Type 0
Bodies bound =
    (k : List Part) (tokens n far : List TokenKind) → Trail statement_end k → length tokens < bound → Reads (part.Rule rule.Body ∷ []) tokens n → Reads (part.Rule rule.Or ∷ k) tokens far
    → Reaches (part.Rule rule.Body ∷ []) tokens n far

else_reaches : (bound : ℕ) (k : List Part) (tokens n far : List TokenKind) → Bodies bound → Trail statement_end k → length tokens ≤ bound
    → Reads (else_with (part.Rule rule.Body) []) tokens n → Reads (else_with (part.Rule rule.Or) k) tokens far → Reaches (else_with (part.Rule rule.Body) []) tokens n far
else_reaches bound k tokens n far bodies t l d e =
    let s = split_both (part.Token kind.KeywordElse ∷ part.Group group.CaptureOption ∷ []) (part.Rule rule.Body ∷ []) (part.Rule rule.Or ∷ k) tokens n far refl d e in
    let less = less_read (part.Token kind.KeywordElse ∷ part.Group group.CaptureOption ∷ []) tokens s.0 refl s.1 in
    reaches_after (part.Token kind.KeywordElse ∷ part.Group group.CaptureOption ∷ []) (part.Rule rule.Body ∷ []) tokens s.0 n far s.1 (bodies k s.0 n far t (omega arith) s.2 s.3)

block_rest : (bound : ℕ) (k : List Part) (tokens n far : List TokenKind) → Bodies bound → Trail statement_end k → length tokens ≤ bound
    → BlockLed (part.Group group.ElseExpression ∷ k) tokens n far → Reaches (part.Rule rule.Block ∷ part.Group group.ElseOption ∷ []) tokens n far
block_rest bound k tokens n far bodies t l b =
    let less = less_read (part.Rule rule.Block ∷ []) tokens (kind.KeywordElse ∷ b.more) refl b.block in
    let r = else_reaches bound k (kind.KeywordElse ∷ b.more) n far bodies t (omega arith) (else_body_read b.more n b.left) (else_expression_read k b.more far b.others) in
    reaches_after (part.Rule rule.Block ∷ []) (part.Group group.ElseOption ∷ []) tokens (kind.KeywordElse ∷ b.more) n far b.block
    (reaches_as (else_with (part.Rule rule.Body) []) (part.Group group.ElseOption ∷ []) (kind.KeywordElse ∷ b.more) n far r (λ d. else_body_made b.more far d))

-- what follows an expression that ends a body without a block
rest_end_next : (tokens n : List TokenKind) → Reads (part.Group group.RestEnd ∷ []) tokens n → ends_operand (next_kind tokens) ≡ true
unfolding group_rows
rest_end_next tokens n d = let a = group_alone group.RestEnd tokens n d in by a.0 (open_is_row tokens a.0 (group_rows group.RestEnd) a.1) a.2
  where
    by : (a : Alternative) → Among a (group_rows group.RestEnd) → Reads a.parts tokens n → ends_operand (next_kind tokens) ≡ true
    by a (inl e) i =
        let t = token_read kind.Semicolon [] tokens n (subst (λ (x : Alternative). Reads x.parts tokens n) e i) in
        ap (λ (l : List TokenKind). ends_operand (next_kind l)) t.1
    by a (inr (inl e)) i =
        let t = token_read kind.KeywordElse (part.Group group.CaptureOption ∷ part.Rule rule.Body ∷ []) tokens n (subst (λ (x : Alternative). Reads x.parts tokens n) e i) in
        ap (λ (l : List TokenKind). ends_operand (next_kind l)) t.1
    by a (inr (inr m)) i = elim m [ ]

tail_next : (ps : List Part) (tokens n : List TokenKind) → ((next : List TokenKind) → Reads ps next n → ends_operand (next_kind next) ≡ true) → Reads (part.Group group.AssignTail ∷ ps) tokens n → ends_operand (next_kind tokens) ≡ true
tail_next ps tokens n f d =
    let o = group_read group.AssignTail ps tokens n d in
    elim (assign_tail o.a tokens o.next (open_is_row tokens o.a (group_rows group.AssignTail) o.among) o.first) [
      | inl h ↦ h
      | inr e ↦ ap (λ (l : List TokenKind). ends_operand (next_kind l)) e ∙ f o.next o.others
    ]

semicolon_rest : (far n : List TokenKind) → Reads (part.Group group.RestEnd ∷ []) (kind.Semicolon ∷ far) n → n ≡ far
unfolding group_rows number_of
semicolon_rest far n d =
    let a = group_opened group.RestEnd (row (when.Is kind.Semicolon) (part.Token kind.Semicolon ∷ [])) [] (kind.Semicolon ∷ far) n refl d in
    let t = token_read kind.Semicolon [] (kind.Semicolon ∷ far) n a in
    let same : kind.Semicolon ∷ far ≡ kind.Semicolon ∷ t.0 = t.1 in
    let inner : t.0 ≡ far = cc in
    sym (none_read t.0 n t.2) ∙ inner

-- with no `else` both end at the semicolon
plain_rest : (k : List Part) (tokens n far : List TokenKind) → Trail statement_end k → Reads (part.Group group.AssignTail ∷ part.Group group.RestEnd ∷ []) tokens n → Reads k tokens far → n ≡ far
plain_rest k tokens n far t d e =
    let ends = tail_next (part.Group group.RestEnd ∷ []) tokens n (λ next i. rest_end_next next n i) d in
    let s = split_both (part.Group group.AssignTail ∷ []) (part.Group group.RestEnd ∷ []) (part.Token kind.Semicolon ∷ []) tokens n far refl d (trail_read statement_end k tokens far t ends e) in
    let u = token_read kind.Semicolon [] s.0 far s.3 in
    let at : s.0 ≡ kind.Semicolon ∷ far = u.1 ∙ ap (λ (l : List TokenKind). kind.Semicolon ∷ l) (none_read u.0 far u.2) in
    semicolon_rest far n (subst (λ (l : List TokenKind). Reads (part.Group group.RestEnd ∷ []) l n) at s.2)

-- with `else` what follows it decides
else_rest : (bound : ℕ) (k : List Part) (tokens more n far : List TokenKind) → Bodies bound → Trail statement_end k → length tokens ≤ bound → Reads (part.Rule rule.Or ∷ []) tokens (kind.KeywordElse ∷ more)
    → Reads (part.Group group.AssignTail ∷ part.Group group.RestEnd ∷ []) (kind.KeywordElse ∷ more) n → Reads (part.Group group.ElseExpression ∷ k) (kind.KeywordElse ∷ more) far
    → Reaches (part.Rule rule.Assignment ∷ part.Group group.RestEnd ∷ []) tokens n far
else_rest bound k tokens more n far bodies t l first d e =
    let less = less_read (part.Rule rule.Or ∷ []) tokens (kind.KeywordElse ∷ more) refl first in
    let r = else_reaches bound k (kind.KeywordElse ∷ more) n far bodies t (omega arith) (rest_end_read more n (no_assign_tail (part.Group group.RestEnd ∷ []) more n d)) (else_expression_read k more far e) in
    reaches_after (part.Rule rule.Assignment ∷ []) (part.Group group.RestEnd ∷ []) tokens (kind.KeywordElse ∷ more) n far (else_assignment tokens more first)
    (reaches_as (else_with (part.Rule rule.Body) []) (part.Group group.RestEnd ∷ []) (kind.KeywordElse ∷ more) n far r (λ i. rest_end_made more far i))

expression_rest : (bound : ℕ) (k : List Part) (tokens n far : List TokenKind) → Bodies bound → Trail statement_end k → length tokens ≤ bound
    → Reads (part.Rule rule.Assignment ∷ part.Group group.RestEnd ∷ []) tokens n → Reads (part.Rule rule.Or ∷ part.Group group.ElseExpression ∷ k) tokens far
    → Reaches (part.Rule rule.Assignment ∷ part.Group group.RestEnd ∷ []) tokens n far
expression_rest bound k tokens n far bodies t l d e =
    let a = assignment_opened (part.Group group.RestEnd ∷ []) tokens n (expression_no_underscore (part.Group group.ElseExpression ∷ k) tokens far e) d in
    let s = split_both (part.Rule rule.Or ∷ []) (part.Group group.AssignTail ∷ part.Group group.RestEnd ∷ []) (part.Group group.ElseExpression ∷ k) tokens n far refl a e in
    elim (else_expression_or_none k s.0 far s.3) [
      | inl r ↦ inl (same_length far n (plain_rest k s.0 n far t s.2 r))
      | inr m ↦ else_rest bound k tokens m.0 n far bodies t l (subst (Reads (part.Rule rule.Or ∷ []) tokens) m.1 s.1)
          (subst (λ (l : List TokenKind). Reads (part.Group group.AssignTail ∷ part.Group group.RestEnd ∷ []) l n) m.1 s.2) (subst (λ (l : List TokenKind). Reads (part.Group group.ElseExpression ∷ k) l far) m.1 s.3)
    ]

rest_row : (bound : ℕ) (k : List Part) (a : Alternative) (tokens n far : List TokenKind) → Bodies bound → Trail statement_end k → length tokens ≤ bound → Among a (rule_rows rule.Rest)
    → Reads a.parts tokens n → Reads (part.Rule rule.Or ∷ part.Group group.ElseExpression ∷ k) tokens far → Reaches a.parts tokens n far
unfolding rule_rows
rest_row bound k a tokens n far bodies t l (inl e) d i =
    subst (λ (x : Alternative). Reaches x.parts tokens n far) (sym e)
    (elim (block_led (part.Group group.ElseExpression ∷ k) tokens n far (subst (λ (x : Alternative). Reads x.parts tokens n) e d) i) [ inl s ↦ inl s | inr b ↦ block_rest bound k tokens n far bodies t l b ])
rest_row bound k a tokens n far bodies t l (inr (inl e)) d i =
    subst (λ (x : Alternative). Reaches x.parts tokens n far) (sym e) (expression_rest bound k tokens n far bodies t l (subst (λ (x : Alternative). Reads x.parts tokens n) e d) i)
rest_row bound k a tokens n far bodies t l (inr (inr m)) d i = elim m [ ]

rest_reaches : (bound : ℕ) (k : List Part) (tokens n far : List TokenKind) → Bodies bound → Trail statement_end k → length tokens ≤ bound
    → Reads (part.Rule rule.Rest ∷ []) tokens n → Reads (part.Rule rule.RestExpression ∷ k) tokens far → Reaches (part.Rule rule.Rest ∷ []) tokens n far
unfolding rule_rows
rest_reaches bound k tokens n far bodies t l d e =
    let a = rule_alone rule.Rest tokens n d in
    let o = rule_opened rule.RestExpression (row when.Always (part.Rule rule.Or ∷ part.Group group.ElseExpression ∷ [])) k tokens far refl e in
    reaches_as a.0.parts (part.Rule rule.Rest ∷ []) tokens n far (rest_row bound k a.0 tokens n far bodies t l (open_is_row tokens a.0 (rule_rows rule.Rest) a.1) a.2 o) (λ i. rule_made rule.Rest a.0 tokens far a.1 i)

-- ---- conditions and loops

pub front_reaches : (bound : ℕ) (front k : List Part) (tokens n far : List TokenKind) → is_closed front ≡ true → fills front ≡ true → Bodies bound → Trail statement_end k → length tokens ≤ bound
    → Reads (front ++ part.Rule rule.Rest ∷ []) tokens n → Reads (front ++ part.Rule rule.RestExpression ∷ k) tokens far → Reaches (front ++ part.Rule rule.Rest ∷ []) tokens n far
front_reaches bound front k tokens n far closed some bodies t l d e =
    let s = split_both front (part.Rule rule.Rest ∷ []) (part.Rule rule.RestExpression ∷ k) tokens n far closed d e in
    let less = less_read front tokens s.0 some s.1 in
    reaches_after front (part.Rule rule.Rest ∷ []) tokens s.0 n far s.1 (rest_reaches bound k s.0 n far bodies t (omega arith) s.2 s.3)

abbrev if_front : List Part
if_front = part.Token kind.KeywordIf ∷ part.Token kind.LeftParen ∷ part.Rule rule.Or ∷ part.Token kind.RightParen ∷ part.Group group.CaptureOption ∷ []

abbrev while_front : List Part
while_front = part.Token kind.KeywordWhile ∷ part.Token kind.LeftParen ∷ part.Rule rule.Or ∷ part.Token kind.RightParen ∷ part.Group group.CaptureOption ∷ part.Group group.ContinueOption ∷ []

abbrev for_front : List Part
for_front =
    part.Token kind.KeywordFor ∷ part.Token kind.LeftParen ∷ part.Rule rule.ForArgument ∷ part.Group group.MoreForArguments ∷ part.Token kind.RightParen ∷ part.Token kind.Pipe ∷ part.Rule rule.Captures ∷ part.Token kind.Pipe ∷ []

if_reaches : (bound : ℕ) (k : List Part) (tokens n far : List TokenKind) → Bodies bound → Trail statement_end k → length tokens ≤ bound
    → Reads (part.Rule rule.IfStatement ∷ []) tokens n → Reads (part.Rule rule.IfExpression ∷ k) tokens far → Reaches (part.Rule rule.IfStatement ∷ []) tokens n far
unfolding rule_rows
if_reaches bound k tokens n far bodies t l d e =
    let a = rule_opened rule.IfStatement (row when.Always (if_front ++ part.Rule rule.Rest ∷ [])) [] tokens n refl d in
    let o = rule_opened rule.IfExpression (row when.Always (if_front ++ part.Rule rule.RestExpression ∷ [])) k tokens far refl e in
    reaches_as (if_front ++ part.Rule rule.Rest ∷ []) (part.Rule rule.IfStatement ∷ []) tokens n far (front_reaches bound if_front k tokens n far refl refl bodies t l a o)
    (λ i. rule_made rule.IfStatement (row when.Always (if_front ++ part.Rule rule.Rest ∷ [])) tokens far (inl refl) i)

while_reaches : (bound : ℕ) (k : List Part) (tokens n far : List TokenKind) → Bodies bound → Trail statement_end k → length tokens ≤ bound
    → Reads (part.Rule rule.WhileStatement ∷ []) tokens n → Reads (part.Rule rule.WhileExpression ∷ k) tokens far → Reaches (part.Rule rule.WhileStatement ∷ []) tokens n far
unfolding rule_rows
while_reaches bound k tokens n far bodies t l d e =
    let a = rule_opened rule.WhileStatement (row when.Always (while_front ++ part.Rule rule.Rest ∷ [])) [] tokens n refl d in
    let o = rule_opened rule.WhileExpression (row when.Always (while_front ++ part.Rule rule.RestExpression ∷ [])) k tokens far refl e in
    reaches_as (while_front ++ part.Rule rule.Rest ∷ []) (part.Rule rule.WhileStatement ∷ []) tokens n far (front_reaches bound while_front k tokens n far refl refl bodies t l a o)
    (λ i. rule_made rule.WhileStatement (row when.Always (while_front ++ part.Rule rule.Rest ∷ [])) tokens far (inl refl) i)

for_reaches : (bound : ℕ) (k : List Part) (tokens n far : List TokenKind) → Bodies bound → Trail statement_end k → length tokens ≤ bound
    → Reads (part.Rule rule.ForStatement ∷ []) tokens n → Reads (part.Rule rule.ForExpression ∷ k) tokens far → Reaches (part.Rule rule.ForStatement ∷ []) tokens n far
unfolding rule_rows
for_reaches bound k tokens n far bodies t l d e =
    let a = rule_opened rule.ForStatement (row when.Always (for_front ++ part.Rule rule.Rest ∷ [])) [] tokens n refl d in
    let o = rule_opened rule.ForExpression (row when.Always (for_front ++ part.Rule rule.RestExpression ∷ [])) k tokens far refl e in
    reaches_as (for_front ++ part.Rule rule.Rest ∷ []) (part.Rule rule.ForStatement ∷ []) tokens n far (front_reaches bound for_front k tokens n far refl refl bodies t l a o)
    (λ i. rule_made rule.ForStatement (row when.Always (for_front ++ part.Rule rule.Rest ∷ [])) tokens far (inl refl) i)

-- the first token of each
if_begins : (tokens n : List TokenKind) → Reads (part.Rule rule.IfStatement ∷ []) tokens n → (more : List TokenKind) × (tokens ≡ kind.KeywordIf ∷ more)
unfolding rule_rows
if_begins tokens n d =
    let a = rule_opened rule.IfStatement (row when.Always (if_front ++ part.Rule rule.Rest ∷ [])) [] tokens n refl d in
    let t = token_read kind.KeywordIf (part.Token kind.LeftParen ∷ part.Rule rule.Or ∷ part.Token kind.RightParen ∷ part.Group group.CaptureOption ∷ part.Rule rule.Rest ∷ []) tokens n a in
    (t.0, t.1)

while_begins : (tokens n : List TokenKind) → Reads (part.Rule rule.WhileStatement ∷ []) tokens n → (more : List TokenKind) × (tokens ≡ kind.KeywordWhile ∷ more)
unfolding rule_rows
while_begins tokens n d =
    let a = rule_opened rule.WhileStatement (row when.Always (while_front ++ part.Rule rule.Rest ∷ [])) [] tokens n refl d in
    let t = token_read kind.KeywordWhile (part.Token kind.LeftParen ∷ part.Rule rule.Or ∷ part.Token kind.RightParen ∷ part.Group group.CaptureOption ∷ part.Group group.ContinueOption ∷ part.Rule rule.Rest ∷ []) tokens n a in
    (t.0, t.1)

for_begins : (tokens n : List TokenKind) → Reads (part.Rule rule.ForStatement ∷ []) tokens n → (more : List TokenKind) × (tokens ≡ kind.KeywordFor ∷ more)
unfolding rule_rows
for_begins tokens n d =
    let a = rule_opened rule.ForStatement (row when.Always (for_front ++ part.Rule rule.Rest ∷ [])) [] tokens n refl d in
    let t = token_read kind.KeywordFor (part.Token kind.LeftParen ∷ part.Rule rule.ForArgument ∷ part.Group group.MoreForArguments ∷ part.Token kind.RightParen ∷ part.Token kind.Pipe ∷ part.Rule rule.Captures ∷ part.Token kind.Pipe ∷ part.Rule rule.Rest ∷ []) tokens n a in
    (t.0, t.1)

switch_begins : (tokens n : List TokenKind) → Reads (part.Rule rule.Switch ∷ []) tokens n → (more : List TokenKind) × (tokens ≡ kind.KeywordSwitch ∷ more)
unfolding rule_rows
switch_begins tokens n d =
    let a = rule_opened rule.Switch (row when.Always (part.Token kind.KeywordSwitch ∷ part.Token kind.LeftParen ∷ part.Rule rule.Or ∷ part.Token kind.RightParen ∷ part.Group group.SwitchBraces ∷ [])) [] tokens n refl d in
    let t = token_read kind.KeywordSwitch (part.Token kind.LeftParen ∷ part.Rule rule.Or ∷ part.Token kind.RightParen ∷ part.Group group.SwitchBraces ∷ []) tokens n a in
    (t.0, t.1)

-- ---- each form of a statement, beside an expression

-- the same parts of the expression lead
led_reaches : (front k : List Part) (tokens n far : List TokenKind) → is_closed front ≡ true → Reads front tokens n → Reads (front ++ k) tokens far → Reaches front tokens n far
led_reaches front k tokens n far closed d e =
    let s = split_read front k tokens far e in
    inl (let l = shorter_read k s.0 far s.2 in omega (arith, ap length (closed_read front tokens n s.0 closed d s.1)))

if_form : (bound : ℕ) (k : List Part) (tokens n far : List TokenKind) → Bodies bound → Trail statement_end k → length tokens ≤ bound
    → Reads (part.Rule rule.IfStatement ∷ []) tokens n → Reads (part.Rule rule.Or ∷ k) tokens far → Reaches (part.Rule rule.IfStatement ∷ []) tokens n far
if_form bound k tokens n far bodies t l d e =
    let b = if_begins tokens n d in
    let o = if_operand k b.0 far (subst (λ (x : List TokenKind). Reads (part.Rule rule.Or ∷ k) x far) b.1 e) in
    if_reaches bound (tails k) tokens n far bodies (tails_trail statement_end k t) l d (subst (λ (x : List TokenKind). Reads (part.Rule rule.IfExpression ∷ tails k) x far) (sym b.1) o)

while_form : (bound : ℕ) (k : List Part) (tokens n far : List TokenKind) → Bodies bound → Trail statement_end k → length tokens ≤ bound
    → Reads (part.Rule rule.WhileStatement ∷ []) tokens n → Reads (part.Rule rule.Or ∷ k) tokens far → Reaches (part.Rule rule.WhileStatement ∷ []) tokens n far
while_form bound k tokens n far bodies t l d e =
    let b = while_begins tokens n d in
    let o = while_operand k b.0 far (subst (λ (x : List TokenKind). Reads (part.Rule rule.Or ∷ k) x far) b.1 e) in
    while_reaches bound (tails k) tokens n far bodies (tails_trail statement_end k t) l d (subst (λ (x : List TokenKind). Reads (part.Rule rule.WhileExpression ∷ tails k) x far) (sym b.1) o)

for_form : (bound : ℕ) (k : List Part) (tokens n far : List TokenKind) → Bodies bound → Trail statement_end k → length tokens ≤ bound
    → Reads (part.Rule rule.ForStatement ∷ []) tokens n → Reads (part.Rule rule.Or ∷ k) tokens far → Reaches (part.Rule rule.ForStatement ∷ []) tokens n far
for_form bound k tokens n far bodies t l d e =
    let b = for_begins tokens n d in
    let o = for_operand k b.0 far (subst (λ (x : List TokenKind). Reads (part.Rule rule.Or ∷ k) x far) b.1 e) in
    for_reaches bound (tails k) tokens n far bodies (tails_trail statement_end k t) l d (subst (λ (x : List TokenKind). Reads (part.Rule rule.ForExpression ∷ tails k) x far) (sym b.1) o)

block_form : (k : List Part) (tokens n far : List TokenKind) → Reads (part.Rule rule.Block ∷ []) tokens n → Reads (part.Rule rule.Or ∷ k) tokens far → Reaches (part.Rule rule.Block ∷ []) tokens n far
block_form k tokens n far d e = led_reaches (part.Rule rule.Block ∷ []) (tails k) tokens n far refl d (block_operand_of k [] tokens n far d e)

switch_form : (k : List Part) (tokens n far : List TokenKind) → Reads (part.Rule rule.Switch ∷ []) tokens n → Reads (part.Rule rule.Or ∷ k) tokens far → Reaches (part.Rule rule.Switch ∷ []) tokens n far
switch_form k tokens n far d e =
    let b = switch_begins tokens n d in
    let o = switch_operand k b.0 far (subst (λ (x : List TokenKind). Reads (part.Rule rule.Or ∷ k) x far) b.1 e) in
    led_reaches (part.Rule rule.Switch ∷ []) (switch_tails (tails k)) tokens n far refl d (subst (λ (x : List TokenKind). Reads (part.Rule rule.Switch ∷ switch_tails (tails k)) x far) (sym b.1) o)

-- after a label
while_labelled : (k : List Part) (more far : List TokenKind) → Reads (part.Group group.LabelledExpression ∷ k) (kind.KeywordWhile ∷ more) far → Reads (part.Rule rule.WhileExpression ∷ k) (kind.KeywordWhile ∷ more) far
unfolding group_rows number_of
while_labelled k more far d = group_opened group.LabelledExpression (row (when.Is kind.KeywordWhile) (part.Rule rule.WhileExpression ∷ [])) k (kind.KeywordWhile ∷ more) far refl d

for_labelled : (k : List Part) (more far : List TokenKind) → Reads (part.Group group.LabelledExpression ∷ k) (kind.KeywordFor ∷ more) far → Reads (part.Rule rule.ForExpression ∷ k) (kind.KeywordFor ∷ more) far
unfolding group_rows number_of
for_labelled k more far d = group_opened group.LabelledExpression (row (when.Is kind.KeywordFor) (part.Rule rule.ForExpression ∷ [])) k (kind.KeywordFor ∷ more) far refl d

block_labelled : (k : List Part) (more far : List TokenKind) → Reads (part.Group group.LabelledExpression ∷ k) (kind.LeftBrace ∷ more) far → Reads (part.Rule rule.Block ∷ k) (kind.LeftBrace ∷ more) far
unfolding group_rows number_of
block_labelled k more far d = group_opened group.LabelledExpression (row (when.Is kind.LeftBrace) (part.Rule rule.Block ∷ [])) k (kind.LeftBrace ∷ more) far refl d

labelled_row : (bound : ℕ) (k : List Part) (a : Alternative) (tokens n far : List TokenKind) → Bodies bound → Trail statement_end k → length tokens ≤ bound → Among a (group_rows group.LabelledStatement)
    → Reads a.parts tokens n → Reads (part.Group group.LabelledExpression ∷ k) tokens far → Reaches a.parts tokens n far
unfolding group_rows
labelled_row bound k a tokens n far bodies t l (inl e) d i =
    let f = subst (λ (x : Alternative). Reads x.parts tokens n) e d in
    let b = while_begins tokens n f in
    let o = while_labelled k b.0 far (subst (λ (x : List TokenKind). Reads (part.Group group.LabelledExpression ∷ k) x far) b.1 i) in
    subst (λ (x : Alternative). Reaches x.parts tokens n far) (sym e) (while_reaches bound k tokens n far bodies t l f (subst (λ (x : List TokenKind). Reads (part.Rule rule.WhileExpression ∷ k) x far) (sym b.1) o))
labelled_row bound k a tokens n far bodies t l (inr (inl e)) d i =
    let f = subst (λ (x : Alternative). Reads x.parts tokens n) e d in
    let b = for_begins tokens n f in
    let o = for_labelled k b.0 far (subst (λ (x : List TokenKind). Reads (part.Group group.LabelledExpression ∷ k) x far) b.1 i) in
    subst (λ (x : Alternative). Reaches x.parts tokens n far) (sym e) (for_reaches bound k tokens n far bodies t l f (subst (λ (x : List TokenKind). Reads (part.Rule rule.ForExpression ∷ k) x far) (sym b.1) o))
labelled_row bound k a tokens n far bodies t l (inr (inr (inl e))) d i =
    let f = subst (λ (x : Alternative). Reads x.parts tokens n) e d in
    let b = block_begins [] tokens n f in
    let o = block_labelled k b.0 far (subst (λ (x : List TokenKind). Reads (part.Group group.LabelledExpression ∷ k) x far) b.1 i) in
    subst (λ (x : Alternative). Reaches x.parts tokens n far) (sym e) (led_reaches (part.Rule rule.Block ∷ []) k tokens n far refl f (subst (λ (x : List TokenKind). Reads (part.Rule rule.Block ∷ k) x far) (sym b.1) o))
labelled_row bound k a tokens n far bodies t l (inr (inr (inr m))) d i = elim m [ ]

labelled_reaches : (bound : ℕ) (k : List Part) (tokens n far : List TokenKind) → Bodies bound → Trail statement_end k → length tokens ≤ bound
    → Reads (part.Group group.LabelledStatement ∷ []) tokens n → Reads (part.Group group.LabelledExpression ∷ k) tokens far → Reaches (part.Group group.LabelledStatement ∷ []) tokens n far
labelled_reaches bound k tokens n far bodies t l d e =
    let a = group_alone group.LabelledStatement tokens n d in
    reaches_as a.0.parts (part.Group group.LabelledStatement ∷ []) tokens n far (labelled_row bound k a.0 tokens n far bodies t l (open_is_row tokens a.0 (group_rows group.LabelledStatement) a.1) a.2 e)
    (λ i. group_made group.LabelledStatement a.0 tokens far a.1 i)

label_form : (bound : ℕ) (k : List Part) (tokens n far : List TokenKind) → Bodies bound → Trail statement_end k → length tokens ≤ bound
    → Reads (part.Token kind.Identifier ∷ part.Token kind.Colon ∷ part.Group group.LabelledStatement ∷ []) tokens n → Reads (part.Rule rule.Or ∷ k) tokens far
    → Reaches (part.Token kind.Identifier ∷ part.Token kind.Colon ∷ part.Group group.LabelledStatement ∷ []) tokens n far
label_form bound k tokens n far bodies t l d e =
    let front = part.Token kind.Identifier ∷ part.Token kind.Colon ∷ [] in
    let s = split_read front (part.Group group.LabelledStatement ∷ []) tokens n d in
    let x = token_read kind.Identifier (part.Token kind.Colon ∷ []) tokens s.0 s.1 in
    let y = token_read kind.Colon [] x.0 s.0 x.2 in
    let whole : tokens ≡ kind.Identifier ∷ kind.Colon ∷ s.0 = x.1 ∙ ap (λ (i : List TokenKind). kind.Identifier ∷ i) (y.1 ∙ ap (λ (i : List TokenKind). kind.Colon ∷ i) (none_read y.0 s.0 y.2)) in
    let o = label_operand k s.0 far (subst (λ (i : List TokenKind). Reads (part.Rule rule.Or ∷ k) i far) whole e) in
    let less = shorter_read front tokens s.0 s.1 in
    reaches_after front (part.Group group.LabelledStatement ∷ []) tokens s.0 n far s.1 (labelled_reaches bound (tails k) s.0 n far bodies (tails_trail statement_end k t) (omega arith) s.2 o)

expression_form : (k : List Part) (tokens n far : List TokenKind) → Trail statement_end k → Reads (part.Rule rule.Assignment ∷ part.Token kind.Semicolon ∷ []) tokens n → Reads (part.Rule rule.Or ∷ k) tokens far
    → Reaches (part.Rule rule.Assignment ∷ part.Token kind.Semicolon ∷ []) tokens n far
expression_form k tokens n far t d e =
    let a = assignment_opened (part.Token kind.Semicolon ∷ []) tokens n (expression_no_underscore k tokens far e) d in
    let s = split_both (part.Rule rule.Or ∷ []) statement_end k tokens n far refl a e in
    let ends = tail_next (part.Token kind.Semicolon ∷ []) s.0 n (λ next i. (let u = token_read kind.Semicolon [] next n i in ap (λ (l : List TokenKind). ends_operand (next_kind l)) u.1)) s.2 in
    inl (same_length far n (closed_read statement_end s.0 n far refl s.2 (trail_read statement_end k s.0 far t ends s.3)))

pub body_row : (bound : ℕ) (k : List Part) (a : Alternative) (tokens n far : List TokenKind) → Bodies bound → Trail statement_end k → length tokens ≤ bound → Among a (rule_rows rule.Body)
    → Reads a.parts tokens n → Reads (part.Rule rule.Or ∷ k) tokens far → Reaches a.parts tokens n far
unfolding rule_rows
body_row bound k a tokens n far bodies t l (inl e) d i =
    subst (λ (x : Alternative). Reaches x.parts tokens n far) (sym e) (if_form bound k tokens n far bodies t l (subst (λ (x : Alternative). Reads x.parts tokens n) e d) i)
body_row bound k a tokens n far bodies t l (inr (inl e)) d i =
    subst (λ (x : Alternative). Reaches x.parts tokens n far) (sym e) (while_form bound k tokens n far bodies t l (subst (λ (x : Alternative). Reads x.parts tokens n) e d) i)
body_row bound k a tokens n far bodies t l (inr (inr (inl e))) d i =
    subst (λ (x : Alternative). Reaches x.parts tokens n far) (sym e) (for_form bound k tokens n far bodies t l (subst (λ (x : Alternative). Reads x.parts tokens n) e d) i)
body_row bound k a tokens n far bodies t l (inr (inr (inr (inl e)))) d i =
    subst (λ (x : Alternative). Reaches x.parts tokens n far) (sym e) (label_form bound k tokens n far bodies t l (subst (λ (x : Alternative). Reads x.parts tokens n) e d) i)
body_row bound k a tokens n far bodies t l (inr (inr (inr (inr (inl e))))) d i =
    subst (λ (x : Alternative). Reaches x.parts tokens n far) (sym e) (block_form k tokens n far (subst (λ (x : Alternative). Reads x.parts tokens n) e d) i)
body_row bound k a tokens n far bodies t l (inr (inr (inr (inr (inr (inl e)))))) d i =
    subst (λ (x : Alternative). Reaches x.parts tokens n far) (sym e) (switch_form k tokens n far (subst (λ (x : Alternative). Reads x.parts tokens n) e d) i)
body_row bound k a tokens n far bodies t l (inr (inr (inr (inr (inr (inr (inl e))))))) d i =
    subst (λ (x : Alternative). Reaches x.parts tokens n far) (sym e) (expression_form k tokens n far t (subst (λ (x : Alternative). Reads x.parts tokens n) e d) i)
body_row bound k a tokens n far bodies t l (inr (inr (inr (inr (inr (inr (inr m))))))) d i = elim m [ ]

pub all_bodies : (bound : ℕ) → Bodies bound
all_bodies zero k tokens n far t l d e = absurd (omega arith)
all_bodies (suc bound) k tokens n far t l d e =
    let a = rule_alone rule.Body tokens n d in
    reaches_as a.0.parts (part.Rule rule.Body ∷ []) tokens n far
    (body_row bound k a.0 tokens n far (λ i x y z u v w s. all_bodies bound i x y z u v w s) t (omega arith) (open_is_row tokens a.0 (rule_rows rule.Body) a.1) a.2 e) (λ i. rule_made rule.Body a.0 tokens far a.1 i)

-- ---- the choices

-- another form of a statement beside an assignment and its semicolon
pub body_reaches : (a : Alternative) (tokens n far : List TokenKind) → Among a (rule_rows rule.Body) → is_kind kind.Underscore (next_kind tokens) ≡ false → Reads a.parts tokens n → Reads (part.Rule rule.Assignment ∷ part.Token kind.Semicolon ∷ []) tokens far
    → Reaches a.parts tokens n far
body_reaches a tokens n far m h d e =
    body_row (length tokens) statement_end a tokens n far (λ i x y z u v w s. all_bodies (length tokens) i x y z u v w s) trail_ends (omega arith) m d (assignment_opened (part.Token kind.Semicolon ∷ []) tokens far h e)

-- a block with what follows it beside an assignment and what does
pub rest_choice : (tokens n far : List TokenKind) → Reads (part.Rule rule.Block ∷ part.Group group.ElseOption ∷ []) tokens n → Reads (part.Rule rule.Assignment ∷ part.Group group.RestEnd ∷ []) tokens far
    → Reaches (part.Rule rule.Block ∷ part.Group group.ElseOption ∷ []) tokens n far
unfolding number_of
rest_choice tokens n far d e =
    let b = block_begins (part.Group group.ElseOption ∷ []) tokens n d in
    let o = assignment_opened (part.Group group.RestEnd ∷ []) tokens far (ap (λ (l : List TokenKind). is_kind kind.Underscore (next_kind l)) b.1) e in
    elim (block_led (part.Group group.AssignTail ∷ part.Group group.RestEnd ∷ []) tokens n far d o) [
      | inl l ↦ inl l
      | inr r ↦ inr (joined_read (part.Rule rule.Block ∷ []) (part.Group group.ElseOption ∷ []) tokens (kind.KeywordElse ∷ r.more) far r.block
          (else_body_made r.more far (rest_end_read r.more far (no_assign_tail (part.Group group.RestEnd ∷ []) r.more far r.others))))
    ]
