-- A statement begins with a token that begins statements.
use Rattle.std.proofs.Common.{◌≡◌, Bool, true, false, ◌||◌, inl, inr, List, [], ◌∷◌, refl, sym, subst}
use Rattle.std.specs.Prelude.{if◌then◌else◌}
use Rattle.std.proofs.lemmas.Bool.{and_parts, eq-eqb}
use Rattle.zig_tree.specs.declared.token.TokenKind.{TokenKind}
use Rattle.zig_tree.specs.declared.token.TokenKind.TheVariants as kind
use Rattle.zig_tree.specs.declared.grammar.Rule.{Rule}
use Rattle.zig_tree.specs.declared.grammar.Rule.TheVariants as rule
use Rattle.zig_tree.specs.declared.grammar.Group.TheVariants as group
use Rattle.zig_tree.specs.declared.grammar.TokenClass.TheVariants as class
use Rattle.zig_tree.specs.declared.grammar.When.{When}
use Rattle.zig_tree.specs.declared.grammar.When.TheVariants as when
use Rattle.zig_tree.specs.declared.grammar.Part.{Part}
use Rattle.zig_tree.specs.declared.grammar.Part.TheVariants as part
use Rattle.zig_tree.specs.Kinds.{has_kind, is_kind, number_of, is_statement_start, is_statement_word, is_expression_start, is_prefix_operator, is_operand_word, is_type_start}
use Rattle.zig_tree.specs.Grammar.{Alternative, holds, row, rule_rows, group_rows}
use Rattle.zig_tree.specs.GrammarSentences.{Pieces, next_kind, second_kind, first_that_holds, with_shared, open_at, Among, Derives, derives_none, derives_token, derives_one_of, derives_group, derives_rule}
use Rattle.zig_parse.proofs.Tables.{same_kind}

-- which tokens some rules begin with
leads_rule : Rule → TokenKind → Bool
leads_rule rule.Statement k = is_statement_start k
leads_rule rule.Body k = is_statement_start k
leads_rule rule.Assignment k = is_statement_start k
leads_rule rule.Or k = is_expression_start k
leads_rule rule.And k = is_expression_start k
leads_rule rule.Compare k = is_expression_start k
leads_rule rule.Bit k = is_expression_start k
leads_rule rule.Shift k = is_expression_start k
leads_rule rule.Add k = is_expression_start k
leads_rule rule.Multiply k = is_expression_start k
leads_rule rule.Prefix k = is_expression_start k
leads_rule rule.Primary k = is_expression_start k
leads_rule _ k = true

leads : List Part → TokenKind → Bool
leads [] k = true
leads (part.Token j ∷ ps) k = is_kind j k
leads (part.OneOf c ∷ ps) k = has_kind c k
leads (part.Rule r ∷ ps) k = leads_rule r k
leads (part.Group g ∷ ps) k = true

-- ---- an alternative that may be taken holds

data IsOpen (tokens : List TokenKind) (a : Alternative) (rows : List Alternative) : Type 0 where
  is_open : Among a rows → holds (next_kind tokens) (second_kind tokens) a.at ≡ true → IsOpen tokens a rows

later_open : (tokens : List TokenKind) (a b : Alternative) (rows : List Alternative) → IsOpen tokens a rows → IsOpen tokens a (b ∷ rows)
later_open tokens a b rows (is_open m h) = is_open (inr m) h

first_open_by : (tokens : List TokenKind) (a b : Alternative) (more : List Alternative) (t : Bool) → holds (next_kind tokens) (second_kind tokens) b.at ≡ t → (Among a (first_that_holds tokens more) → IsOpen tokens a more)
    → Among a (if t then b ∷ [] else first_that_holds tokens more) → IsOpen tokens a (b ∷ more)
first_open_by tokens a b more true h f (inl e) = is_open (inl e) (subst (λ (x : Alternative). holds (next_kind tokens) (second_kind tokens) x.at ≡ true) (sym e) h)
first_open_by tokens a b more true h f (inr n) = elim n [ ]
first_open_by tokens a b more false h f m = later_open tokens a b more (f m)

first_open : (tokens : List TokenKind) (a : Alternative) (rows : List Alternative) → Among a (first_that_holds tokens rows) → IsOpen tokens a rows
first_open tokens a [] m = elim m [ ]
first_open tokens a (b ∷ more) m = first_open_by tokens a b more (holds (next_kind tokens) (second_kind tokens) b.at) refl (λ n. first_open tokens a more n) m

open_by : (tokens : List TokenKind) (a b : Alternative) (w : When) (more : List Alternative) → holds (next_kind tokens) (second_kind tokens) b.at ≡ true → Among a (with_shared tokens b w more) → IsOpen tokens a (b ∷ more)
open_by tokens a b w more h m = by w m
  where
    here : a ≡ b → IsOpen tokens a (b ∷ more)
    here e = is_open (inl e) (subst (λ (x : Alternative). holds (next_kind tokens) (second_kind tokens) x.at ≡ true) (sym e) h)

    by : (v : When) → Among a (with_shared tokens b v more) → IsOpen tokens a (b ∷ more)
    by (when.Both _) (inl e) = here e
    by (when.Both _) (inr n) = later_open tokens a b more (first_open tokens a more n)
    by when.Always (inl e) = here e
    by when.Always (inr n) = elim n [ ]
    by (when.Is _) (inl e) = here e
    by (when.Is _) (inr n) = elim n [ ]
    by (when.In _) (inl e) = here e
    by (when.In _) (inr n) = elim n [ ]
    by when.Label (inl e) = here e
    by when.Label (inr n) = elim n [ ]

open_if : (tokens : List TokenKind) (a b : Alternative) (more : List Alternative) (t : Bool) → holds (next_kind tokens) (second_kind tokens) b.at ≡ t → (Among a (open_at tokens more) → IsOpen tokens a more)
    → Among a (if t then with_shared tokens b b.at more else open_at tokens more) → IsOpen tokens a (b ∷ more)
open_if tokens a b more true h f m = open_by tokens a b b.at more h m
open_if tokens a b more false h f m = later_open tokens a b more (f m)

open_holds : (tokens : List TokenKind) (a : Alternative) (rows : List Alternative) → Among a (open_at tokens rows) → IsOpen tokens a rows
open_holds tokens a [] m = elim m [ ]
open_holds tokens a (b ∷ more) m = open_if tokens a b more (holds (next_kind tokens) (second_kind tokens) b.at) refl (λ n. open_holds tokens a more n) m

-- ---- what holds at each row, each told alone

EachRow : (Alternative → Type 0) → List Alternative → Type 0
EachRow P [] = Unit {0}
EachRow P (a ∷ more) = P a × EachRow P more

at_row : (P : Alternative → Type 0) (a : Alternative) (rows : List Alternative) → EachRow P rows → Among a rows → P a
unfolding EachRow
at_row P a [] h m = elim m [ ]
at_row P a (b ∷ more) h (inl e) = subst P (sym e) h.0
at_row P a (b ∷ more) h (inr n) = at_row P a more h.1 n

Leads : Rule → TokenKind → TokenKind → Alternative → Type 0
Leads r k next a = holds k next a.at ≡ true → leads a.parts k ≡ true → leads_rule r k ≡ true

in_last : (x y z : Bool) → z ≡ true → (x || y || z) ≡ true
in_last true y z h = refl
in_last false true z h = refl
in_last false false z h = h

in_middle : (x y z : Bool) → y ≡ true → (x || y || z) ≡ true
in_middle true y z h = refl
in_middle false true z h = refl
in_middle false false z h = absurd (cc)

in_first : (x y z : Bool) → x ≡ true → (x || y || z) ≡ true
in_first true y z h = refl
in_first false y z h = absurd (cc)

in_second : (x y : Bool) → y ≡ true → (x || y) ≡ true
in_second true y h = refl
in_second false y h = h

told : (f : TokenKind → Bool) (j k : TokenKind) → is_kind j k ≡ true → f j ≡ true → f k ≡ true
told f j k h t = subst (λ (x : TokenKind). f x ≡ true) (same_kind j k h) t

told_back : (f : TokenKind → Bool) (j k : TokenKind) → is_kind k j ≡ true → f j ≡ true → f k ≡ true
told_back f j k h t = subst (λ (x : TokenKind). f x ≡ true) (sym (same_kind k j h)) t

expression : (k : TokenKind) → is_expression_start k ≡ true → is_statement_start k ≡ true
unfolding is_statement_start
expression k h = in_second (is_statement_word k) (is_expression_start k) h

prefix : (k : TokenKind) → is_prefix_operator k ≡ true → is_expression_start k ≡ true
unfolding is_expression_start
prefix k h = in_first (is_prefix_operator k) (is_operand_word k) (is_type_start k) h

type : (k : TokenKind) → is_type_start k ≡ true → is_expression_start k ≡ true
unfolding is_expression_start
type k h = in_last (is_prefix_operator k) (is_operand_word k) (is_type_start k) h

primary_led : (k next : TokenKind) → EachRow (Leads rule.Primary k next) (rule_rows rule.Primary)
unfolding EachRow Leads leads leads_rule rule_rows is_expression_start is_prefix_operator is_operand_word is_type_start
primary_led k next = (
  λ h l. told is_expression_start kind.KeywordIf k h refl,
  (
    λ h l. told_back is_expression_start kind.Identifier k (and_parts (is_kind k kind.Identifier) (is_kind next kind.Colon) h).0 refl,
    (
      λ h l. told is_expression_start kind.LeftBrace k h refl,
      (
        λ h l. told is_expression_start kind.KeywordWhile k h refl,
        (
          λ h l. told is_expression_start kind.KeywordFor k h refl,
          (
            λ h l. told is_expression_start kind.KeywordBreak k h refl,
            (
              λ h l. told is_expression_start kind.KeywordContinue k h refl,
              (
                λ h l. told is_expression_start kind.KeywordReturn k h refl,
                (
                  λ h l. told is_expression_start kind.KeywordComptime k h refl,
                  (λ h l. type k h, tt),
                ),
              ),
            ),
          ),
        ),
      ),
    ),
  ),
)

statement_led : (k next : TokenKind) → EachRow (Leads rule.Statement k next) (rule_rows rule.Statement)
unfolding EachRow Leads leads leads_rule rule_rows is_statement_start is_statement_word is_expression_start is_prefix_operator is_operand_word is_type_start
statement_led k next = (
  λ h l. told is_statement_start kind.KeywordConst k h refl,
  (
    λ h l. told is_statement_start kind.KeywordVar k h refl,
    (
      λ h l. told is_statement_start kind.KeywordComptime k h refl,
      (
        λ h l. told is_statement_start kind.KeywordDefer k h refl,
        (
          λ h l. told is_statement_start kind.KeywordErrdefer k h refl,
          (λ h l. l, tt),
        ),
      ),
    ),
  ),
)

body_led : (k next : TokenKind) → EachRow (Leads rule.Body k next) (rule_rows rule.Body)
unfolding EachRow Leads leads leads_rule rule_rows is_statement_start is_statement_word is_expression_start is_prefix_operator is_operand_word is_type_start
body_led k next = (
  λ h l. told is_statement_start kind.KeywordIf k h refl,
  (
    λ h l. told is_statement_start kind.KeywordWhile k h refl,
    (
      λ h l. told is_statement_start kind.KeywordFor k h refl,
      (
        λ h l. told is_statement_start kind.Identifier k h refl,
        (
          λ h l. told is_statement_start kind.LeftBrace k h refl,
          (
            λ h l. told is_statement_start kind.KeywordSwitch k h refl,
            (λ h l. l, tt),
          ),
        ),
      ),
    ),
  ),
)

assignment_led : (k next : TokenKind) → EachRow (Leads rule.Assignment k next) (rule_rows rule.Assignment)
unfolding EachRow Leads leads leads_rule rule_rows is_statement_start is_statement_word is_expression_start is_prefix_operator is_operand_word is_type_start
assignment_led k next = (λ h l. told is_statement_start kind.Underscore k h refl, (λ h l. expression k l, tt))

rows_lead : (r : Rule) (k next : TokenKind) (a : Alternative) → Among a (rule_rows r) → Leads r k next a
unfolding EachRow Leads leads leads_rule rule_rows
rows_lead rule.Statement k next a m = at_row (Leads rule.Statement k next) a (rule_rows rule.Statement) (statement_led k next) m
rows_lead rule.Body k next a m = at_row (Leads rule.Body k next) a (rule_rows rule.Body) (body_led k next) m
rows_lead rule.Assignment k next a m = at_row (Leads rule.Assignment k next) a (rule_rows rule.Assignment) (assignment_led k next) m
rows_lead rule.Or k next a m = at_row (Leads rule.Or k next) a (rule_rows rule.Or) (λ h l. l, tt) m
rows_lead rule.And k next a m = at_row (Leads rule.And k next) a (rule_rows rule.And) (λ h l. l, tt) m
rows_lead rule.Compare k next a m = at_row (Leads rule.Compare k next) a (rule_rows rule.Compare) (λ h l. l, tt) m
rows_lead rule.Bit k next a m = at_row (Leads rule.Bit k next) a (rule_rows rule.Bit) (λ h l. l, tt) m
rows_lead rule.Shift k next a m = at_row (Leads rule.Shift k next) a (rule_rows rule.Shift) (λ h l. l, tt) m
rows_lead rule.Add k next a m = at_row (Leads rule.Add k next) a (rule_rows rule.Add) (λ h l. l, tt) m
rows_lead rule.Multiply k next a m = at_row (Leads rule.Multiply k next) a (rule_rows rule.Multiply) (λ h l. l, tt) m
rows_lead rule.Prefix k next a m = at_row (Leads rule.Prefix k next) a (rule_rows rule.Prefix) (λ h l. prefix k h, (λ h l. l, tt)) m
rows_lead rule.Primary k next a m = at_row (Leads rule.Primary k next) a (rule_rows rule.Primary) (primary_led k next) m
rows_lead _ k next a m = λ h l. refl

rule_leads : (r : Rule) (tokens : List TokenKind) (a : Alternative) → IsOpen tokens a (rule_rows r) → leads a.parts (next_kind tokens) ≡ true → leads_rule r (next_kind tokens) ≡ true
unfolding Leads
rule_leads r tokens a (is_open m h) l = rows_lead r (next_kind tokens) (second_kind tokens) a m h l

begins : (ps : List Part) (tokens rest : List TokenKind) (p : Pieces) → Derives ps tokens rest p → leads ps (next_kind tokens) ≡ true
unfolding leads
begins ps tokens rest p (derives_none _) = refl
begins ps tokens rest p (derives_token k more after _ later d) = eq-eqb (number_of k) (number_of k) refl
begins ps tokens rest p (derives_one_of c k more after _ later h d) = h
begins ps tokens rest p (derives_group g a more _ next _ inside later m d e) = refl
begins ps tokens rest p (derives_rule r a more _ next _ inside later m d e) = rule_leads r tokens a (open_holds tokens a (rule_rows r) m) (begins a.parts tokens next inside d)

-- the alternative of a statement before others
pub division : Alternative
division = row (when.In class.StatementStart) (part.Rule rule.Statement ∷ part.Group group.Statements ∷ [])

pub division_parts : division.parts ≡ part.Rule rule.Statement ∷ part.Group group.Statements ∷ []
unfolding division
division_parts = refl

statement_begins : (ps : List Part) (tokens rest : List TokenKind) (p : Pieces) → Derives (part.Rule rule.Statement ∷ ps) tokens rest p → is_statement_start (next_kind tokens) ≡ true
unfolding leads leads_rule
statement_begins ps tokens rest p d = begins (part.Rule rule.Statement ∷ ps) tokens rest p d

division_if : (t : Bool) → t ≡ true → Among division (if t then division ∷ [] else (row when.Always [] ∷ []))
division_if true h = inl refl
division_if false h = absurd (cc)

pub division_open : (ps : List Part) (tokens rest : List TokenKind) (p : Pieces) → Derives (part.Rule rule.Statement ∷ ps) tokens rest p → Among division (open_at tokens (group_rows group.Statements))
unfolding division group_rows
division_open ps tokens rest p d = division_if (is_statement_start (next_kind tokens)) (statement_begins ps tokens rest p d)

pub expression_begins : (ps : List Part) (tokens rest : List TokenKind) (p : Pieces) → Derives (part.Rule rule.Or ∷ ps) tokens rest p → is_expression_start (next_kind tokens) ≡ true
unfolding leads leads_rule
expression_begins ps tokens rest p d = begins (part.Rule rule.Or ∷ ps) tokens rest p d
