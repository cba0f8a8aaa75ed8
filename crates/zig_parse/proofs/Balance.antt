-- Each rule reads a token at least, and the brackets that parts read pair up.
use Rattle.std.proofs.Common.{◌≡◌, ℕ, zero, suc, ◌+◌, ◌<◌, Bool, true, false, ◌&&◌, ◌⊎◌, inl, inr, List, length, Option, Some, None, refl, ◌∙◌, ap, arith}
use Rattle.std.specs.Prelude.{not, if◌then◌else◌}
use Rattle.std.proofs.lemmas.Bool.{and_parts, or_cases, not-true}
use Rattle.zig_tree.specs.declared.token.TokenKind.{TokenKind}
use Rattle.zig_tree.specs.declared.token.TokenKind.TheVariants as kind
use Rattle.zig_tree.specs.declared.grammar.Rule.{Rule}
use Rattle.zig_tree.specs.declared.grammar.Group.{Group}
use Rattle.zig_tree.specs.declared.grammar.Group.TheVariants as group
use Rattle.zig_tree.specs.declared.grammar.TokenClass.{TokenClass}
use Rattle.zig_tree.specs.declared.grammar.Part.{Part}
use Rattle.zig_tree.specs.Kinds.{has_kind}
use Rattle.zig_tree.specs.Grammar.{Alternative, group_rows, rule_rows}
use Rattle.zig_tree.specs.GrammarSentences.{Pieces, open_at, Among, Derives, derives_none, derives_token, derives_one_of, derives_group, derives_rule}
use Rattle.zig_parse.proofs.Derived.{open_is_row, row_tested, no_longer}
use Rattle.zig_parse.proofs.Shapes.{Turn, opens, closes, keeps, turn_of, brace_turn, parenthesis_turn, skip, skip_by, sheds, is_plain, settle, settle_by, shed, is_none_left, count, fills, is_filled, row_fills, row_pairs}
use Rattle.zig_parse.proofs.Tables.{rule_filled, declared_filled, rule_braces, rule_parentheses, group_braces, group_parentheses}

-- ---- a token at least

filled_group : (g : Group) (a : Alternative) (tokens : List TokenKind) → is_filled g ≡ true → Among a (open_at tokens (group_rows g)) → fills a.parts ≡ true
filled_group g a tokens h m = by g h (open_is_row tokens a (group_rows g) m)
  where
    by : (x : Group) → is_filled x ≡ true → Among a (group_rows x) → fills a.parts ≡ true
    by group.Declared e n = row_tested row_fills a (group_rows group.Declared) declared_filled n
    by _ e n = absurd (cc)

pub reads_some : (ps : List Part) (tokens rest : List TokenKind) (p : Pieces) → Derives ps tokens rest p → fills ps ≡ true → length rest < length tokens
reads_some ps tokens rest p (derives_none _) h = absurd (cc)
reads_some ps tokens rest p (derives_token k more after _ later d) h = omega (arith, no_longer more after rest later d)
reads_some ps tokens rest p (derives_one_of c k more after _ later e d) h = omega (arith, no_longer more after rest later d)
reads_some ps tokens rest p (derives_group g a more _ next _ inside later m d e) h =
    elim (or_cases (is_filled g) (fills more) h) [
      | inl f ↦ let s = reads_some a.parts tokens next inside d (filled_group g a tokens f m) in omega (arith, no_longer more next rest later e)
      | inr f ↦ let s = reads_some more next rest later e f in omega (arith, no_longer a.parts tokens next inside d)
    ]
reads_some ps tokens rest p (derives_rule r a more _ next _ inside later m d e) h =
    let s = reads_some a.parts tokens next inside d (row_tested row_fills a (rule_rows r) (rule_filled r) (open_is_row tokens a (rule_rows r) m)) in
    omega (arith, no_longer more next rest later e)

-- ---- brackets

none_left : (o : Option ℕ) → is_none_left o ≡ true → o ≡ Some 0
none_left None h = absurd (cc)
none_left (Some zero) h = refl
none_left (Some (suc n)) h = absurd (cc)

-- a token of a plain class is no bracket
plain_parts : (c : TokenClass) → is_plain c ≡ true → (has_kind c kind.LeftBrace ≡ false) × (has_kind c kind.RightBrace ≡ false) × (has_kind c kind.LeftParen ≡ false) × (has_kind c kind.RightParen ≡ false)
plain_parts c h =
    let a = and_parts (not (has_kind c kind.LeftBrace) && not (has_kind c kind.RightBrace) && not (has_kind c kind.LeftParen)) (not (has_kind c kind.RightParen)) h in
    let b = and_parts (not (has_kind c kind.LeftBrace) && not (has_kind c kind.RightBrace)) (not (has_kind c kind.LeftParen)) a.0 in
    let d = and_parts (not (has_kind c kind.LeftBrace)) (not (has_kind c kind.RightBrace)) b.0 in
    (not-true _ d.0, not-true _ d.1, not-true _ b.1, not-true _ a.1)

brace_or : (k : TokenKind) → (brace_turn k ≡ keeps) ⊎ ((k ≡ kind.LeftBrace) ⊎ (k ≡ kind.RightBrace))
brace_or kind.LeftBrace = inr (inl refl)
brace_or kind.RightBrace = inr (inr refl)
brace_or _ = inl refl

parenthesis_or : (k : TokenKind) → (parenthesis_turn k ≡ keeps) ⊎ ((k ≡ kind.LeftParen) ⊎ (k ≡ kind.RightParen))
parenthesis_or kind.LeftParen = inr (inl refl)
parenthesis_or kind.RightParen = inr (inr refl)
parenthesis_or _ = inl refl

not_this : (c : TokenClass) (j k : TokenKind) → has_kind c j ≡ false → has_kind c k ≡ true → k ≡ j → ⊥
not_this c j k f t e = let x : has_kind c k ≡ has_kind c j = ap (has_kind c) e in cc

plain_keeps : (braces : Bool) (c : TokenClass) (k : TokenKind) → is_plain c ≡ true → has_kind c k ≡ true → turn_of braces k ≡ keeps
plain_keeps true c k h t =
    let f = plain_parts c h in
    elim (brace_or k) [
      | inl e ↦ e
      | inr (inl e) ↦ absurd (not_this c kind.LeftBrace k f.0 t e)
      | inr (inr e) ↦ absurd (not_this c kind.RightBrace k f.1 t e)
    ]
plain_keeps false c k h t =
    let f = plain_parts c h in
    elim (parenthesis_or k) [
      | inl e ↦ e
      | inr (inl e) ↦ absurd (not_this c kind.LeftParen k f.2 t e)
      | inr (inr e) ↦ absurd (not_this c kind.RightParen k f.3 t e)
    ]

-- what is skipped from tokens on is what is skipped after one of them
token_skipped : (t : Turn) (depth end x d : ℕ) (ts : List TokenKind) (go : ℕ → Option (List TokenKind)) (static : ℕ → Option ℕ) (goal : Option (List TokenKind))
    → settle_by t depth static ≡ Some end → x ≡ depth + d → ((n z : ℕ) → static n ≡ Some end → z ≡ n + d → go z ≡ goal) → skip_by t x ts go ≡ goal
token_skipped opens depth end x d ts go static goal h e f = f (suc depth) (suc x) h (omega arith)
token_skipped keeps depth end x d ts go static goal h e f = f depth x h e
token_skipped closes zero end x d ts go static goal h e f = absurd (cc)
token_skipped closes (suc depth) end zero d ts go static goal h e f = absurd (omega arith)
token_skipped closes (suc depth) end (suc x) d ts go static goal h e f = f depth x h (omega arith)

plain_settled : (t : Bool) (o : Option ℕ) (end : ℕ) → (if t then o else None) ≡ Some end → (t ≡ true) × (o ≡ Some end)
plain_settled true o end h = (refl, h)
plain_settled false o end h = absurd (cc)

group_skipped : (sheds : Bool) (depth end x d : ℕ) (static : ℕ → Option ℕ) (from goal : Option (List TokenKind))
    → shed sheds depth static ≡ Some end → x ≡ depth + d → ((n z : ℕ) → static n ≡ Some end → z ≡ n + d → x ≡ count sheds + z → from ≡ goal) → from ≡ goal
group_skipped false depth end x d static from goal h e f = f depth x h e (omega arith)
group_skipped true zero end x d static from goal h e f = absurd (cc)
group_skipped true (suc depth) end x d static from goal h e f = f depth (depth + d) h refl (omega arith)

rule_pairs : (braces : Bool) (r : Rule) (a : Alternative) (tokens : List TokenKind) → Among a (open_at tokens (rule_rows r)) → settle braces 0 a.parts ≡ Some 0
rule_pairs true r a tokens m = none_left (settle true 0 a.parts) (row_tested (row_pairs true false) a (rule_rows r) (rule_braces r) (open_is_row tokens a (rule_rows r) m))
rule_pairs false r a tokens m = none_left (settle false 0 a.parts) (row_tested (row_pairs false false) a (rule_rows r) (rule_parentheses r) (open_is_row tokens a (rule_rows r) m))

group_pairs : (braces : Bool) (g : Group) (a : Alternative) (tokens : List TokenKind) → Among a (open_at tokens (group_rows g)) → settle braces (count (sheds braces g)) a.parts ≡ Some 0
group_pairs true g a tokens m = none_left (settle true (count (sheds true g)) a.parts) (row_tested (row_pairs true (sheds true g)) a (group_rows g) (group_braces g) (open_is_row tokens a (group_rows g) m))
group_pairs false g a tokens m = none_left (settle false (count (sheds false g)) a.parts) (row_tested (row_pairs false (sheds false g)) a (group_rows g) (group_parentheses g) (open_is_row tokens a (group_rows g) m))

pub brackets_pair : (braces : Bool) (ps : List Part) (tokens rest : List TokenKind) (p : Pieces) → Derives ps tokens rest p
    → (depth end x y d : ℕ) → settle braces depth ps ≡ Some end → x ≡ depth + d → y ≡ end + d → skip braces x tokens ≡ skip braces y rest
brackets_pair braces ps tokens rest p (derives_none _) depth end x y d h e f = let s : depth ≡ end = cc in ap (λ (n : ℕ). skip braces n rest) (omega arith)
brackets_pair braces ps tokens rest p (derives_token k more after _ later t) depth end x y d h e f =
    token_skipped (turn_of braces k) depth end x d after (λ n. skip braces n after) (λ n. settle braces n more) (skip braces y rest) h e
    (λ n z i j. brackets_pair braces more after rest later t n end z y d i j f)
brackets_pair braces ps tokens rest p (derives_one_of c k more after _ later i t) depth end x y d h e f =
    let s = plain_settled (is_plain c) (settle braces depth more) end h in
    ap (λ (w : Turn). skip_by w x after (λ n. skip braces n after)) (plain_keeps braces c k s.0 i) ∙ brackets_pair braces more after rest later t depth end x y d s.1 e f
brackets_pair braces ps tokens rest p (derives_group g a more _ next _ inside later m t u) depth end x y d h e f =
    group_skipped (sheds braces g) depth end x d (λ n. settle braces n more) (skip braces x tokens) (skip braces y rest) h e
    (λ n z i j k. brackets_pair braces a.parts tokens next inside t (count (sheds braces g)) 0 x z z (group_pairs braces g a tokens m) k (omega arith) ∙ brackets_pair braces more next rest later u n end z y d i j f)
brackets_pair braces ps tokens rest p (derives_rule r a more _ next _ inside later m t u) depth end x y d h e f =
    brackets_pair braces a.parts tokens next inside t 0 0 x x x (rule_pairs braces r a tokens m) (omega arith) (omega arith) ∙ brackets_pair braces more next rest later u depth end x y d h e f
