-- A choice between two alternatives: where the first of them reads some tokens and the second reads others,
-- the second ends no later, or the first reads as far as well.
use Rattle.std.proofs.Common.{◌≡◌, ◌≤◌, Bool, true, false, inl, inr, List, [], ◌∷◌, ◌++◌, length, refl, sym, ◌∙◌, ap, subst, arith}
use Rattle.std.specs.Prelude.{if◌then◌else◌}
use Rattle.std.proofs.lemmas.Bool.{and_parts}
use Rattle.zig_tree.specs.declared.token.TokenKind.{TokenKind}
use Rattle.zig_tree.specs.declared.token.TokenKind.TheVariants as kind
use Rattle.zig_tree.specs.declared.grammar.Rule.{Rule}
use Rattle.zig_tree.specs.declared.grammar.Rule.TheVariants as rule
use Rattle.zig_tree.specs.declared.grammar.Group.{Group}
use Rattle.zig_tree.specs.declared.grammar.Group.TheVariants as group
use Rattle.zig_tree.specs.declared.grammar.When.TheVariants as when
use Rattle.zig_tree.specs.declared.grammar.Part.{Part}
use Rattle.zig_tree.specs.declared.grammar.Part.TheVariants as part
use Rattle.zig_tree.specs.Kinds.{is_kind, number_of}
use Rattle.zig_tree.specs.Grammar.{Alternative, row, holds, group_rows, rule_rows}
use Rattle.zig_tree.specs.GrammarSentences.{Pieces, next_kind, second_kind, with_shared, open_at, Among, Derives, IsFirst}
use Rattle.zig_parse.specs.Ways.{Taken, taken_sole, taken_first, taken_second}
use Rattle.zig_parse.proofs.Derived.{open_is_row, each_row, read_front, same_ends}
use Rattle.zig_parse.proofs.Shapes.{is_sole, is_closed_rule, is_closed_group}
use Rattle.zig_parse.proofs.Ends.{both_when, sole_shared}
use Rattle.zig_parse.proofs.Ranks.{rule_apart, group_apart}
use Rattle.zig_parse.proofs.Preferred.{OpenForm, none_open, one_open, two_open, open_form}
use Rattle.zig_parse.proofs.Reading.{Reads, split_read, token_read, none_read, rule_made, group_made, closed_read, less_read}
use Rattle.zig_parse.proofs.Bodies.{Reaches, body_reaches, rest_choice}

-- ---- where one alternative alone may be taken

abbrev row_sole : Alternative → Bool
row_sole a = is_sole a.at

one_alone : (tokens : List TokenKind) (a b : Alternative) (rows : List Alternative) → each_row row_sole rows ≡ true → Among a (open_at tokens rows) → Among b (open_at tokens rows) → a ≡ b
one_alone tokens a b [] h m n = elim m [ ]
one_alone tokens a b (c ∷ more) h m n =
    let here = and_parts (is_sole c.at) (each_row row_sole more) h in
    elim (both_when a b (holds (next_kind tokens) (second_kind tokens) c.at) (with_shared tokens c c.at more) (open_at tokens more) m n) [
      | inl t ↦ sole_shared tokens a c c.at more here.0 t.0 ∙ sym (sole_shared tokens b c c.at more here.0 t.1)
      | inr t ↦ one_alone tokens a b more here.1 t.0 t.1
    ]

-- ---- of two alternatives that may be taken the second reads no further, or the first reads as far

abbrev pub Settled : List Alternative → List TokenKind → Type 0
Settled rows tokens = (b a : Alternative) (n far : List TokenKind) → open_at tokens rows ≡ b ∷ a ∷ [] → Reads b.parts tokens n → Reads a.parts tokens far → Reaches b.parts tokens n far

first_among : (rows : List Alternative) (tokens : List TokenKind) (b a : Alternative) → open_at tokens rows ≡ b ∷ a ∷ [] → Among b (open_at tokens rows)
first_among rows tokens b a e = subst (Among b) (sym e) (inl refl)

second_among : (rows : List Alternative) (tokens : List TokenKind) (b a : Alternative) → open_at tokens rows ≡ b ∷ a ∷ [] → Among a (open_at tokens rows)
second_among rows tokens b a e = subst (Among a) (sym e) (inr (inl refl))

sole_settled : (rows : List Alternative) (tokens : List TokenKind) → each_row row_sole rows ≡ true → Settled rows tokens
sole_settled rows tokens h b a n far e d i =
    let same : a ≡ b = one_alone tokens a b rows h (second_among rows tokens b a e) (first_among rows tokens b a e) in
    inr (subst (λ (x : Alternative). Reads x.parts tokens far) same i)

ends_settled : (b : Alternative) (tokens n far : List TokenKind) → n ≡ far → Reaches b.parts tokens n far
ends_settled b tokens n far e = inl (omega (arith, ap length e))

closed_rule_settled : (r : Rule) (tokens : List TokenKind) → is_closed_rule r ≡ true → Settled (rule_rows r) tokens
closed_rule_settled r tokens h b a n far e d i =
    ends_settled b tokens n far (closed_read (part.Rule r ∷ []) tokens n far (rw h refl)
    (rule_made r b tokens n (first_among (rule_rows r) tokens b a e) d) (rule_made r a tokens far (second_among (rule_rows r) tokens b a e) i))

closed_group_settled : (g : Group) (tokens : List TokenKind) → is_closed_group g ≡ true → Settled (group_rows g) tokens
closed_group_settled g tokens h b a n far e d i =
    ends_settled b tokens n far (closed_read (part.Group g ∷ []) tokens n far (rw h refl)
    (group_made g b tokens n (first_among (group_rows g) tokens b a e) d) (group_made g a tokens far (second_among (group_rows g) tokens b a e) i))

-- a statement that is an expression stands after each other form that may be taken
body_two : (k next : TokenKind) (b a : Alternative) → open_at (k ∷ next ∷ []) (rule_rows rule.Body) ≡ b ∷ a ∷ []
    → (a ≡ row when.Always (part.Rule rule.Assignment ∷ part.Token kind.Semicolon ∷ [])) × (is_kind kind.Underscore k ≡ false)
unfolding rule_rows number_of
body_two kind.Identifier next b a e = (cc, refl)
body_two kind.LeftBrace next b a e = (cc, refl)
body_two kind.KeywordSwitch next b a e = (cc, refl)
body_two _ next b a e = absurd (cc)

body_settled : (tokens : List TokenKind) → Settled (rule_rows rule.Body) tokens
unfolding rule_rows number_of
body_settled tokens b a n far e d i =
    let two = body_two (next_kind tokens) (second_kind tokens) b a e in
    body_reaches b tokens n far (open_is_row tokens b (rule_rows rule.Body) (first_among (rule_rows rule.Body) tokens b a e)) two.1 d (subst (λ (x : Alternative). Reads x.parts tokens far) two.0 i)

-- of two rows the first is shared
two_of : (t : Bool) (x y b a : Alternative) → (if t then x ∷ y ∷ [] else y ∷ []) ≡ b ∷ a ∷ [] → (b ≡ x) × (a ≡ y)
two_of true x y b a e = (cc, cc)
two_of false x y b a e = absurd (cc)

rest_settled : (tokens : List TokenKind) → Settled (rule_rows rule.Rest) tokens
unfolding rule_rows
rest_settled tokens b a n far e d i =
    let x = row (when.Both kind.LeftBrace) (part.Rule rule.Block ∷ part.Group group.ElseOption ∷ []) in
    let y = row when.Always (part.Rule rule.Assignment ∷ part.Group group.RestEnd ∷ []) in
    let two = two_of (is_kind kind.LeftBrace (next_kind tokens)) x y b a e in
    subst (λ (z : Alternative). Reaches z.parts tokens n far) (sym two.0)
    (rest_choice tokens n far (subst (λ (z : Alternative). Reads z.parts tokens n) two.0 d) (subst (λ (z : Alternative). Reads z.parts tokens far) two.1 i))

tag_settled : (tokens : List TokenKind) → Settled (group_rows group.UnionTag) tokens
unfolding group_rows
tag_settled tokens b a n far e d i =
    let x = row (when.Both kind.KeywordEnum) (part.Token kind.KeywordEnum ∷ []) in
    let y = row when.Always (part.Rule rule.Or ∷ []) in
    let two = two_of (is_kind kind.KeywordEnum (next_kind tokens)) x y b a e in
    let t = token_read kind.KeywordEnum [] tokens n (subst (λ (z : Alternative). Reads z.parts tokens n) two.0 d) in
    let less = less_read (part.Rule rule.Or ∷ []) tokens far refl (subst (λ (z : Alternative). Reads z.parts tokens far) two.1 i) in
    inl (omega (arith, ap length t.1, ap length (none_read t.0 n t.2)))

pub rule_settled : (r : Rule) (tokens : List TokenKind) → Settled (rule_rows r) tokens
unfolding rule_rows
rule_settled rule.Body tokens = body_settled tokens
rule_settled rule.Rest tokens = rest_settled tokens
rule_settled rule.Statement tokens = sole_settled (rule_rows rule.Statement) tokens refl
rule_settled rule.IfStatement tokens = sole_settled (rule_rows rule.IfStatement) tokens refl
rule_settled rule.WhileStatement tokens = sole_settled (rule_rows rule.WhileStatement) tokens refl
rule_settled rule.ForStatement tokens = sole_settled (rule_rows rule.ForStatement) tokens refl
rule_settled r tokens = closed_rule_settled r tokens refl

pub group_settled : (g : Group) (tokens : List TokenKind) → Settled (group_rows g) tokens
unfolding group_rows
group_settled group.UnionTag tokens = tag_settled tokens
group_settled group.Statements tokens = sole_settled (group_rows group.Statements) tokens refl
group_settled group.ComptimeStatement tokens = sole_settled (group_rows group.ComptimeStatement) tokens refl
group_settled group.LabelledStatement tokens = sole_settled (group_rows group.LabelledStatement) tokens refl
group_settled group.ElseOption tokens = sole_settled (group_rows group.ElseOption) tokens refl
group_settled group.RestEnd tokens = sole_settled (group_rows group.RestEnd) tokens refl
group_settled g tokens = closed_group_settled g tokens refl

-- ---- what is taken

taken_by : (later : List Part) (tokens end : List TokenKind) (rows : List Alternative) (a : Alternative) → OpenForm rows → Among a rows → ((b : Alternative) → rows ≡ b ∷ a ∷ [] → (p : Pieces) → Derives (b.parts ++ later) tokens end p → ⊥)
    → (choices : List Bool) × Taken later tokens end rows a choices
taken_by later tokens end rows a none_open m f = elim m [ ]
taken_by later tokens end rows a (one_open x) (inl e) f = ([], subst (λ (c : Alternative). Taken later tokens end (x ∷ []) c []) (sym e) (taken_sole x))
taken_by later tokens end rows a (one_open x) (inr n) f = elim n [ ]
taken_by later tokens end rows a (two_open x y d) (inl e) f = (false ∷ [], subst (λ (c : Alternative). Taken later tokens end (x ∷ y ∷ []) c (false ∷ [])) (sym e) (taken_first x y))
taken_by later tokens end rows a (two_open x y d) (inr (inl e)) f = (
  true ∷ [],
  subst (λ (c : Alternative). Taken later tokens end (x ∷ y ∷ []) c (true ∷ [])) (sym e) (taken_second y x (f x (ap (λ (c : Alternative). x ∷ c ∷ []) (sym e)))),
)
taken_by later tokens end rows a (two_open x y d) (inr (inr n)) f = elim n [ ]

-- no way by one of some alternatives, before what comes later, ends sooner than here
abbrev pub Least : List Alternative → List Part → List TokenKind → List TokenKind → List TokenKind → Type 0
Least rows later tokens mid end = (b : Alternative) (n : List TokenKind) → Among b (open_at tokens rows) → Reads b.parts tokens n → Reads later n end → length n ≤ length mid

first_leads_nowhere : (rows : List Alternative) (a : Alternative) (later : List Part) (tokens mid end : List TokenKind) → Settled rows tokens → Reads a.parts tokens mid → IsFirst (open_at tokens rows) a tokens mid → Least rows later tokens mid end
    → (b : Alternative) → open_at tokens rows ≡ b ∷ a ∷ [] → (p : Pieces) → Derives (b.parts ++ later) tokens end p → ⊥
first_leads_nowhere rows a later tokens mid end settled d first least b e p i =
    let s = split_read b.parts later tokens end (p, i) in
    let low = least b s.0 (first_among rows tokens b a e) s.1 s.2 in
    let never : Reads b.parts tokens mid → ⊥ = λ r. first (b ∷ []) [] e b (inl refl) r.0 r.1 in
    elim (settled b a s.0 mid e s.1 d) [
      | inl high ↦ let x = read_front b.parts tokens s.0 s.1.0 s.1.1 in
          let y = read_front a.parts tokens mid d.0 d.1 in
          never (subst (Reads b.parts tokens) (same_ends x.0 y.0 s.0 mid (sym x.1 ∙ y.1) (omega arith)) s.1)
      | inr r ↦ never r
    ]

pub rule_taken : (r : Rule) (a : Alternative) (later : List Part) (tokens mid end : List TokenKind) → Among a (open_at tokens (rule_rows r)) → Reads a.parts tokens mid → IsFirst (open_at tokens (rule_rows r)) a tokens mid → Least (rule_rows r) later tokens mid end
    → (choices : List Bool) × Taken later tokens end (open_at tokens (rule_rows r)) a choices
rule_taken r a later tokens mid end m d first least =
    taken_by later tokens end (open_at tokens (rule_rows r)) a (open_form tokens (rule_rows r) (rule_apart r)) m
    (λ b e p i. first_leads_nowhere (rule_rows r) a later tokens mid end (rule_settled r tokens) d first least b e p i)

pub group_taken : (g : Group) (a : Alternative) (later : List Part) (tokens mid end : List TokenKind) → Among a (open_at tokens (group_rows g)) → Reads a.parts tokens mid → IsFirst (open_at tokens (group_rows g)) a tokens mid → Least (group_rows g) later tokens mid end
    → (choices : List Bool) × Taken later tokens end (open_at tokens (group_rows g)) a choices
group_taken g a later tokens mid end m d first least =
    taken_by later tokens end (open_at tokens (group_rows g)) a (open_form tokens (group_rows g) (group_apart g)) m
    (λ b e p i. first_leads_nowhere (group_rows g) a later tokens mid end (group_settled g tokens) d first least b e p i)

-- a group where one alternative alone may be taken has no choice
pub statements_taken : (a : Alternative) (later : List Part) (tokens end : List TokenKind) → Among a (open_at tokens (group_rows group.Statements)) → (choices : List Bool) × Taken later tokens end (open_at tokens (group_rows group.Statements)) a choices
unfolding group_rows
statements_taken a later tokens end m = by (open_at tokens (group_rows group.Statements)) (open_form tokens (group_rows group.Statements) (group_apart group.Statements)) m (λ x y i j. one_alone tokens x y (group_rows group.Statements) refl i j)
  where
    by : (rows : List Alternative) → OpenForm rows → Among a rows → ((x y : Alternative) → Among x rows → Among y rows → x ≡ y) → (choices : List Bool) × Taken later tokens end rows a choices
    by rows none_open n f = elim n [ ]
    by rows (one_open x) (inl e) f = ([], subst (λ (c : Alternative). Taken later tokens end (x ∷ []) c []) (sym e) (taken_sole x))
    by rows (one_open x) (inr n) f = elim n [ ]
    by rows (two_open x y d) n f = absurd (d (f x y (inl refl) (inr (inl refl))))
