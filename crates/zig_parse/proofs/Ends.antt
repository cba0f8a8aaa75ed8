-- All derivations of some tokens by parts that end at one place do end there.
use Rattle.std.proofs.Common.{◌≡◌, Bool, true, false, ◌&&◌, ◌⊎◌, inl, inr, List, [], ◌∷◌, ◌++◌, Some, refl, sym, ◌∙◌, ap, subst}
use Rattle.std.specs.Prelude.{if◌then◌else◌}
use Rattle.std.proofs.lemmas.Bool.{and_parts, or_cases}
use Rattle.zig_tree.specs.declared.token.TokenKind.{TokenKind}
use Rattle.zig_tree.specs.declared.token.TokenKind.TheVariants as kind
use Rattle.zig_tree.specs.declared.grammar.Rule.{Rule}
use Rattle.zig_tree.specs.declared.grammar.Rule.TheVariants as rule
use Rattle.zig_tree.specs.declared.grammar.Group.{Group}
use Rattle.zig_tree.specs.declared.grammar.Group.TheVariants as group
use Rattle.zig_tree.specs.declared.grammar.When.{When}
use Rattle.zig_tree.specs.declared.grammar.When.TheVariants as when
use Rattle.zig_tree.specs.declared.grammar.Part.{Part}
use Rattle.zig_tree.specs.declared.grammar.Part.TheVariants as part
use Rattle.zig_tree.specs.Grammar.{Alternative, group_rows, holds, rule_rows}
use Rattle.zig_tree.specs.GrammarSentences.{Pieces, nothing, followed, next_kind, second_kind, with_shared, open_at, Among, Derives, derives_none, derives_token, derives_one_of, derives_group, derives_rule}
use Rattle.zig_parse.proofs.Derived.{Taken, none_derived, token_derived, class_derived, group_derived, rule_derived, split_derived, open_is_row, row_tested, each_row}
use Rattle.zig_parse.proofs.Shapes.{skip, settle, sheds, sheds_brace, is_block, is_closed, is_closed_rule, is_closed_group, is_closed_before, is_tag, begins_closing, is_sole, row_ends}
use Rattle.zig_parse.proofs.Tables.{rule_ends, group_ends}
use Rattle.zig_parse.proofs.Balance.{brackets_pair}

-- ---- one alternative alone may be taken

pub both_when : (a b : Alternative) (t : Bool) (x y : List Alternative) → Among a (if t then x else y) → Among b (if t then x else y) → (Among a x × Among b x) ⊎ (Among a y × Among b y)
both_when a b true x y m n = inl (m, n)
both_when a b false x y m n = inr (m, n)

pub sole_shared : (tokens : List TokenKind) (a c : Alternative) (w : When) (more : List Alternative) → is_sole w ≡ true → Among a (with_shared tokens c w more) → a ≡ c
sole_shared tokens a c (when.Both _) more h m = absurd (cc)
sole_shared tokens a c when.Always more h (inl e) = e
sole_shared tokens a c when.Always more h (inr n) = elim n [ ]
sole_shared tokens a c (when.Is _) more h (inl e) = e
sole_shared tokens a c (when.Is _) more h (inr n) = elim n [ ]
sole_shared tokens a c (when.In _) more h (inl e) = e
sole_shared tokens a c (when.In _) more h (inr n) = elim n [ ]
sole_shared tokens a c when.Label more h (inl e) = e
sole_shared tokens a c when.Label more h (inr n) = elim n [ ]

sole_open : (tokens : List TokenKind) (a b : Alternative) (rows : List Alternative) → each_row row_ends rows ≡ true → Among a (open_at tokens rows) → Among b (open_at tokens rows) → a ≡ b
sole_open tokens a b [] h m n = elim m [ ]
sole_open tokens a b (c ∷ more) h m n =
    let here = and_parts (row_ends c) (each_row row_ends more) h in
    let sole = (and_parts (is_sole c.at) (is_closed c.parts) here.0).0 in
    elim (both_when a b (holds (next_kind tokens) (second_kind tokens) c.at) (with_shared tokens c c.at more) (open_at tokens more) m n) [
      | inl t ↦ sole_shared tokens a c c.at more sole t.0 ∙ sym (sole_shared tokens b c c.at more sole t.1)
      | inr t ↦ sole_open tokens a b more here.1 t.0 t.1
    ]

closed_row : (rows : List Alternative) (tokens : List TokenKind) (a : Alternative) → each_row row_ends rows ≡ true → Among a (open_at tokens rows) → is_closed a.parts ≡ true
closed_row rows tokens a h m = (and_parts (is_sole a.at) (is_closed a.parts) (row_tested row_ends a rows h (open_is_row tokens a rows m))).1

-- ---- what ends with a bracket

pub brace_read : (front : List Part) (tokens end : List TokenKind) (p : Pieces) → settle true 0 front ≡ Some 0 → Derives (front ++ part.Token kind.RightBrace ∷ []) tokens end p → skip true 0 tokens ≡ Some end
brace_read front tokens end p h d =
    let s = split_derived front (part.Token kind.RightBrace ∷ []) tokens end p d in
    let t = token_derived kind.RightBrace [] s.0 end s.2 s.5 in
    let e = none_derived t.0 end t.1 t.4 in
    brackets_pair true front tokens s.0 s.1 s.4 0 0 0 0 0 h refl refl ∙ ap (skip true 0) (t.2 ∙ ap (λ (l : List TokenKind). kind.RightBrace ∷ l) e.0)

block_read : (tokens end : List TokenKind) (a : Alternative) (p : Pieces) → Among a (rule_rows rule.Block) → Derives a.parts tokens end p → (more : List TokenKind) × (tokens ≡ kind.LeftBrace ∷ more) × (skip true 0 more ≡ Some end)
unfolding rule_rows
block_read tokens end a p (inl e) d =
    let t = token_derived kind.LeftBrace (part.Group group.Statements ∷ part.Token kind.RightBrace ∷ []) tokens end p (subst (λ (x : Alternative). Derives x.parts tokens end p) e d) in
    (t.0, t.2, brace_read (part.Group group.Statements ∷ []) t.0 end t.1 refl t.4)
block_read tokens end a p (inr n) d = elim n [ ]

pub initializer_read : (tokens end : List TokenKind) (a : Alternative) (p : Pieces) → Among a (group_rows group.InitializerBody) → Derives a.parts tokens end p → skip true 0 tokens ≡ Some end
unfolding group_rows
initializer_read tokens end a p (inl e) d = brace_read [] tokens end p refl (subst (λ (x : Alternative). Derives x.parts tokens end p) e d)
initializer_read tokens end a p (inr (inl e)) d =
    brace_read (part.Token kind.Period ∷ part.Token kind.Identifier ∷ part.Token kind.Equal ∷ part.Rule rule.Or ∷ part.Group group.MoreFields ∷ []) tokens end p refl (subst (λ (x : Alternative). Derives x.parts tokens end p) e d)
initializer_read tokens end a p (inr (inr (inl e))) d = brace_read (part.Rule rule.Or ∷ part.Group group.MoreArguments ∷ []) tokens end p refl (subst (λ (x : Alternative). Derives x.parts tokens end p) e d)
initializer_read tokens end a p (inr (inr (inr n))) d = elim n [ ]

is_the_block : (r : Rule) → is_block r ≡ true → r ≡ rule.Block
is_the_block rule.Block h = refl
is_the_block _ h = absurd (cc)

is_the_initializer : (g : Group) → sheds_brace g ≡ true → g ≡ group.InitializerBody
is_the_initializer group.InitializerBody h = refl
is_the_initializer _ h = absurd (cc)

block_ends : (r : Rule) (tokens n m : List TokenKind) (a b : Alternative) (p q : Pieces) → is_block r ≡ true → Among a (rule_rows r) → Among b (rule_rows r) → Derives a.parts tokens n p → Derives b.parts tokens m q → n ≡ m
block_ends r tokens n m a b p q h i j d e =
    let same = is_the_block r h in
    let x = block_read tokens n a p (subst (λ (x : Rule). Among a (rule_rows x)) same i) d in
    let y = block_read tokens m b q (subst (λ (x : Rule). Among b (rule_rows x)) same j) e in
    let one : kind.LeftBrace ∷ x.0 ≡ kind.LeftBrace ∷ y.0 = sym x.1 ∙ y.1 in
    let more : x.0 ≡ y.0 = cc in
    let ends : Some n ≡ Some m = sym x.2 ∙ ap (skip true 0) more ∙ y.2 in
    cc

initializer_ends : (g : Group) (tokens n m : List TokenKind) (a b : Alternative) (p q : Pieces) → sheds_brace g ≡ true → Among a (group_rows g) → Among b (group_rows g) → Derives a.parts tokens n p → Derives b.parts tokens m q → n ≡ m
initializer_ends g tokens n m a b p q h i j d e =
    let same = is_the_initializer g h in
    let x = initializer_read tokens n a p (subst (λ (x : Group). Among a (group_rows x)) same i) d in
    let y = initializer_read tokens m b q (subst (λ (x : Group). Among b (group_rows x)) same j) e in
    let ends : Some n ≡ Some m = sym x ∙ y in
    cc

-- ---- before a parenthesis

closing_more : (ps : List Part) → begins_closing ps ≡ true → (qs : List Part) × (ps ≡ part.Token kind.RightParen ∷ qs)
closing_more (part.Token kind.RightParen ∷ qs) h = (qs, refl)
closing_more _ h = absurd (cc)

tag_pairs : (g : Group) → is_tag g ≡ true → settle false 0 (part.Group g ∷ []) ≡ Some 0
tag_pairs group.UnionTag h = refl
tag_pairs _ h = absurd (cc)

pub tag_read : (g : Group) (ps : List Part) (tokens n rest : List TokenKind) (p q : Pieces) → is_tag g ≡ true → begins_closing ps ≡ true → Derives (part.Group g ∷ []) tokens n p → Derives ps n rest q
    → (m : List TokenKind) × (n ≡ kind.RightParen ∷ m) × (skip false 0 tokens ≡ Some m)
tag_read g ps tokens n rest p q h c d e =
    let s = closing_more ps c in
    let t = token_derived kind.RightParen s.0 n rest q (subst (λ (x : List Part). Derives x n rest q) s.1 e) in
    (t.0, t.2, brackets_pair false (part.Group g ∷ []) tokens n p d 0 0 0 0 0 (tag_pairs g h) refl refl ∙ ap (skip false 0) t.2)

pub one_group : (g : Group) (a : Alternative) (tokens n : List TokenKind) (p : Pieces) → Among a (open_at tokens (group_rows g)) → Derives a.parts tokens n p → Derives (part.Group g ∷ []) tokens n (followed p nothing)
one_group g a tokens n p m d = derives_group g a [] tokens n n p nothing m d (derives_none n)

tag_ends : (g : Group) (a b : Alternative) (ps : List Part) (tokens n m rest end : List TokenKind) (p q x y : Pieces) → is_tag g ≡ true → begins_closing ps ≡ true
    → Among a (open_at tokens (group_rows g)) → Derives a.parts tokens n p → Derives ps n rest x → Among b (open_at tokens (group_rows g)) → Derives b.parts tokens m q → Derives ps m end y → n ≡ m
tag_ends g a b ps tokens n m rest end p q x y h c i d e j f k =
    let s = tag_read g ps tokens n rest (followed p nothing) x h c (one_group g a tokens n p i d) e in
    let t = tag_read g ps tokens m end (followed q nothing) y h c (one_group g b tokens m q j f) k in
    let same : Some s.0 ≡ Some t.0 = sym s.2 ∙ t.2 in
    let inner : s.0 ≡ t.0 = cc in
    s.1 ∙ ap (λ (l : List TokenKind). kind.RightParen ∷ l) inner ∙ sym t.1

-- ---- parts that end at one place

group_same : (g : Group) (a : Alternative) (ps : List Part) (tokens n rest end : List TokenKind) (p x : Pieces) → is_closed_before g ps ≡ true
    → Among a (open_at tokens (group_rows g)) → Derives a.parts tokens n p → Derives ps n rest x → (t : Taken (group_rows g) ps tokens end)
    → ((m : List TokenKind) (q : Pieces) → is_closed a.parts ≡ true → Derives a.parts tokens m q → n ≡ m) → n ≡ t.next
group_same g a ps tokens n rest end p x h m d e t f =
    elim (or_cases (is_closed_group g) (is_tag g && begins_closing ps) h) [
      | inl c ↦ elim (group_ends g c) [
        | inl sheds ↦ initializer_ends g tokens n t.next a t.a p t.inside sheds (open_is_row tokens a (group_rows g) m) (open_is_row tokens t.a (group_rows g) t.among) d t.first
        | inr rows ↦ f t.next t.inside (closed_row (group_rows g) tokens a rows m) (subst (λ (b : Alternative). Derives b.parts tokens t.next t.inside) (sole_open tokens t.a a (group_rows g) rows t.among m) t.first)
      ]
      | inr c ↦ let s = and_parts (is_tag g) (begins_closing ps) c in tag_ends g a t.a ps tokens n t.next rest end p t.inside x t.later s.0 s.1 m d e t.among t.first t.others
    ]

rule_same : (r : Rule) (a : Alternative) (ps : List Part) (tokens n end : List TokenKind) (p : Pieces) → is_closed_rule r ≡ true
    → Among a (open_at tokens (rule_rows r)) → Derives a.parts tokens n p → (t : Taken (rule_rows r) ps tokens end)
    → ((m : List TokenKind) (q : Pieces) → is_closed a.parts ≡ true → Derives a.parts tokens m q → n ≡ m) → n ≡ t.next
rule_same r a ps tokens n end p h m d t f =
    elim (rule_ends r h) [
      | inl block ↦ block_ends r tokens n t.next a t.a p t.inside block (open_is_row tokens a (rule_rows r) m) (open_is_row tokens t.a (rule_rows r) t.among) d t.first
      | inr rows ↦ f t.next t.inside (closed_row (rule_rows r) tokens a rows m) (subst (λ (b : Alternative). Derives b.parts tokens t.next t.inside) (sole_open tokens t.a a (rule_rows r) rows t.among m) t.first)
    ]

pub ends_same : (ps : List Part) (tokens n m : List TokenKind) (p q : Pieces) → Derives ps tokens n p → is_closed ps ≡ true → Derives ps tokens m q → n ≡ m
ends_same ps tokens n m p q (derives_none _) h e = (none_derived n m q e).0
ends_same ps tokens n m p q (derives_token k more after _ later d) h e =
    let t = token_derived k more (k ∷ after) m q e in
    let same : after ≡ t.0 = (let whole = t.2 in cc) in
    ends_same more after n m later t.1 d h (subst (λ (l : List TokenKind). Derives more l m t.1) (sym same) t.4)
ends_same ps tokens n m p q (derives_one_of c k more after _ later i d) h e =
    let t = class_derived c more (k ∷ after) m q e in
    let same : after ≡ t.1 = (let whole = t.3 in cc) in
    ends_same more after n m later t.2 d h (subst (λ (l : List TokenKind). Derives more l m t.2) (sym same) t.6)
ends_same ps tokens n m p q (derives_group g a more _ next _ inside later i d f) h e =
    let parts = and_parts (is_closed_before g more) (is_closed more) h in
    let t = (group_derived g more tokens m q e).0 in
    let same = group_same g a more tokens next n m inside later parts.0 i d f t (λ end x c u. ends_same a.parts tokens next end inside x d c u) in
    ends_same more next n m later t.later f parts.1 (subst (λ (l : List TokenKind). Derives more l m t.later) (sym same) t.others)
ends_same ps tokens n m p q (derives_rule r a more _ next _ inside later i d f) h e =
    let parts = and_parts (is_closed_rule r) (is_closed more) h in
    let t = (rule_derived r more tokens m q e).0 in
    let same = rule_same r a more tokens next m inside parts.0 i d t (λ end x c u. ends_same a.parts tokens next end inside x d c u) in
    ends_same more next n m later t.later f parts.1 (subst (λ (l : List TokenKind). Derives more l m t.later) (sym same) t.others)
