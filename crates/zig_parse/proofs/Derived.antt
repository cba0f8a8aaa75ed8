-- What parts in a row derive: rows after one another, tokens that are read, and the alternatives taken.
use Rattle.std.proofs.Common.{◌≡◌, ◌≤◌, Bool, true, false, ◌&&◌, ◌⊎◌, inl, inr, List, [], ◌∷◌, ◌++◌, length, refl, sym, ◌∙◌, ap, subst, arith, append_assoc, length-append}
use Rattle.std.specs.Prelude.{if◌then◌else◌}
use Rattle.std.proofs.lemmas.Bool.{and_parts}
use Rattle.zig_tree.specs.declared.token.TokenKind.{TokenKind}
use Rattle.zig_tree.specs.declared.grammar.Rule.{Rule}
use Rattle.zig_tree.specs.declared.grammar.Group.{Group}
use Rattle.zig_tree.specs.declared.grammar.TokenClass.{TokenClass}
use Rattle.zig_tree.specs.declared.grammar.When.{When}
use Rattle.zig_tree.specs.declared.grammar.When.TheVariants as when
use Rattle.zig_tree.specs.declared.grammar.Part.{Part}
use Rattle.zig_tree.specs.declared.grammar.Part.TheVariants as part
use Rattle.zig_tree.specs.Kinds.{has_kind}
use Rattle.zig_tree.specs.Grammar.{Alternative, group_rows, holds, rule_rows}
use Rattle.zig_tree.specs.GrammarSentences.{Pieces, nothing, word, node, followed, made, next_kind, second_kind, first_that_holds, with_shared, open_at, Among, Derives, derives_none, derives_token, derives_one_of, derives_group, derives_rule}

pub followed_nothing : (p : Pieces) → followed p nothing ≡ p
followed_nothing nothing = refl
followed_nothing (word k more) = ap (word k) (followed_nothing more)
followed_nothing (node r inside more) = ap (node r inside) (followed_nothing more)

pub followed_twice : (p q s : Pieces) → followed (followed p q) s ≡ followed p (followed q s)
followed_twice nothing q s = refl
followed_twice (word k more) q s = ap (word k) (followed_twice more q s)
followed_twice (node r inside more) q s = ap (node r inside) (followed_twice more q s)

-- ---- by the first part

pub none_derived : (tokens rest : List TokenKind) (p : Pieces) → Derives [] tokens rest p → (tokens ≡ rest) × (p ≡ nothing)
none_derived tokens rest p (derives_none _) = (refl, refl)

pub token_derived : (k : TokenKind) (ps : List Part) (tokens rest : List TokenKind) (p : Pieces) → Derives (part.Token k ∷ ps) tokens rest p
    → (more : List TokenKind) × (later : Pieces) × (tokens ≡ k ∷ more) × (p ≡ word k later) × Derives ps more rest later
token_derived k ps tokens rest p (derives_token _ _ more _ later d) = (more, later, refl, refl, d)

pub class_derived : (c : TokenClass) (ps : List Part) (tokens rest : List TokenKind) (p : Pieces) → Derives (part.OneOf c ∷ ps) tokens rest p
    → (k : TokenKind) × (more : List TokenKind) × (later : Pieces) × (tokens ≡ k ∷ more) × (p ≡ word k later) × (has_kind c k ≡ true) × Derives ps more rest later
class_derived c ps tokens rest p (derives_one_of _ k _ more _ later h d) = (k, more, later, refl, refl, h, d)

-- what a part of several derives, and what the later ones do
pub record Taken (rows : List Alternative) (ps : List Part) (tokens rest : List TokenKind) : Type 0 where
  pub a : Alternative
  pub next : List TokenKind
  pub inside : Pieces
  pub later : Pieces
  pub among : Among a (open_at tokens rows)
  pub first : Derives a.parts tokens next inside
  pub others : Derives ps next rest later

pub group_derived : (g : Group) (ps : List Part) (tokens rest : List TokenKind) (p : Pieces) → Derives (part.Group g ∷ ps) tokens rest p
    → (t : Taken (group_rows g) ps tokens rest) × (p ≡ followed t.inside t.later)
group_derived g ps tokens rest p (derives_group _ a _ _ next _ inside later m d e) = (record { a = a; next = next; inside = inside; later = later; among = m; first = d; others = e }, refl)

pub rule_derived : (r : Rule) (ps : List Part) (tokens rest : List TokenKind) (p : Pieces) → Derives (part.Rule r ∷ ps) tokens rest p
    → (t : Taken (rule_rows r) ps tokens rest) × (p ≡ followed (made r t.inside) t.later)
rule_derived r ps tokens rest p (derives_rule _ a _ _ next _ inside later m d e) = (record { a = a; next = next; inside = inside; later = later; among = m; first = d; others = e }, refl)

-- ---- some parts, and others after them

pub split_derived : (ps qs : List Part) (tokens rest : List TokenKind) (p : Pieces) → Derives (ps ++ qs) tokens rest p
    → (next : List TokenKind) × (inside : Pieces) × (later : Pieces) × (p ≡ followed inside later) × Derives ps tokens next inside × Derives qs next rest later
split_derived [] qs tokens rest p d = (tokens, nothing, p, refl, derives_none tokens, d)
split_derived (part.Token k ∷ ps) qs tokens rest p (derives_token _ _ more _ later d) =
    let s = split_derived ps qs more rest later d in
    (s.0, word k s.1, s.2, ap (word k) s.3, derives_token k ps more s.0 s.1 s.4, s.5)
split_derived (part.OneOf c ∷ ps) qs tokens rest p (derives_one_of _ k _ more _ later h d) =
    let s = split_derived ps qs more rest later d in
    (s.0, word k s.1, s.2, ap (word k) s.3, derives_one_of c k ps more s.0 s.1 h s.4, s.5)
split_derived (part.Group g ∷ ps) qs tokens rest p (derives_group _ a _ _ next _ inside later m d e) =
    let s = split_derived ps qs next rest later e in
    (s.0, followed inside s.1, s.2, ap (followed inside) s.3 ∙ sym (followed_twice inside s.1 s.2), derives_group g a ps tokens next s.0 inside s.1 m d s.4, s.5)
split_derived (part.Rule r ∷ ps) qs tokens rest p (derives_rule _ a _ _ next _ inside later m d e) =
    let s = split_derived ps qs next rest later e in
    (s.0, followed (made r inside) s.1, s.2, ap (followed (made r inside)) s.3 ∙ sym (followed_twice (made r inside) s.1 s.2), derives_rule r a ps tokens next s.0 inside s.1 m d s.4, s.5)

pub joined_derived : (ps qs : List Part) (tokens next rest : List TokenKind) (p q : Pieces) → Derives ps tokens next p → Derives qs next rest q → Derives (ps ++ qs) tokens rest (followed p q)
joined_derived ps qs tokens next rest p q (derives_none _) e = e
joined_derived ps qs tokens next rest p q (derives_token k more after _ later d) e = derives_token k (more ++ qs) after rest (followed later q) (joined_derived more qs after next rest later q d e)
joined_derived ps qs tokens next rest p q (derives_one_of c k more after _ later h d) e = derives_one_of c k (more ++ qs) after rest (followed later q) h (joined_derived more qs after next rest later q d e)
joined_derived ps qs tokens next rest p q (derives_group g a more _ between _ inside later m d f) e =
    subst (Derives (part.Group g ∷ more ++ qs) tokens rest) (sym (followed_twice inside later q))
    (derives_group g a (more ++ qs) tokens between rest inside (followed later q) m d (joined_derived more qs between next rest later q f e))
joined_derived ps qs tokens next rest p q (derives_rule r a more _ between _ inside later m d f) e =
    subst (Derives (part.Rule r ∷ more ++ qs) tokens rest) (sym (followed_twice (made r inside) later q))
    (derives_rule r a (more ++ qs) tokens between rest inside (followed later q) m d (joined_derived more qs between next rest later q f e))

-- ---- the tokens that are read

-- what is left is the end of the tokens
pub read_front : (ps : List Part) (tokens rest : List TokenKind) (p : Pieces) → Derives ps tokens rest p → (front : List TokenKind) × (tokens ≡ front ++ rest)
read_front ps tokens rest p (derives_none _) = ([], refl)
read_front ps tokens rest p (derives_token k _ more _ later d) = let f = read_front _ more rest later d in (k ∷ f.0, ap (λ (l : List TokenKind). k ∷ l) f.1)
read_front ps tokens rest p (derives_one_of c k _ more _ later h d) = let f = read_front _ more rest later d in (k ∷ f.0, ap (λ (l : List TokenKind). k ∷ l) f.1)
read_front ps tokens rest p (derives_group g a _ _ next _ inside later m d e) =
    let f = read_front _ tokens next inside d in
    let h = read_front _ next rest later e in
    (f.0 ++ h.0, f.1 ∙ ap (λ (l : List TokenKind). f.0 ++ l) h.1 ∙ sym (append_assoc f.0 h.0 rest))
read_front ps tokens rest p (derives_rule r a _ _ next _ inside later m d e) =
    let f = read_front _ tokens next inside d in
    let h = read_front _ next rest later e in
    (f.0 ++ h.0, f.1 ∙ ap (λ (l : List TokenKind). f.0 ++ l) h.1 ∙ sym (append_assoc f.0 h.0 rest))

pub no_longer : (ps : List Part) (tokens rest : List TokenKind) (p : Pieces) → Derives ps tokens rest p → length rest ≤ length tokens
no_longer ps tokens rest p d = let f = read_front ps tokens rest p d in omega (arith, length-append f.0 rest, ap length f.1)

-- two ends of the same tokens that are as long are the same
pub same_ends : (a b x y : List TokenKind) → a ++ x ≡ b ++ y → length x ≡ length y → x ≡ y
same_ends [] [] x y e l = e
same_ends [] (k ∷ b) x y e l = absurd (omega (arith, length-append b y, ap length e))
same_ends (k ∷ a) [] x y e l = absurd (omega (arith, length-append a x, ap length e))
same_ends (k ∷ a) (j ∷ b) x y e l = same_ends a b x y (cc) l

-- ---- the alternatives that may be taken are some of the rows

pub among_when : (a : Alternative) (t : Bool) (x y : List Alternative) → Among a (if t then x else y) → Among a x ⊎ Among a y
among_when a true x y m = inl m
among_when a false x y m = inr m

pub first_is_row : (tokens : List TokenKind) (a : Alternative) (rows : List Alternative) → Among a (first_that_holds tokens rows) → Among a rows
first_is_row tokens a [] m = m
first_is_row tokens a (b ∷ more) m =
    elim (among_when a (holds (next_kind tokens) (second_kind tokens) b.at) (b ∷ []) (first_that_holds tokens more) m) [
      | inl (inl e) ↦ inl e
      | inl (inr n) ↦ elim n [ ]
      | inr n ↦ inr (first_is_row tokens a more n)
    ]

shared_is_row : (tokens : List TokenKind) (a b : Alternative) (w : When) (more : List Alternative) → Among a (with_shared tokens b w more) → Among a (b ∷ more)
shared_is_row tokens a b (when.Both _) more (inl e) = inl e
shared_is_row tokens a b (when.Both _) more (inr n) = inr (first_is_row tokens a more n)
shared_is_row tokens a b when.Always more (inl e) = inl e
shared_is_row tokens a b when.Always more (inr n) = elim n [ ]
shared_is_row tokens a b (when.Is _) more (inl e) = inl e
shared_is_row tokens a b (when.Is _) more (inr n) = elim n [ ]
shared_is_row tokens a b (when.In _) more (inl e) = inl e
shared_is_row tokens a b (when.In _) more (inr n) = elim n [ ]
shared_is_row tokens a b when.Label more (inl e) = inl e
shared_is_row tokens a b when.Label more (inr n) = elim n [ ]

pub open_is_row : (tokens : List TokenKind) (a : Alternative) (rows : List Alternative) → Among a (open_at tokens rows) → Among a rows
open_is_row tokens a [] m = m
open_is_row tokens a (b ∷ more) m =
    elim (among_when a (holds (next_kind tokens) (second_kind tokens) b.at) (with_shared tokens b b.at more) (open_at tokens more) m) [
      | inl n ↦ shared_is_row tokens a b b.at more n
      | inr n ↦ inr (open_is_row tokens a more n)
    ]

-- a test of each alternative of some
abbrev pub each_row : (Alternative → Bool) → List Alternative → Bool
each_row test [] = true
each_row test (a ∷ more) = test a && each_row test more

pub row_tested : (test : Alternative → Bool) (a : Alternative) (rows : List Alternative) → each_row test rows ≡ true → Among a rows → test a ≡ true
row_tested test a [] h m = elim m [ ]
row_tested test a (b ∷ more) h (inl e) = subst (λ (x : Alternative). test x ≡ true) (sym e) (and_parts (test b) (each_row test more) h).0
row_tested test a (b ∷ more) h (inr n) = row_tested test a more (and_parts (test b) (each_row test more) h).1 n
