-- What the rules derive has a tree that is preferred: it can't be that none is.
use Rattle.std.proofs.Common.{◌≡◌, ℕ, zero, suc, ◌+◌, ◌-◌, ◌*◌, ◌<◌, ◌≤◌, Bool, true, false, ◌||◌, ◌⊎◌, inl, inr, List, [], ◌∷◌, ◌++◌, length, refl, sym, ◌∙◌, ap, subst, arith}
use Rattle.std.specs.Prelude.{if◌then◌else◌, nat_lt, not}
use Rattle.std.proofs.lemmas.Bool.{and_parts, cases_lt, cases_Bool, ltb-true, or_cases, eq-eqb}
use Rattle.zig_tree.specs.declared.token.TokenKind.{TokenKind}
use Rattle.zig_tree.specs.declared.grammar.Rule.TheVariants as rule
use Rattle.zig_tree.specs.declared.grammar.Group.{Group}
use Rattle.zig_tree.specs.declared.grammar.Group.TheVariants as group
use Rattle.zig_tree.specs.declared.grammar.When.{When}
use Rattle.zig_tree.specs.declared.grammar.When.TheVariants as when
use Rattle.zig_tree.specs.declared.grammar.Part.{Part}
use Rattle.zig_tree.specs.declared.grammar.Part.TheVariants as part
use Rattle.zig_tree.specs.Kinds.{is_kind, is_group, number_of, number_of_group}
use Rattle.zig_tree.specs.Grammar.{Alternative, holds, group_rows, rule_rows}
use Rattle.zig_tree.specs.GrammarSentences.{Pieces, nothing, word, followed, made, next_kind, second_kind, first_that_holds, with_shared, open_at, Among, Derives, derives_none, IsFirst, IsShortest, is_division, Chosen, chooses_none, chooses_token, chooses_one_of, chooses_group, chooses_statements, chooses_rule, Sentence}
use Rattle.zig_parse.proofs.Derived.{none_derived, token_derived, class_derived, group_derived, rule_derived, split_derived, open_is_row, row_tested, no_longer, each_row}
use Rattle.zig_parse.proofs.Shapes.{fills}
use Rattle.zig_parse.proofs.Balance.{reads_some}
use Rattle.zig_parse.proofs.Ranks.{rank_of, rank_of_rule, rank_of_group, is_ranked, row_ranked, is_other, is_apart_from, are_apart, rule_ranked, group_ranked, rule_rank_small, group_rank_small, rule_apart, group_apart}

-- it can't be that there is none
abbrev pub Some : Type 0 → Type 0
Some A = (A → ⊥) → ⊥

after : {A B : Type 0} → Some A → (A → Some B) → Some B
after m f = λ k. m (λ a. f a k)

found : {A : Type 0} → A → Some A
found a = λ k. k a

-- ---- the alternatives that may be taken

pub data OpenForm : List Alternative → Type 0 where
  none_open : OpenForm []
  one_open : (x : Alternative) → OpenForm (x ∷ [])
  two_open : (x y : Alternative) → (x ≡ y → ⊥) → OpenForm (x ∷ y ∷ [])

not_twice : (k : TokenKind) (a : Alternative) → is_other k a.at ≡ true → (b : Alternative) → b.at ≡ when.Both k → b ≡ a → ⊥
not_twice k a h b e s =
    let same : a.at ≡ when.Both k = sym (ap (λ (x : Alternative). x.at) s) ∙ e in
    let wrong : not (is_kind k k) ≡ true = ap (is_other k) (sym same) ∙ h in
    let right : is_kind k k ≡ true = eq-eqb (number_of k) (number_of k) refl in
    let never : not (is_kind k k) ≡ false = ap not right in
    cc

with_first_form : (tokens : List TokenKind) (a : Alternative) (k : TokenKind) (more : List Alternative) → a.at ≡ when.Both k → each_row (λ (b : Alternative). is_other k b.at) more ≡ true → OpenForm (a ∷ first_that_holds tokens more)
with_first_form tokens a k [] e h = one_open a
with_first_form tokens a k (b ∷ more) e h =
    let s = and_parts (is_other k b.at) (each_row (λ (c : Alternative). is_other k c.at) more) h in
    by (holds (next_kind tokens) (second_kind tokens) b.at) (two_open a b (not_twice k b s.0 a e)) (with_first_form tokens a k more e s.1)
  where
    by : (t : Bool) → OpenForm (a ∷ b ∷ []) → OpenForm (a ∷ first_that_holds tokens more) → OpenForm (a ∷ (if t then b ∷ [] else first_that_holds tokens more))
    by true x y = x
    by false x y = y

shared_form : (tokens : List TokenKind) (a : Alternative) (w : When) (more : List Alternative) → a.at ≡ w → is_apart_from w more ≡ true → OpenForm (with_shared tokens a w more)
shared_form tokens a (when.Both k) more e h = with_first_form tokens a k more e h
shared_form tokens a when.Always more e h = one_open a
shared_form tokens a (when.Is _) more e h = one_open a
shared_form tokens a (when.In _) more e h = one_open a
shared_form tokens a when.Label more e h = one_open a

pub open_form : (tokens : List TokenKind) (rows : List Alternative) → are_apart rows ≡ true → OpenForm (open_at tokens rows)
open_form tokens [] h = none_open
open_form tokens (a ∷ more) h =
    let s = and_parts (is_apart_from a.at more) (are_apart more) h in
    by (holds (next_kind tokens) (second_kind tokens) a.at) (shared_form tokens a a.at more refl s.0) (open_form tokens more s.1)
  where
    by : (t : Bool) → OpenForm (with_shared tokens a a.at more) → OpenForm (open_at tokens more) → OpenForm (if t then with_shared tokens a a.at more else open_at tokens more)
    by true x y = x
    by false x y = y

-- ---- the first of them that derives

empty_no : (a : Alternative) (before after : List Alternative) → [] ≡ before ++ a ∷ after → ⊥
empty_no a [] after e = cc
empty_no a (b ∷ before) after e = cc

alone_first : (x : Alternative) (tokens next : List TokenKind) → IsFirst (x ∷ []) x tokens next
alone_first x tokens next [] after e b m = elim m [ ]
alone_first x tokens next (z ∷ zs) after e b m = absurd (empty_no x zs after (cc))

left_first : (x y : Alternative) (tokens next : List TokenKind) → (x ≡ y → ⊥) → IsFirst (x ∷ y ∷ []) x tokens next
left_first x y tokens next n [] after e b m = elim m [ ]
left_first x y tokens next n (z ∷ []) after e b m = absurd (n (cc))
left_first x y tokens next n (z ∷ w ∷ zs) after e b m = absurd (empty_no x zs after (cc))

right_first : (x y : Alternative) (tokens next : List TokenKind) → ((i : Pieces) → Derives x.parts tokens next i → ⊥) → IsFirst (x ∷ y ∷ []) y tokens next
right_first x y tokens next n [] after e b m = elim m [ ]
right_first x y tokens next n (z ∷ []) after e b (inl s) = let same : b ≡ x = (let whole = e in cc) in λ i d. n i (subst (λ (c : Alternative). Derives c.parts tokens next i) same d)
right_first x y tokens next n (z ∷ []) after e b (inr m) = elim m [ ]
right_first x y tokens next n (z ∷ w ∷ zs) after e b m = absurd (empty_no y zs after (cc))

record Preferred (alternatives : List Alternative) (tokens next : List TokenKind) : Type 0 where
  a : Alternative
  inside : Pieces
  among : Among a alternatives
  first : IsFirst alternatives a tokens next
  derived : Derives a.parts tokens next inside

preferred : (l : List Alternative) (tokens next : List TokenKind) (a : Alternative) (p : Pieces) → OpenForm l → Among a l → Derives a.parts tokens next p → Some (Preferred l tokens next)
preferred l tokens next a p none_open m d = elim m [ ]
preferred l tokens next a p (one_open x) (inl e) d = found (record { a = x; inside = p; among = inl refl; first = alone_first x tokens next; derived = subst (λ (c : Alternative). Derives c.parts tokens next p) e d })
preferred l tokens next a p (one_open x) (inr m) d = elim m [ ]
preferred l tokens next a p (two_open x y n) (inl e) d = found (record { a = x; inside = p; among = inl refl; first = left_first x y tokens next n; derived = subst (λ (c : Alternative). Derives c.parts tokens next p) e d })
preferred l tokens next a p (two_open x y n) (inr (inl e)) d =
    λ k. k (record {
      a = y;
      inside = p;
      among = inr (inl refl);
      derived = subst (λ (c : Alternative). Derives c.parts tokens next p) e d;
      first = right_first x y tokens next (λ i f. k (record { a = x; inside = i; among = inl refl; first = left_first x y tokens next n; derived = f }));
    })
preferred l tokens next a p (two_open x y n) (inr (inr m)) d = elim m [ ]

-- ---- the shortest first statement

record Division (tokens end : List TokenKind) : Type 0 where
  next : List TokenKind
  first : Pieces
  more : Pieces
  statement : Derives (part.Rule rule.Statement ∷ []) tokens next first
  others : Derives (part.Group group.Statements ∷ []) next end more

abbrev Shortest : List TokenKind → List TokenKind → Type 0
Shortest tokens end = (e : Division tokens end) × IsShortest tokens e.next end

not_shorter : (tokens end : List TokenKind) (d : Division tokens end) → ((e : Division tokens end) → length d.next < length e.next → Some (Shortest tokens end)) → (Shortest tokens end → ⊥) → IsShortest tokens d.next end
not_shorter tokens end d again k other first more s o =
    elim (cases_lt (length d.next) (length other)) [
      | inl l ↦ absurd (again (record { next = other; first = first; more = more; statement = s; others = o }) l k)
      | inr l ↦ l
    ]

shortest : (gap : ℕ) (tokens end : List TokenKind) (d : Division tokens end) → length tokens ≤ length d.next + gap → Some (Shortest tokens end)
shortest zero tokens end d h = found (d, λ other first more s o. (let l = no_longer (part.Rule rule.Statement ∷ []) tokens other first s in omega arith))
shortest (suc gap) tokens end d h = λ k. k (d, not_shorter tokens end d (λ e l. shortest gap tokens end e (omega arith)) k)

none_ends : (tokens rest : List TokenKind) (p : Pieces) → Chosen [] tokens rest p → tokens ≡ rest
none_ends tokens rest p (chooses_none _) = refl

none_tree : (tokens rest : List TokenKind) (p : Pieces) → Derives [] tokens rest p → Chosen [] tokens rest nothing
none_tree tokens rest p (derives_none _) = chooses_none rest

-- ---- a part before others

first_chosen : (p : Part) (ps : List Part) (tokens next rest : List TokenKind) (x y : Pieces) → Chosen (p ∷ []) tokens next x → Chosen ps next rest y → (z : Pieces) × Chosen (p ∷ ps) tokens rest z
first_chosen p ps tokens next rest x y (chooses_token k _ more _ later d) e = (word k y, chooses_token k ps more rest y (subst (λ (l : List TokenKind). Chosen ps l rest y) (sym (none_ends more next later d)) e))
first_chosen p ps tokens next rest x y (chooses_one_of c k _ more _ later h d) e = (word k y, chooses_one_of c k ps more rest y h (subst (λ (l : List TokenKind). Chosen ps l rest y) (sym (none_ends more next later d)) e))
first_chosen p ps tokens next rest x y (chooses_group g a _ _ end _ inside later m n f d t) e =
    (followed inside y, chooses_group g a ps tokens end rest inside y m n f d (subst (λ (l : List TokenKind). Chosen ps l rest y) (sym (none_ends end next later t)) e))
first_chosen p ps tokens next rest x y (chooses_statements _ _ mid end _ first further later s d f t) e =
    (followed first (followed further y), chooses_statements ps tokens mid end rest first further y s d f (subst (λ (l : List TokenKind). Chosen ps l rest y) (sym (none_ends end next later t)) e))
first_chosen p ps tokens next rest x y (chooses_rule r a _ _ end _ inside later m f d t) e =
    (followed (made r inside) y, chooses_rule r a ps tokens end rest inside y m f d (subst (λ (l : List TokenKind). Chosen ps l rest y) (sym (none_ends end next later t)) e))

-- ---- what a row derives, where each of its parts that derives has a tree

abbrev HasTree : List Part → List TokenKind → List TokenKind → Type 0
HasTree ps tokens rest = Some ((q : Pieces) × Chosen ps tokens rest q)

-- how much a part reads, and then its rank
abbrev amount : Part → List TokenKind → List TokenKind → ℕ
amount p tokens rest = (length tokens - length rest) * 16 + rank_of p

abbrev Smaller : ℕ → Type 0
Smaller bound = (p : Part) (tokens rest : List TokenKind) (x : Pieces) → Derives (p ∷ []) tokens rest x → amount p tokens rest < bound → HasTree (p ∷ []) tokens rest

rank_small : (p : Part) → rank_of p < 16
rank_small (part.Token _) = omega arith
rank_small (part.OneOf _) = omega arith
rank_small (part.Rule r) = ltb-true (rank_of_rule r) 16 (rule_rank_small r)
rank_small (part.Group g) = ltb-true (rank_of_group g) 16 (group_rank_small g)

part_smaller : (bound rank whole : ℕ) (before : Bool) (p : Part) (ps : List Part) (tokens next rest : List TokenKind) (x y : Pieces) → whole * 16 + rank ≤ bound → ((before || fills ps) || nat_lt (rank_of p) rank) ≡ true
    → length tokens - length rest ≤ whole → (before ≡ true → length tokens - length rest < whole) → Derives (p ∷ []) tokens next x → Derives ps next rest y → amount p tokens next < bound
part_smaller bound rank whole before p ps tokens next rest x y fits h l s d e =
    let small = rank_small p in
    let a = no_longer (p ∷ []) tokens next x d in
    let b = no_longer ps next rest y e in
    elim (or_cases (before || fills ps) (nat_lt (rank_of p) rank) h) [
      | inl o ↦ elim (or_cases before (fills ps) o) [
        | inl t ↦ let less = s t in omega arith
        | inr t ↦ let less = reads_some ps next rest y e t in omega arith
      ]
      | inr t ↦ let less = ltb-true (rank_of p) rank t in omega arith
    ]

after_first : (whole : ℕ) (before : Bool) (p : Part) (tokens next rest : List TokenKind) (x : Pieces) → length tokens - length rest ≤ whole → (before ≡ true → length tokens - length rest < whole) → Derives (p ∷ []) tokens next x → length rest ≤ length next
    → (before || fills (p ∷ [])) ≡ true → length next - length rest < whole
after_first whole before p tokens next rest x l s d b h =
    let a = no_longer (p ∷ []) tokens next x d in
    elim (or_cases before (fills (p ∷ [])) h) [
      | inl t ↦ let less = s t in omega arith
      | inr t ↦ let less = reads_some (p ∷ []) tokens next x d t in omega arith
    ]

row_tree : (bound rank whole : ℕ) (before : Bool) (ps : List Part) (tokens rest : List TokenKind) (x : Pieces) → Smaller bound → whole * 16 + rank ≤ bound → is_ranked rank before ps ≡ true
    → length tokens - length rest ≤ whole → (before ≡ true → length tokens - length rest < whole) → Derives ps tokens rest x → HasTree ps tokens rest
row_tree bound rank whole before [] tokens rest x smaller fits h l s d = found (nothing, none_tree tokens rest x d)
row_tree bound rank whole before (p ∷ ps) tokens rest x smaller fits h l s d =
    let t = split_derived (p ∷ []) ps tokens rest x d in
    let u = and_parts ((before || fills ps) || nat_lt (rank_of p) rank) (is_ranked rank (before || fills (p ∷ [])) ps) h in
    let a = no_longer (p ∷ []) tokens t.0 t.1 t.4 in
    let b = no_longer ps t.0 rest t.2 t.5 in
    after (smaller p tokens t.0 t.1 t.4 (part_smaller bound rank whole before p ps tokens t.0 rest t.1 t.2 fits u.0 l s t.4 t.5))
    (λ first. after (row_tree bound rank whole (before || fills (p ∷ [])) ps t.0 rest t.2 smaller fits u.1 (omega arith) (after_first whole before p tokens t.0 rest t.1 l s t.4 b) t.5)
    (λ later. found (first_chosen p ps tokens t.0 rest first.0 later.0 first.1 later.1)))

-- ---- each part

one_row_division : (a : Alternative) (tokens : List TokenKind) → Among a (group_rows group.Statements) → is_division group.Statements a.parts ≡ true → a.parts ≡ part.Rule rule.Statement ∷ part.Group group.Statements ∷ []
unfolding group_rows
one_row_division a tokens (inl e) h = ap (λ (x : Alternative). x.parts) e
one_row_division a tokens (inr (inl e)) h = let none : is_division group.Statements a.parts ≡ false = ap (λ (x : Alternative). is_division group.Statements x.parts) e in absurd (cc)
one_row_division a tokens (inr (inr n)) h = elim n [ ]

statements_only : (g : Group) → is_group g group.Statements ≡ true → g ≡ group.Statements
unfolding number_of_group
statements_only group.Statements h = refl
statements_only _ h = absurd (cc)

is_the_statements : (g : Group) (ps : List Part) → is_division g ps ≡ true → g ≡ group.Statements
is_the_statements g [] h = absurd (cc)
is_the_statements g (p ∷ ps) h = statements_only g h

division_tree : (bound : ℕ) (tokens rest : List TokenKind) (x : Pieces) → Derives (part.Rule rule.Statement ∷ part.Group group.Statements ∷ []) tokens rest x → Smaller bound → (length tokens - length rest) * 16 + 4 ≤ bound → HasTree (part.Group group.Statements ∷ []) tokens rest
division_tree bound tokens rest x d smaller fits =
    let t = split_derived (part.Rule rule.Statement ∷ []) (part.Group group.Statements ∷ []) tokens rest x d in
    after (shortest (length tokens) tokens rest (record { next = t.0; first = t.1; more = t.2; statement = t.4; others = t.5 }) (omega arith))
    (λ e.
    (let less = reads_some (part.Rule rule.Statement ∷ []) tokens e.0.next e.0.first e.0.statement refl in
    let low = no_longer (part.Group group.Statements ∷ []) e.0.next rest e.0.more e.0.others in
    after (smaller (part.Rule rule.Statement) tokens e.0.next e.0.first e.0.statement (omega arith))
    (λ q. after (smaller (part.Group group.Statements) e.0.next rest e.0.more e.0.others (omega arith))
    (λ o. found (followed q.0 (followed o.0 nothing), chooses_statements [] tokens e.0.next rest rest q.0 o.0 nothing e.1 q.1 o.1 (chooses_none rest))))))

group_tree : (bound : ℕ) (g : Group) (tokens rest : List TokenKind) (f : Preferred (open_at tokens (group_rows g)) tokens rest) → (is_division g f.a.parts ≡ true) ⊎ (is_division g f.a.parts ≡ false) → Smaller bound
    → (length tokens - length rest) * 16 + rank_of_group g ≤ bound → HasTree (part.Group g ∷ []) tokens rest
group_tree bound g tokens rest f (inl h) smaller fits =
    let same = is_the_statements g f.a.parts h in
    let ranked : (length tokens - length rest) * 16 + 4 ≤ bound = subst (λ (k : Group). (length tokens - length rest) * 16 + rank_of_group k ≤ bound) same fits in
    let row = one_row_division f.a tokens (subst (λ (k : Group). Among f.a (group_rows k)) same (open_is_row tokens f.a (group_rows g) f.among)) (subst (λ (k : Group). is_division k f.a.parts ≡ true) same h) in
    subst (λ (k : Group). HasTree (part.Group k ∷ []) tokens rest) (sym same) (division_tree bound tokens rest f.inside (subst (λ (l : List Part). Derives l tokens rest f.inside) row f.derived) smaller ranked)
group_tree bound g tokens rest f (inr h) smaller fits =
    after (row_tree bound (rank_of_group g) (length tokens - length rest) false f.a.parts tokens rest f.inside smaller fits
    (row_tested (row_ranked (rank_of_group g)) f.a (group_rows g) (group_ranked g) (open_is_row tokens f.a (group_rows g) f.among)) (omega arith) (λ e. absurd (cc)) f.derived)
    (λ q. found (followed q.0 nothing, chooses_group g f.a [] tokens rest rest q.0 nothing f.among h f.first q.1 (chooses_none rest)))

pub part_tree : (bound : ℕ) → Smaller bound
part_tree zero p tokens rest x d h = absurd (omega arith)
part_tree (suc bound) (part.Token k) tokens rest x d h =
    let t = token_derived k [] tokens rest x d in
    found (word k nothing, subst (λ (l : List TokenKind). Chosen (part.Token k ∷ []) l rest (word k nothing)) (sym t.2) (chooses_token k [] t.0 rest nothing (none_tree t.0 rest t.1 t.4)))
part_tree (suc bound) (part.OneOf c) tokens rest x d h =
    let t = class_derived c [] tokens rest x d in
    found (word t.0 nothing, subst (λ (l : List TokenKind). Chosen (part.OneOf c ∷ []) l rest (word t.0 nothing)) (sym t.3) (chooses_one_of c t.0 [] t.1 rest nothing t.5 (none_tree t.1 rest t.2 t.6)))
part_tree (suc bound) (part.Rule r) tokens rest x d h =
    let t = (rule_derived r [] tokens rest x d).0 in
    let end = none_derived t.next rest t.later t.others in
    after (preferred (open_at tokens (rule_rows r)) tokens rest t.a t.inside (open_form tokens (rule_rows r) (rule_apart r)) t.among (subst (λ (l : List TokenKind). Derives t.a.parts tokens l t.inside) end.0 t.first))
    (λ f. after (row_tree bound (rank_of_rule r) (length tokens - length rest) false f.a.parts tokens rest f.inside (λ p k l y e i. part_tree bound p k l y e i) (omega arith)
    (row_tested (row_ranked (rank_of_rule r)) f.a (rule_rows r) (rule_ranked r) (open_is_row tokens f.a (rule_rows r) f.among)) (omega arith) (λ e. absurd (cc)) f.derived)
    (λ q. found (followed (made r q.0) nothing, chooses_rule r f.a [] tokens rest rest q.0 nothing f.among f.first q.1 (chooses_none rest))))
part_tree (suc bound) (part.Group g) tokens rest x d h =
    let t = (group_derived g [] tokens rest x d).0 in
    let end = none_derived t.next rest t.later t.others in
    after (preferred (open_at tokens (group_rows g)) tokens rest t.a t.inside (open_form tokens (group_rows g) (group_apart g)) t.among (subst (λ (l : List TokenKind). Derives t.a.parts tokens l t.inside) end.0 t.first))
    (λ f. group_tree bound g tokens rest f (cases_Bool (is_division g f.a.parts)) (λ p k l y e i. part_tree bound p k l y e i) (omega arith))

pub sentence_some : (tokens : List TokenKind) (tree : Pieces) → Derives (part.Rule rule.Root ∷ []) tokens [] tree → ((x : Pieces) → Sentence tokens x → ⊥) → ⊥
unfolding Sentence
sentence_some tokens tree d k = part_tree (length tokens * 16 + 16) (part.Rule rule.Root) tokens [] tree d (omega arith) (λ q. k q.0 q.1)
