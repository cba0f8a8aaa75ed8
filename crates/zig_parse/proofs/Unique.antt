-- A list of tokens has at most one tree.
use Rattle.std.proofs.Common.{◌≡◌, true, false, ◌&&◌, inl, inr, List, [], ◌∷◌, ◌++◌, length, Some, refl, sym, ◌∙◌, ap, subst, arith}
use Rattle.std.proofs.lemmas.Bool.{and_parts, or_cases}
use Rattle.zig_tree.specs.declared.token.TokenKind.{TokenKind}
use Rattle.zig_tree.specs.declared.token.TokenKind.TheVariants as kind
use Rattle.zig_tree.specs.declared.grammar.Rule.{Rule}
use Rattle.zig_tree.specs.declared.grammar.Rule.TheVariants as rule
use Rattle.zig_tree.specs.declared.grammar.Group.{Group}
use Rattle.zig_tree.specs.declared.grammar.Group.TheVariants as group
use Rattle.zig_tree.specs.declared.grammar.TokenClass.{TokenClass}
use Rattle.zig_tree.specs.declared.grammar.Part.{Part}
use Rattle.zig_tree.specs.declared.grammar.Part.TheVariants as part
use Rattle.zig_tree.specs.Kinds.{is_group, number_of_group}
use Rattle.zig_tree.specs.Grammar.{Alternative, group_rows, rule_rows}
use Rattle.zig_tree.specs.GrammarSentences.{Pieces, nothing, word, followed, made, open_at, Among, Derives, derives_none, derives_token, derives_one_of, derives_group, derives_rule, IsFirst, IsShortest, is_division, Chosen, chooses_none, chooses_token, chooses_one_of, chooses_group, chooses_statements, chooses_rule, Sentence}
use Rattle.zig_parse.proofs.Derived.{none_derived, token_derived, open_is_row, row_tested, joined_derived, followed_twice, read_front, no_longer, same_ends, each_row}
use Rattle.zig_parse.proofs.Shapes.{is_closed_group, is_closed_before, is_tag, begins_closing, is_bounded, is_bounded_rule, is_bounded_group, is_statements, row_bounded}
use Rattle.zig_parse.proofs.Tables.{rule_bounded, group_bounded}
use Rattle.zig_parse.proofs.Balance.{reads_some}
use Rattle.zig_parse.proofs.Ends.{ends_same, one_group, tag_read}
use Rattle.zig_parse.proofs.Begins.{division, division_parts, division_open}

-- ---- what is chosen is derived

divided : (tokens next others : List TokenKind) (first more : Pieces) → Derives (part.Rule rule.Statement ∷ []) tokens next first → Derives (part.Group group.Statements ∷ []) next others more
    → Derives division.parts tokens others (followed first more)
divided tokens next others first more d e =
    subst (λ (ps : List Part). Derives ps tokens others (followed first more)) (sym division_parts)
    (joined_derived (part.Rule rule.Statement ∷ []) (part.Group group.Statements ∷ []) tokens next others first more d e)

statements_derived : (ps : List Part) (tokens next others rest : List TokenKind) (first more later : Pieces) → Derives (part.Rule rule.Statement ∷ []) tokens next first → Derives (part.Group group.Statements ∷ []) next others more → Derives ps others rest later
    → Derives (part.Group group.Statements ∷ ps) tokens rest (followed first (followed more later))
statements_derived ps tokens next others rest first more later d e f =
    subst (Derives (part.Group group.Statements ∷ ps) tokens rest) (followed_twice first more later)
    (derives_group group.Statements division ps tokens others rest (followed first more) later (division_open [] tokens next first d) (divided tokens next others first more d e) f)

pub chosen_derives : (ps : List Part) (tokens rest : List TokenKind) (p : Pieces) → Chosen ps tokens rest p → Derives ps tokens rest p
chosen_derives ps tokens rest p (chooses_none _) = derives_none rest
chosen_derives ps tokens rest p (chooses_token k more after _ later d) = derives_token k more after rest later (chosen_derives more after rest later d)
chosen_derives ps tokens rest p (chooses_one_of c k more after _ later h d) = derives_one_of c k more after rest later h (chosen_derives more after rest later d)
chosen_derives ps tokens rest p (chooses_group g a more _ next _ inside later m n f d e) = derives_group g a more tokens next rest inside later m (chosen_derives a.parts tokens next inside d) (chosen_derives more next rest later e)
chosen_derives ps tokens rest p (chooses_statements more _ next others _ first further later s d e f) =
    statements_derived more tokens next others rest first further later (chosen_derives (part.Rule rule.Statement ∷ []) tokens next first d) (chosen_derives (part.Group group.Statements ∷ []) next others further e) (chosen_derives more others rest later f)
chosen_derives ps tokens rest p (chooses_rule r a more _ next _ inside later m f d e) = derives_rule r a more tokens next rest inside later m (chosen_derives a.parts tokens next inside d) (chosen_derives more next rest later e)

-- ---- by the first part

none_chosen : (tokens rest : List TokenKind) (p : Pieces) → Chosen [] tokens rest p → p ≡ nothing
none_chosen tokens rest p (chooses_none _) = refl

token_chosen : (k : TokenKind) (ps : List Part) (tokens rest : List TokenKind) (p : Pieces) → Chosen (part.Token k ∷ ps) tokens rest p
    → (more : List TokenKind) × (later : Pieces) × (tokens ≡ k ∷ more) × (p ≡ word k later) × Chosen ps more rest later
token_chosen k ps tokens rest p (chooses_token _ _ more _ later d) = (more, later, refl, refl, d)

class_chosen : (c : TokenClass) (ps : List Part) (tokens rest : List TokenKind) (p : Pieces) → Chosen (part.OneOf c ∷ ps) tokens rest p
    → (k : TokenKind) × (more : List TokenKind) × (later : Pieces) × (tokens ≡ k ∷ more) × (p ≡ word k later) × Chosen ps more rest later
class_chosen c ps tokens rest p (chooses_one_of _ k _ more _ later h d) = (k, more, later, refl, refl, d)

-- an alternative that is chosen, and what the later parts choose
record Picked (rows : List Alternative) (ps : List Part) (tokens rest : List TokenKind) : Type 0 where
  a : Alternative
  next : List TokenKind
  inside : Pieces
  later : Pieces
  among : Among a (open_at tokens rows)
  preferred : IsFirst (open_at tokens rows) a tokens next
  first : Chosen a.parts tokens next inside
  others : Chosen ps next rest later

-- a statement that is chosen, those after it, and what the later parts choose
record Divided (ps : List Part) (tokens rest : List TokenKind) : Type 0 where
  next : List TokenKind
  end : List TokenKind
  first : Pieces
  further : Pieces
  later : Pieces
  shortest : IsShortest tokens next end
  statement : Chosen (part.Rule rule.Statement ∷ []) tokens next first
  statements : Chosen (part.Group group.Statements ∷ []) next end further
  others : Chosen ps end rest later

data ByGroup (g : Group) (ps : List Part) (tokens rest : List TokenKind) (p : Pieces) : Type 0 where
  by_row : (t : Picked (group_rows g) ps tokens rest) → is_division g t.a.parts ≡ false → p ≡ followed t.inside t.later → ByGroup g ps tokens rest p
  by_division : (t : Divided ps tokens rest) → g ≡ group.Statements → p ≡ followed t.first (followed t.further t.later) → ByGroup g ps tokens rest p

group_chosen : (g : Group) (ps : List Part) (tokens rest : List TokenKind) (p : Pieces) → Chosen (part.Group g ∷ ps) tokens rest p → ByGroup g ps tokens rest p
group_chosen g ps tokens rest p (chooses_group _ a _ _ next _ inside later m n f d e) =
    by_row (record { a = a; next = next; inside = inside; later = later; among = m; preferred = f; first = d; others = e }) n refl
group_chosen g ps tokens rest p (chooses_statements _ _ next end _ first further later s d e f) =
    by_division (record { next = next; end = end; first = first; further = further; later = later; shortest = s; statement = d; statements = e; others = f }) refl refl

rule_chosen : (r : Rule) (ps : List Part) (tokens rest : List TokenKind) (p : Pieces) → Chosen (part.Rule r ∷ ps) tokens rest p
    → (t : Picked (rule_rows r) ps tokens rest) × (p ≡ followed (made r t.inside) t.later)
rule_chosen r ps tokens rest p (chooses_rule _ a _ _ next _ inside later m f d e) =
    (record { a = a; next = next; inside = inside; later = later; among = m; preferred = f; first = d; others = e }, refl)

-- ---- the first alternative

-- of two alternatives among some one stands before the other
data Order (a b : Alternative) (rows : List Alternative) : Type 0 where
  is_it : a ≡ b → Order a b rows
  is_earlier : (before after : List Alternative) → rows ≡ before ++ b ∷ after → Among a before → Order a b rows
  is_later : (before after : List Alternative) → rows ≡ before ++ a ∷ after → Among b before → Order a b rows

stands_at : (a : Alternative) (rows : List Alternative) → Among a rows → (before : List Alternative) × (after : List Alternative) × (rows ≡ before ++ a ∷ after)
stands_at a [] m = elim m [ ]
stands_at a (b ∷ more) (inl e) = ([], more, ap (λ (x : Alternative). x ∷ more) (sym e))
stands_at a (b ∷ more) (inr n) = let s = stands_at a more n in (b ∷ s.0, s.1, ap (λ (l : List Alternative). b ∷ l) s.2)

order_more : (a b c : Alternative) (rows : List Alternative) → Order a b rows → Order a b (c ∷ rows)
order_more a b c rows (is_it e) = is_it e
order_more a b c rows (is_earlier before after e m) = is_earlier (c ∷ before) after (ap (λ (l : List Alternative). c ∷ l) e) (inr m)
order_more a b c rows (is_later before after e m) = is_later (c ∷ before) after (ap (λ (l : List Alternative). c ∷ l) e) (inr m)

order : (a b : Alternative) (rows : List Alternative) → Among a rows → Among b rows → Order a b rows
order a b [] m n = elim m [ ]
order a b (c ∷ more) (inl e) (inl f) = is_it (e ∙ sym f)
order a b (c ∷ more) (inl e) (inr n) = let s = stands_at b more n in is_earlier (c ∷ s.0) s.1 (ap (λ (l : List Alternative). c ∷ l) s.2) (inl e)
order a b (c ∷ more) (inr m) (inl f) = let s = stands_at a more m in is_later (c ∷ s.0) s.1 (ap (λ (l : List Alternative). c ∷ l) s.2) (inl f)
order a b (c ∷ more) (inr m) (inr n) = order_more a b c more (order a b more m n)

first_same : (rows : List Alternative) (tokens next : List TokenKind) (a b : Alternative) (p q : Pieces) → Among a rows → Among b rows → IsFirst rows a tokens next → IsFirst rows b tokens next → Derives a.parts tokens next p → Derives b.parts tokens next q → a ≡ b
first_same rows tokens next a b p q m n f h d e =
    elim (order a b rows m n) [
      | is_it s ↦ s
      | is_earlier before after s k ↦ absurd (h before after s a k p d)
      | is_later before after s k ↦ absurd (f before after s b k q e)
    ]

-- ---- parts that end at one place, or at the last token

-- the tag of a union ends before a parenthesis
tag_end : (g : Group) (ps : List Part) (tokens n m rest : List TokenKind) (p q x y : Pieces) → is_tag g ≡ true → begins_closing ps ≡ true
    → Derives (part.Group g ∷ []) tokens n p → Derives ps n rest x → Derives (part.Group g ∷ []) tokens m q → Derives ps m rest y → n ≡ m
tag_end g ps tokens n m rest p q x y t c d e f i =
    let s = tag_read g ps tokens n rest p x t c d e in
    let u = tag_read g ps tokens m rest q y t c f i in
    let same : Some s.0 ≡ Some u.0 = sym s.2 ∙ u.2 in
    let inner : s.0 ≡ u.0 = cc in
    s.1 ∙ ap (λ (l : List TokenKind). kind.RightParen ∷ l) inner ∙ sym u.1

closed_end : (g : Group) (ps : List Part) (tokens n m rest : List TokenKind) (p q x y : Pieces) → is_closed_before g ps ≡ true
    → Derives (part.Group g ∷ []) tokens n p → Derives ps n rest x → Derives (part.Group g ∷ []) tokens m q → Derives ps m rest y → n ≡ m
closed_end g ps tokens n m rest p q x y h d e f i =
    elim (or_cases (is_closed_group g) (is_tag g && begins_closing ps) h) [
      | inl c ↦ ends_same (part.Group g ∷ []) tokens n m p q d (rw c refl) f
      | inr c ↦ let s = and_parts (is_tag g) (begins_closing ps) c in tag_end g ps tokens n m rest p q x y s.0 s.1 d e f i
    ]

bounded_group_end : (g : Group) (ps : List Part) (tokens n m rest : List TokenKind) (p q x y : Pieces) → is_bounded_group g ps ≡ true
    → Derives (part.Group g ∷ []) tokens n p → Derives ps n rest x → Derives (part.Group g ∷ []) tokens m q → Derives ps m rest y → n ≡ m
bounded_group_end g [] tokens n m rest p q x y h d e f i = (none_derived n rest x e).0 ∙ sym (none_derived m rest y i).0
bounded_group_end g (part.Token k ∷ []) tokens n m rest p q x y h d e f i =
    let s = token_derived k [] n rest x e in
    let t = token_derived k [] m rest y i in
    s.2 ∙ ap (λ (l : List TokenKind). k ∷ l) ((none_derived s.0 rest s.1 s.4).0 ∙ sym (none_derived t.0 rest t.1 t.4).0) ∙ sym t.2
bounded_group_end g (part.Token k ∷ o ∷ ps) tokens n m rest p q x y h d e f i = closed_end g (part.Token k ∷ o ∷ ps) tokens n m rest p q x y h d e f i
bounded_group_end g (part.OneOf c ∷ ps) tokens n m rest p q x y h d e f i = closed_end g (part.OneOf c ∷ ps) tokens n m rest p q x y h d e f i
bounded_group_end g (part.Rule r ∷ ps) tokens n m rest p q x y h d e f i = closed_end g (part.Rule r ∷ ps) tokens n m rest p q x y h d e f i
bounded_group_end g (part.Group o ∷ ps) tokens n m rest p q x y h d e f i = closed_end g (part.Group o ∷ ps) tokens n m rest p q x y h d e f i

bounded_rule_end : (r : Rule) (ps : List Part) (tokens n m rest : List TokenKind) (p q x y : Pieces) → is_bounded_rule r ps ≡ true
    → Derives (part.Rule r ∷ []) tokens n p → Derives ps n rest x → Derives (part.Rule r ∷ []) tokens m q → Derives ps m rest y → n ≡ m
bounded_rule_end r [] tokens n m rest p q x y h d e f i = (none_derived n rest x e).0 ∙ sym (none_derived m rest y i).0
bounded_rule_end r (o ∷ ps) tokens n m rest p q x y h d e f i = ends_same (part.Rule r ∷ []) tokens n m p q d (rw h refl) f

one_rule : (r : Rule) (a : Alternative) (tokens n : List TokenKind) (p : Pieces) → Among a (open_at tokens (rule_rows r)) → Derives a.parts tokens n p → Derives (part.Rule r ∷ []) tokens n (followed (made r p) nothing)
one_rule r a tokens n p m d = derives_rule r a [] tokens n n p nothing m d (derives_none n)

-- ---- each case

statement_row : (ps : List Part) (g : Group) → g ≡ group.Statements → is_division g ps ≡ false → ps ≡ []
unfolding number_of_group
statement_row [] g e h = refl
statement_row (p ∷ ps) g e h = let same : is_group g group.Statements ≡ is_group group.Statements group.Statements = ap (λ (k : Group). is_group k group.Statements) e in absurd (cc)

-- no empty row and a division at the same tokens
row_or_division : (ps : List Part) (tokens rest : List TokenKind) (g : Group) (a : Alternative) (n : List TokenKind) (p x : Pieces) (t : Divided ps tokens rest) → is_bounded_group g ps ≡ true → g ≡ group.Statements → is_division g a.parts ≡ false
    → Among a (open_at tokens (group_rows g)) → Derives a.parts tokens n p → Derives ps n rest x → ⊥
row_or_division ps tokens rest g a n p x t b e h m d f =
    let empty : a.parts ≡ [] = statement_row a.parts g e h in
    let stays : tokens ≡ n = (none_derived tokens n p (subst (λ (l : List Part). Derives l tokens n p) empty d)).0 in
    let first = chosen_derives (part.Rule rule.Statement ∷ []) tokens t.next t.first t.statement in
    let more = chosen_derives (part.Group group.Statements ∷ []) t.next t.end t.further t.statements in
    let whole = one_group group.Statements division tokens t.end (followed t.first t.further) (division_open [] tokens t.next t.first first) (divided tokens t.next t.end t.first t.further first more) in
    let end : n ≡ t.end = bounded_group_end group.Statements ps tokens n t.end rest (followed p nothing) (followed (followed t.first t.further) nothing) x t.later (subst (λ (k : Group). is_bounded_group k ps ≡ true) e b)
    (one_group group.Statements a tokens n p (subst (λ (k : Group). Among a (open_at tokens (group_rows k))) e m) d) f whole (chosen_derives ps t.end rest t.later t.others) in
    let less = reads_some (part.Rule rule.Statement ∷ []) tokens t.next t.first first refl in
    let least = no_longer (part.Group group.Statements ∷ []) t.next t.end t.further more in
    omega (arith, ap length stays, ap length end)

divisions_same : (ps : List Part) (tokens rest : List TokenKind) (s t : Divided ps tokens rest) → is_bounded_group group.Statements ps ≡ true → (s.end ≡ t.end) × (s.next ≡ t.next)
divisions_same ps tokens rest s t b =
    let first = chosen_derives (part.Rule rule.Statement ∷ []) tokens s.next s.first s.statement in
    let more = chosen_derives (part.Group group.Statements ∷ []) s.next s.end s.further s.statements in
    let first2 = chosen_derives (part.Rule rule.Statement ∷ []) tokens t.next t.first t.statement in
    let more2 = chosen_derives (part.Group group.Statements ∷ []) t.next t.end t.further t.statements in
    let whole = one_group group.Statements division tokens s.end (followed s.first s.further) (division_open [] tokens s.next s.first first) (divided tokens s.next s.end s.first s.further first more) in
    let whole2 = one_group group.Statements division tokens t.end (followed t.first t.further) (division_open [] tokens t.next t.first first2) (divided tokens t.next t.end t.first t.further first2 more2) in
    let end : s.end ≡ t.end = bounded_group_end group.Statements ps tokens s.end t.end rest (followed (followed s.first s.further) nothing) (followed (followed t.first t.further) nothing) s.later t.later b whole (chosen_derives ps s.end rest s.later s.others) whole2 (chosen_derives ps t.end rest t.later t.others) in
    let up = t.shortest s.next s.first s.further first (subst (λ (l : List TokenKind). Derives (part.Group group.Statements ∷ []) s.next l s.further) end more) in
    let down = s.shortest t.next t.first t.further first2 (subst (λ (l : List TokenKind). Derives (part.Group group.Statements ∷ []) t.next l t.further) (sym end) more2) in
    let a = read_front (part.Rule rule.Statement ∷ []) tokens s.next s.first first in
    let c = read_front (part.Rule rule.Statement ∷ []) tokens t.next t.first first2 in
    (end, same_ends a.0 c.0 s.next t.next (sym a.1 ∙ c.1) (omega arith))

row_is_bounded : (g : Group) (a : Alternative) (tokens : List TokenKind) → Among a (open_at tokens (group_rows g)) → is_division g a.parts ≡ false → is_bounded a.parts ≡ true
row_is_bounded g a tokens m h =
    elim (or_cases (is_statements g) (each_row row_bounded (group_rows g)) (group_bounded g)) [
      | inl s ↦ let empty = statement_row a.parts g (it_is g s) h in subst (λ (l : List Part). is_bounded l ≡ true) (sym empty) refl
      | inr s ↦ row_tested row_bounded a (group_rows g) s (open_is_row tokens a (group_rows g) m)
    ]
  where
    it_is : (k : Group) → is_statements k ≡ true → k ≡ group.Statements
    it_is group.Statements s = refl
    it_is _ s = absurd (cc)

-- what is the same of two rows that are chosen
rows_same : (rows : List Alternative) (a : Alternative) (ps : List Part) (tokens next rest : List TokenKind) (inside later : Pieces) (t : Picked rows ps tokens rest)
    → Among a (open_at tokens rows) → IsFirst (open_at tokens rows) a tokens next → Chosen a.parts tokens next inside → Chosen ps next rest later → next ≡ t.next
    → ((x : Pieces) → Chosen a.parts tokens next x → inside ≡ x) → ((y : Pieces) → Chosen ps next rest y → later ≡ y) → (inside ≡ t.inside) × (later ≡ t.later)
rows_same rows a ps tokens next rest inside later t m f d e s u v =
    let first = subst (λ (l : List TokenKind). Chosen t.a.parts tokens l t.inside) (sym s) t.first in
    let others = subst (λ (l : List TokenKind). Chosen ps l rest t.later) (sym s) t.others in
    let preferred = subst (λ (l : List TokenKind). IsFirst (open_at tokens rows) t.a tokens l) (sym s) t.preferred in
    let same : a ≡ t.a = first_same (open_at tokens rows) tokens next a t.a inside t.inside m t.among f preferred (chosen_derives a.parts tokens next inside d) (chosen_derives t.a.parts tokens next t.inside first) in
    (u t.inside (subst (λ (x : Alternative). Chosen x.parts tokens next t.inside) (sym same) first), v t.later others)

group_unique : (g : Group) (a : Alternative) (ps : List Part) (tokens next rest : List TokenKind) (inside later q : Pieces) → is_bounded_group g ps ≡ true → ByGroup g ps tokens rest q
    → Among a (open_at tokens (group_rows g)) → is_division g a.parts ≡ false → IsFirst (open_at tokens (group_rows g)) a tokens next → Chosen a.parts tokens next inside → Chosen ps next rest later
    → ((x : Pieces) → is_bounded a.parts ≡ true → Chosen a.parts tokens next x → inside ≡ x) → ((y : Pieces) → Chosen ps next rest y → later ≡ y) → followed inside later ≡ q
group_unique g a ps tokens next rest inside later q b (by_row t h e) m n f d i u v =
    let mine = chosen_derives a.parts tokens next inside d in
    let other = chosen_derives t.a.parts tokens t.next t.inside t.first in
    let end : next ≡ t.next = bounded_group_end g ps tokens next t.next rest (followed inside nothing) (followed t.inside nothing) later t.later b (one_group g a tokens next inside m mine) (chosen_derives ps next rest later i)
    (one_group g t.a tokens t.next t.inside t.among other) (chosen_derives ps t.next rest t.later t.others) in
    let s = rows_same (group_rows g) a ps tokens next rest inside later t m f d i end (λ x k. u x (row_is_bounded g a tokens m n) k) v in
    let same : followed inside later ≡ followed t.inside t.later = ap (λ (p : Pieces). followed p later) s.0 ∙ ap (followed t.inside) s.1 in
    same ∙ sym e
group_unique g a ps tokens next rest inside later q b (by_division t s e) m n f d i u v =
    absurd (row_or_division ps tokens rest g a next inside later t b s n m (chosen_derives a.parts tokens next inside d) (chosen_derives ps next rest later i))

rule_unique : (r : Rule) (a : Alternative) (ps : List Part) (tokens next rest : List TokenKind) (inside later q : Pieces) → is_bounded_rule r ps ≡ true → (t : Picked (rule_rows r) ps tokens rest) → q ≡ followed (made r t.inside) t.later
    → Among a (open_at tokens (rule_rows r)) → IsFirst (open_at tokens (rule_rows r)) a tokens next → Chosen a.parts tokens next inside → Chosen ps next rest later
    → ((x : Pieces) → is_bounded a.parts ≡ true → Chosen a.parts tokens next x → inside ≡ x) → ((y : Pieces) → Chosen ps next rest y → later ≡ y) → followed (made r inside) later ≡ q
rule_unique r a ps tokens next rest inside later q b t e m f d i u v =
    let mine = chosen_derives a.parts tokens next inside d in
    let other = chosen_derives t.a.parts tokens t.next t.inside t.first in
    let end : next ≡ t.next = bounded_rule_end r ps tokens next t.next rest (followed (made r inside) nothing) (followed (made r t.inside) nothing) later t.later b (one_rule r a tokens next inside m mine) (chosen_derives ps next rest later i)
    (one_rule r t.a tokens t.next t.inside t.among other) (chosen_derives ps t.next rest t.later t.others) in
    let bounded = row_tested row_bounded a (rule_rows r) (rule_bounded r) (open_is_row tokens a (rule_rows r) m) in
    let s = rows_same (rule_rows r) a ps tokens next rest inside later t m f d i end (λ x k. u x bounded k) v in
    let same : followed (made r inside) later ≡ followed (made r t.inside) t.later = ap (λ (p : Pieces). followed (made r p) later) s.0 ∙ ap (followed (made r t.inside)) s.1 in
    same ∙ sym e

division_unique : (ps : List Part) (tokens next end rest : List TokenKind) (first further later q : Pieces) → is_bounded_group group.Statements ps ≡ true → ByGroup group.Statements ps tokens rest q
    → IsShortest tokens next end → Chosen (part.Rule rule.Statement ∷ []) tokens next first → Chosen (part.Group group.Statements ∷ []) next end further → Chosen ps end rest later
    → ((x : Pieces) → Chosen (part.Rule rule.Statement ∷ []) tokens next x → first ≡ x) → ((y : Pieces) → Chosen (part.Group group.Statements ∷ []) next end y → further ≡ y) → ((z : Pieces) → Chosen ps end rest z → later ≡ z)
    → followed first (followed further later) ≡ q
division_unique ps tokens next end rest first further later q b (by_row t h e) i d f k u v w =
    absurd (row_or_division ps tokens rest group.Statements t.a t.next t.inside t.later (record { next = next; end = end; first = first; further = further; later = later; shortest = i; statement = d; statements = f; others = k }) b refl h t.among
    (chosen_derives t.a.parts tokens t.next t.inside t.first) (chosen_derives ps t.next rest t.later t.others))
division_unique ps tokens next end rest first further later q b (by_division t s e) i d f k u v w =
    let same = divisions_same ps tokens rest (record { next = next; end = end; first = first; further = further; later = later; shortest = i; statement = d; statements = f; others = k }) t b in
    let x = u t.first (subst (λ (l : List TokenKind). Chosen (part.Rule rule.Statement ∷ []) tokens l t.first) (sym same.1) t.statement) in
    let y = v t.further (subst (λ (l : List TokenKind). Chosen (part.Group group.Statements ∷ []) next l t.further) (sym same.0) (subst (λ (l : List TokenKind). Chosen (part.Group group.Statements ∷ []) l t.end t.further) (sym same.1) t.statements)) in
    let z = w t.later (subst (λ (l : List TokenKind). Chosen ps l rest t.later) (sym same.0) t.others) in
    let joined : followed first (followed further later) ≡ followed t.first (followed t.further t.later) =
    ap (λ (p : Pieces). followed p (followed further later)) x ∙ ap (λ (p : Pieces). followed t.first (followed p later)) y ∙ ap (λ (p : Pieces). followed t.first (followed t.further p)) z in
    joined ∙ sym e

unique : (ps : List Part) (tokens rest : List TokenKind) (p q : Pieces) → Chosen ps tokens rest p → is_bounded ps ≡ true → Chosen ps tokens rest q → p ≡ q
unique ps tokens rest p q (chooses_none _) h e = sym (none_chosen rest rest q e)
unique ps tokens rest p q (chooses_token k more after _ later d) h e =
    let t = token_chosen k more (k ∷ after) rest q e in
    let same : after ≡ t.0 = (let whole = t.2 in cc) in
    ap (word k) (unique more after rest later t.1 d h (subst (λ (l : List TokenKind). Chosen more l rest t.1) (sym same) t.4)) ∙ sym t.3
unique ps tokens rest p q (chooses_one_of c k more after _ later i d) h e =
    let t = class_chosen c more (k ∷ after) rest q e in
    let same : after ≡ t.1 = (let whole = t.3 in cc) in
    let kind : k ≡ t.0 = (let whole = t.3 in cc) in
    let rest_same = unique more after rest later t.2 d h (subst (λ (l : List TokenKind). Chosen more l rest t.2) (sym same) t.5) in
    ap (λ (x : TokenKind). word x later) kind ∙ ap (word t.0) rest_same ∙ sym t.4
unique ps tokens rest p q (chooses_group g a more _ next _ inside later m n f d i) h e =
    let parts = and_parts (is_bounded_group g more) (is_bounded more) h in
    group_unique g a more tokens next rest inside later q parts.0 (group_chosen g more tokens rest q e) m n f d i
    (λ x b k. unique a.parts tokens next inside x d b k) (λ y k. unique more next rest later y i parts.1 k)
unique ps tokens rest p q (chooses_statements more _ next end _ first further later s d f i) h e =
    let parts = and_parts (is_bounded_group group.Statements more) (is_bounded more) h in
    division_unique more tokens next end rest first further later q parts.0 (group_chosen group.Statements more tokens rest q e) s d f i
    (λ x k. unique (part.Rule rule.Statement ∷ []) tokens next first x d refl k) (λ y k. unique (part.Group group.Statements ∷ []) next end further y f refl k) (λ z k. unique more end rest later z i parts.1 k)
unique ps tokens rest p q (chooses_rule r a more _ next _ inside later m f d i) h e =
    let parts = and_parts (is_bounded_rule r more) (is_bounded more) h in
    let t = rule_chosen r more tokens rest q e in
    rule_unique r a more tokens next rest inside later q parts.0 t.0 t.1 m f d i
    (λ x b k. unique a.parts tokens next inside x d b k) (λ y k. unique more next rest later y i parts.1 k)

pub one_tree : (tokens : List TokenKind) (x y : Pieces) → Sentence tokens x → Sentence tokens y → x ≡ y
unfolding Sentence
one_tree tokens x y s t = unique (part.Rule rule.Root ∷ []) tokens [] x y s refl t
