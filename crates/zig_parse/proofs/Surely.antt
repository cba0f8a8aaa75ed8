-- What is chosen is sure. No way to read its parts, before what comes after them, ends sooner: parts that
-- end at one place see to that, and the shortest first statement does where a statement may go on.
use Rattle.std.proofs.Common.{◌≡◌, ◌≤◌, Bool, true, false, ◌&&◌, ◌||◌, ◌⊎◌, inl, inr, List, [], ◌∷◌, ◌++◌, length, Some, refl, sym, ◌∙◌, ap, subst, arith}
use Rattle.std.proofs.lemmas.Bool.{and_parts, or_cases, cases_Bool}
use Rattle.zig_tree.specs.declared.token.TokenKind.{TokenKind}
use Rattle.zig_tree.specs.declared.token.TokenKind.TheVariants as kind
use Rattle.zig_tree.specs.declared.grammar.Rule.{Rule}
use Rattle.zig_tree.specs.declared.grammar.Rule.TheVariants as rule
use Rattle.zig_tree.specs.declared.grammar.Group.{Group}
use Rattle.zig_tree.specs.declared.grammar.Group.TheVariants as group
use Rattle.zig_tree.specs.declared.grammar.Part.{Part}
use Rattle.zig_tree.specs.declared.grammar.Part.TheVariants as part
use Rattle.zig_tree.specs.Kinds.{number_of_group}
use Rattle.zig_tree.specs.Grammar.{Alternative, group_rows, rule_rows}
use Rattle.zig_tree.specs.GrammarSentences.{Pieces, nothing, word, followed, made, open_at, Among, derives_none, derives_token, derives_one_of, IsFirst, IsShortest, is_division, Chosen, chooses_none, chooses_token, chooses_one_of, chooses_group, chooses_statements, chooses_rule, Sentence}
use Rattle.zig_parse.specs.Threads.{is_apart, is_braced}
use Rattle.zig_parse.specs.Ways.{Fork, Taken, Sure, noted, sure_none, sure_token, sure_one_of, sure_group, sure_rule, sure_group_apart, sure_rule_apart}
use Rattle.zig_parse.proofs.Derived.{open_is_row, row_tested, each_row, followed_nothing, followed_twice}
use Rattle.zig_parse.proofs.Shapes.{is_closed_rule, is_closed_group, is_closed_before, is_tag, begins_closing, is_statements}
use Rattle.zig_parse.proofs.Ends.{tag_read}
use Rattle.zig_parse.proofs.Unique.{chosen_derives}
use Rattle.zig_parse.proofs.Begins.{division, division_parts, division_open}
use Rattle.zig_parse.proofs.Reading.{Reads, split_read, joined_read, token_read, none_read, rule_made, group_made, closed_read}
use Rattle.zig_parse.proofs.Choosing.{Least, rule_taken, group_taken, statements_taken}

-- ---- where parts stand that may end at several places

abbrev is_last : List Part → Bool
is_last [] = true
is_last (p ∷ ps) = false

-- before the brace that ends a block
abbrev is_brace : List Part → Bool
is_brace (part.Token kind.RightBrace ∷ []) = true
is_brace _ = false

-- groups that end as the statement does that they belong to
abbrev is_final : Group → Bool
is_final group.ComptimeStatement = true
is_final group.LabelledStatement = true
is_final group.ElseOption = true
is_final group.RestEnd = true
is_final _ = false

-- a part that may end at several places is the last one, and statements stand before a brace
abbrev is_kept_rule : Rule → List Part → Bool
is_kept_rule r ps = is_closed_rule r || is_last ps

abbrev is_kept_group : Group → List Part → List Part → Bool
is_kept_group g ps behind = (is_closed_before g ps || (is_final g && is_last ps)) || (is_statements g && is_brace (ps ++ behind))

abbrev is_kept : List Part → List Part → Bool
is_kept [] behind = true
is_kept (part.Token k ∷ ps) behind = is_kept ps behind
is_kept (part.OneOf c ∷ ps) behind = is_kept ps behind
is_kept (part.Rule r ∷ ps) behind = is_kept_rule r ps && is_kept ps behind
is_kept (part.Group g ∷ ps) behind = is_kept_group g ps behind && is_kept ps behind

-- the division into statements is treated alone
abbrev row_kept : Group → List Part → Alternative → Bool
row_kept g behind a = is_division g a.parts || is_kept a.parts behind

rule_kept : (r : Rule) (behind : List Part) → is_apart (part.Rule r) ≡ false → each_row (λ (a : Alternative). is_kept a.parts behind) (rule_rows r) ≡ true
unfolding rule_rows is_braced
rule_kept rule.Block behind h = absurd (cc)
rule_kept _ behind h = refl

apart_rule_kept : (r : Rule) → each_row (λ (a : Alternative). is_kept a.parts []) (rule_rows r) ≡ true
unfolding rule_rows
apart_rule_kept rule.Block = refl
apart_rule_kept _ = refl

group_kept : (g : Group) (behind : List Part) → each_row (row_kept g behind) (group_rows g) ≡ true
unfolding group_rows number_of_group
group_kept group.Statements behind = refl
group_kept _ behind = refl

group_row_kept : (g : Group) (a : Alternative) (behind : List Part) (tokens : List TokenKind) → Among a (open_at tokens (group_rows g)) → is_division g a.parts ≡ false → is_kept a.parts behind ≡ true
group_row_kept g a behind tokens m h =
    elim (or_cases (is_division g a.parts) (is_kept a.parts behind) (row_tested (row_kept g behind) a (group_rows g) (group_kept g behind) (open_is_row tokens a (group_rows g) m))) [
      | inl e ↦ absurd (let never : true ≡ false = sym e ∙ h in cc)
      | inr e ↦ e
    ]

-- ---- what stands apart has one alternative

apart_rule_open : (r : Rule) (a : Alternative) (tokens : List TokenKind) → is_apart (part.Rule r) ≡ true → Among a (open_at tokens (rule_rows r)) → open_at tokens (rule_rows r) ≡ a ∷ []
unfolding rule_rows is_braced
apart_rule_open rule.Block a tokens h (inl e) = ap (λ (x : Alternative). x ∷ []) (sym e)
apart_rule_open rule.Initializer a tokens h (inl e) = ap (λ (x : Alternative). x ∷ []) (sym e)
apart_rule_open rule.ContainerBody a tokens h (inl e) = ap (λ (x : Alternative). x ∷ []) (sym e)
apart_rule_open rule.Block a tokens h (inr n) = elim n [ ]
apart_rule_open rule.Initializer a tokens h (inr n) = elim n [ ]
apart_rule_open rule.ContainerBody a tokens h (inr n) = elim n [ ]
apart_rule_open _ a tokens h m = absurd (cc)

apart_group_open : (g : Group) (a : Alternative) (tokens : List TokenKind) → is_apart (part.Group g) ≡ true → Among a (open_at tokens (group_rows g)) → open_at tokens (group_rows g) ≡ a ∷ []
unfolding group_rows
apart_group_open group.ErrorBraces a tokens h (inl e) = ap (λ (x : Alternative). x ∷ []) (sym e)
apart_group_open group.SwitchBraces a tokens h (inl e) = ap (λ (x : Alternative). x ∷ []) (sym e)
apart_group_open group.ErrorBraces a tokens h (inr n) = elim n [ ]
apart_group_open group.SwitchBraces a tokens h (inr n) = elim n [ ]
apart_group_open _ a tokens h m = absurd (cc)

-- ---- no way ends sooner

abbrev IsLeast : List Part → List Part → List TokenKind → List TokenKind → List TokenKind → Type 0
IsLeast ps behind tokens next end = (n : List TokenKind) → Reads ps tokens n → Reads behind n end → length n ≤ length next

-- after the first part
later_least : (p : Part) (ps behind : List Part) (tokens mid next end : List TokenKind) → Reads (p ∷ []) tokens mid → IsLeast (p ∷ ps) behind tokens next end → IsLeast ps behind mid next end
later_least p ps behind tokens mid next end d least n e f = least n (joined_read (p ∷ []) ps tokens mid n d e) f

same_least : (n mid : List TokenKind) → n ≡ mid → length n ≤ length mid
same_least n mid e = omega (arith, ap length e)

-- nothing inside a brace is read beyond it
none_least : (ps : List Part) (tokens mid : List TokenKind) → IsLeast ps [] tokens mid mid
none_least ps tokens mid n d e = same_least n mid (none_read n mid e)

-- the last part is as all that ends with it
last_least : (p : Part) (ps behind : List Part) (tokens mid next end : List TokenKind) → is_last ps ≡ true → Reads ps mid next → IsLeast (p ∷ ps) behind tokens next end → IsLeast (p ∷ []) (ps ++ behind) tokens mid end
last_least p [] behind tokens mid next end h d least n e f = let low = least n e f in omega (arith, ap length (none_read mid next d))
last_least p (q ∷ ps) behind tokens mid next end h d least n e f = absurd (cc)

brace_before : (ps : List Part) (n end : List TokenKind) → is_brace ps ≡ true → Reads ps n end → n ≡ kind.RightBrace ∷ end
brace_before (part.Token kind.RightBrace ∷ []) n end h d = let t = token_read kind.RightBrace [] n end d in t.1 ∙ ap (λ (l : List TokenKind). kind.RightBrace ∷ l) (none_read t.0 end t.2)
brace_before _ n end h d = absurd (cc)

tag_least : (g : Group) (ps behind : List Part) (tokens mid next end : List TokenKind) → is_tag g ≡ true → begins_closing ps ≡ true → Reads (part.Group g ∷ []) tokens mid → Reads ps mid next → IsLeast (part.Group g ∷ []) (ps ++ behind) tokens mid end
tag_least g ps behind tokens mid next end h c d e n f i =
    let s = split_read ps behind n end i in
    let x = tag_read g ps tokens n s.0 f.0 s.1.0 h c f.1 s.1.1 in
    let y = tag_read g ps tokens mid next d.0 e.0 h c d.1 e.1 in
    let ends : Some x.0 ≡ Some y.0 = sym x.2 ∙ y.2 in
    let inner : x.0 ≡ y.0 = cc in
    same_least n mid (x.1 ∙ ap (λ (l : List TokenKind). kind.RightParen ∷ l) inner ∙ sym y.1)

group_least : (g : Group) (ps behind : List Part) (tokens mid next end : List TokenKind) → is_kept_group g ps behind ≡ true → Reads (part.Group g ∷ []) tokens mid → Reads ps mid next → Reads behind next end
    → IsLeast (part.Group g ∷ ps) behind tokens next end → IsLeast (part.Group g ∷ []) (ps ++ behind) tokens mid end
group_least g ps behind tokens mid next end h d e b least n f i =
    elim (or_cases (is_closed_before g ps || (is_final g && is_last ps)) (is_statements g && is_brace (ps ++ behind)) h) [
      | inl t ↦ elim (or_cases (is_closed_before g ps) (is_final g && is_last ps) t) [
        | inl u ↦ elim (or_cases (is_closed_group g) (is_tag g && begins_closing ps) u) [
          | inl c ↦ same_least n mid (closed_read (part.Group g ∷ []) tokens n mid (rw c refl) f d)
          | inr c ↦ let s = and_parts (is_tag g) (begins_closing ps) c in tag_least g ps behind tokens mid next end s.0 s.1 d e n f i
        ]
        | inr u ↦ last_least (part.Group g) ps behind tokens mid next end (and_parts (is_final g) (is_last ps) u).1 e least n f i
      ]
      | inr t ↦ let s = and_parts (is_statements g) (is_brace (ps ++ behind)) t in
          same_least n mid (brace_before (ps ++ behind) n end s.1 i ∙ sym (brace_before (ps ++ behind) mid end s.1 (joined_read ps behind mid next end e b)))
    ]

rule_least : (r : Rule) (ps behind : List Part) (tokens mid next end : List TokenKind) → is_kept_rule r ps ≡ true → Reads (part.Rule r ∷ []) tokens mid → Reads ps mid next
    → IsLeast (part.Rule r ∷ ps) behind tokens next end → IsLeast (part.Rule r ∷ []) (ps ++ behind) tokens mid end
rule_least r ps behind tokens mid next end h d e least n f i =
    elim (or_cases (is_closed_rule r) (is_last ps) h) [
      | inl c ↦ same_least n mid (closed_read (part.Rule r ∷ []) tokens n mid (rw c refl) f d)
      | inr u ↦ last_least (part.Rule r) ps behind tokens mid next end u e least n f i
    ]

rule_rows_least : (r : Rule) (later : List Part) (tokens mid end : List TokenKind) → IsLeast (part.Rule r ∷ []) later tokens mid end → Least (rule_rows r) later tokens mid end
rule_rows_least r later tokens mid end least b n m d e = least n (rule_made r b tokens n m d) e

group_rows_least : (g : Group) (later : List Part) (tokens mid end : List TokenKind) → IsLeast (part.Group g ∷ []) later tokens mid end → Least (group_rows g) later tokens mid end
group_rows_least g later tokens mid end least b n m d e = least n (group_made g b tokens n m d) e

row_least : (rows : List Alternative) (a : Alternative) (later : List Part) (tokens mid end : List TokenKind) → Among a (open_at tokens rows) → Least rows later tokens mid end → IsLeast a.parts later tokens mid end
row_least rows a later tokens mid end m least n d e = least a n m d e

-- ---- the tree

abbrev HasForks : List Part → List Part → List TokenKind → List TokenKind → List TokenKind → Pieces → Type 0
HasForks ps behind tokens next end pieces = (forks : List Fork) × Sure ps behind tokens next end pieces forks

-- what is sure of an alternative's parts, whatever comes after them
abbrev InForks : List Part → List TokenKind → List TokenKind → Pieces → Type 0
InForks ps tokens mid inside = (behind : List Part) (end : List TokenKind) → Reads behind mid end → is_kept ps behind ≡ true → IsLeast ps behind tokens mid end → HasForks ps behind tokens mid end inside

group_sure : (g : Group) (a : Alternative) (ps behind : List Part) (tokens mid next end : List TokenKind) (inside later : Pieces) → is_kept_group g ps behind ≡ true → Among a (open_at tokens (group_rows g)) → is_division g a.parts ≡ false
    → IsFirst (open_at tokens (group_rows g)) a tokens mid → Reads a.parts tokens mid → Reads ps mid next → Reads behind next end → IsLeast (part.Group g ∷ ps) behind tokens next end
    → InForks a.parts tokens mid inside → HasForks ps behind mid next end later → HasForks (part.Group g ∷ ps) behind tokens next end (followed inside later)
group_sure g a ps behind tokens mid next end inside later h m n f d e b least inner outer = by (cases_Bool (is_apart (part.Group g)))
  where
    by : (is_apart (part.Group g) ≡ true) ⊎ (is_apart (part.Group g) ≡ false) → HasForks (part.Group g ∷ ps) behind tokens next end (followed inside later)
    by (inl x) =
        let i = inner [] mid (nothing, derives_none mid) (group_row_kept g a [] tokens m n) (none_least a.parts tokens mid) in
        (i.0 ++ outer.0, sure_group_apart g a ps behind tokens mid next end inside later i.0 outer.0 x (apart_group_open g a tokens x m) i.1 outer.1)
    by (inr x) =
        let l = group_rows_least g (ps ++ behind) tokens mid end (group_least g ps behind tokens mid next end h (group_made g a tokens mid m d) e b least) in
        let i = inner (ps ++ behind) end (joined_read ps behind mid next end e b) (group_row_kept g a (ps ++ behind) tokens m n) (row_least (group_rows g) a (ps ++ behind) tokens mid end m l) in
        let t = group_taken g a (ps ++ behind) tokens mid end m d f l in
        (noted tokens t.0 ++ (i.0 ++ outer.0), sure_group g a ps behind tokens mid next end inside later t.0 i.0 outer.0 x t.1 i.1 outer.1)

rule_sure : (r : Rule) (a : Alternative) (ps behind : List Part) (tokens mid next end : List TokenKind) (inside later : Pieces) → is_kept_rule r ps ≡ true → Among a (open_at tokens (rule_rows r))
    → IsFirst (open_at tokens (rule_rows r)) a tokens mid → Reads a.parts tokens mid → Reads ps mid next → Reads behind next end → IsLeast (part.Rule r ∷ ps) behind tokens next end
    → InForks a.parts tokens mid inside → HasForks ps behind mid next end later → HasForks (part.Rule r ∷ ps) behind tokens next end (followed (made r inside) later)
rule_sure r a ps behind tokens mid next end inside later h m f d e b least inner outer = by (cases_Bool (is_apart (part.Rule r)))
  where
    by : (is_apart (part.Rule r) ≡ true) ⊎ (is_apart (part.Rule r) ≡ false) → HasForks (part.Rule r ∷ ps) behind tokens next end (followed (made r inside) later)
    by (inl x) =
        let k = row_tested (λ (c : Alternative). is_kept c.parts []) a (rule_rows r) (apart_rule_kept r) (open_is_row tokens a (rule_rows r) m) in
        let i = inner [] mid (nothing, derives_none mid) k (none_least a.parts tokens mid) in
        (i.0 ++ outer.0, sure_rule_apart r a ps behind tokens mid next end inside later i.0 outer.0 x (apart_rule_open r a tokens x m) i.1 outer.1)
    by (inr x) =
        let l = rule_rows_least r (ps ++ behind) tokens mid end (rule_least r ps behind tokens mid next end h (rule_made r a tokens mid m d) e least) in
        let k = row_tested (λ (c : Alternative). is_kept c.parts (ps ++ behind)) a (rule_rows r) (rule_kept r (ps ++ behind) x) (open_is_row tokens a (rule_rows r) m) in
        let i = inner (ps ++ behind) end (joined_read ps behind mid next end e b) k (row_least (rule_rows r) a (ps ++ behind) tokens mid end m l) in
        let t = rule_taken r a (ps ++ behind) tokens mid end m d f l in
        (noted tokens t.0 ++ (i.0 ++ outer.0), sure_rule r a ps behind tokens mid next end inside later t.0 i.0 outer.0 x t.1 i.1 outer.1)

-- ---- a statement before others

none_sure : (behind : List Part) (tokens next end : List TokenKind) (p : Pieces) (f : List Fork) → Sure [] behind tokens next end p f → (tokens ≡ next) × (p ≡ nothing)
none_sure behind tokens next end p f (sure_none _ _ _) = (refl, refl)

-- what comes after a rule alone, told with it
rule_before : (r : Rule) (all : List Part) (qs behind : List Part) (tokens mid next end : List TokenKind) (p q : Pieces) (f g : List Fork) → Sure (part.Rule r ∷ []) all tokens mid end p f → all ≡ qs ++ behind
    → Sure qs behind mid next end q g → HasForks (part.Rule r ∷ qs) behind tokens next end (followed p q)
rule_before r all qs behind tokens mid next end p q f g (sure_rule _ a _ _ _ x _ _ inside later choices inner outer n t i o) e s =
    let none = none_sure all x mid end later outer o in
    let same : followed (made r inside) q ≡ followed (followed (made r inside) later) q = ap (λ (y : Pieces). followed y q) (sym (ap (followed (made r inside)) none.1 ∙ followed_nothing (made r inside))) in (
      noted tokens choices ++ (inner ++ g),
      subst (λ (y : Pieces). Sure (part.Rule r ∷ qs) behind tokens next end y (noted tokens choices ++ (inner ++ g))) same
          (sure_rule r a qs behind tokens x next end inside q choices inner g n (subst (λ (w : List Part). Taken w tokens end (open_at tokens (rule_rows r)) a choices) e t)
          (subst (λ (w : List Part). Sure a.parts w tokens x end inside inner) e i) (subst (λ (l : List TokenKind). Sure qs behind l next end q g) (sym none.0) s)),
    )
rule_before r all qs behind tokens mid next end p q f g (sure_rule_apart _ a _ _ _ x _ _ inside later inner outer n u i o) e s =
    let none = none_sure all x mid end later outer o in
    let same : followed (made r inside) q ≡ followed (followed (made r inside) later) q = ap (λ (y : Pieces). followed y q) (sym (ap (followed (made r inside)) none.1 ∙ followed_nothing (made r inside))) in (
      inner ++ g,
      subst (λ (y : Pieces). Sure (part.Rule r ∷ qs) behind tokens next end y (inner ++ g)) same
          (sure_rule_apart r a qs behind tokens x next end inside q inner g n u i (subst (λ (l : List TokenKind). Sure qs behind l next end q g) (sym none.0) s)),
    )

statements_sure : (ps behind : List Part) (tokens next others rest end : List TokenKind) (first more later : Pieces) → is_brace (ps ++ behind) ≡ true → IsShortest tokens next others
    → Reads (part.Rule rule.Statement ∷ []) tokens next → Reads (part.Group group.Statements ∷ []) next others → Reads ps others rest → Reads behind rest end
    → InForks (part.Rule rule.Statement ∷ []) tokens next first → InForks (part.Group group.Statements ∷ []) next others more → HasForks ps behind others rest end later
    → HasForks (part.Group group.Statements ∷ ps) behind tokens rest end (followed first (followed more later))
statements_sure ps behind tokens next others rest end first more later h shortest d e f b inner further outer =
    let w = ps ++ behind in
    let all = joined_read ps behind others rest end f b in
    let at = brace_before w others end h all in
    let i = inner (part.Group group.Statements ∷ w) end (joined_read (part.Group group.Statements ∷ []) w next others end e all) refl
    (λ n x y. (let s = split_read (part.Group group.Statements ∷ []) w n end y in
    let same : s.0 ≡ others = brace_before w s.0 end h s.2 ∙ sym at in
    let o = subst (Reads (part.Group group.Statements ∷ []) n) same s.1 in
    shortest n x.0 o.0 x.1 o.1)) in
    let j = further w end all (rw h refl) (λ n x y. same_least n others (brace_before w n end h y ∙ sym at)) in
    let both = rule_before rule.Statement (part.Group group.Statements ∷ w) (part.Group group.Statements ∷ []) w tokens next others end first more i.0 j.0 i.1 refl j.1 in
    let t = statements_taken division w tokens end (division_open [] tokens next d.0 d.1) in (
      noted tokens t.0 ++ (both.0 ++ outer.0),
      subst (λ (y : Pieces). Sure (part.Group group.Statements ∷ ps) behind tokens rest end y (noted tokens t.0 ++ (both.0 ++ outer.0))) (followed_twice first more later)
          (sure_group group.Statements division ps behind tokens others rest end (followed first more) later t.0 both.0 outer.0 refl t.1
          (subst (λ (l : List Part). Sure l w tokens others end (followed first more) both.0) (sym division_parts) both.1) outer.1),
    )

-- ---- what is chosen

sure : (ps : List Part) (tokens next : List TokenKind) (p : Pieces) → Chosen ps tokens next p → InForks ps tokens next p
sure ps tokens next p (chooses_none _) behind end b h l = ([], sure_none behind next end)
sure ps tokens next p (chooses_token k more after _ later d) behind end b h l =
    let s = sure more after next later d behind end b h (λ n e f. l n (word k e.0, derives_token k more after n e.0 e.1) f) in
    (s.0, sure_token k more behind after next end later s.0 s.1)
sure ps tokens next p (chooses_one_of c k more after _ later x d) behind end b h l =
    let s = sure more after next later d behind end b h (λ n e f. l n (word k e.0, derives_one_of c k more after n e.0 x e.1) f) in
    (s.0, sure_one_of c k more behind after next end later s.0 x s.1)
sure ps tokens next p (chooses_group g a more _ mid _ inside later m n f d e) behind end b h l =
    let parts = and_parts (is_kept_group g more behind) (is_kept more behind) h in
    let here : Reads a.parts tokens mid = (inside, chosen_derives a.parts tokens mid inside d) in
    let there : Reads more mid next = (later, chosen_derives more mid next later e) in
    let outer = sure more mid next later e behind end b parts.1 (later_least (part.Group g) more behind tokens mid next end (group_made g a tokens mid m here) l) in
    group_sure g a more behind tokens mid next end inside later parts.0 m n f here there b l (λ w x i j k. sure a.parts tokens mid inside d w x i j k) outer
sure ps tokens next p (chooses_statements more _ mid others _ first further later s d e f) behind end b h l =
    let parts = and_parts (is_kept_group group.Statements more behind) (is_kept more behind) h in
    let here : Reads (part.Rule rule.Statement ∷ []) tokens mid = (first, chosen_derives (part.Rule rule.Statement ∷ []) tokens mid first d) in
    let there : Reads (part.Group group.Statements ∷ []) mid others = (further, chosen_derives (part.Group group.Statements ∷ []) mid others further e) in
    let after : Reads more others next = (later, chosen_derives more others next later f) in
    let m = division_open [] tokens mid first here.1 in
    let whole = group_made group.Statements division tokens others m
    (subst (λ (q : List Part). Reads q tokens others) (sym division_parts) (joined_read (part.Rule rule.Statement ∷ []) (part.Group group.Statements ∷ []) tokens mid others here there)) in
    let outer = sure more others next later f behind end b parts.1 (later_least (part.Group group.Statements) more behind tokens others next end whole l) in
    statements_sure more behind tokens mid others next end first further later parts.0 s here there after b (λ w x i j k. sure (part.Rule rule.Statement ∷ []) tokens mid first d w x i j k)
    (λ w x i j k. sure (part.Group group.Statements ∷ []) mid others further e w x i j k) outer
sure ps tokens next p (chooses_rule r a more _ mid _ inside later m f d e) behind end b h l =
    let parts = and_parts (is_kept_rule r more) (is_kept more behind) h in
    let here : Reads a.parts tokens mid = (inside, chosen_derives a.parts tokens mid inside d) in
    let there : Reads more mid next = (later, chosen_derives more mid next later e) in
    let outer = sure more mid next later e behind end b parts.1 (later_least (part.Rule r) more behind tokens mid next end (rule_made r a tokens mid m here) l) in
    rule_sure r a more behind tokens mid next end inside later parts.0 m f here there b l (λ w x i j k. sure a.parts tokens mid inside d w x i j k) outer

pub sentence_sure : (tokens : List TokenKind) (tree : Pieces) → Sentence tokens tree → (forks : List Fork) × Sure (part.Rule rule.Root ∷ []) [] tokens [] [] tree forks
unfolding Sentence
sentence_sure tokens tree s = sure (part.Rule rule.Root ∷ []) tokens [] tree s [] [] (nothing, derives_none []) refl (none_least (part.Rule rule.Root ∷ []) tokens [])
