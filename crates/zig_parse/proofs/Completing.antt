-- Whatever is to come can end: with the shortest tokens of its parts.
use Rattle.std.proofs.Common.{◌≡◌, ℕ, zero, suc, ◌+◌, ◌<◌, ◌≤◌, Bool, true, false, ◌&&◌, inl, inr, List, [], ◌∷◌, ◌++◌, refl, sym, ◌∙◌, ap, subst, arith, append_assoc}
use Rattle.std.specs.Prelude.{if◌then◌else◌, nat_lt}
use Rattle.std.proofs.lemmas.Bool.{and_parts, or_cases, ltb-true, lt-ltb}
use Rattle.zig_tree.specs.declared.token.TokenKind.{TokenKind}
use Rattle.zig_tree.specs.declared.token.TokenKind.TheVariants as kind
use Rattle.zig_tree.specs.declared.grammar.Rule.{Rule}
use Rattle.zig_tree.specs.declared.grammar.Rule.TheVariants as rule
use Rattle.zig_tree.specs.declared.grammar.Group.{Group}
use Rattle.zig_tree.specs.declared.grammar.TokenClass.{TokenClass}
use Rattle.zig_tree.specs.declared.grammar.TokenClass.TheVariants as class
use Rattle.zig_tree.specs.declared.grammar.When.{When}
use Rattle.zig_tree.specs.declared.grammar.When.TheVariants as when
use Rattle.zig_tree.specs.declared.grammar.Part.{Part}
use Rattle.zig_tree.specs.declared.grammar.Part.TheVariants as part
use Rattle.zig_tree.specs.Kinds.{is_kind, has_kind}
use Rattle.zig_tree.specs.Kinds as kinds
use Rattle.zig_tree.specs.Grammar.{Alternative, group_rows, holds, rule_rows}
use Rattle.zig_tree.specs.GrammarSentences.{Pieces, nothing, word, followed, made, next_kind, second_kind, first_that_holds, with_shared, open_at, Among, Derives, derives_none, derives_token, derives_one_of, derives_group, derives_rule}
use Rattle.zig_parse.specs.declared.choice.Look.{Look}
use Rattle.zig_parse.proofs.Derived.{open_is_row, row_tested}
use Rattle.zig_parse.proofs.Tables.{same_kind}
use Rattle.zig_parse.proofs.Paths.{look_of}
use Rattle.zig_parse.proofs.Behind.{Agree, agree_none, agree_more, agree_plain, group_plain}
use Rattle.zig_parse.proofs.Endings.{after_group, after_rule, each_kind, ends_before, ends_well, first_or, is_in, is_low, may_follow, opens, opens_behind, opens_next, quick_all, quick_depth, quick_depth_of_group, quick_depth_of_rule, quick_group, quick_row_of_group, quick_row_of_rule, quick_rule, row_ends_before, row_is_low, row_is_quick, is_sampled, same_kinds, sample}
use Rattle.zig_parse.proofs.EndingTests.{group_ends_well, group_rows_end, rule_ends_well, rule_rows_end}

pub kind_among : (f : TokenKind → Bool) (k : TokenKind) (ks : List TokenKind) → is_in k ks ≡ true → each_kind f ks ≡ true → f k ≡ true
kind_among f k [] h e = absurd (cc)
kind_among f k (j ∷ js) h e =
    let s = and_parts (f j) (each_kind f js) e in
    elim (or_cases (is_kind k j) (is_in k js) h) [
      | inl t ↦ ap f (same_kind k j t) ∙ s.0
      | inr t ↦ kind_among f k js t s.1
    ]

kinds_same : (x y : List TokenKind) → same_kinds x y ≡ true → x ≡ y
kinds_same [] [] h = refl
kinds_same (j ∷ js) (k ∷ ks) h =
    let s = and_parts (is_kind j k) (same_kinds js ks) h in
    ap (λ (l : List TokenKind). l) (ap (λ (i : TokenKind). i ∷ js) (same_kind j k s.0) ∙ ap (λ (l : List TokenKind). k ∷ l) (kinds_same js ks s.1))
kinds_same [] (k ∷ ks) h = absurd (cc)
kinds_same (j ∷ js) [] h = absurd (cc)

low_more : (n : ℕ) (ps : List Part) (m : ℕ) → m ≤ n → is_low m ps ≡ true → is_low n ps ≡ true
low_more n [] m l h = refl
low_more n (p ∷ ps) m l h =
    let s = and_parts (nat_lt (quick_depth p) m) (is_low m ps) h in
    let less = ltb-true (quick_depth p) m s.0 in
    rw (lt-ltb (quick_depth p) n (omega (arith, less, l)), low_more n ps m l s.1) refl

-- ---- the alternative that ends most quickly

if_agrees : (x y : Bool) (l m : Bool) → x ≡ y → (x ≡ true → l ≡ true → m ≡ true) → (x ≡ false → l ≡ true → m ≡ true) → l ≡ true → m ≡ true
if_agrees true y l m e f g = f refl
if_agrees false y l m e f g = g refl

next_same : (n : ℕ) (x y : List TokenKind) (rows : List Alternative) → Agree (look_of x) (look_of y) rows → opens_next n x rows ≡ opens_next n y rows
next_same n x y [] agree_none = refl
next_same zero x y (a ∷ more) (agree_more _ _ e h) = e
next_same (suc n) x y (a ∷ more) (agree_more _ _ e h) = rw (e, next_same n x y more h) refl

behind_same : (w : When) (n : ℕ) (x y : List TokenKind) (rows : List Alternative) → Agree (look_of x) (look_of y) rows → opens_behind w n x rows ≡ opens_behind w n y rows
behind_same (when.Both _) n x y rows h = next_same n x y rows h
behind_same when.Always n x y rows h = refl
behind_same (when.Is _) n x y rows h = refl
behind_same (when.In _) n x y rows h = refl
behind_same when.Label n x y rows h = refl

opens_same : (n : ℕ) (x y : List TokenKind) (rows : List Alternative) → Agree (look_of x) (look_of y) rows → opens n x rows ≡ opens n y rows
opens_same n x y [] agree_none = refl
opens_same zero x y (a ∷ more) (agree_more _ _ e h) = e
opens_same (suc n) x y (a ∷ more) (agree_more _ _ e h) = rw (e, behind_same a.at n x y more h, opens_same n x y more h) refl

-- an alternative that is open at these tokens, with the shortest tokens of its parts
record Quick (rows : List Alternative) (tokens whole : List TokenKind) (depth : ℕ) : Type 0 where
  a : Alternative
  among : Among a (open_at whole rows)
  same : quick_all a.parts ≡ tokens
  low : is_low depth a.parts ≡ true

among_first : (whole : List TokenKind) (n : ℕ) (tokens : List TokenKind) (depth : ℕ) (rows : List Alternative) → opens_next n whole rows ≡ true → row_is_quick n tokens rows ≡ true → row_is_low depth n rows ≡ true
    → (a : Alternative) × Among a (first_that_holds whole rows) × (quick_all a.parts ≡ tokens) × (is_low depth a.parts ≡ true)
among_first whole n tokens depth [] o q l = absurd (cc)
among_first whole zero tokens depth (a ∷ more) o q l =
    (a, subst (λ (x : Bool). Among a (if x then a ∷ [] else first_that_holds whole more)) (sym o) (inl refl), kinds_same (quick_all a.parts) tokens q, l)
among_first whole (suc n) tokens depth (a ∷ more) o q l = by (holds (next_kind whole) (second_kind whole) a.at) o (λ h. among_first whole n tokens depth more h q l)
  where
    by : (x : Bool) → (if x then false else opens_next n whole more) ≡ true → (opens_next n whole more ≡ true → (b : Alternative) × Among b (first_that_holds whole more) × (quick_all b.parts ≡ tokens) × (is_low depth b.parts ≡ true))
        → (b : Alternative) × Among b (if x then a ∷ [] else first_that_holds whole more) × (quick_all b.parts ≡ tokens) × (is_low depth b.parts ≡ true)
    by true h f = absurd (cc)
    by false h f = f h

among_behind : (whole : List TokenKind) (w : When) (a : Alternative) (n : ℕ) (tokens : List TokenKind) (depth : ℕ) (more : List Alternative) → opens_behind w n whole more ≡ true → row_is_quick n tokens more ≡ true → row_is_low depth n more ≡ true
    → (b : Alternative) × Among b (with_shared whole a w more) × (quick_all b.parts ≡ tokens) × (is_low depth b.parts ≡ true)
among_behind whole (when.Both _) a n tokens depth more o q l = let s = among_first whole n tokens depth more o q l in (s.0, inr s.1, s.2, s.3)
among_behind whole when.Always a n tokens depth more o q l = absurd (cc)
among_behind whole (when.Is _) a n tokens depth more o q l = absurd (cc)
among_behind whole (when.In _) a n tokens depth more o q l = absurd (cc)
among_behind whole when.Label a n tokens depth more o q l = absurd (cc)

first_shared : (whole : List TokenKind) (a : Alternative) (w : When) (more : List Alternative) → Among a (with_shared whole a w more)
first_shared whole a (when.Both _) more = inl refl
first_shared whole a when.Always more = inl refl
first_shared whole a (when.Is _) more = inl refl
first_shared whole a (when.In _) more = inl refl
first_shared whole a when.Label more = inl refl

among_open : (whole : List TokenKind) (n : ℕ) (tokens : List TokenKind) (depth : ℕ) (rows : List Alternative) → opens n whole rows ≡ true → row_is_quick n tokens rows ≡ true → row_is_low depth n rows ≡ true
    → (a : Alternative) × Among a (open_at whole rows) × (quick_all a.parts ≡ tokens) × (is_low depth a.parts ≡ true)
among_open whole n tokens depth [] o q l = absurd (cc)
among_open whole zero tokens depth (a ∷ more) o q l =
    (a, subst (λ (x : Bool). Among a (if x then with_shared whole a a.at more else open_at whole more)) (sym o) (first_shared whole a a.at more), kinds_same (quick_all a.parts) tokens q, l)
among_open whole (suc n) tokens depth (a ∷ more) o q l =
    by (holds (next_kind whole) (second_kind whole) a.at) o (λ h. among_behind whole a.at a n tokens depth more h q l) (λ h. among_open whole n tokens depth more h q l)
  where
    Found : List Alternative → Type 0
    Found rows_open = (b : Alternative) × Among b rows_open × (quick_all b.parts ≡ tokens) × (is_low depth b.parts ≡ true)

    by : (x : Bool) → (if x then opens_behind a.at n whole more else opens n whole more) ≡ true → (opens_behind a.at n whole more ≡ true → Found (with_shared whole a a.at more)) → (opens n whole more ≡ true → Found (open_at whole more))
        → Found (if x then with_shared whole a a.at more else open_at whole more)
    by true h f g = f h
    by false h f g = g h

quick_found : (n depth : ℕ) (tokens after rest : List TokenKind) (rows : List Alternative) (k : TokenKind) → ends_well n depth tokens after rows ≡ true → is_in k after ≡ true
    → Agree (look_of (tokens ++ k ∷ [])) (look_of (tokens ++ k ∷ rest)) rows → Quick rows tokens (tokens ++ k ∷ rest) depth
quick_found n depth tokens after rest rows k h i agrees =
    let s = and_parts (row_is_quick n tokens rows && row_is_low depth n rows) (each_kind (λ j. opens n (tokens ++ j ∷ []) rows) after) h in
    let t = and_parts (row_is_quick n tokens rows) (row_is_low depth n rows) s.0 in
    let o = kind_among (λ j. opens n (tokens ++ j ∷ []) rows) k after i s.1 in
    let f = among_open (tokens ++ k ∷ rest) n tokens depth rows (sym (opens_same n (tokens ++ k ∷ []) (tokens ++ k ∷ rest) rows agrees) ∙ o) t.0 t.1 in
    record { a = f.0; among = f.1; same = f.2; low = f.3 }

agree_same : (x : Look) (y : Look) (rows : List Alternative) → x.kind ≡ y.kind → x.next ≡ y.next → Agree x y rows
agree_same x y [] e f = agree_none
agree_same x y (a ∷ more) e f = agree_more a more (ap (λ (k : TokenKind). holds k x.next a.at) e ∙ ap (λ (k : TokenKind). holds y.kind k a.at) f) (agree_same x y more e f)

front_agrees : (j : TokenKind) (js : List TokenKind) (k : TokenKind) (rest : List TokenKind) (rows : List Alternative) → Agree (look_of (j ∷ js ++ k ∷ [])) (look_of (j ∷ js ++ k ∷ rest)) rows
front_agrees j [] k rest rows = agree_same (look_of (j ∷ k ∷ [])) (look_of (j ∷ k ∷ rest)) rows refl refl
front_agrees j (i ∷ is) k rest rows = agree_same (look_of (j ∷ i ∷ is ++ k ∷ [])) (look_of (j ∷ i ∷ is ++ k ∷ rest)) rows refl refl

group_agrees : (g : Group) (tokens : List TokenKind) (k : TokenKind) (rest : List TokenKind) → Agree (look_of (tokens ++ k ∷ [])) (look_of (tokens ++ k ∷ rest)) (group_rows g)
group_agrees g [] k rest = agree_plain (look_of (k ∷ [])) (look_of (k ∷ rest)) (group_rows g) refl (group_plain g)
group_agrees g (j ∷ js) k rest = front_agrees j js k rest (group_rows g)

rule_tokens : (r : Rule) → (j : TokenKind) × (js : List TokenKind) × (quick_rule r ≡ j ∷ js)
rule_tokens rule.Root = (kind.End, [], refl)
rule_tokens rule.Member = (kind.Identifier, kind.Comma ∷ [], refl)
rule_tokens rule.Field = (kind.Identifier, [], refl)
rule_tokens rule.Declaration = (kind.KeywordComptime, kind.LeftBrace ∷ kind.RightBrace ∷ [], refl)
rule_tokens rule.Variable = (kind.KeywordConst, kind.Identifier ∷ kind.Equal ∷ kind.Identifier ∷ kind.Semicolon ∷ [], refl)
rule_tokens rule.Prototype = (kind.KeywordFn, kind.Identifier ∷ kind.LeftParen ∷ kind.RightParen ∷ kind.Identifier ∷ [], refl)
rule_tokens rule.Function = (kind.KeywordFn, kind.Identifier ∷ kind.LeftParen ∷ kind.RightParen ∷ kind.Identifier ∷ kind.LeftBrace ∷ kind.RightBrace ∷ [], refl)
rule_tokens rule.Parameter = (kind.Identifier, kind.Colon ∷ kind.KeywordAnytype ∷ [], refl)
rule_tokens rule.Block = (kind.LeftBrace, kind.RightBrace ∷ [], refl)
rule_tokens rule.Statement = (kind.LeftBrace, kind.RightBrace ∷ [], refl)
rule_tokens rule.Body = (kind.LeftBrace, kind.RightBrace ∷ [], refl)
rule_tokens rule.IfStatement = (kind.KeywordIf, kind.LeftParen ∷ kind.Identifier ∷ kind.RightParen ∷ kind.LeftBrace ∷ kind.RightBrace ∷ [], refl)
rule_tokens rule.WhileStatement = (kind.KeywordWhile, kind.LeftParen ∷ kind.Identifier ∷ kind.RightParen ∷ kind.LeftBrace ∷ kind.RightBrace ∷ [], refl)
rule_tokens rule.ForStatement = (kind.KeywordFor, kind.LeftParen ∷ kind.Identifier ∷ kind.RightParen ∷ kind.Pipe ∷ kind.Identifier ∷ kind.Pipe ∷ kind.LeftBrace ∷ kind.RightBrace ∷ [], refl)
rule_tokens rule.Rest = (kind.LeftBrace, kind.RightBrace ∷ [], refl)
rule_tokens rule.ForArgument = (kind.Identifier, [], refl)
rule_tokens rule.Captures = (kind.Identifier, [], refl)
rule_tokens rule.Capture = (kind.Pipe, kind.Identifier ∷ kind.Pipe ∷ [], refl)
rule_tokens rule.Name = (kind.Identifier, [], refl)
rule_tokens rule.Assignment = (kind.Identifier, [], refl)
rule_tokens rule.Or = (kind.Identifier, [], refl)
rule_tokens rule.And = (kind.Identifier, [], refl)
rule_tokens rule.Compare = (kind.Identifier, [], refl)
rule_tokens rule.Bit = (kind.Identifier, [], refl)
rule_tokens rule.Shift = (kind.Identifier, [], refl)
rule_tokens rule.Add = (kind.Identifier, [], refl)
rule_tokens rule.Multiply = (kind.Identifier, [], refl)
rule_tokens rule.Prefix = (kind.Identifier, [], refl)
rule_tokens rule.Primary = (kind.Identifier, [], refl)
rule_tokens rule.IfExpression = (kind.KeywordIf, kind.LeftParen ∷ kind.Identifier ∷ kind.RightParen ∷ kind.Identifier ∷ [], refl)
rule_tokens rule.WhileExpression = (kind.KeywordWhile, kind.LeftParen ∷ kind.Identifier ∷ kind.RightParen ∷ kind.Identifier ∷ [], refl)
rule_tokens rule.ForExpression = (kind.KeywordFor, kind.LeftParen ∷ kind.Identifier ∷ kind.RightParen ∷ kind.Pipe ∷ kind.Identifier ∷ kind.Pipe ∷ kind.Identifier ∷ [], refl)
rule_tokens rule.RestExpression = (kind.Identifier, [], refl)
rule_tokens rule.TypeExpression = (kind.Identifier, [], refl)
rule_tokens rule.TypePrefix = (kind.QuestionMark, [], refl)
rule_tokens rule.Suffix = (kind.Identifier, [], refl)
rule_tokens rule.Atom = (kind.Identifier, [], refl)
rule_tokens rule.Initializer = (kind.LeftBrace, kind.RightBrace ∷ [], refl)
rule_tokens rule.Container = (kind.KeywordStruct, kind.LeftBrace ∷ kind.RightBrace ∷ [], refl)
rule_tokens rule.ContainerBody = (kind.LeftBrace, kind.RightBrace ∷ [], refl)
rule_tokens rule.Switch = (kind.KeywordSwitch, kind.LeftParen ∷ kind.Identifier ∷ kind.RightParen ∷ kind.LeftBrace ∷ kind.RightBrace ∷ [], refl)
rule_tokens rule.Prong = (kind.KeywordElse, kind.EqualAngleRight ∷ kind.Identifier ∷ [], refl)
rule_tokens rule.Item = (kind.Identifier, [], refl)

rule_agrees : (r : Rule) (k : TokenKind) (rest : List TokenKind) → Agree (look_of (quick_rule r ++ k ∷ [])) (look_of (quick_rule r ++ k ∷ rest)) (rule_rows r)
rule_agrees r k rest =
    let t = rule_tokens r in
    subst (λ (l : List TokenKind). Agree (look_of (l ++ k ∷ [])) (look_of (l ++ k ∷ rest)) (rule_rows r)) (sym t.2) (front_agrees t.0 t.1 k rest (rule_rows r))

-- ---- a row of parts ends before a token

sample_has : (c : TokenClass) → is_sampled c ≡ true → has_kind c (sample c) ≡ true
unfolding kinds.is_const_or_var kinds.is_name_word kinds.is_assign_operator kinds.is_compare_operator kinds.is_bit_operator kinds.is_shift_operator kinds.is_add_operator kinds.is_multiply_operator kinds.is_prefix_operator kinds.is_pointer_mark kinds.is_atom_word kinds.is_container_word
sample_has class.ConstOrVar h = refl
sample_has class.NameWord h = refl
sample_has class.AssignOperator h = refl
sample_has class.CompareOperator h = refl
sample_has class.BitOperator h = refl
sample_has class.ShiftOperator h = refl
sample_has class.AddOperator h = refl
sample_has class.MultiplyOperator h = refl
sample_has class.PrefixOperator h = refl
sample_has class.PointerMark h = refl
sample_has class.AtomWord h = refl
sample_has class.ContainerWord h = refl
sample_has class.CaptureStart h = absurd (cc)
sample_has class.ParameterStart h = absurd (cc)
sample_has class.TypePrefixStart h = absurd (cc)
sample_has class.OperandWord h = absurd (cc)
sample_has class.StatementWord h = absurd (cc)
sample_has class.TypeStart h = absurd (cc)
sample_has class.ExpressionStart h = absurd (cc)
sample_has class.StatementStart h = absurd (cc)
sample_has class.ProngStart h = absurd (cc)
sample_has class.DeclarationStart h = absurd (cc)
sample_has class.MemberStart h = absurd (cc)

split_first : (l : List TokenKind) (k : TokenKind) (rest : List TokenKind) → (more : List TokenKind) × (l ++ k ∷ rest ≡ first_or l k ∷ more)
split_first [] k rest = (rest, refl)
split_first (j ∷ js) k rest = (js ++ k ∷ rest, refl)

-- what these parts derive that ends most quickly before this token
abbrev Ending : List Part → TokenKind → List TokenKind → Type 0
Ending ps k rest = (p : Pieces) × Derives ps (quick_all ps ++ k ∷ rest) (k ∷ rest) p

abbrev EndsAll : ℕ → Type 0
EndsAll n = (ps : List Part) (k : TokenKind) (rest : List TokenKind) → is_low n ps ≡ true → ends_before k ps ≡ true → Ending ps k rest

part_joined : (x y : List TokenKind) (k : TokenKind) (rest : List TokenKind) → (x ++ y) ++ k ∷ rest ≡ x ++ (y ++ k ∷ rest)
part_joined x y k rest = append_assoc x y (k ∷ rest)

rule_ending : (n : ℕ) (r : Rule) (ps : List Part) (k : TokenKind) (rest : List TokenKind) → EndsAll n → quick_depth_of_rule r ≤ n → may_follow (first_or (quick_all ps) k) (part.Rule r) ≡ true → Ending ps k rest → Ending (part.Rule r ∷ ps) k rest
rule_ending n r ps k rest all l h (later, d) =
    let t = split_first (quick_all ps) k rest in
    let first = first_or (quick_all ps) k in
    let q = quick_found (quick_row_of_rule r) (quick_depth_of_rule r) (quick_rule r) (after_rule r) t.0 (rule_rows r) first (rule_ends_well r) h (rule_agrees r first t.0) in
    let ends = kind_among (λ j. ends_before j q.a.parts) first (after_rule r) h (row_tested (row_ends_before (after_rule r)) q.a (rule_rows r) (rule_rows_end r) (open_is_row (quick_rule r ++ first ∷ t.0) q.a (rule_rows r) q.among)) in
    let inner = all q.a.parts first t.0 (low_more n q.a.parts (quick_depth_of_rule r) l q.low) ends in
    let whole : quick_all (part.Rule r ∷ ps) ++ k ∷ rest ≡ quick_rule r ++ first ∷ t.0 = part_joined (quick_rule r) (quick_all ps) k rest ∙ ap (λ (m : List TokenKind). quick_rule r ++ m) t.1 in (
      followed (made r inner.0) later,
      subst (λ (m : List TokenKind). Derives (part.Rule r ∷ ps) m (k ∷ rest) (followed (made r inner.0) later)) (sym whole)
          (derives_rule r q.a ps (quick_rule r ++ first ∷ t.0) (first ∷ t.0) (k ∷ rest) inner.0 later q.among
          (subst (λ (m : List TokenKind). Derives q.a.parts (m ++ first ∷ t.0) (first ∷ t.0) inner.0) q.same inner.1) (subst (λ (m : List TokenKind). Derives ps m (k ∷ rest) later) t.1 d)),
    )

group_ending : (n : ℕ) (g : Group) (ps : List Part) (k : TokenKind) (rest : List TokenKind) → EndsAll n → quick_depth_of_group g ≤ n → may_follow (first_or (quick_all ps) k) (part.Group g) ≡ true → Ending ps k rest → Ending (part.Group g ∷ ps) k rest
group_ending n g ps k rest all l h (later, d) =
    let t = split_first (quick_all ps) k rest in
    let first = first_or (quick_all ps) k in
    let q = quick_found (quick_row_of_group g) (quick_depth_of_group g) (quick_group g) (after_group g) t.0 (group_rows g) first (group_ends_well g) h (group_agrees g (quick_group g) first t.0) in
    let ends = kind_among (λ j. ends_before j q.a.parts) first (after_group g) h (row_tested (row_ends_before (after_group g)) q.a (group_rows g) (group_rows_end g) (open_is_row (quick_group g ++ first ∷ t.0) q.a (group_rows g) q.among)) in
    let inner = all q.a.parts first t.0 (low_more n q.a.parts (quick_depth_of_group g) l q.low) ends in
    let whole : quick_all (part.Group g ∷ ps) ++ k ∷ rest ≡ quick_group g ++ first ∷ t.0 = part_joined (quick_group g) (quick_all ps) k rest ∙ ap (λ (m : List TokenKind). quick_group g ++ m) t.1 in (
      followed inner.0 later,
      subst (λ (m : List TokenKind). Derives (part.Group g ∷ ps) m (k ∷ rest) (followed inner.0 later)) (sym whole)
          (derives_group g q.a ps (quick_group g ++ first ∷ t.0) (first ∷ t.0) (k ∷ rest) inner.0 later q.among
          (subst (λ (m : List TokenKind). Derives q.a.parts (m ++ first ∷ t.0) (first ∷ t.0) inner.0) q.same inner.1) (subst (λ (m : List TokenKind). Derives ps m (k ∷ rest) later) t.1 d)),
    )

row_ending : (n : ℕ) (ps : List Part) (k : TokenKind) (rest : List TokenKind) → EndsAll n → is_low (suc n) ps ≡ true → ends_before k ps ≡ true → Ending ps k rest
row_ending n [] k rest all l h = (nothing, derives_none (k ∷ rest))
row_ending n (p ∷ ps) k rest all l h =
    let s = and_parts (nat_lt (quick_depth p) (suc n)) (is_low (suc n) ps) l in
    let t = and_parts (may_follow (first_or (quick_all ps) k) p) (ends_before k ps) h in
    by p (ltb-true (quick_depth p) (suc n) s.0) t.0 (row_ending n ps k rest all s.1 t.1)
  where
    by : (q : Part) → quick_depth q < suc n → may_follow (first_or (quick_all ps) k) q ≡ true → Ending ps k rest → Ending (q ∷ ps) k rest
    by (part.Token j) less f (later, d) = (word j later, derives_token j ps (quick_all ps ++ k ∷ rest) (k ∷ rest) later d)
    by (part.OneOf c) less f (later, d) = (word (sample c) later, derives_one_of c (sample c) ps (quick_all ps ++ k ∷ rest) (k ∷ rest) later (sample_has c f) d)
    by (part.Rule r) less f e = rule_ending n r ps k rest all (omega arith) f e
    by (part.Group g) less f e = group_ending n g ps k rest all (omega arith) f e

all_end : (n : ℕ) → EndsAll n
all_end zero [] k rest l h = (nothing, derives_none (k ∷ rest))
all_end zero (p ∷ ps) k rest l h = absurd (let s = and_parts (nat_lt (quick_depth p) zero) (is_low zero ps) l in let less = ltb-true (quick_depth p) zero s.0 in omega arith)
all_end (suc n) ps k rest l h = row_ending n ps k rest (all_end n) l h

-- the most alternatives that lie one in the other
deepest : List Part → ℕ
deepest [] = 0
deepest (p ∷ ps) = suc (quick_depth p) + deepest ps

deepest_low : (ps : List Part) → is_low (deepest ps) ps ≡ true
unfolding deepest
deepest_low [] = refl
deepest_low (p ∷ ps) = rw (lt-ltb (quick_depth p) (deepest (p ∷ ps)) (omega arith), low_more (deepest (p ∷ ps)) ps (deepest ps) (omega arith) (deepest_low ps)) refl

-- parts each of which may be followed by what ends the next ones most quickly derive the shortest tokens
pub can_end : (ps : List Part) (k : TokenKind) (rest : List TokenKind) → ends_before k ps ≡ true → (p : Pieces) × Derives ps (quick_all ps ++ k ∷ rest) (k ∷ rest) p
can_end ps k rest h = all_end (deepest ps) ps k rest (deepest_low ps) h
