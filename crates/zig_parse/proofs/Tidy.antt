-- Inside a brace no token opens or closes one, but the last that closes it; what stands in a brace further in
-- counts as one part. The checker computes it of each row of the grammar.
use Rattle.std.proofs.Common.{◌≡◌, Bool, true, false, ◌&&◌, ◌||◌, ◌⊎◌, inl, inr, List, [], ◌∷◌, ◌++◌, refl, sym, ◌∙◌, ap, subst}
use Rattle.std.specs.Prelude.{not}
use Rattle.std.proofs.lemmas.Bool.{and_parts, and_from, eq-eqb, not-true}
use Rattle.zig_tree.specs.declared.token.TokenKind.{TokenKind}
use Rattle.zig_tree.specs.declared.token.TokenKind.TheVariants as kind
use Rattle.zig_tree.specs.declared.grammar.Rule.{Rule}
use Rattle.zig_tree.specs.declared.grammar.Rule.TheVariants as rule
use Rattle.zig_tree.specs.declared.grammar.Group.{Group}
use Rattle.zig_tree.specs.declared.grammar.Group.TheVariants as group
use Rattle.zig_tree.specs.declared.grammar.TokenClass.{TokenClass}
use Rattle.zig_tree.specs.declared.grammar.Part.{Part}
use Rattle.zig_tree.specs.declared.grammar.Part.TheVariants as part
use Rattle.zig_tree.specs.Kinds.{is_kind, has_kind, number_of, is_const_or_var, is_name_word, is_assign_operator, is_compare_operator, is_bit_operator, is_shift_operator, is_add_operator, is_multiply_operator, is_prefix_operator, is_pointer_mark, is_atom_word}
use Rattle.zig_tree.specs.Grammar.{Alternative, group_rows, rule_rows}
use Rattle.zig_tree.specs.GrammarSentences.{Among}
use Rattle.zig_parse.specs.Threads.{has_braces, is_apart, is_braced}
use Rattle.zig_parse.proofs.Derived.{each_row, row_tested}
use Rattle.zig_parse.proofs.Tables.{same_kind}

-- whether a token begins a brace, ends one, or ends the file
abbrev pub is_edge : TokenKind → Bool
is_edge k = is_kind kind.LeftBrace k || (is_kind kind.RightBrace k || is_kind kind.End k)

abbrev pub has_edge : TokenClass → Bool
has_edge c = has_kind c kind.LeftBrace || (has_kind c kind.RightBrace || has_kind c kind.End)

abbrev pub is_root : Rule → Bool
is_root rule.Root = true
is_root _ = false

abbrev pub is_body : Group → Bool
is_body group.InitializerBody = true
is_body _ = false

-- whether a part that stands before others reads no such token outside of further braces
abbrev pub is_plain : Part → Bool
is_plain (part.Token k) = not (is_edge k)
is_plain (part.OneOf c) = not (has_edge c)
is_plain (part.Rule r) = not (is_root r)
is_plain (part.Group g) = not (is_body g)

abbrev pub are_plain : List Part → Bool
are_plain [] = true
are_plain (p ∷ ps) = is_plain p && are_plain ps

-- the token that ends the whole file, or what stands in a brace
abbrev pub closer : Bool → TokenKind
closer true = kind.End
closer false = kind.RightBrace

-- whether a part may be the last
abbrev pub is_last : Bool → Part → Bool
is_last root (part.Token k) = is_kind (closer root) k
is_last root (part.OneOf c) = false
is_last root (part.Rule r) = false
is_last root (part.Group g) = not root && is_body g

-- plain parts, and a last one
abbrev pub tidy : Bool → List Part → Bool
tidy root [] = true
tidy root (p ∷ []) = is_last root p
tidy root (p ∷ q ∷ qs) = is_plain p && tidy root (q ∷ qs)

abbrev pub row_plain : Alternative → Bool
row_plain a = are_plain a.parts

abbrev pub row_tidy : Alternative → Bool
row_tidy a = tidy false a.parts

-- ---- the rows

pub rule_plain : (r : Rule) → is_braced r ≡ false → is_root r ≡ false → each_row row_plain (rule_rows r) ≡ true
unfolding rule_rows is_braced number_of is_const_or_var is_name_word is_assign_operator is_compare_operator is_bit_operator is_shift_operator is_add_operator is_multiply_operator is_prefix_operator is_pointer_mark is_atom_word
rule_plain rule.Root h k = absurd (cc)
rule_plain rule.Member h k = refl
rule_plain rule.Field h k = refl
rule_plain rule.Declaration h k = refl
rule_plain rule.Variable h k = refl
rule_plain rule.Prototype h k = refl
rule_plain rule.Function h k = refl
rule_plain rule.Parameter h k = refl
rule_plain rule.Block h k = absurd (cc)
rule_plain rule.Statement h k = refl
rule_plain rule.Body h k = refl
rule_plain rule.IfStatement h k = refl
rule_plain rule.WhileStatement h k = refl
rule_plain rule.ForStatement h k = refl
rule_plain rule.Rest h k = refl
rule_plain rule.ForArgument h k = refl
rule_plain rule.Captures h k = refl
rule_plain rule.Capture h k = refl
rule_plain rule.Name h k = refl
rule_plain rule.Assignment h k = refl
rule_plain rule.Or h k = refl
rule_plain rule.And h k = refl
rule_plain rule.Compare h k = refl
rule_plain rule.Bit h k = refl
rule_plain rule.Shift h k = refl
rule_plain rule.Add h k = refl
rule_plain rule.Multiply h k = refl
rule_plain rule.Prefix h k = refl
rule_plain rule.Primary h k = refl
rule_plain rule.IfExpression h k = refl
rule_plain rule.WhileExpression h k = refl
rule_plain rule.ForExpression h k = refl
rule_plain rule.RestExpression h k = refl
rule_plain rule.TypeExpression h k = refl
rule_plain rule.TypePrefix h k = refl
rule_plain rule.Suffix h k = refl
rule_plain rule.Atom h k = refl
rule_plain rule.Initializer h k = absurd (cc)
rule_plain rule.Container h k = refl
rule_plain rule.ContainerBody h k = absurd (cc)
rule_plain rule.Switch h k = refl
rule_plain rule.Prong h k = refl
rule_plain rule.Item h k = refl

pub group_plain : (g : Group) → has_braces g ≡ false → is_body g ≡ false → each_row row_plain (group_rows g) ≡ true
unfolding group_rows number_of is_const_or_var is_name_word is_assign_operator is_compare_operator is_bit_operator is_shift_operator is_add_operator is_multiply_operator is_prefix_operator is_pointer_mark is_atom_word
group_plain group.RootMembers h k = refl
group_plain group.Members h k = refl
group_plain group.FieldEnd h k = refl
group_plain group.TypeOption h k = refl
group_plain group.ValueOption h k = refl
group_plain group.StringOption h k = refl
group_plain group.PubOption h k = refl
group_plain group.Declared h k = refl
group_plain group.Parameters h k = refl
group_plain group.MoreParameters h k = refl
group_plain group.BangOption h k = refl
group_plain group.ComptimeOption h k = refl
group_plain group.ParameterType h k = refl
group_plain group.Statements h k = refl
group_plain group.ComptimeStatement h k = refl
group_plain group.LabelledStatement h k = refl
group_plain group.ContinueOption h k = refl
group_plain group.MoreForArguments h k = refl
group_plain group.ForArguments h k = refl
group_plain group.ElseOption h k = refl
group_plain group.RestEnd h k = refl
group_plain group.RangeOption h k = refl
group_plain group.ExpressionOption h k = refl
group_plain group.MoreCaptures h k = refl
group_plain group.FurtherCaptures h k = refl
group_plain group.PointerOption h k = refl
group_plain group.CaptureOption h k = refl
group_plain group.AssignTail h k = refl
group_plain group.OrTail h k = refl
group_plain group.AndTail h k = refl
group_plain group.CompareTail h k = refl
group_plain group.BitTail h k = refl
group_plain group.ShiftTail h k = refl
group_plain group.AddTail h k = refl
group_plain group.MultiplyTail h k = refl
group_plain group.MorePrefixes h k = refl
group_plain group.LabelledExpression h k = refl
group_plain group.BreakLabel h k = refl
group_plain group.InitializerOption h k = refl
group_plain group.ElseExpression h k = refl
group_plain group.MoreTypePrefixes h k = refl
group_plain group.BangTypeOption h k = refl
group_plain group.ConstOption h k = refl
group_plain group.BracketPrefix h k = refl
group_plain group.SuffixTail h k = refl
group_plain group.Arguments h k = refl
group_plain group.MoreArguments h k = refl
group_plain group.DotAtom h k = refl
group_plain group.ErrorAtom h k = refl
group_plain group.ErrorNames h k = refl
group_plain group.MoreErrorNames h k = refl
group_plain group.InitializerBody h k = absurd (cc)
group_plain group.MoreFields h k = refl
group_plain group.FurtherFields h k = refl
group_plain group.TagOption h k = refl
group_plain group.UnionTag h k = refl
group_plain group.Prongs h k = refl
group_plain group.MoreProngs h k = refl
group_plain group.ProngHead h k = refl
group_plain group.MoreItems h k = refl
group_plain group.Items h k = refl
group_plain group.ItemRange h k = refl
group_plain group.ErrorBraces h k = absurd (cc)
group_plain group.SwitchBraces h k = absurd (cc)

pub body_tidy : (g : Group) → is_body g ≡ true → each_row row_tidy (group_rows g) ≡ true
unfolding group_rows number_of is_const_or_var is_name_word is_assign_operator is_compare_operator is_bit_operator is_shift_operator is_add_operator is_multiply_operator is_prefix_operator is_pointer_mark is_atom_word
body_tidy group.RootMembers h = absurd (cc)
body_tidy group.Members h = absurd (cc)
body_tidy group.FieldEnd h = absurd (cc)
body_tidy group.TypeOption h = absurd (cc)
body_tidy group.ValueOption h = absurd (cc)
body_tidy group.StringOption h = absurd (cc)
body_tidy group.PubOption h = absurd (cc)
body_tidy group.Declared h = absurd (cc)
body_tidy group.Parameters h = absurd (cc)
body_tidy group.MoreParameters h = absurd (cc)
body_tidy group.BangOption h = absurd (cc)
body_tidy group.ComptimeOption h = absurd (cc)
body_tidy group.ParameterType h = absurd (cc)
body_tidy group.Statements h = absurd (cc)
body_tidy group.ComptimeStatement h = absurd (cc)
body_tidy group.LabelledStatement h = absurd (cc)
body_tidy group.ContinueOption h = absurd (cc)
body_tidy group.MoreForArguments h = absurd (cc)
body_tidy group.ForArguments h = absurd (cc)
body_tidy group.ElseOption h = absurd (cc)
body_tidy group.RestEnd h = absurd (cc)
body_tidy group.RangeOption h = absurd (cc)
body_tidy group.ExpressionOption h = absurd (cc)
body_tidy group.MoreCaptures h = absurd (cc)
body_tidy group.FurtherCaptures h = absurd (cc)
body_tidy group.PointerOption h = absurd (cc)
body_tidy group.CaptureOption h = absurd (cc)
body_tidy group.AssignTail h = absurd (cc)
body_tidy group.OrTail h = absurd (cc)
body_tidy group.AndTail h = absurd (cc)
body_tidy group.CompareTail h = absurd (cc)
body_tidy group.BitTail h = absurd (cc)
body_tidy group.ShiftTail h = absurd (cc)
body_tidy group.AddTail h = absurd (cc)
body_tidy group.MultiplyTail h = absurd (cc)
body_tidy group.MorePrefixes h = absurd (cc)
body_tidy group.LabelledExpression h = absurd (cc)
body_tidy group.BreakLabel h = absurd (cc)
body_tidy group.InitializerOption h = absurd (cc)
body_tidy group.ElseExpression h = absurd (cc)
body_tidy group.MoreTypePrefixes h = absurd (cc)
body_tidy group.BangTypeOption h = absurd (cc)
body_tidy group.ConstOption h = absurd (cc)
body_tidy group.BracketPrefix h = absurd (cc)
body_tidy group.SuffixTail h = absurd (cc)
body_tidy group.Arguments h = absurd (cc)
body_tidy group.MoreArguments h = absurd (cc)
body_tidy group.DotAtom h = absurd (cc)
body_tidy group.ErrorAtom h = absurd (cc)
body_tidy group.ErrorNames h = absurd (cc)
body_tidy group.MoreErrorNames h = absurd (cc)
body_tidy group.InitializerBody h = refl
body_tidy group.MoreFields h = absurd (cc)
body_tidy group.FurtherFields h = absurd (cc)
body_tidy group.TagOption h = absurd (cc)
body_tidy group.UnionTag h = absurd (cc)
body_tidy group.Prongs h = absurd (cc)
body_tidy group.MoreProngs h = absurd (cc)
body_tidy group.ProngHead h = absurd (cc)
body_tidy group.MoreItems h = absurd (cc)
body_tidy group.Items h = absurd (cc)
body_tidy group.ItemRange h = absurd (cc)
body_tidy group.ErrorBraces h = absurd (cc)
body_tidy group.SwitchBraces h = absurd (cc)

-- ---- parts in front of others

pub plain_front : (root : Bool) (xs : List Part) (q : Part) (qs : List Part) → are_plain xs ≡ true → tidy root (q ∷ qs) ≡ true → tidy root (xs ++ q ∷ qs) ≡ true
plain_front root [] q qs h k = k
plain_front root (x ∷ []) q qs h k = and_from (is_plain x) (tidy root (q ∷ qs)) (and_parts (is_plain x) true h).0 k
plain_front root (x ∷ y ∷ xs) q qs h k =
    let s = and_parts (is_plain x) (are_plain (y ∷ xs)) h in
    and_from (is_plain x) (tidy root (y ∷ (xs ++ q ∷ qs))) s.0 (plain_front root (y ∷ xs) q qs s.1 k)

-- a rule is replaced by an alternative
pub rule_tidy : (root : Bool) (r : Rule) (a : Alternative) (qs : List Part) → is_braced r ≡ false → Among a (rule_rows r) → tidy root (part.Rule r ∷ qs) ≡ true → tidy root (a.parts ++ qs) ≡ true
rule_tidy root r a [] b m h = absurd (cc)
rule_tidy root r a (q ∷ qs) b m h =
    let s = and_parts (not (is_root r)) (tidy root (q ∷ qs)) h in
    plain_front root a.parts q qs (row_tested row_plain a (rule_rows r) (rule_plain r b (not-true (is_root r) s.0)) m) s.1

append_none : (ps : List Part) → ps ≡ ps ++ []
append_none [] = refl
append_none (p ∷ ps) = ap (λ (l : List Part). p ∷ l) (append_none ps)

body_row : (root : Bool) (g : Group) (a : Alternative) → Among a (group_rows g) → (not root && is_body g) ≡ true → tidy root (a.parts ++ []) ≡ true
body_row true g a m h = absurd (cc)
body_row false g a m h = subst (λ (l : List Part). tidy false l ≡ true) (append_none a.parts) (row_tested row_tidy a (group_rows g) (body_tidy g h) m)

-- a group is
pub group_tidy : (root : Bool) (g : Group) (a : Alternative) (qs : List Part) → has_braces g ≡ false → Among a (group_rows g) → tidy root (part.Group g ∷ qs) ≡ true → tidy root (a.parts ++ qs) ≡ true
group_tidy root g a [] b m h = body_row root g a m h
group_tidy root g a (q ∷ qs) b m h =
    let s = and_parts (not (is_body g)) (tidy root (q ∷ qs)) h in
    plain_front root a.parts q qs (row_tested row_plain a (group_rows g) (group_plain g b (not-true (is_body g) s.0)) m) s.1

-- ---- a token is read

pub is_kind_same : (k : TokenKind) → is_kind k k ≡ true
is_kind_same k = eq-eqb (number_of k) (number_of k) refl

-- whether a token closes a brace, or the file
abbrev pub is_closing : TokenKind → Bool
is_closing k = is_kind k kind.RightBrace || is_kind k kind.End

-- what is left of tidy parts after a token: nothing where it was the closing one, else some tidy parts
abbrev pub Left : Bool → TokenKind → List Part → Type 0
Left root k ps = ((k ≡ closer root) × (ps ≡ [])) ⊎ ((is_closing k ≡ false) × (tidy root ps ≡ true) × (ps ≡ [] → ⊥))

some_part : (p : Part) (ps : List Part) → p ∷ ps ≡ [] → ⊥
some_part p ps e = cc

edge_no : (k : TokenKind) → is_edge k ≡ false → (is_closing k ≡ false) × (k ≡ kind.LeftBrace → ⊥)
unfolding number_of
edge_no k h =
    let a = or_no (is_kind kind.LeftBrace k) _ h in
    let b = or_no (is_kind kind.RightBrace k) _ a.1 in (
      or_from (is_kind k kind.RightBrace) (is_kind k kind.End) (flip k kind.RightBrace b.0) (flip k kind.End b.1),
      λ e. (let yes : is_kind kind.LeftBrace k ≡ true = ap (is_kind kind.LeftBrace) e in let never : true ≡ false = sym yes ∙ a.0 in cc),
    )
  where
    or_no : (x y : Bool) → (x || y) ≡ false → (x ≡ false) × (y ≡ false)
    or_no true y h = absurd (cc)
    or_no false y h = (refl, h)

    or_from : (x y : Bool) → x ≡ false → y ≡ false → (x || y) ≡ false
    or_from true y h k = absurd (cc)
    or_from false y h k = k

    flip_by : (k j : TokenKind) (b : Bool) → is_kind k j ≡ b → is_kind j k ≡ false → is_kind k j ≡ false
    flip_by k j true e h = (let same = same_kind k j e in let yes : is_kind j k ≡ true = subst (λ (x : TokenKind). is_kind j x ≡ true) (sym same) (is_kind_same j) in let never : true ≡ false = sym yes ∙ h in absurd (cc))
    flip_by k j false e h = e

    flip : (k j : TokenKind) → is_kind j k ≡ false → is_kind k j ≡ false
    flip k j h = flip_by k j (is_kind k j) refl h

-- the part reads a token
abbrev pub Fits : Part → TokenKind → Type 0
Fits (part.Token j) k = is_kind j k ≡ true
Fits (part.OneOf c) k = has_kind c k ≡ true
Fits (part.Rule r) k = ⊥
Fits (part.Group g) k = ⊥

plain_fits : (p : Part) (k : TokenKind) → Fits p k → is_plain p ≡ true → is_edge k ≡ false
plain_fits (part.Token j) k f h = subst (λ (x : TokenKind). is_edge x ≡ false) (same_kind j k f) (not-true (is_edge j) h)
plain_fits (part.OneOf c) k f h = by (is_edge k) refl
  where
    is_of : (j : TokenKind) → is_kind j k ≡ true → has_kind c j ≡ true
    is_of j e = subst (λ (x : TokenKind). has_kind c x ≡ true) (sym (same_kind j k e)) f

    pick : (x y z : Bool) → (x || (y || z)) ≡ true → (x ≡ true) ⊎ ((y ≡ true) ⊎ (z ≡ true))
    pick true y z e = inl refl
    pick false true z e = inr (inl refl)
    pick false false z e = inr (inr e)

    none : has_edge c ≡ false
    none = not-true (has_edge c) h

    first : (x y z : Bool) → (x || (y || z)) ≡ false → (x ≡ false) × (y ≡ false) × (z ≡ false)
    first true y z e = absurd (cc)
    first false true z e = absurd (cc)
    first false false z e = (refl, refl, e)

    never : (x : Bool) → x ≡ true → x ≡ false → ⊥
    never x a b = (let e : true ≡ false = sym a ∙ b in cc)

    by : (b : Bool) → is_edge k ≡ b → is_edge k ≡ false
    by false e = e
    by true e =
        let no = first (has_kind c kind.LeftBrace) (has_kind c kind.RightBrace) (has_kind c kind.End) none in
        absurd (elim (pick (is_kind kind.LeftBrace k) (is_kind kind.RightBrace k) (is_kind kind.End k) e) [
          | inl x ↦ never _ (is_of kind.LeftBrace x) no.0
          | inr (inl x) ↦ never _ (is_of kind.RightBrace x) no.1
          | inr (inr x) ↦ never _ (is_of kind.End x) no.2
        ])
plain_fits (part.Rule r) k f h = absurd f
plain_fits (part.Group g) k f h = absurd f

last_fits : (root : Bool) (p : Part) (k : TokenKind) → Fits p k → is_last root p ≡ true → k ≡ closer root
last_fits root (part.Token j) k f h = sym (same_kind j k f) ∙ sym (same_kind (closer root) j h)
last_fits root (part.OneOf c) k f h = absurd (cc)
last_fits root (part.Rule r) k f h = absurd f
last_fits root (part.Group g) k f h = absurd f

pub tidy_read : (root : Bool) (p : Part) (qs : List Part) (k : TokenKind) → Fits p k → tidy root (p ∷ qs) ≡ true → Left root k qs
tidy_read root p [] k f h = inl (last_fits root p k f h, refl)
tidy_read root p (q ∷ qs) k f h =
    let s = and_parts (is_plain p) (tidy root (q ∷ qs)) h in
    inr ((edge_no k (plain_fits p k f s.0)).0, s.1, some_part q qs)

-- a token that begins a brace is none of them
pub tidy_no_brace : (root : Bool) (p : Part) (qs : List Part) (k : TokenKind) → Fits p k → tidy root (p ∷ qs) ≡ true → k ≡ kind.LeftBrace → ⊥
tidy_no_brace true p [] k f h e = let x : kind.LeftBrace ≡ kind.End = sym e ∙ last_fits true p k f h in cc
tidy_no_brace false p [] k f h e = let x : kind.LeftBrace ≡ kind.RightBrace = sym e ∙ last_fits false p k f h in cc
tidy_no_brace root p (q ∷ qs) k f h e =
    let s = and_parts (is_plain p) (tidy root (q ∷ qs)) h in
    (edge_no k (plain_fits p k f s.0)).1 e

no_body : (g : Group) → has_braces g ≡ true → is_body g ≡ true → ⊥
no_body group.InitializerBody a h = cc
no_body _ a h = cc

-- a part in braces stands before others
pub tidy_apart : (root : Bool) (p : Part) (qs : List Part) → is_apart p ≡ true → tidy root (p ∷ qs) ≡ true → (tidy root qs ≡ true) × (qs ≡ [] → ⊥)
tidy_apart root p (q ∷ qs) a h = ((and_parts (is_plain p) (tidy root (q ∷ qs)) h).1, some_part q qs)
tidy_apart root (part.Token j) [] a h = absurd (cc)
tidy_apart root (part.OneOf c) [] a h = absurd (cc)
tidy_apart root (part.Rule r) [] a h = absurd (cc)
tidy_apart true (part.Group g) [] a h = absurd (cc)
tidy_apart false (part.Group g) [] a h = absurd (no_body g a h)
