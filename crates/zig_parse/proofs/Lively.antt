-- A thread of the first pass can end: what it has read makes, with whatever its parts to come derive, the part
-- that it was begun for.
use Rattle.std.proofs.Common.{◌≡◌, Bool, true, false, ◌⊎◌, inl, inr, List, [], ◌∷◌, ◌++◌, refl, sym, ◌∙◌, ap, append_assoc}
use Rattle.std.proofs.lemmas.Bool.{and_parts, and_from}
use Rattle.zig_tree.specs.declared.token.TokenKind.{TokenKind}
use Rattle.zig_tree.specs.declared.token.TokenKind.TheVariants as kind
use Rattle.zig_tree.specs.declared.grammar.Rule.{Rule}
use Rattle.zig_tree.specs.declared.grammar.Rule.TheVariants as rule
use Rattle.zig_tree.specs.declared.grammar.Group.{Group}
use Rattle.zig_tree.specs.declared.grammar.Group.TheVariants as group
use Rattle.zig_tree.specs.declared.grammar.TokenClass.TheVariants as class
use Rattle.zig_tree.specs.declared.grammar.Part.{Part}
use Rattle.zig_tree.specs.declared.grammar.Part.TheVariants as part
use Rattle.zig_tree.specs.Kinds.{is_kind}
use Rattle.zig_tree.specs.Grammar.{Alternative, group_rows, rule_rows}
use Rattle.zig_tree.specs.declared.grammar.When.{When}
use Rattle.zig_tree.specs.declared.grammar.When.TheVariants as when
use Rattle.zig_tree.specs.GrammarSentences.{next_kind, first_that_holds, with_shared, open_at, Among}
use Rattle.zig_parse.specs.declared.choice.Look.{Look}
use Rattle.zig_parse.proofs.Derived.{row_tested}
use Rattle.zig_parse.proofs.Reading.{Reads}
use Rattle.zig_parse.proofs.Paths.{look_of}
use Rattle.zig_parse.proofs.Behind.{Agree, agree_none, agree_more}
use Rattle.zig_parse.proofs.Endings.{after_group, after_rule, ends_before, first_or, may_follow, quick, quick_all, row_ends_before}
use Rattle.zig_parse.proofs.EndingTests.{group_rows_end, rule_rows_end}
use Rattle.zig_parse.proofs.Completing.{kind_among}

-- ---- the rows that are open

open_first : (x y : List TokenKind) (rows : List Alternative) → Agree (look_of x) (look_of y) rows → first_that_holds x rows ≡ first_that_holds y rows
open_first x y [] agree_none = refl
open_first x y (a ∷ more) (agree_more _ _ e h) = rw (e, open_first x y more h) refl

open_shared : (x y : List TokenKind) (a : Alternative) (w : When) (more : List Alternative) → Agree (look_of x) (look_of y) more → with_shared x a w more ≡ with_shared y a w more
open_shared x y a (when.Both _) more h = ap (λ (l : List Alternative). a ∷ l) (open_first x y more h)
open_shared x y a when.Always more h = refl
open_shared x y a (when.Is _) more h = refl
open_shared x y a (when.In _) more h = refl
open_shared x y a when.Label more h = refl

pub open_same : (x y : List TokenKind) (rows : List Alternative) → Agree (look_of x) (look_of y) rows → open_at x rows ≡ open_at y rows
open_same x y [] agree_none = refl
open_same x y (a ∷ more) (agree_more _ _ e h) = rw (e, open_shared x y a a.at more h, open_same x y more h) refl

-- ---- what a thread stands for

-- after an identifier that is no label an operand goes on with what its type begins with
pub data Typed : List Part → Type 0 where
  typed_type : (qs : List Part) → Typed (part.Rule rule.TypeExpression ∷ qs)
  typed_suffix : (qs : List Part) → Typed (part.Rule rule.Suffix ∷ qs)
  typed_atom : (qs : List Part) → Typed (part.Rule rule.Atom ∷ part.Group group.SuffixTail ∷ qs)
  typed_word : (qs : List Part) → Typed (part.OneOf class.AtomWord ∷ part.Group group.SuffixTail ∷ qs)

abbrev pub is_colon : TokenKind → Bool
is_colon k = is_kind k kind.Colon

-- with each end that these parts derive after some tokens, the tokens are what a part derives
abbrev pub GoesOn : List TokenKind → Part → List Part → Type 0
GoesOn read goal ps = (c end : List TokenKind) → Reads ps c end → Reads (goal ∷ []) (read ++ c) end

abbrev pub GoesOnPlain : List TokenKind → Part → List Part → Type 0
GoesOnPlain read goal ps = (c end : List TokenKind) → is_colon (next_kind c) ≡ false → Reads ps c end → Reads (goal ∷ []) (read ++ c) end

abbrev pub GoesOnAt : TokenKind → List TokenKind → Part → List Part → Type 0
GoesOnAt k read goal ps = (c end : List TokenKind) → Reads ps (k ∷ c) end → Reads (goal ∷ []) (read ++ k ∷ c) end

abbrev pub GoesOnPlainAt : TokenKind → List TokenKind → Part → List Part → Type 0
GoesOnPlainAt k read goal ps = (c end : List TokenKind) → is_colon (next_kind c) ≡ false → Reads ps (k ∷ c) end → Reads (goal ∷ []) (read ++ k ∷ c) end

-- each part may be followed by what ends the next ones
abbrev pub Ended : Part → List Part → Type 0
Ended goal ps = (k : TokenKind) → may_follow k goal ≡ true → ends_before k ps ≡ true

-- what is known of a thread between two tokens, the next of which is of this kind
pub record Lively (read : List TokenKind) (n : TokenKind) (goal : Part) (ps : List Part) : Type 0 where
  pub story : GoesOn read goal ps ⊎ ((is_colon n ≡ false) × ((qs : List Part) × (ps ≡ part.Group group.SuffixTail ∷ qs)) × GoesOnPlain read goal ps)
  pub ended : Ended goal ps

-- and before it has read a token
pub record Midway (read : List TokenKind) (look : Look) (goal : Part) (ps : List Part) : Type 0 where
  pub story : GoesOnAt look.kind read goal ps ⊎ ((look.kind ≡ kind.Identifier) × (is_colon look.next ≡ false) × Typed ps × GoesOnPlainAt look.kind read goal ps)
  pub ended : Ended goal ps

pub midway : (read : List TokenKind) (look : Look) (goal : Part) (ps : List Part) → Lively read look.kind goal ps → Midway read look goal ps
midway read look goal ps l = record {
  story = inl (by l.story);
  ended = l.ended;
}
  where
    by : GoesOn read goal ps ⊎ ((is_colon look.kind ≡ false) × ((qs : List Part) × (ps ≡ part.Group group.SuffixTail ∷ qs)) × GoesOnPlain read goal ps) → GoesOnAt look.kind read goal ps
    by (inl f) = λ c end r. f (look.kind ∷ c) end r
    by (inr f) = λ c end r. f.2 (look.kind ∷ c) end f.0 r

-- ---- endings

first_joined : (x y : List TokenKind) (k : TokenKind) → first_or (x ++ y) k ≡ first_or x (first_or y k)
first_joined [] y k = refl
first_joined (j ∷ js) y k = refl

quick_joined : (ps qs : List Part) → quick_all (ps ++ qs) ≡ quick_all ps ++ quick_all qs
quick_joined [] qs = refl
quick_joined (p ∷ ps) qs = ap (λ (l : List TokenKind). quick p ++ l) (quick_joined ps qs) ∙ sym (append_assoc (quick p) (quick_all ps) (quick_all qs))

pub ends_joined : (ps qs : List Part) (k : TokenKind) → ends_before (first_or (quick_all qs) k) ps ≡ true → ends_before k qs ≡ true → ends_before k (ps ++ qs) ≡ true
ends_joined [] qs k h e = e
ends_joined (p ∷ ps) qs k h e =
    let s = and_parts (may_follow (first_or (quick_all ps) (first_or (quick_all qs) k)) p) (ends_before (first_or (quick_all qs) k) ps) h in
    let same : first_or (quick_all (ps ++ qs)) k ≡ first_or (quick_all ps) (first_or (quick_all qs) k) = ap (λ (l : List TokenKind). first_or l k) (quick_joined ps qs) ∙ first_joined (quick_all ps) (quick_all qs) k in
    and_from (may_follow (first_or (quick_all (ps ++ qs)) k) p) (ends_before k (ps ++ qs)) (ap (λ (j : TokenKind). may_follow j p) same ∙ s.0) (ends_joined ps qs k s.1 e)

pub rule_ended : (goal : Part) (r : Rule) (a : Alternative) (qs : List Part) → Among a (rule_rows r) → Ended goal (part.Rule r ∷ qs) → Ended goal (a.parts ++ qs)
rule_ended goal r a qs m e k h =
    let s = and_parts (may_follow (first_or (quick_all qs) k) (part.Rule r)) (ends_before k qs) (e k h) in
    let j = first_or (quick_all qs) k in
    ends_joined a.parts qs k (kind_among (λ i. ends_before i a.parts) j (after_rule r) s.0 (row_tested (row_ends_before (after_rule r)) a (rule_rows r) (rule_rows_end r) m)) s.1

pub group_ended : (goal : Part) (g : Group) (a : Alternative) (qs : List Part) → Among a (group_rows g) → Ended goal (part.Group g ∷ qs) → Ended goal (a.parts ++ qs)
group_ended goal g a qs m e k h =
    let s = and_parts (may_follow (first_or (quick_all qs) k) (part.Group g)) (ends_before k qs) (e k h) in
    let j = first_or (quick_all qs) k in
    ends_joined a.parts qs k (kind_among (λ i. ends_before i a.parts) j (after_group g) s.0 (row_tested (row_ends_before (after_group g)) a (group_rows g) (group_rows_end g) m)) s.1
