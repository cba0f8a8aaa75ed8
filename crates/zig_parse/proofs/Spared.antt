-- Whether an identifier is read within the limit of depth is not told by what stands behind it.
use Rattle.std.proofs.Common.{◌≡◌, ℕ, zero, suc, ◌<◌, Bool, true, false, ◌&&◌, ◌||◌, ◌⊎◌, inl, inr, List, [], ◌∷◌, ◌++◌, map, Some, refl, sym, ◌∙◌, ap, subst, arith}
use Rattle.std.specs.Prelude.{if◌then◌else◌, not}
use Rattle.zig_tree.specs.declared.token.TokenKind.{TokenKind}
use Rattle.zig_tree.specs.declared.token.TokenKind.TheVariants as kind
use Rattle.zig_tree.specs.declared.grammar.Rule.{Rule}
use Rattle.zig_tree.specs.declared.grammar.Rule.TheVariants as rule
use Rattle.zig_tree.specs.declared.grammar.Group.{Group}
use Rattle.zig_tree.specs.declared.grammar.Group.TheVariants as group
use Rattle.zig_tree.specs.declared.grammar.TokenClass.TheVariants as class
use Rattle.zig_tree.specs.declared.grammar.Part.{Part}
use Rattle.zig_tree.specs.declared.grammar.Part.TheVariants as part
use Rattle.zig_tree.specs.Kinds.{is_kind, number_of}
use Rattle.zig_tree.specs.Kinds as kinds
use Rattle.zig_tree.specs.Grammar.{Alternative, group_rows, rule_rows}
use Rattle.zig_parse.specs.declared.choice.Look.{Look}
use Rattle.zig_parse.specs.declared.thread.Thread.{Thread}
use Rattle.zig_parse.specs.declared.thread.Move.{Move}
use Rattle.zig_parse.specs.declared.thread.Move.TheVariants as move
use Rattle.zig_parse.specs.declared.state.State.{State}
use Rattle.zig_parse.specs.declared.survey.Verdict.{Verdict}
use Rattle.zig_parse.specs.declared.survey.Verdict.TheVariants as verdict
use Rattle.zig_parse.specs.Choices.{choices}
use Rattle.zig_parse.specs.Moves.{moves_for_all, moving, moving_by, next_move, readers, reading_by, settled_all, spread}
use Rattle.zig_parse.specs.Threads.{after_read, collapses, hardened, is_braced, is_deep, is_never_alone, met, one_more, opened, passed, put, replaced}
use Rattle.zig_parse.specs.Passes.{after_token, all_deep, any_shallow, verdict_of}
use Rattle.zig_parse.specs.Surveys.{entered, is_spared, next_live, next_verdict}
use Rattle.zig_parse.proofs.Derived.{each_row}
use Rattle.zig_parse.proofs.Costs.{settled_less, settled_nothing, settled_one, total_work}
use Rattle.zig_parse.proofs.Behind.{agree_plain, atom_choices, choices_agree, fresh_move, group_plain, identifier, identifier_unexpected, is_identifier, is_no_label, label_parts, last_look, last_unexpected, live_is, moving_same, next_same, none_waits, primary_choices, readers_same, rule_plain, suffix_choices, type_choices, type_parts}
use Rattle.zig_parse.proofs.Moving.{Each}
use Rattle.zig_parse.proofs.Keeping.{keep_each, token_as}

-- ---- one thread

settled_read : (look : Look) (at : ℕ) (t : Thread) (ts : List Thread) → next_move look true t ≡ move.Read → settled_all look at (t ∷ ts) ≡ t ∷ settled_all look at ts
unfolding readers moving
settled_read look at t ts m =
    settled_one look at t ts ∙ ap (λ (l : List Thread). l ++ settled_all look at (moving look at t ++ ts)) (ap (reading_by t) m)
    ∙ ap (λ (l : List Thread). t ∷ settled_all look at (l ++ ts)) (ap (moving_by look at t) m)

settled_replaced : (look : Look) (at : ℕ) (r : Rule) (ps : List Part) (t : Thread) (ts : List Thread) → next_move look true t ≡ move.Rule r → choices look (rule_rows r) ≡ ps ∷ [] → settled_all look at (t ∷ ts) ≡ settled_all look at (replaced (Some r) ps t ∷ ts)
unfolding readers moving spread
settled_replaced look at r ps t ts m c =
    settled_one look at t ts ∙ ap (λ (l : List Thread). l ++ settled_all look at (moving look at t ++ ts)) (ap (reading_by t) m)
    ∙ ap (λ (l : List Thread). settled_all look at (l ++ ts)) (ap (moving_by look at t) m ∙ ap (λ (l : List (List Part)). spread at (Some r) l t) c)

-- ---- an operand that begins with an identifier

-- whether the identifier lies too deep, read as a label or as an atom
operand_deep : Thread → Bool
operand_deep t = (met rule.Primary (passed t)).deep || is_deep (one_more (met rule.Primary (passed t)).depth) 0

label_reader : Thread → Thread
label_reader t = replaced (Some rule.Primary) label_parts t

type_reader : Thread → Thread
type_reader t = replaced (Some rule.TypeExpression) (part.Rule rule.Suffix ∷ part.Group group.BangTypeOption ∷ []) (replaced (Some rule.Primary) type_parts t)

suffix_reader : Thread → Thread
suffix_reader t = replaced (Some rule.Suffix) (part.Rule rule.Atom ∷ part.Group group.SuffixTail ∷ []) (type_reader t)

atom_reader : Thread → Thread
atom_reader t = replaced (Some rule.Atom) (part.OneOf class.AtomWord ∷ []) (suffix_reader t)

label_deep : (t : Thread) → (after_read (label_reader t)).deep ≡ operand_deep t
unfolding after_read label_reader operand_deep replaced put opened collapses hardened label_parts
label_deep t = refl

atom_deep : (t : Thread) → (after_read (atom_reader t)).deep ≡ operand_deep t
unfolding after_read atom_reader suffix_reader type_reader operand_deep replaced put opened collapses hardened is_never_alone met type_parts
atom_deep t = refl

operand_read : (n : TokenKind) (at : ℕ) (t : Thread) (ts : List Thread) → next_move (identifier n) true t ≡ move.Rule rule.Primary → any_shallow (settled_all (identifier n) at (t ∷ ts)) ≡ (not (operand_deep t) || any_shallow (settled_all (identifier n) at ts))
unfolding identifier number_of is_braced type_parts kinds.is_atom_word label_parts any_shallow label_reader type_reader suffix_reader atom_reader
operand_read n at t ts m = by (is_kind n kind.Colon) refl
  where
    look : Look
    look = identifier n

    by : (b : Bool) → is_kind n kind.Colon ≡ b → any_shallow (settled_all look at (t ∷ ts)) ≡ (not (operand_deep t) || any_shallow (settled_all look at ts))
    by true e =
        ap any_shallow
        (settled_replaced look at rule.Primary label_parts t ts m (primary_choices n true e)
        ∙ settled_read look at (label_reader t) ts (fresh_move look rule.Primary (part.Token kind.Identifier) (part.Token kind.Colon ∷ part.Group group.LabelledExpression ∷ []) t))
        ∙ ap (λ (b : Bool). not b || any_shallow (settled_all look at ts)) (label_deep t)
    by false e =
        (let u = replaced (Some rule.Primary) type_parts t in
        ap any_shallow
        (settled_replaced look at rule.Primary type_parts t ts m (primary_choices n false e)
        ∙ settled_replaced look at rule.TypeExpression (part.Rule rule.Suffix ∷ part.Group group.BangTypeOption ∷ []) u ts (fresh_move look rule.Primary (part.Rule rule.TypeExpression) (part.Group group.InitializerOption ∷ []) t) (type_choices n)
        ∙ settled_replaced look at rule.Suffix (part.Rule rule.Atom ∷ part.Group group.SuffixTail ∷ []) (type_reader t) ts (fresh_move look rule.TypeExpression (part.Rule rule.Suffix) (part.Group group.BangTypeOption ∷ []) u) (suffix_choices n)
        ∙ settled_replaced look at rule.Atom (part.OneOf class.AtomWord ∷ []) (suffix_reader t) ts (fresh_move look rule.Suffix (part.Rule rule.Atom) (part.Group group.SuffixTail ∷ []) (type_reader t)) (atom_choices n)
        ∙ settled_read look at (atom_reader t) ts (fresh_move look rule.Atom (part.OneOf class.AtomWord) [] (suffix_reader t)))
        ∙ ap (λ (b : Bool). not b || any_shallow (settled_all look at ts)) (atom_deep t))

-- ---- all threads

or_joined : (x y z : Bool) → (x || (y || z)) ≡ ((x || y) || z)
or_joined true y z = refl
or_joined false y z = refl

any_joined : (a b : List Thread) → any_shallow (a ++ b) ≡ (any_shallow a || any_shallow b)
unfolding any_shallow
any_joined [] b = refl
any_joined (t ∷ a) b = ap (λ (x : Bool). not (after_read t).deep || x) (any_joined a b) ∙ or_joined (not (after_read t).deep) (any_shallow a) (any_shallow b)

any_step : (a b : Look) (at : ℕ) (t : Thread) (ts : List Thread) → a.kind ≡ b.kind → moving a at t ≡ moving b at t
    → any_shallow (settled_all a at (moving a at t ++ ts)) ≡ any_shallow (settled_all b at (moving a at t ++ ts)) → any_shallow (settled_all a at (t ∷ ts)) ≡ any_shallow (settled_all b at (t ∷ ts))
any_step a b at t ts e m f =
    ap any_shallow (settled_one a at t ts) ∙ any_joined (readers a t) (settled_all a at (moving a at t ++ ts))
    ∙ ap (λ (l : List Thread). any_shallow l || any_shallow (settled_all a at (moving a at t ++ ts))) (readers_same a b t e)
    ∙ ap (λ (x : Bool). any_shallow (readers b t) || x) (f ∙ ap (λ (l : List Thread). any_shallow (settled_all b at (l ++ ts))) m)
    ∙ sym (any_joined (readers b t) (settled_all b at (moving b at t ++ ts))) ∙ sym (ap any_shallow (settled_one b at t ts))

any_same : (fuel : ℕ) (x y : TokenKind) (at : ℕ) (ts : List Thread) → total_work ts < fuel → any_shallow (settled_all (identifier x) at ts) ≡ any_shallow (settled_all (identifier y) at ts)
unfolding identifier moving
any_same zero x y at ts h = absurd (omega arith)
any_same (suc fuel) x y at [] h = ap any_shallow (settled_nothing (identifier x) at) ∙ sym (ap any_shallow (settled_nothing (identifier y) at))
any_same (suc fuel) x y at (t ∷ ts) h =
    by (let less = settled_less (identifier x) at (t ∷ ts) (moving (identifier x) at t ++ ts) ts t refl refl in any_same fuel x y at (moving (identifier x) at t ++ ts) (omega (arith, less, h)))
    (any_same fuel x y at ts (omega (arith, h))) (next_move (identifier x) true t) refl
  where
    a : Look
    a = identifier x

    b : Look
    b = identifier y

    groups : (g : Group) → choices a (group_rows g) ≡ choices b (group_rows g)
    groups g = choices_agree a b (group_rows g) (agree_plain a b (group_rows g) refl (group_plain g))

    More : Type 0
    More = any_shallow (settled_all (identifier x) at (moving (identifier x) at t ++ ts)) ≡ any_shallow (settled_all (identifier y) at (moving (identifier x) at t ++ ts))

    Others : Type 0
    Others = any_shallow (settled_all (identifier x) at ts) ≡ any_shallow (settled_all (identifier y) at ts)

    by_rule : More → Others → (r : Rule) → next_move a true t ≡ move.Rule r → (r ≡ rule.Primary) ⊎ (each_row (λ (q : Alternative). is_no_label q.at) (rule_rows r) ≡ true) → any_shallow (settled_all a at (t ∷ ts)) ≡ any_shallow (settled_all b at (t ∷ ts))
    by_rule i o r m (inl e) =
        operand_read x at t ts (m ∙ ap move.Rule e) ∙ ap (λ (z : Bool). not (operand_deep t) || z) o
        ∙ sym (operand_read y at t ts (sym (next_same a b true t refl) ∙ m ∙ ap move.Rule e))
    by_rule i o r m (inr e) =
        any_step a b at t ts refl
        (ap (moving_by a at t) m ∙ ap (λ (l : List (List Part)). spread at (Some r) l t) (choices_agree a b (rule_rows r) (agree_plain a b (rule_rows r) refl e)) ∙ sym (ap (moving_by b at t) (sym (next_same a b true t refl) ∙ m))) i

    by : More → Others → (m : Move) → next_move a true t ≡ m → any_shallow (settled_all a at (t ∷ ts)) ≡ any_shallow (settled_all b at (t ∷ ts))
    by i o (move.Rule r) e = by_rule i o r e (rule_plain r)
    by i o move.Stop e = any_step a b at t ts refl (moving_same a b at t refl (λ r f. absurd (cc)) groups) i
    by i o move.Read e = any_step a b at t ts refl (moving_same a b at t refl (λ r f. absurd (cc)) groups) i
    by i o move.Close e = any_step a b at t ts refl (moving_same a b at t refl (λ r f. absurd (cc)) groups) i
    by i o (move.Group g) e = any_step a b at t ts refl (moving_same a b at t refl (λ r f. absurd (cc)) groups) i

-- ---- the verdict

spared_is : (n : TokenKind) (at : ℕ) (s : State) → is_spared (identifier n) at s ≡ any_shallow (settled_all (identifier n) at s.live)
unfolding is_spared entered identifier number_of settled_all
spared_is n at s = rw (none_waits (moves_for_all s.live) n at s.live) refl

spared_fine : (ts : List Thread) → (verdict_of true ts ≡ verdict.Unexpected → ⊥) → verdict_of true ts ≡ verdict.Fine
spared_fine [] h = absurd (h refl)
spared_fine (t ∷ ts) h = by (all_deep (t ∷ ts))
  where
    by : (b : Bool) → (if b && false then verdict.TooDeep else verdict.Fine) ≡ verdict.Fine
    by true = refl
    by false = refl

IsDeep : Thread → Type 0
IsDeep t = t.deep ≡ true

not_or : (x y : Bool) → (not x || y) ≡ false → (x ≡ true) × (y ≡ false)
not_or true y h = (refl, h)
not_or false y h = absurd (cc)

none_shallow : (ts : List Thread) → any_shallow ts ≡ false → Each IsDeep (map after_read ts)
unfolding any_shallow IsDeep
none_shallow [] h = tt
none_shallow (t ∷ ts) h = let s = not_or (after_read t).deep (any_shallow ts) h in (s.0, none_shallow ts s.1)

deep_all : (ts : List Thread) → Each IsDeep ts → all_deep ts ≡ true
unfolding all_deep IsDeep
deep_all [] h = refl
deep_all (t ∷ ts) h = rw (h.0, deep_all ts h.1) refl

deep_not_fine : (ts : List Thread) → Each IsDeep ts → verdict_of false ts ≡ verdict.Fine → ⊥
deep_not_fine [] d h = cc
deep_not_fine (t ∷ ts) d h = let wrong : verdict.TooDeep ≡ verdict.Fine = sym (ap (λ (b : Bool). if b && true then verdict.TooDeep else verdict.Fine) (deep_all (t ∷ ts) d)) ∙ h in cc

identifier_fine : (x y : TokenKind) (at : ℕ) (s : State) → next_verdict (identifier y) at s ≡ verdict.Fine → next_verdict (identifier x) at s ≡ verdict.Fine
unfolding next_verdict
identifier_fine x y at s h = by (any_shallow (settled_all (identifier x) at s.live)) refl
  where
    same : any_shallow (settled_all (identifier x) at s.live) ≡ any_shallow (settled_all (identifier y) at s.live)
    same = any_same (suc (total_work s.live)) x y at s.live (omega arith)

    by : (b : Bool) → any_shallow (settled_all (identifier x) at s.live) ≡ b → verdict_of (is_spared (identifier x) at s) (next_live (identifier x) at s) ≡ verdict.Fine
    by true e =
        (let spared : is_spared (identifier x) at s ≡ true = spared_is x at s ∙ e in
        ap (λ (b : Bool). verdict_of b (next_live (identifier x) at s)) spared
        ∙ spared_fine (next_live (identifier x) at s)
        (λ none. (let wrong : verdict.Fine ≡ verdict.Unexpected = sym h ∙ identifier_unexpected x y at s (ap (λ (b : Bool). verdict_of b (next_live (identifier x) at s)) spared ∙ none) in cc)))
    by false e =
        (let none : any_shallow (settled_all (identifier y) at s.live) ≡ false = sym same ∙ e in
        let spared : is_spared (identifier y) at s ≡ false = spared_is y at s ∙ none in
        let kept : Each IsDeep (after_token [] (settled_all (identifier y) at s.live)) =
        subst (λ (l : List Thread). Each IsDeep l) (sym (token_as [] (settled_all (identifier y) at s.live))) (keep_each IsDeep [] (map after_read (settled_all (identifier y) at s.live)) tt (none_shallow (settled_all (identifier y) at s.live) none)) in
        absurd (deep_not_fine (next_live (identifier y) at s) (subst (λ (l : List Thread). Each IsDeep l) (sym (live_is y at s)) kept) (sym (ap (λ (b : Bool). verdict_of b (next_live (identifier y) at s)) spared) ∙ h)))

-- what stands behind a token counts for nothing where the token is read within the limit
pub last_fine : (a b : Look) (at : ℕ) (s : State) → a.kind ≡ b.kind → next_verdict b at s ≡ verdict.Fine → next_verdict a at s ≡ verdict.Fine
last_fine a b at s e h = by (is_kind a.kind kind.Identifier) refl
  where
    by : (x : Bool) → is_kind a.kind kind.Identifier ≡ x → next_verdict a at s ≡ verdict.Fine
    by false f = last_look a b at s e f ∙ h
    by true f =
        (let ia = is_identifier a f in
        let ib = is_identifier b (ap (λ (k : TokenKind). is_kind k kind.Identifier) (sym e) ∙ f) in
        ap (λ (l : Look). next_verdict l at s) ia ∙ identifier_fine a.next b.next at s (ap (λ (l : Look). next_verdict l at s) (sym ib) ∙ h))

-- nor for what becomes of it
pub last_verdict : (a b : Look) (at : ℕ) (s : State) → a.kind ≡ b.kind → next_verdict a at s ≡ next_verdict b at s
last_verdict a b at s e = by (next_verdict a at s) refl (next_verdict b at s) refl
  where
    by : (v : Verdict) → next_verdict a at s ≡ v → (w : Verdict) → next_verdict b at s ≡ w → v ≡ w
    by verdict.Fine h w k = sym (last_fine b a at s (sym e) h) ∙ k
    by verdict.Unexpected h w k = sym (last_unexpected a b at s e h) ∙ k
    by verdict.TooDeep h verdict.Fine k = absurd (let wrong : verdict.TooDeep ≡ verdict.Fine = sym h ∙ last_fine a b at s e k in cc)
    by verdict.TooDeep h verdict.Unexpected k = absurd (let wrong : verdict.TooDeep ≡ verdict.Unexpected = sym h ∙ last_unexpected b a at s (sym e) k in cc)
    by verdict.TooDeep h verdict.TooDeep k = refl
