-- The nodes that the second pass gives hold all tokens, by rules that derive them.
use Rattle.std.proofs.Common.{◌≡◌, ℕ, zero, suc, ◌+◌, ◌-◌, ◌<◌, ◌≤◌, Bool, true, false, ◌&&◌, ◌||◌, ◌⊎◌, inl, inr, List, [], ◌∷◌, ◌++◌, map, length, Option, Some, None, Result, Ok, Err, refl, sym, ◌∙◌, ap, subst, arith, length-append}
use Rattle.std.specs.Prelude.{if◌then◌else◌, not, slice_get, nat_lt, nat_eq, ◌^◌, replicate}
use Rattle.std.proofs.lemmas.Bool.{le-ltb, ltb-true, eqb-true}
use Rattle.zig_tree.specs.declared.token.Token.{Token}
use Rattle.zig_tree.specs.declared.token.TokenKind.{TokenKind}
use Rattle.zig_tree.specs.declared.token.TokenKind.TheVariants.{End}
use Rattle.zig_tree.specs.declared.grammar.Rule.{Rule}
use Rattle.zig_tree.specs.declared.grammar.Rule.TheVariants as rule
use Rattle.zig_tree.specs.declared.grammar.Group.{Group}
use Rattle.zig_tree.specs.declared.grammar.Group.TheVariants as group
use Rattle.zig_tree.specs.declared.grammar.TokenClass.{TokenClass}
use Rattle.zig_tree.specs.declared.grammar.When.TheVariants as when
use Rattle.zig_tree.specs.declared.grammar.Part.{Part}
use Rattle.zig_tree.specs.declared.grammar.Part.TheVariants as part
use Rattle.zig_tree.specs.declared.tree.Kid.{Kid}
use Rattle.zig_tree.specs.declared.tree.Kid.TheVariants as kid
use Rattle.zig_tree.specs.declared.tree.Node.{Node}
use Rattle.zig_tree.specs.Kinds.{has_kind, is_kind}
use Rattle.zig_tree.specs.Grammar.{Alternative, row, group_rows, rule_rows}
use Rattle.zig_tree.specs.GrammarSentences.{Pieces, nothing, word, made, makes_no_node_alone, Derives, derives_token, derives_one_of, derives_rule, derives_none, height}
use Rattle.zig_parse.specs.declared.choice.Look.{Look}
use Rattle.zig_parse.specs.declared.thread.Frame.{Frame}
use Rattle.zig_parse.specs.declared.thread.Item.{Item}
use Rattle.zig_parse.specs.declared.thread.Thread.{Thread}
use Rattle.zig_parse.specs.declared.thread.Move.{Move}
use Rattle.zig_parse.specs.declared.thread.Move.TheVariants as move
use Rattle.zig_parse.specs.declared.fault.SyntaxFault.{SyntaxFault}
use Rattle.zig_parse.specs.declared.fault.SyntaxFault.TheVariants.{Unexpected, TooDeep}
use Rattle.zig_parse.specs.Threads.{after_read, closed, closed_from, collapses, gained, hardened, part_height, is_deep, is_never_alone, item, met, met_from, opened, passed, put, replaced, touched_from}
use Rattle.zig_parse.specs.Moves.{move_at, move_from, moves_for, next_move, reading}
use Rattle.zig_parse.specs.Choices.{choices, matching}
use Rattle.zig_parse.specs.Nodes.{Parts, with_node, with_token}
use Rattle.zig_parse.specs.Passes.{begun}
use Rattle.zig_parse.specs.Threads.{fresh}
use Rattle.zig_parse.specs.Surveys.{first_state, kind_of, look_at, surveyed}
use Rattle.zig_parse.specs.Growth.{Grown, Ready, all_read, all_shut, grown_from, is_second, known, known_by, moved, moved_by, nodes_or, parse_of, picked, read_one, ready, ready_by, shut, shut_from, sprout, stuck_at, swapped, whole, ◌>>=◌}
use Rattle.zig_parse.specs.Trees.{HoldsAll, Spells, spells_nothing, spells_token, spells_node, kinds_of}
use Rattle.zig_parse.proofs.Derived.{followed_nothing}
use Rattle.zig_parse.proofs.Shapes.{count}
use Rattle.zig_parse.proofs.Tables.{same_kind}
use Rattle.zig_parse.proofs.Spelled.{here, look_here, token_next}
use Rattle.zig_parse.proofs.Story.{Inside, left_from, inside_done, inside_some, inside_new, made_height}
use Rattle.zig_parse.proofs.Picks.{picked_open}
use Rattle.zig_parse.proofs.Standing.{Outer, at_root, in_node, outer_closes, Standing, fewer, group_step, open_standing, rule_step, token_step}
use Rattle.zig_parse.proofs.CostTables.{cost_of_rule, front_cost, rule_cost_small}
use Rattle.zig_parse.proofs.Costs.{group_front, rule_row_fits}
use Rattle.zig_parse.proofs.Closing.{Shut, shut_parts, close_step}
use Rattle.zig_tree.specs.declared.tree.TheConstants.{DEPTH_LIMIT}

-- ---- depth is never forgotten

or_false : (x y : Bool) → (x || y) ≡ false → x ≡ false
or_false true y h = absurd (cc)
or_false false y h = refl

met_deep : (r : Rule) (t : Thread) (fs : List Frame) → (met_from r t fs).deep ≡ false → t.deep ≡ false
unfolding hardened
met_deep r t [] h = h
met_deep r t (f ∷ fs) h = by (not f.solid && (nat_lt 0 f.parts || is_never_alone r)) h
  where
    by : (b : Bool) → (if b then hardened f t else t).deep ≡ false → t.deep ≡ false
    by true e = or_false t.deep _ e
    by false e = e

rule_deep : (r : Rule) (ps : List Part) (t : Thread) → (replaced (Some r) ps t).deep ≡ false → t.deep ≡ false
unfolding replaced put opened met
rule_deep r ps t h = met_deep r (passed t) t.frames h

group_deep : (ps : List Part) (t : Thread) → (replaced None ps t).deep ≡ false → t.deep ≡ false
unfolding replaced put
group_deep ps t h = h

closed_deep : (t : Thread) (fs : List Frame) → (closed_from t fs).deep ≡ t.deep
closed_deep t [] = refl
closed_deep t (f ∷ fs) = refl

shut_deep : (tokens : List Token) (g : Grown) (fs : List Frame) → (shut_from tokens g fs).thread.deep ≡ (closed g.thread).deep
shut_deep tokens g [] = refl
shut_deep tokens g (f ∷ fs) = refl

read_deep : (t : Thread) (fs : List Frame) → (touched_from (passed t) fs).deep ≡ false → t.deep ≡ false
unfolding hardened
read_deep t [] h = h
read_deep t (f ∷ fs) h = by f.solid h
  where
    by : (b : Bool) → (if b then record (passed t) { deep = t.deep || is_deep t.depth 0 } else hardened f (passed t)).deep ≡ false → t.deep ≡ false
    by true e = or_false t.deep _ e
    by false e = or_false t.deep _ e

swapped_deep : (r : Option Rule) (o : Option (List Part)) (g : Grown) → (swapped r o g).thread.deep ≡ false → g.thread.deep ≡ false
swapped_deep r None g h = h
swapped_deep None (Some ps) g h = group_deep ps g.thread h
swapped_deep (Some r) (Some ps) g h = rule_deep r ps g.thread h

moved_deep_by : (tokens : List Token) (look : Look) (second : Bool) (g : Grown) (m : Move) → (moved_by tokens look second g m).thread.deep ≡ false → g.thread.deep ≡ false
unfolding shut closed
moved_deep_by tokens look second g move.Stop h = h
moved_deep_by tokens look second g move.Read h = h
moved_deep_by tokens look second g move.Close h = sym (shut_deep tokens g g.thread.frames ∙ closed_deep g.thread g.thread.frames) ∙ h
moved_deep_by tokens look second g (move.Rule r) h = swapped_deep (Some r) (picked second (choices look (rule_rows r))) g h
moved_deep_by tokens look second g (move.Group k) h = swapped_deep None (picked second (choices look (group_rows k))) g h

moved_deep : (tokens : List Token) (look : Look) (second : Bool) (g : Grown) → (moved tokens look second g).thread.deep ≡ false → g.thread.deep ≡ false
unfolding moved
moved_deep tokens look second g h = moved_deep_by tokens look second g (next_move look false g.thread) h

ready_by_deep : (o : Option Bool) (g : Grown) (more : Ready) → (more.grown.thread.deep ≡ false → g.thread.deep ≡ false) → (ready_by o g more).grown.thread.deep ≡ false → g.thread.deep ≡ false
ready_by_deep None g more f h = f h
ready_by_deep (Some b) g more f h = h

ready_deep : (n : ℕ) (tokens : List Token) (look : Look) (second : Bool) (g : Grown) → (ready n tokens look second g).grown.thread.deep ≡ false → g.thread.deep ≡ false
unfolding ready
ready_deep zero tokens look second g h = h
ready_deep (suc n) tokens look second g h =
    moved_deep tokens look second g (ready_by_deep (known look second g) (moved tokens look second g) (ready n tokens look second (moved tokens look second g)) (ready_deep n tokens look second (moved tokens look second g)) h)

-- ---- the next move

pub next_at : (look : Look) (t : Thread) (fs : List Frame) (is : List Item) → t.frames ≡ fs → t.items ≡ is → next_move look false t ≡ move_from look false (length fs) is
unfolding next_move
next_at look t fs is h k = ap (λ (l : List Frame). move_from look false (length l) t.items) h ∙ ap (move_from look false (length fs)) k

next_none : (tokens : List Token) (at moves : ℕ) (look : Look) (t : Thread) (parts : Parts) (s : Standing tokens at moves t parts []) → (next_move look false t ≡ move.Stop) ⊎ (next_move look false t ≡ move.Close)
next_none tokens at moves look t parts s =
    let e = next_at look t (s.f ∷ s.fs) s.behind s.frames s.items in
    elim (outer_closes tokens parts.nodes s.fs s.f.rule s.behind s.from s.others s.depth look (length (s.f ∷ s.fs)) (omega arith) s.outer) [
      | inl stop ↦ inl (e ∙ stop)
      | inr close ↦ inr (e ∙ close)
    ]

pub level_same : (look : Look) (level : ℕ) (q : Part) (is : List Item) → move_from look false level (item level q ∷ is) ≡ move_at look false q
level_same look level q is = rw (le-ltb level level (omega arith)) refl

next_part : (tokens : List Token) (at moves : ℕ) (look : Look) (t : Thread) (parts : Parts) (q : Part) (qs : List Part) → Standing tokens at moves t parts (q ∷ qs) → next_move look false t ≡ move_at look false q
next_part tokens at moves look t parts q qs s =
    let e = next_at look t (s.f ∷ s.fs) (map (item (suc (length s.fs))) (q ∷ qs) ++ s.behind) s.frames s.items in
    e ∙ level_same look (suc (length s.fs)) q (map (item (suc (length s.fs))) qs ++ s.behind)

-- ---- one move

record Stands (tokens : List Token) (at moves : ℕ) (g : Grown) : Type 0 where
  qs : List Part
  standing : Standing tokens at moves g.thread g.parts qs

stands : (tokens : List Token) (at moves : ℕ) (g : Grown) (qs : List Part) → Standing tokens at moves g.thread g.parts qs → Stands tokens at moves g
stands tokens at moves g qs s = record { qs = qs; standing = s }

moved_is : (tokens : List Token) (look : Look) (second : Bool) (g : Grown) (m : Move) → next_move look false g.thread ≡ m → (moved tokens look second g ≡ moved_by tokens look second g m) × (known look second g ≡ known_by look second m)
unfolding moved known
moved_is tokens look second g m e = (ap (moved_by tokens look second g) e, ap (known_by look second) e)

reading_known : (look : Look) (second b : Bool) → known_by look second (reading b) ≡ None → ⊥
reading_known look second true h = absurd (cc)
reading_known look second false h = absurd (cc)

not_root_by : (tokens : List Token) (nodes : List Node) (fs : List Frame) (r : Rule) (items : List Item) (at : ℕ) (kids : List Kid) (depth : ℕ) (look : Look) (n : ℕ) → Outer tokens nodes fs r items at kids depth → move_from look false n items ≡ move.Close → 0 < length fs
not_root_by tokens nodes fs r items at kids depth look n at_root h = absurd (cc)
not_root_by tokens nodes fs r items at kids depth look n (in_node f gs _ qs below _ from _ others own _ less _ o i w e k d) h = omega arith

not_root : (tokens : List Token) (at moves : ℕ) (look : Look) (t : Thread) (parts : Parts) (s : Standing tokens at moves t parts []) → next_move look false t ≡ move.Close → 0 < length s.fs
not_root tokens at moves look t parts s h = not_root_by tokens parts.nodes s.fs s.f.rule s.behind s.from s.others s.depth look (length (s.f ∷ s.fs)) s.outer (sym (next_at look t (s.f ∷ s.fs) s.behind s.frames s.items) ∙ h)

pub shut_is : (tokens : List Token) (g : Grown) (f : Frame) (fs : List Frame) → g.thread.frames ≡ f ∷ fs → shut tokens g ≡ record { thread = closed g.thread; parts = if f.solid then with_node tokens f.rule f.parts g.parts else g.parts }
unfolding shut
shut_is tokens g f fs e = ap (shut_from tokens g) e

-- no node was opened yet at this token, or the innermost one was and the parts before the token cost no more
abbrev Phase : ℕ → ℕ → ℕ → List Part → Type 0
Phase at moves from qs = (moves ≡ 100) ⊎ ((from ≡ at) × (front_cost qs ≤ moves))

record Going (tokens : List Token) (at : ℕ) (g : Grown) : Type 0 where
  qs : List Part
  moves : ℕ
  standing : Standing tokens at moves g.thread g.parts qs
  phase : Phase at moves standing.from qs

close_moves : (tokens : List Token) (at moves : ℕ) (look : Look) (g : Grown) → at ≤ length tokens → length tokens < 2 ^ 32 → (s : Standing tokens at moves g.thread g.parts []) → Phase at moves s.from [] → next_move look false g.thread ≡ move.Close
    → Going tokens at (shut tokens g)
close_moves tokens at moves look g within fits s (inl none) e =
    let c = close_step tokens at moves g.thread g.parts within fits s (not_root tokens at moves look g.thread g.parts s e) in
    subst (Going tokens at) (sym (shut_is tokens g s.f s.fs s.frames)) (record { qs = c.0; moves = moves; standing = c.1; phase = inl none })
close_moves tokens at moves look g within fits s (inr here_opened) e =
    let some = inside_some tokens g.parts.nodes s.f s.from at s.own g.thread.depth s.inside in
    absurd (omega (arith, here_opened.0))

rule_left : (r : Rule) (qs : List Part) (at moves from front : ℕ) → front < cost_of_rule r → Phase at moves from (part.Rule r ∷ qs) → (suc (moves - 1) ≤ moves) × (front ≤ moves - 1)
rule_left r qs at moves from front l (inl none) = let small = ltb-true (cost_of_rule r) 30 (rule_cost_small r) in (omega arith, omega arith)
rule_left r qs at moves from front l (inr some) = (omega (arith, some.1), omega (arith, some.1))

rule_moves : (tokens : List Token) (at moves : ℕ) (look : Look) (second : Bool) (g : Grown) (r : Rule) (qs : List Part) → look ≡ here (left_from tokens at) → (s : Standing tokens at moves g.thread g.parts (part.Rule r ∷ qs)) → Phase at moves s.from (part.Rule r ∷ qs)
    → (o : Option (List Part)) → picked second (choices look (rule_rows r)) ≡ o → stuck_at o ≡ None → (swapped (Some r) o g).thread.deep ≡ false → Going tokens at (swapped (Some r) o g)
unfolding rule_step open_standing
rule_moves tokens at moves look second g r qs l s phase None e k h = absurd (cc)
rule_moves tokens at moves look second g r qs l s phase (Some ps) e k h =
    let p = picked_open (left_from tokens at) second (rule_rows r) ps (ap (λ (x : Look). picked second (choices x (rule_rows r))) (sym l) ∙ e) in
    let fits = rule_row_fits (left_from tokens at) r p.0 p.1 in
    let some = rule_left r qs at moves s.from (front_cost p.0.parts) fits.0 phase in
    let less = fewer tokens at moves (suc (moves - 1)) g.thread g.parts (part.Rule r ∷ qs) some.0 s in
    subst (λ (x : List Part). (swapped (Some r) (Some x) g).thread.deep ≡ false → Going tokens at (swapped (Some r) (Some x) g)) p.2
    (λ d. record { qs = p.0.parts; moves = moves - 1; standing = rule_step tokens at (moves - 1) g.thread g.parts r qs p.0 p.1 less d; phase = inr (refl, some.1) }) h

group_left : (g : Group) (ps qs : List Part) (at moves from : ℕ) → front_cost (ps ++ qs) ≤ front_cost (part.Group g ∷ qs) → Phase at moves from (part.Group g ∷ qs) → Phase at moves from (ps ++ qs)
group_left g ps qs at moves from l (inl none) = inl none
group_left g ps qs at moves from l (inr some) = inr (some.0, omega (arith, some.1))

group_moves : (tokens : List Token) (at moves : ℕ) (look : Look) (second : Bool) (g : Grown) (r : Group) (qs : List Part) → look ≡ here (left_from tokens at) → (s : Standing tokens at moves g.thread g.parts (part.Group r ∷ qs)) → Phase at moves s.from (part.Group r ∷ qs)
    → (o : Option (List Part)) → picked second (choices look (group_rows r)) ≡ o → stuck_at o ≡ None → Going tokens at (swapped None o g)
unfolding group_step
group_moves tokens at moves look second g r qs l s phase None e k = absurd (cc)
group_moves tokens at moves look second g r qs l s phase (Some ps) e k =
    let p = picked_open (left_from tokens at) second (group_rows r) ps (ap (λ (x : Look). picked second (choices x (group_rows r))) (sym l) ∙ e) in
    subst (λ (x : List Part). Going tokens at (swapped None (Some x) g)) p.2
    (record { qs = p.0.parts ++ qs; moves = moves; standing = group_step tokens at moves g.thread g.parts r qs p.0 p.1 s; phase = group_left r p.0.parts qs at moves s.from (group_front (left_from tokens at) r p.0 qs p.1) phase })

none_some : {A : Type 0} (o : Option A) (a : A) → o ≡ None → o ≡ Some a → ⊥
none_some o a h k = cc

step_by : (tokens : List Token) (at moves : ℕ) (look : Look) (second : Bool) (g : Grown) (qs : List Part) → at ≤ length tokens → length tokens < 2 ^ 32 → look ≡ here (left_from tokens at) → (s : Standing tokens at moves g.thread g.parts qs) → Phase at moves s.from qs
    → known look second g ≡ None → (moved tokens look second g).thread.deep ≡ false → Going tokens at (moved tokens look second g)
step_by tokens at moves look second g [] within fits l s phase k h =
    elim (next_none tokens at moves look g.thread g.parts s) [
      | inl stop ↦ let m = moved_is tokens look second g move.Stop stop in absurd (none_some (known look second g) false k m.1)
      | inr close ↦ let m = moved_is tokens look second g move.Close close in subst (Going tokens at) (sym m.0) (close_moves tokens at moves look g within fits s phase close)
    ]
step_by tokens at moves look second g (part.Token j ∷ qs) within fits l s phase k h =
    let m = moved_is tokens look second g (reading (is_kind j look.kind)) (next_part tokens at moves look g.thread g.parts (part.Token j) qs s) in
    absurd (reading_known look second (is_kind j look.kind) (sym m.1 ∙ k))
step_by tokens at moves look second g (part.OneOf c ∷ qs) within fits l s phase k h =
    let m = moved_is tokens look second g (reading (has_kind c look.kind)) (next_part tokens at moves look g.thread g.parts (part.OneOf c) qs s) in
    absurd (reading_known look second (has_kind c look.kind) (sym m.1 ∙ k))
step_by tokens at moves look second g (part.Rule r ∷ qs) within fits l s phase k h =
    let m = moved_is tokens look second g (move.Rule r) (next_part tokens at moves look g.thread g.parts (part.Rule r) qs s) in
    subst (Going tokens at) (sym m.0) (rule_moves tokens at moves look second g r qs l s phase (picked second (choices look (rule_rows r))) refl (sym m.1 ∙ k) (ap (λ (x : Grown). x.thread.deep) (sym m.0) ∙ h))
step_by tokens at moves look second g (part.Group r ∷ qs) within fits l s phase k h =
    let m = moved_is tokens look second g (move.Group r) (next_part tokens at moves look g.thread g.parts (part.Group r) qs s) in
    subst (Going tokens at) (sym m.0) (group_moves tokens at moves look second g r qs l s phase (picked second (choices look (group_rows r))) refl (sym m.1 ∙ k))

-- ---- up to the token

-- the state in which the token is read
record Reads (tokens : List Token) (at : ℕ) (look : Look) (g : Grown) : Type 0 where
  qs : List Part
  standing : Standing tokens at 0 g.thread g.parts qs
  reads : next_move look false g.thread ≡ move.Read

stuck_true : (o : Option (List Part)) (b : Bool) → stuck_at o ≡ Some b → b ≡ true → ⊥
stuck_true None b h e = cc
stuck_true (Some ps) b h e = cc

known_true : (look : Look) (second b : Bool) (m : Move) → known_by look second m ≡ Some b → b ≡ true → m ≡ move.Read
known_true look second b move.Stop h e = absurd (cc)
known_true look second b move.Read h e = refl
known_true look second b move.Close h e = absurd (cc)
known_true look second b (move.Rule r) h e = absurd (stuck_true (picked second (choices look (rule_rows r))) b h e)
known_true look second b (move.Group r) h e = absurd (stuck_true (picked second (choices look (group_rows r))) b h e)

reads_here : (tokens : List Token) (at moves : ℕ) (look : Look) (second b : Bool) (g : Grown) (qs : List Part) → Standing tokens at moves g.thread g.parts qs → known look second g ≡ Some b → b ≡ true → Reads tokens at look (moved tokens look second g)
unfolding known
reads_here tokens at moves look second b g qs s k e =
    let read = known_true look second b (next_move look false g.thread) k e in
    let m = moved_is tokens look second g move.Read read in
    subst (Reads tokens at look) (sym m.0) (record { qs = qs; standing = fewer tokens at moves 0 g.thread g.parts qs (omega arith) s; reads = read })

ready_case : (tokens : List Token) (at : ℕ) (look : Look) (second : Bool) (g : Grown) (more : Ready) → at ≤ length tokens → length tokens < 2 ^ 32 → look ≡ here (left_from tokens at) → Going tokens at g
    → (more.grown.thread.deep ≡ false → (moved tokens look second g).thread.deep ≡ false) → (Going tokens at (moved tokens look second g) → more.fits ≡ true → more.grown.thread.deep ≡ false → Reads tokens at look more.grown)
    → (o : Option Bool) → known look second g ≡ o → (ready_by o (moved tokens look second g) more).fits ≡ true → (ready_by o (moved tokens look second g) more).grown.thread.deep ≡ false → Reads tokens at look (ready_by o (moved tokens look second g) more).grown
ready_case tokens at look second g more within fits l s d f None k h e = f (step_by tokens at s.moves look second g s.qs within fits l s.standing s.phase k (d e)) h e
ready_case tokens at look second g more within fits l s d f (Some b) k h e = reads_here tokens at s.moves look second b g s.qs s.standing k h

ready_stands : (n : ℕ) (tokens : List Token) (at : ℕ) (look : Look) (second : Bool) (g : Grown) → at ≤ length tokens → length tokens < 2 ^ 32 → look ≡ here (left_from tokens at) → Going tokens at g
    → (ready n tokens look second g).fits ≡ true → (ready n tokens look second g).grown.thread.deep ≡ false → Reads tokens at look (ready n tokens look second g).grown
unfolding ready
ready_stands zero tokens at look second g within fits l s h e = absurd (cc)
ready_stands (suc n) tokens at look second g within fits l s h e =
    ready_case tokens at look second g (ready n tokens look second (moved tokens look second g)) within fits l s (ready_deep n tokens look second (moved tokens look second g))
    (λ t i j. ready_stands n tokens at look second (moved tokens look second g) within fits l t i j) (known look second g) refl h e

-- ---- a token

reading_true : (b : Bool) → reading b ≡ move.Read → b ≡ true
reading_true true h = refl
reading_true false h = absurd (cc)

word_derived : (tokens : List Token) (at : ℕ) (k : Token) (j : TokenKind) (qs : List Part) → slice_get tokens at ≡ Some k → j ≡ k.kind
    → (end : List TokenKind) (later : Pieces) → Derives qs (left_from tokens (at + 1)) end later → Derives (part.Token j ∷ qs) (left_from tokens at) end (word k.kind later)
word_derived tokens at k j qs there e end later d =
    subst (λ (x : TokenKind). Derives (part.Token x ∷ qs) (left_from tokens at) end (word k.kind later)) (sym e)
    (subst (λ (l : List TokenKind). Derives (part.Token k.kind ∷ qs) l end (word k.kind later)) (sym (token_next tokens at k there)) (derives_token k.kind qs (left_from tokens (at + 1)) end later d))

one_of_derived : (tokens : List Token) (at : ℕ) (k : Token) (c : TokenClass) (qs : List Part) → slice_get tokens at ≡ Some k → has_kind c k.kind ≡ true
    → (end : List TokenKind) (later : Pieces) → Derives qs (left_from tokens (at + 1)) end later → Derives (part.OneOf c ∷ qs) (left_from tokens at) end (word k.kind later)
one_of_derived tokens at k c qs there h end later d =
    subst (λ (l : List TokenKind). Derives (part.OneOf c ∷ qs) l end (word k.kind later)) (sym (token_next tokens at k there)) (derives_one_of c k.kind qs (left_from tokens (at + 1)) end later h d)

token_there : (tokens : List Token) (at : ℕ) → at < length tokens → (k : Token) × (slice_get tokens at ≡ Some k)
token_there [] at h = absurd (omega arith)
token_there (t ∷ ts) zero h = (t, refl)
token_there (t ∷ ts) (suc at) h = token_there ts at (omega arith)

kind_there : (tokens : List Token) (at : ℕ) (k : Token) → slice_get tokens at ≡ Some k → (look_at tokens at).kind ≡ k.kind
kind_there tokens at k h = ap kind_of h

bound_ok : {A B : Type 0} (r : Result A SyntaxFault) (f : A → Result B SyntaxFault) (y : B) → (r >>= f) ≡ Ok y → (x : A) × (r ≡ Ok x) × (f x ≡ Ok y)
bound_ok (Ok x) f y h = (x, refl, h)
bound_ok (Err e) f y h = absurd (cc)

read_by : (tokens : List Token) (at moves : ℕ) (look : Look) (g : Grown) (k : Token) (qs : List Part) → at < length tokens → length tokens < 2 ^ 32 → look.kind ≡ k.kind → slice_get tokens at ≡ Some k → next_move look false g.thread ≡ move.Read
    → Standing tokens at moves g.thread g.parts qs → (after_read g.thread).deep ≡ false → Stands tokens (at + 1) 100 (record { thread = after_read g.thread; parts = with_token at g.parts })
read_by tokens at moves look g k [] within fits e there r s h =
    elim (next_none tokens at moves look g.thread g.parts s) [
      | inl stop ↦ let x : move.Stop ≡ move.Read = sym stop ∙ r in absurd (cc)
      | inr close ↦ let x : move.Close ≡ move.Read = sym close ∙ r in absurd (cc)
    ]
read_by tokens at moves look g k (part.Token j ∷ qs) within fits e there r s h =
    let b = reading_true (is_kind j look.kind) (sym (next_part tokens at moves look g.thread g.parts (part.Token j) qs s) ∙ r) in
    let same : j ≡ k.kind = same_kind j look.kind b ∙ e in
    record { qs = qs; standing = token_step tokens at moves g.thread g.parts (part.Token j) k qs within fits (word_derived tokens at k j qs there same) there s h }
read_by tokens at moves look g k (part.OneOf c ∷ qs) within fits e there r s h =
    let b = reading_true (has_kind c look.kind) (sym (next_part tokens at moves look g.thread g.parts (part.OneOf c) qs s) ∙ r) in
    record { qs = qs; standing = token_step tokens at moves g.thread g.parts (part.OneOf c) k qs within fits (one_of_derived tokens at k c qs there (ap (has_kind c) (sym e) ∙ b)) there s h }
read_by tokens at moves look g k (part.Rule o ∷ qs) within fits e there r s h =
    let x : move.Rule o ≡ move.Read = sym (next_part tokens at moves look g.thread g.parts (part.Rule o) qs s) ∙ r in absurd (cc)
read_by tokens at moves look g k (part.Group o ∷ qs) within fits e there r s h =
    let x : move.Group o ≡ move.Read = sym (next_part tokens at moves look g.thread g.parts (part.Group o) qs s) ∙ r in absurd (cc)

read_case : (tokens : List Token) (at : ℕ) (look : Look) (r : Ready) (g : Grown) (k : Token) → at < length tokens → length tokens < 2 ^ 32 → look.kind ≡ k.kind → slice_get tokens at ≡ Some k
    → (r.fits ≡ true → r.grown.thread.deep ≡ false → Reads tokens at look r.grown) → (fits deep : Bool) → r.fits ≡ fits → (after_read r.grown.thread).deep ≡ deep
    → (if fits then (if deep then Err (TooDeep at) else Ok (record { thread = after_read r.grown.thread; parts = with_token at r.grown.parts })) else Err (Unexpected look.kind at)) ≡ Ok g → Stands tokens (at + 1) 100 g
unfolding after_read
read_case tokens at look r g k within short e there f false deep i j h = absurd (cc)
read_case tokens at look r g k within short e there f true true i j h = absurd (cc)
read_case tokens at look r g k within short e there f true false i j h =
    let s = f i (read_deep r.grown.thread r.grown.thread.frames j) in
    let same : record { thread = after_read r.grown.thread; parts = with_token at r.grown.parts } ≡ g = cc in
    subst (Stands tokens (at + 1) 100) same (read_by tokens at 0 look r.grown k s.qs within short e there s.reads s.standing j)

read_stands : (tokens : List Token) (at : ℕ) (second : Bool) (g next : Grown) → at < length tokens → length tokens < 2 ^ 32 → Stands tokens at 100 g → read_one at tokens (look_at tokens at) second g ≡ Ok next → Stands tokens (at + 1) 100 next
unfolding read_one
read_stands tokens at second g next within fits s h =
    let look = look_at tokens at in
    let k = token_there tokens at within in
    let r = ready (moves_for g.thread) tokens look second g in
    read_case tokens at look r next k.0 within fits (kind_there tokens at k.0 k.1) k.1
    (λ i j. ready_stands (moves_for g.thread) tokens at look second g (omega arith) fits (look_here tokens at) (record { qs = s.qs; moves = 100; standing = s.standing; phase = inl refl }) i j) r.fits (after_read r.grown.thread).deep refl refl h

all_read_stands : (n at : ℕ) (tokens : List Token) (marks : List Bool) (g next : Grown) → at + n ≡ length tokens → length tokens < 2 ^ 32 → Stands tokens at 100 g → all_read n at tokens marks g ≡ Ok next → Stands tokens (length tokens) 100 next
unfolding all_read
all_read_stands zero at tokens marks g next e fits s h =
    let same : g ≡ next = cc in
    let end : at ≡ length tokens = omega arith in
    subst (Stands tokens (length tokens) 100) same (subst (λ (n : ℕ). Stands tokens n 100 g) end s)
all_read_stands (suc n) at tokens marks g next e fits s h =
    let b = bound_ok (read_one at tokens (look_at tokens at) (is_second marks at) g) (all_read n (at + 1) tokens marks) next h in
    all_read_stands n (at + 1) tokens marks b.0 next (omega arith) fits (read_stands tokens at (is_second marks at) g b.0 (omega arith) fits s b.1) b.2

-- ---- the end

root_solid : (tokens : List Token) (nodes : List Node) (f : Frame) (from at : ℕ) (own : List Kid) (depth : ℕ) → Inside tokens nodes f from at own [] depth → f.rule ≡ rule.Root → f.solid ≡ true
root_solid tokens nodes f from at own depth i e = by f.solid refl
  where
    by : (s : Bool) → f.solid ≡ s → s ≡ true
    by true h = refl
    by false h = let lone : makes_no_node_alone rule.Root ≡ true = ap makes_no_node_alone (sym e) ∙ (i.alone h).0 in absurd (cc)

nothing_left : (tokens : List Token) → left_from tokens (length tokens) ≡ []
nothing_left [] = refl
nothing_left (t ∷ ts) = nothing_left ts

root_low : (tall height solid depth own : ℕ) → tall ≤ height + solid → depth ≡ 0 + solid → 0 < own → ((own ≡ 0) × (height ≡ 0)) ⊎ (depth + height ≤ DEPTH_LIMIT) → tall ≤ DEPTH_LIMIT
root_low tall height solid depth own h e some (inl none) = absurd (omega (arith, none.0))
root_low tall height solid depth own h e some (inr l) = omega arith

spelled_some : (tokens : List Token) (nodes : List Node) (kids : List Kid) (a b : ℕ) (p : Pieces) → Spells tokens nodes kids a b p → a < b → 0 < length kids
spelled_some tokens nodes kids a b p (spells_nothing _) l = absurd (omega arith)
spelled_some tokens nodes kids a b p (spells_token _ _ t ks later h s) l = omega arith
spelled_some tokens nodes kids a b p (spells_node number _ next _ n ks inside later h k e s u) l = omega arith

shut_root : (tokens : List Token) (t : Thread) (parts after : Parts) (f : Frame) (fs : List Frame) (r : Rule) (behind : List Item) (from : ℕ) (others own : List Kid) (depth : ℕ) → length fs ≡ 0 → Outer tokens parts.nodes fs r behind from others depth → r ≡ f.rule
    → (i : Inside tokens parts.nodes f from (length tokens) own [] t.depth) → t.depth ≡ depth + count f.solid → Shut tokens parts after others from (length tokens) (made f.rule i.pieces) f.solid → (root : ℕ) → root + 1 ≡ length after.nodes → HoldsAll tokens after.nodes root
shut_root tokens t parts after f fs r behind from others own depth e at_root er i ed s root h =
    let solid : f.solid ≡ true = root_solid tokens parts.nodes f 0 (length tokens) own t.depth i (sym er) in
    let last = s.last solid in
    let nodes_as : after.nodes ≡ parts.nodes ++ s.more = ap (λ (x : Parts). x.nodes) s.same in
    let number : root ≡ length parts.nodes = omega (arith, ap length nodes_as, length-append parts.nodes s.more, last.1) in
    let lone : s.lone ≡ kid.Node root ∷ [] = last.0 ∙ ap (λ (n : ℕ). kid.Node n ∷ []) (sym number) in
    let done = inside_done tokens parts.nodes f 0 (length tokens) own t.depth i in
    let some = inside_some tokens parts.nodes f 0 (length tokens) own t.depth i in
    let tall = made_height tokens parts.nodes f 0 (length tokens) own t.depth i in
    let all : Derives (part.Rule f.rule ∷ []) (left_from tokens 0) (left_from tokens (length tokens)) (made f.rule i.pieces) =
    subst (Derives (part.Rule f.rule ∷ []) (left_from tokens 0) (left_from tokens (length tokens))) (followed_nothing (made f.rule i.pieces)) (derives_rule f.rule i.a [] (left_from tokens 0) (left_from tokens (length tokens)) (left_from tokens (length tokens)) i.pieces nothing i.among done (derives_none (left_from tokens (length tokens)))) in
    record {
      tree = made f.rule i.pieces;
      spelled = subst (λ (l : List Kid). Spells tokens after.nodes l 0 (length tokens) (made f.rule i.pieces)) lone (subst (λ (l : List Node). Spells tokens l s.lone 0 (length tokens) (made f.rule i.pieces)) (sym nodes_as) s.spelled);
      derived = subst (λ (x : Rule). Derives (part.Rule x ∷ []) (kinds_of tokens) [] (made f.rule i.pieces)) (sym er) (subst (λ (l : List TokenKind). Derives (part.Rule f.rule ∷ []) (kinds_of tokens) l (made f.rule i.pieces)) (nothing_left tokens) all);
      low = root_low (height (made f.rule i.pieces)) f.height (count f.solid) t.depth (length own) tall ed (spelled_some tokens parts.nodes own 0 (length tokens) i.pieces i.spelled some) i.shallow;
    }
shut_root tokens t parts after f fs r behind from others own depth e (in_node g gs _ qs below _ from2 _ others2 own2 _ depth2 _ o inner waits ej ek el) er i ed s root h = absurd (omega arith)

-- nothing is to come in any open node
no_parts : (tokens : List Token) (at moves : ℕ) (t : Thread) (parts : Parts) (q : Part) (qs : List Part) → Standing tokens at moves t parts (q ∷ qs) → t.items ≡ [] → ⊥
no_parts tokens at moves t parts q qs s e =
    let more : item (suc (length s.fs)) q ∷ (map (item (suc (length s.fs))) qs ++ s.behind) ≡ [] = sym s.items ∙ e in cc

closed_items : (t : Thread) (fs : List Frame) → (closed_from t fs).items ≡ t.items
closed_items t [] = refl
closed_items t (f ∷ fs) = refl

gained_length : (h : ℕ) (fs : List Frame) → length (gained h fs) ≡ length fs
gained_length h [] = refl
gained_length h (f ∷ fs) = refl

closed_length : (t : Thread) (f : Frame) (fs : List Frame) → length (closed_from t (f ∷ fs)).frames ≡ length fs
closed_length t f fs = gained_length (part_height f) fs

shut_all : (n : ℕ) (tokens : List Token) (g : Grown) (root : ℕ) (qs : List Part) → length tokens < 2 ^ 32 → Standing tokens (length tokens) 0 g.thread g.parts qs → g.thread.items ≡ [] → length g.thread.frames ≡ suc n → root + 1 ≡ length (all_shut (suc n) tokens g).parts.nodes
    → HoldsAll tokens (all_shut (suc n) tokens g).parts.nodes root
unfolding all_shut closed
shut_all zero tokens g root (q ∷ qs) fits s e l h = absurd (no_parts tokens (length tokens) 0 g.thread g.parts q qs s e)
shut_all (suc n) tokens g root (q ∷ qs) fits s e l h = absurd (no_parts tokens (length tokens) 0 g.thread g.parts q qs s e)
shut_all zero tokens g root [] fits s e l h =
    let is = shut_is tokens g s.f s.fs s.frames in
    let after = if s.f.solid then with_node tokens s.f.rule s.f.parts g.parts else g.parts in
    subst (λ (x : Grown). root + 1 ≡ length x.parts.nodes → HoldsAll tokens x.parts.nodes root) (sym is)
    (λ k. shut_root tokens g.thread g.parts after s.f s.fs s.f.rule s.behind s.from s.others s.own s.depth (omega (arith, ap (λ (x : List Frame). length x) s.frames)) s.outer refl s.inside s.deep_as
    (shut_parts tokens (length tokens) 0 g.parts s.f s.others s.own s.from g.thread.depth s.inside s.kids) root k) h
shut_all (suc n) tokens g root [] fits s e l h =
    let is = shut_is tokens g s.f s.fs s.frames in
    let c = close_step tokens (length tokens) 0 g.thread g.parts (omega arith) fits s (omega (arith, ap (λ (x : List Frame). length x) s.frames)) in
    let t = subst (Stands tokens (length tokens) 0) (sym is) (stands tokens (length tokens) 0 (record { thread = closed g.thread; parts = if s.f.solid then with_node tokens s.f.rule s.f.parts g.parts else g.parts }) c.0 c.1) in
    let items = ap (λ (x : Grown). x.thread.items) is ∙ closed_items g.thread g.thread.frames ∙ e in
    let frames : length (shut tokens g).thread.frames ≡ suc n = ap (λ (x : Grown). length x.thread.frames) is ∙ ap (λ (x : List Frame). length (closed_from g.thread x).frames) s.frames ∙ closed_length g.thread s.f s.fs ∙ omega (arith, ap (λ (x : List Frame). length x) s.frames) in
    shut_all n tokens (shut tokens g) root t.qs fits t.standing items frames h

-- the nodes are some
root_some : (tokens : List Token) (t : Thread) (parts after : Parts) (f : Frame) (fs : List Frame) (r : Rule) (behind : List Item) (from : ℕ) (others own : List Kid) (depth : ℕ) → length fs ≡ 0 → Outer tokens parts.nodes fs r behind from others depth → r ≡ f.rule
    → (i : Inside tokens parts.nodes f from (length tokens) own [] t.depth) → Shut tokens parts after others from (length tokens) (made f.rule i.pieces) f.solid → 0 < length after.nodes
root_some tokens t parts after f fs r behind from others own depth e at_root er i s =
    let last = s.last (root_solid tokens parts.nodes f 0 (length tokens) own t.depth i (sym er)) in
    let nodes_as : after.nodes ≡ parts.nodes ++ s.more = ap (λ (x : Parts). x.nodes) s.same in
    omega (arith, ap length nodes_as, length-append parts.nodes s.more, last.1)
root_some tokens t parts after f fs r behind from others own depth e (in_node g gs _ qs below _ from2 _ others2 own2 _ depth2 _ o inner waits ej ek el) er i s = absurd (omega arith)

shut_some : (n : ℕ) (tokens : List Token) (g : Grown) (qs : List Part) → length tokens < 2 ^ 32 → Standing tokens (length tokens) 0 g.thread g.parts qs → g.thread.items ≡ [] → length g.thread.frames ≡ suc n → 0 < length (all_shut (suc n) tokens g).parts.nodes
unfolding all_shut closed
shut_some zero tokens g (q ∷ qs) fits s e l = absurd (no_parts tokens (length tokens) 0 g.thread g.parts q qs s e)
shut_some (suc n) tokens g (q ∷ qs) fits s e l = absurd (no_parts tokens (length tokens) 0 g.thread g.parts q qs s e)
shut_some zero tokens g [] fits s e l =
    let is = shut_is tokens g s.f s.fs s.frames in
    let after = if s.f.solid then with_node tokens s.f.rule s.f.parts g.parts else g.parts in
    subst (λ (x : Grown). 0 < length x.parts.nodes) (sym is)
    (root_some tokens g.thread g.parts after s.f s.fs s.f.rule s.behind s.from s.others s.own s.depth (omega (arith, ap (λ (x : List Frame). length x) s.frames)) s.outer refl s.inside
    (shut_parts tokens (length tokens) 0 g.parts s.f s.others s.own s.from g.thread.depth s.inside s.kids))
shut_some (suc n) tokens g [] fits s e l =
    let is = shut_is tokens g s.f s.fs s.frames in
    let c = close_step tokens (length tokens) 0 g.thread g.parts (omega arith) fits s (omega (arith, ap (λ (x : List Frame). length x) s.frames)) in
    let t = subst (Stands tokens (length tokens) 0) (sym is) (stands tokens (length tokens) 0 (record { thread = closed g.thread; parts = if s.f.solid then with_node tokens s.f.rule s.f.parts g.parts else g.parts }) c.0 c.1) in
    let items = ap (λ (x : Grown). x.thread.items) is ∙ closed_items g.thread g.thread.frames ∙ e in
    let frames : length (shut tokens g).thread.frames ≡ suc n = ap (λ (x : Grown). length x.thread.frames) is ∙ ap (λ (x : List Frame). length (closed_from g.thread x).frames) s.frames ∙ closed_length g.thread s.f s.fs ∙ omega (arith, ap (λ (x : List Frame). length x) s.frames) in
    shut_some n tokens (shut tokens g) t.qs fits t.standing items frames

-- ---- the whole pass

root_row : Alternative
root_row = row (when.Always) (part.Group group.RootMembers ∷ part.Token End ∷ [])

sprout_stands : (tokens : List Token) → Stands tokens 0 100 (sprout (look_at tokens 0))
unfolding sprout begun choices matching rule_rows put opened fresh collapses root_row
sprout_stands tokens =
    let f : Frame = record { rule = rule.Root; parts = 0; height = 0; solid = true } in
    record {
      qs = root_row.parts;
      standing = record {
        f = f;
        fs = [];
        behind = [];
        from = 0;
        others = [];
        own = [];
        depth = 0;
        outer = at_root;
        inside = inside_new tokens [] f 0 root_row 1 (inl refl) refl refl refl;
        frames = refl;
        items = refl;
        kids = refl;
        deep_as = refl;
        budget = omega arith;
      };
    }

nodes_are : (at : ℕ) (xs nodes : List Node) → nodes_or at xs ≡ Ok nodes → xs ≡ nodes
nodes_are at [] nodes h = absurd (cc)
nodes_are at (x ∷ xs) nodes h = cc

empty_items : (is : List Item) → length is ≡ 0 → is ≡ []
empty_items [] h = refl
empty_items (i ∷ is) h = absurd (omega arith)

whole_by : (tokens : List Token) (g : Grown) (nodes : List Node) (root : ℕ) (n : ℕ) (empty : Bool) → length tokens < 2 ^ 32 → Stands tokens (length tokens) 100 g → length g.thread.frames ≡ suc n → nat_eq (length g.thread.items) 0 ≡ empty
    → (if empty then nodes_or (length tokens) (all_shut (length g.thread.frames) tokens g).parts.nodes else Err (Unexpected End (length tokens))) ≡ Ok nodes → root + 1 ≡ length nodes → HoldsAll tokens nodes root
whole_by tokens g nodes root n false fits s l e h k = absurd (cc)
whole_by tokens g nodes root n true fits s l e h k =
    let none : length g.thread.items ≡ 0 = eqb-true (length g.thread.items) 0 e in
    let same : (all_shut (suc n) tokens g).parts.nodes ≡ nodes = ap (λ (m : ℕ). (all_shut m tokens g).parts.nodes) (sym l) ∙ nodes_are (length tokens) (all_shut (length g.thread.frames) tokens g).parts.nodes nodes h in
    subst (λ (x : List Node). HoldsAll tokens x root) same
    (shut_all n tokens g root s.qs fits (fewer tokens (length tokens) 100 0 g.thread g.parts s.qs (omega arith) s.standing) (empty_items g.thread.items none) l (k ∙ ap (λ (x : List Node). length x) (sym same)))

pub grown_some : (tokens : List Token) (marks : List Bool) (g : Grown) → length tokens < 2 ^ 32 → all_read (length tokens) 0 tokens marks (sprout (look_at tokens 0)) ≡ Ok g → g.thread.items ≡ [] → 0 < length (all_shut (length g.thread.frames) tokens g).parts.nodes
grown_some tokens marks g fits h e =
    let s = all_read_stands (length tokens) 0 tokens marks (sprout (look_at tokens 0)) g (omega arith) fits (sprout_stands tokens) h in
    let l : length g.thread.frames ≡ suc (length s.standing.fs) = ap (λ (x : List Frame). length x) s.standing.frames in
    subst (λ (n : ℕ). 0 < length (all_shut n tokens g).parts.nodes) (sym l)
    (shut_some (length s.standing.fs) tokens g s.qs fits (fewer tokens (length tokens) 100 0 g.thread g.parts s.qs (omega arith) s.standing) e l)

pub grown_sound : (tokens : List Token) (marks : List Bool) (nodes : List Node) (root : ℕ) → length tokens < 2 ^ 32 → grown_from tokens marks ≡ Ok nodes → root + 1 ≡ length nodes → HoldsAll tokens nodes root
unfolding grown_from whole
grown_sound tokens marks nodes root fits h k =
    let b = bound_ok (all_read (length tokens) 0 tokens marks (sprout (look_at tokens 0))) (λ g. whole (length tokens) tokens g) nodes h in
    let s = all_read_stands (length tokens) 0 tokens marks (sprout (look_at tokens 0)) b.0 (omega arith) fits (sprout_stands tokens) b.1 in
    let l : length b.0.thread.frames ≡ suc (length s.standing.fs) = ap (λ (x : List Frame). length x) s.standing.frames in
    whole_by tokens b.0 nodes root (length s.standing.fs) (nat_eq (length b.0.thread.items) 0) fits s l refl b.2 k

pub parse_sound : (tokens : List Token) (nodes : List Node) (root : ℕ) → length tokens < 2 ^ 32 → parse_of tokens ≡ Ok nodes → root + 1 ≡ length nodes → HoldsAll tokens nodes root
unfolding parse_of
parse_sound tokens nodes root fits h k =
    let b = bound_ok (surveyed (length tokens) 0 tokens (first_state (look_at tokens 0)) (replicate (length tokens) false)) (grown_from tokens) nodes h in
    grown_sound tokens b.0 nodes root fits b.2 k
