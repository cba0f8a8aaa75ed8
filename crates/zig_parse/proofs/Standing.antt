-- The state of the second pass: the open nodes from the root to the innermost, with what is to come.
use Rattle.std.proofs.Common.{◌≡◌, ℕ, suc, ◌+◌, ◌-◌, ◌*◌, ◌<◌, ◌≤◌, Bool, true, false, ◌&&◌, ◌||◌, ◌⊎◌, inl, inr, List, [], ◌∷◌, ◌++◌, map, length, Some, None, refl, sym, ◌∙◌, ap, subst, arith, append_assoc, append-nil}
use Rattle.std.specs.Prelude.{if◌then◌else◌, not, min, slice_get, nat_lt, ◌^◌}
use Rattle.std.proofs.lemmas.Bool.{lt-ltb, ltb-false, ltb-true}
use Rattle.zig_tree.specs.declared.token.Token.{Token}
use Rattle.zig_tree.specs.declared.token.TokenKind.{TokenKind}
use Rattle.zig_tree.specs.declared.grammar.Rule.{Rule}
use Rattle.zig_tree.specs.declared.grammar.Rule.TheVariants as rule
use Rattle.zig_tree.specs.declared.grammar.Group.{Group}
use Rattle.zig_tree.specs.declared.grammar.Part.{Part}
use Rattle.zig_tree.specs.declared.grammar.Part.TheVariants as part
use Rattle.zig_tree.specs.declared.tree.Kid.{Kid}
use Rattle.zig_tree.specs.declared.tree.Kid.TheVariants as kid
use Rattle.zig_tree.specs.declared.tree.Node.{Node}
use Rattle.zig_tree.specs.Grammar.{Alternative, group_rows, rule_rows}
use Rattle.zig_tree.specs.GrammarSentences.{Pieces, word, makes_no_node_alone, open_at, Among, Derives}
use Rattle.zig_parse.specs.declared.choice.Look.{Look}
use Rattle.zig_parse.specs.declared.thread.Frame.{Frame}
use Rattle.zig_parse.specs.declared.thread.Item.{Item}
use Rattle.zig_parse.specs.declared.thread.Thread.{Thread}
use Rattle.zig_parse.specs.declared.thread.Move.TheVariants as move
use Rattle.zig_parse.specs.Stack.{rest, with_first}
use Rattle.zig_parse.specs.Threads.{after_read, collapses, gained, hardened, is_deep, is_never_alone, item, met, met_from, one_more, opened, passed, put, replaced, touched_from, with_gain, with_part}
use Rattle.zig_parse.specs.Moves.{move_from}
use Rattle.zig_parse.specs.Nodes.{Parts, with_token}
use Rattle.zig_parse.proofs.Shapes.{count}
use Rattle.zig_parse.proofs.TreeTables.{same_lone}
use Rattle.zig_parse.proofs.Spelled.{spells_within}
use Rattle.zig_parse.proofs.Story.{Inside, left_from, inside_more, inside_group, inside_new, inside_hard, inside_token}
use Rattle.zig_tree.specs.declared.tree.TheConstants.{DEPTH_LIMIT}

-- ---- the nodes around the innermost one

-- open nodes, in the innermost of which a rule begins at a token
pub data Outer (tokens : List Token) (nodes : List Node) : List Frame → Rule → List Item → ℕ → List Kid → ℕ → Type 0 where
  at_root : Outer tokens nodes [] rule.Root [] 0 [] 0
  in_node : (f : Frame) (fs : List Frame) (r : Rule) (qs : List Part) (behind items : List Item) (from at : ℕ) (others own kids : List Kid) (depth deeper : ℕ)
      → Outer tokens nodes fs f.rule behind from others depth → Inside tokens nodes f from at own (part.Rule r ∷ qs) deeper → (f.solid ≡ false → length own ≡ 0)
      → items ≡ map (item (suc (length fs))) qs ++ behind → kids ≡ others ++ own → deeper ≡ depth + count f.solid
      → Outer tokens nodes (f ∷ fs) r items at kids deeper

pub outer_more : (tokens : List Token) (nodes more : List Node) (fs : List Frame) (r : Rule) (items : List Item) (at : ℕ) (kids : List Kid) (depth : ℕ) → Outer tokens nodes fs r items at kids depth → Outer tokens (nodes ++ more) fs r items at kids depth
outer_more tokens nodes more fs r items at kids depth at_root = at_root
outer_more tokens nodes more fs r items at kids depth (in_node f gs _ qs behind _ from _ others own _ less _ o i w e k d) =
    in_node f gs r qs behind items from at others own kids less depth (outer_more tokens nodes more gs f.rule behind from others less o) (inside_more tokens nodes more f from at own (part.Rule r ∷ qs) depth i) w e k d

-- what is to come behind them has been there for long: the innermost node is closed first
below_closes : (look : Look) (is : List Item) (level count_open : ℕ) (p : Part) → level < count_open → move_from look false count_open (item level p ∷ is) ≡ move.Close
below_closes look is level count_open p h = rw (lt-ltb level count_open h) refl

items_close : (look : Look) (qs : List Part) (behind : List Item) (level count_open : ℕ) → level < count_open → (move_from look false count_open behind ≡ move.Stop) ⊎ (move_from look false count_open behind ≡ move.Close)
    → (move_from look false count_open (map (item level) qs ++ behind) ≡ move.Stop) ⊎ (move_from look false count_open (map (item level) qs ++ behind) ≡ move.Close)
items_close look [] behind level count_open h f = f
items_close look (q ∷ qs) behind level count_open h f = inr (below_closes look (map (item level) qs ++ behind) level count_open q h)

pub outer_closes : (tokens : List Token) (nodes : List Node) (fs : List Frame) (r : Rule) (items : List Item) (at : ℕ) (kids : List Kid) (depth : ℕ) (look : Look) (count_open : ℕ) → length fs < count_open → Outer tokens nodes fs r items at kids depth
    → (move_from look false count_open items ≡ move.Stop) ⊎ (move_from look false count_open items ≡ move.Close)
outer_closes tokens nodes fs r items at kids depth look count_open h at_root = inl refl
outer_closes tokens nodes fs r items at kids depth look count_open h (in_node f gs _ qs behind _ from _ others own _ less _ o i w e k d) =
    subst (λ (l : List Item). (move_from look false count_open l ≡ move.Stop) ⊎ (move_from look false count_open l ≡ move.Close)) (sym e)
    (items_close look qs behind (suc (length gs)) count_open h (outer_closes tokens nodes gs f.rule behind from others less look count_open (omega arith) o))

-- ---- the state

-- the innermost open node, those around it, and how many nodes may still be opened before this token
pub record Standing (tokens : List Token) (at moves : ℕ) (t : Thread) (parts : Parts) (qs : List Part) : Type 0 where
  pub f : Frame
  pub fs : List Frame
  pub behind : List Item
  pub from : ℕ
  pub others : List Kid
  pub own : List Kid
  pub depth : ℕ
  pub outer : Outer tokens parts.nodes fs f.rule behind from others depth
  pub inside : Inside tokens parts.nodes f from at own qs t.depth
  pub frames : t.frames ≡ f ∷ fs
  pub items : t.items ≡ map (item (suc (length fs))) qs ++ behind
  pub kids : parts.kids ≡ others ++ own
  pub deep_as : t.depth ≡ depth + count f.solid
  pub budget : t.depth + 2 * moves ≤ 400

pub fewer : (tokens : List Token) (at moves less : ℕ) (t : Thread) (parts : Parts) (qs : List Part) → less ≤ moves → Standing tokens at moves t parts qs → Standing tokens at less t parts qs
fewer tokens at moves less t parts qs h s = record {
  f = s.f;
  fs = s.fs;
  behind = s.behind;
  from = s.from;
  others = s.others;
  own = s.own;
  depth = s.depth;
  outer = s.outer;
  inside = s.inside;
  frames = s.frames;
  items = s.items;
  kids = s.kids;
  deep_as = s.deep_as;
  budget = (let b = s.budget in omega arith);
}

-- ---- a group is replaced

pub map_joined : (level : ℕ) (ps qs : List Part) (behind : List Item) → map (item level) ps ++ (map (item level) qs ++ behind) ≡ map (item level) (ps ++ qs) ++ behind
map_joined level [] qs behind = refl
map_joined level (p ∷ ps) qs behind = ap (λ (l : List Item). item level p ∷ l) (map_joined level ps qs behind)

pub rest_as : (t : Thread) (q : Part) (qs : List Part) (level : ℕ) (behind : List Item) → t.items ≡ map (item level) (q ∷ qs) ++ behind → rest t.items ≡ map (item level) qs ++ behind
rest_as t q qs level behind e = ap rest e

unfoldable pub group_step : (tokens : List Token) (at moves : ℕ) (t : Thread) (parts : Parts) (g : Group) (qs : List Part) (b : Alternative) → Among b (open_at (left_from tokens at) (group_rows g)) → Standing tokens at moves t parts (part.Group g ∷ qs)
    → Standing tokens at moves (replaced None b.parts t) parts (b.parts ++ qs)
unfolding replaced put
group_step tokens at moves t parts g qs b m s = record {
  f = s.f;
  fs = s.fs;
  behind = s.behind;
  from = s.from;
  others = s.others;
  own = s.own;
  depth = s.depth;
  outer = s.outer;
  inside = inside_group tokens parts.nodes s.f s.from at s.own g b qs t.depth m s.inside;
  frames = s.frames;
  items = ap (λ (l : List Frame). map (item (length l)) b.parts ++ rest t.items) s.frames ∙ ap (λ (l : List Item). map (item (suc (length s.fs))) b.parts ++ l) (rest_as t (part.Group g) qs (suc (length s.fs)) s.behind s.items) ∙ map_joined (suc (length s.fs)) b.parts qs s.behind;
  kids = s.kids;
  deep_as = s.deep_as;
  budget = (let b = s.budget in omega arith);
}

-- ---- a rule is replaced

-- the state where a rule begins, made a node where it is one for sure
pub record Met (tokens : List Token) (at : ℕ) (u : Thread) (parts : Parts) (r : Rule) (qs : List Part) : Type 0 where
  pub f : Frame
  pub fs : List Frame
  pub behind : List Item
  pub from : ℕ
  pub others : List Kid
  pub own : List Kid
  pub depth : ℕ
  pub outer : Outer tokens parts.nodes fs f.rule behind from others depth
  pub inside : Inside tokens parts.nodes f from at own (part.Rule r ∷ qs) u.depth
  pub waits : f.solid ≡ false → length own ≡ 0
  pub frames : u.frames ≡ f ∷ fs
  pub items : u.items ≡ map (item (suc (length fs))) qs ++ behind
  pub kids : parts.kids ≡ others ++ own
  pub deep_as : u.depth ≡ depth + count f.solid

or_false : (x y : Bool) → (x || y) ≡ false → (x ≡ false) × (y ≡ false)
or_false true y h = absurd (cc)
or_false false y h = (refl, h)

pub shallow_deep : (depth height : ℕ) → is_deep depth height ≡ false → depth + height ≤ DEPTH_LIMIT
unfolding is_deep
shallow_deep depth height h = let l = ltb-false DEPTH_LIMIT (min (depth + height) (2 ^ 32 - 1)) h in omega (arith, l)

one_more_is : (n : ℕ) → n ≤ 400 → one_more n ≡ n + 1
one_more_is n h = omega arith

met_soft : (tokens : List Token) (at moves : ℕ) (t : Thread) (parts : Parts) (r : Rule) (qs : List Part) (s : Standing tokens at (suc moves) t parts (part.Rule r ∷ qs)) → (s.f.solid ≡ false → s.f.parts ≡ 0) → Met tokens at (passed t) parts r qs
met_soft tokens at moves t parts r qs s w = record {
  f = s.f;
  fs = s.fs;
  behind = s.behind;
  from = s.from;
  others = s.others;
  own = s.own;
  depth = s.depth;
  outer = s.outer;
  inside = s.inside;
  waits = λ e. sym s.inside.counted ∙ w e;
  frames = s.frames;
  items = rest_as t (part.Rule r) qs (suc (length s.fs)) s.behind s.items;
  kids = s.kids;
  deep_as = s.deep_as;
}

deeper_as : (depth deeper below : ℕ) (solid : Bool) → solid ≡ false → deeper ≡ depth + 1 → depth ≡ below + count solid → deeper ≡ below + 1
deeper_as depth deeper below true e h k = absurd (cc)
deeper_as depth deeper below false e h k = omega arith

met_hard : (tokens : List Token) (at moves : ℕ) (t : Thread) (parts : Parts) (r : Rule) (qs : List Part) (s : Standing tokens at (suc moves) t parts (part.Rule r ∷ qs)) → s.f.solid ≡ false → (0 < s.f.parts) ⊎ (is_never_alone r ≡ true)
    → (hardened s.f (passed t)).deep ≡ false → Met tokens at (hardened s.f (passed t)) parts r qs
unfolding hardened
met_hard tokens at moves t parts r qs s soft some shallow =
    let b = s.budget in
    let deeper : one_more t.depth ≡ t.depth + 1 = one_more_is t.depth (omega arith) in
    let low = shallow_deep (one_more t.depth) s.f.height (or_false t.deep (is_deep (one_more t.depth) s.f.height) shallow).1 in
    record {
      f = record s.f { solid = true };
      fs = s.fs;
      behind = s.behind;
      from = s.from;
      others = s.others;
      own = s.own;
      depth = s.depth;
      outer = s.outer;
      inside = inside_hard tokens parts.nodes s.f s.from at s.own r qs t.depth (one_more t.depth) some low s.inside;
      waits = λ e. absurd (cc);
      frames = ap (with_first (record s.f { solid = true })) s.frames;
      items = rest_as t (part.Rule r) qs (suc (length s.fs)) s.behind s.items;
      kids = s.kids;
      deep_as = deeper_as t.depth (one_more t.depth) s.depth s.f.solid soft deeper s.deep_as;
    }

met_by : (tokens : List Token) (at moves : ℕ) (t : Thread) (parts : Parts) (r : Rule) (qs : List Part) (s : Standing tokens at (suc moves) t parts (part.Rule r ∷ qs)) (x y z : Bool) → s.f.solid ≡ x → nat_lt 0 s.f.parts ≡ y → is_never_alone r ≡ z
    → (if not x && (y || z) then hardened s.f (passed t) else passed t).deep ≡ false → Met tokens at (if not x && (y || z) then hardened s.f (passed t) else passed t) parts r qs
met_by tokens at moves t parts r qs s true y z ex ey ez h = met_soft tokens at moves t parts r qs s (λ e. absurd (cc))
met_by tokens at moves t parts r qs s false true z ex ey ez h = met_hard tokens at moves t parts r qs s ex (inl (ltb-true 0 s.f.parts ey)) h
met_by tokens at moves t parts r qs s false false true ex ey ez h = met_hard tokens at moves t parts r qs s ex (inr ez) h
met_by tokens at moves t parts r qs s false false false ex ey ez h = met_soft tokens at moves t parts r qs s (λ e. (let l = ltb-false 0 s.f.parts ey in omega arith))

pub met_standing : (tokens : List Token) (at moves : ℕ) (t : Thread) (parts : Parts) (r : Rule) (qs : List Part) → Standing tokens at (suc moves) t parts (part.Rule r ∷ qs) → (met r (passed t)).deep ≡ false → Met tokens at (met r (passed t)) parts r qs
unfolding met
met_standing tokens at moves t parts r qs s h =
    let e : met_from r (passed t) t.frames ≡ met_from r (passed t) (s.f ∷ s.fs) = ap (met_from r (passed t)) s.frames in
    subst (λ (u : Thread). Met tokens at u parts r qs) (sym e)
    (met_by tokens at moves t parts r qs s s.f.solid (nat_lt 0 s.f.parts) (is_never_alone r) refl refl refl (ap (λ (u : Thread). u.deep) (sym e) ∙ h))

pub met_depth : (r : Rule) (t : Thread) (fs : List Frame) → t.depth ≤ 400 → (met_from r t fs).depth ≤ t.depth + 1
unfolding hardened
met_depth r t [] h = omega arith
met_depth r t (f ∷ fs) h = by (not f.solid && (nat_lt 0 f.parts || is_never_alone r))
  where
    by : (b : Bool) → (if b then hardened f t else t).depth ≤ t.depth + 1
    by true = omega arith
    by false = omega arith

pub opened_depth : (lone : Bool) (depth : ℕ) → depth < 400 → (if lone then depth else one_more depth) ≡ depth + count (not lone)
opened_depth true depth h = omega arith
opened_depth false depth h = omega arith

pub opened_budget : (lone : Bool) (depth moves : ℕ) → depth + 2 * moves < 400 → (if lone then depth else one_more depth) + 2 * moves ≤ 400
opened_budget true depth moves h = omega arith
opened_budget false depth moves h = omega arith

unfoldable pub open_standing : (tokens : List Token) (at moves : ℕ) (u : Thread) (parts : Parts) (r : Rule) (qs : List Part) (b : Alternative) → Among b (open_at (left_from tokens at) (rule_rows r)) → u.depth + 2 * moves < 400 → Met tokens at u parts r qs
    → Standing tokens at moves (put b.parts (opened r u)) parts b.parts
unfolding put opened
open_standing tokens at moves u parts r qs b m h s =
    let f : Frame = record { rule = r; parts = 0; height = 0; solid = not (collapses r) } in
    let solid : not (collapses r) ≡ not (makes_no_node_alone r) = ap not (same_lone r) in
    record {
      f = f;
      fs = s.f ∷ s.fs;
      behind = u.items;
      from = at;
      others = parts.kids;
      own = [];
      depth = u.depth;
      outer = in_node s.f s.fs r qs s.behind u.items s.from at s.others s.own parts.kids s.depth u.depth s.outer s.inside s.waits s.items s.kids s.deep_as;
      inside = inside_new tokens parts.nodes f at b (if collapses r then u.depth else one_more u.depth) m solid refl refl;
      frames = ap (λ (l : List Frame). f ∷ l) s.frames;
      items = ap (λ (l : List Frame). map (item (length (f ∷ l))) b.parts ++ u.items) s.frames;
      kids = sym (append-nil parts.kids);
      deep_as = opened_depth (collapses r) u.depth (omega arith);
      budget = opened_budget (collapses r) u.depth moves h;
    }

unfoldable pub rule_step : (tokens : List Token) (at moves : ℕ) (t : Thread) (parts : Parts) (r : Rule) (qs : List Part) (b : Alternative) → Among b (open_at (left_from tokens at) (rule_rows r)) → Standing tokens at (suc moves) t parts (part.Rule r ∷ qs)
    → (replaced (Some r) b.parts t).deep ≡ false → Standing tokens at moves (replaced (Some r) b.parts t) parts b.parts
unfolding replaced put opened met
rule_step tokens at moves t parts r qs b m s h =
    let bound = s.budget in
    let deeper = met_depth r (passed t) t.frames (omega arith) in
    open_standing tokens at moves (met r (passed t)) parts r qs b m (omega arith) (met_standing tokens at moves t parts r qs s h)

-- ---- a token is read

still_low : (depth height own : ℕ) → depth + 0 ≤ DEPTH_LIMIT → ((own ≡ 0) × (height ≡ 0)) ⊎ (depth + height ≤ DEPTH_LIMIT) → depth + height ≤ DEPTH_LIMIT
still_low depth height own h (inl none) = omega (arith, none.1)
still_low depth height own h (inr l) = l

-- the innermost node after a token: solid, with a part more
abbrev touched : Frame → Frame
touched f = with_part 0 (record f { solid = true })

soft_touch : (f : Frame) → f.solid ≡ true → with_part 0 f ≡ touched f
soft_touch f e = ap (λ (b : Bool). with_part 0 (record f { solid = b })) e

read_standing : (tokens : List Token) (at moves : ℕ) (t u : Thread) (parts : Parts) (q : Part) (k : Token) (qs : List Part) (s : Standing tokens at moves t parts (q ∷ qs)) → at < length tokens → length tokens < 2 ^ 32
    → ((end : List TokenKind) (later : Pieces) → Derives qs (left_from tokens (at + 1)) end later → Derives (q ∷ qs) (left_from tokens at) end (word k.kind later)) → slice_get tokens at ≡ Some k
    → u.frames ≡ touched s.f ∷ s.fs → u.items ≡ rest t.items → u.depth ≡ s.depth + 1 → u.depth + s.f.height ≤ DEPTH_LIMIT
    → Standing tokens (at + 1) 100 u (record { nodes = parts.nodes; kids = parts.kids ++ kid.Token at ∷ [] }) qs
read_standing tokens at moves t u parts q k qs s within fits reads there ef ei ed low =
    let have = spells_within tokens parts.nodes s.own s.from at s.inside.pieces s.inside.spelled in
    let parts_as : one_more s.f.parts ≡ s.f.parts + 1 = omega (arith, s.inside.counted) in
    record {
      f = touched s.f;
      fs = s.fs;
      behind = s.behind;
      from = s.from;
      others = s.others;
      own = s.own ++ kid.Token at ∷ [];
      depth = s.depth;
      outer = s.outer;
      inside = inside_token tokens parts.nodes s.f s.from at s.own q k qs t.depth u.depth (touched s.f) reads there refl refl parts_as (omega arith) (omega arith) s.inside;
      frames = ef;
      items = ei ∙ rest_as t q qs (suc (length s.fs)) s.behind s.items;
      kids = ap (λ (l : List Kid). l ++ kid.Token at ∷ []) s.kids ∙ append_assoc s.others s.own (kid.Token at ∷ []);
      deep_as = ed;
      budget = omega arith;
    }

token_by : (tokens : List Token) (at moves : ℕ) (t : Thread) (parts : Parts) (q : Part) (k : Token) (qs : List Part) (solid : Bool) (s : Standing tokens at moves t parts (q ∷ qs)) → at < length tokens → length tokens < 2 ^ 32
    → ((end : List TokenKind) (later : Pieces) → Derives qs (left_from tokens (at + 1)) end later → Derives (q ∷ qs) (left_from tokens at) end (word k.kind later)) → slice_get tokens at ≡ Some k → s.f.solid ≡ solid
    → (with_gain 0 (if solid then record (passed t) { deep = t.deep || is_deep t.depth 0 } else hardened s.f (passed t))).deep ≡ false
    → Standing tokens (at + 1) 100 (with_gain 0 (if solid then record (passed t) { deep = t.deep || is_deep t.depth 0 } else hardened s.f (passed t))) (record { nodes = parts.nodes; kids = parts.kids ++ kid.Token at ∷ [] }) qs
unfolding hardened
token_by tokens at moves t parts q k qs true s within fits reads there e h =
    let low = shallow_deep t.depth 0 (or_false t.deep (is_deep t.depth 0) h).1 in
    let deep_as : t.depth ≡ s.depth + 1 = s.deep_as ∙ ap (λ (b : Bool). s.depth + count b) e in
    read_standing tokens at moves t (with_gain 0 (record (passed t) { deep = t.deep || is_deep t.depth 0 })) parts q k qs s within fits reads there (ap (gained 0) s.frames ∙ ap (λ (f : Frame). f ∷ s.fs) (soft_touch s.f e)) refl deep_as
    (still_low t.depth s.f.height (length s.own) low s.inside.shallow)
token_by tokens at moves t parts q k qs false s within fits reads there e h =
    let b = s.budget in
    let low = shallow_deep (one_more t.depth) s.f.height (or_false t.deep (is_deep (one_more t.depth) s.f.height) h).1 in
    let deeper : one_more t.depth ≡ t.depth + 1 = one_more_is t.depth (omega arith) in
    read_standing tokens at moves t (with_gain 0 (hardened s.f (passed t))) parts q k qs s within fits reads there (ap (λ (l : List Frame). gained 0 (with_first (record s.f { solid = true }) l)) s.frames) refl
    (deeper_as t.depth (one_more t.depth) s.depth s.f.solid e deeper s.deep_as) low

pub token_step : (tokens : List Token) (at moves : ℕ) (t : Thread) (parts : Parts) (q : Part) (k : Token) (qs : List Part) → at < length tokens → length tokens < 2 ^ 32
    → ((end : List TokenKind) (later : Pieces) → Derives qs (left_from tokens (at + 1)) end later → Derives (q ∷ qs) (left_from tokens at) end (word k.kind later)) → slice_get tokens at ≡ Some k
    → Standing tokens at moves t parts (q ∷ qs) → (after_read t).deep ≡ false → Standing tokens (at + 1) 100 (after_read t) (with_token at parts) qs
unfolding after_read with_token hardened
token_step tokens at moves t parts q k qs within fits reads there s h =
    subst (λ (u : Thread). u.deep ≡ false → Standing tokens (at + 1) 100 u (record { nodes = parts.nodes; kids = parts.kids ++ kid.Token at ∷ [] }) qs)
    (sym (ap (λ (l : List Frame). with_gain 0 (touched_from (passed t) l)) s.frames)) (λ e. token_by tokens at moves t parts q k qs s.f.solid s within fits reads there refl e) h
