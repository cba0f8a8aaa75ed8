-- What a thread keeps while it isn't marked as deep, in each brace, stays with each token.
use Rattle.std.proofs.Common.{◌≡◌, ℕ, ◌-◌, ◌<◌, ◌≤◌, Bool, true, false, inl, inr, List, [], ◌∷◌, map, Option, Some, None, refl, sym, ◌∙◌, subst, arith}
use Rattle.std.specs.Prelude.{if◌then◌else◌}
use Rattle.zig_tree.specs.declared.token.TokenKind.TheVariants as kind
use Rattle.zig_tree.specs.declared.grammar.Rule.TheVariants as rule
use Rattle.zig_tree.specs.declared.grammar.Group.TheVariants as group
use Rattle.zig_tree.specs.declared.grammar.Part.{Part}
use Rattle.zig_tree.specs.declared.grammar.Part.TheVariants as part
use Rattle.zig_tree.specs.Grammar.{group_rows, rule_rows}
use Rattle.zig_parse.specs.declared.choice.Look.{Look}
use Rattle.zig_parse.specs.declared.thread.Thread.{Thread}
use Rattle.zig_parse.specs.declared.survey.Finished.{Finished}
use Rattle.zig_parse.specs.declared.state.State.{State}
use Rattle.zig_parse.specs.Stack.{rest}
use Rattle.zig_parse.specs.Choices.{choices, matching}
use Rattle.zig_parse.specs.Threads.{after_read, collapses, fresh, met_part, opened, put, received, with_choices}
use Rattle.zig_parse.specs.Moves.{moving, settled_all, waits_for}
use Rattle.zig_parse.specs.Passes.{after_token, alone, any_waits, begun, begun_at, begun_for, finished, inside, is_closed, least_from, result_for, resumed_top, those_waiting}
use Rattle.zig_parse.specs.Surveys.{entered, entered_waiting, first_state, left, left_waiting, next_live, next_state, read_live, read_waiting}
use Rattle.zig_parse.proofs.Opening.{Five, five_block, five_initializer, five_body, five_errors, five_switch, body, opens}
use Rattle.zig_parse.proofs.Moving.{Comes, Each, coming, each_joined, each_kept, met_part_keeps, moving_come, read_keeps, received_keeps, settled_each}
use Rattle.zig_parse.proofs.Keeping.{all_go_on, goes_on, goes_on_by, keep_each, resumed_as, token_as}
use Rattle.zig_parse.proofs.Entering.{those_each}
use Rattle.zig_parse.proofs.Budgets.{Held, Moved, Rested, met_held, moving_moved, read_rested, received_rested}
use Rattle.zig_tree.specs.declared.tree.TheConstants.{DEPTH_LIMIT}

-- ---- where what is read in a brace began

-- how deep the innermost node lies around what is read for a part in the innermost brace
abbrev pub depth_in : List (List Thread) → Part → Option ℕ
depth_in [] goal = Some 0
depth_in (those ∷ waiting) goal = least_from None goal those

-- and the node that the part lies in: the braces of a group stand in the innermost one
abbrev pub base_of : Part → ℕ → ℕ
base_of (part.Group _) depth = depth - 1
base_of (part.Rule _) depth = depth
base_of (part.Token _) depth = depth
base_of (part.OneOf _) depth = depth

abbrev pub has_room : Part → ℕ → Type 0
has_room (part.Group _) depth = 0 < depth
has_room (part.Rule _) depth = Unit {0}
has_room (part.Token _) depth = Unit {0}
has_room (part.OneOf _) depth = Unit {0}

-- what holds of a thread in a node of the depth at which it began
abbrev pub Grounded : (ℕ → Thread → Type 0) → List (List Thread) → Thread → Type 0
Grounded P waiting t = (depth : ℕ) → depth_in waiting t.goal ≡ Some depth → depth ≤ DEPTH_LIMIT → has_room t.goal depth → P (base_of t.goal depth) t

grounded_as : (P : ℕ → Thread → Type 0) (waiting : List (List Thread)) (goal : Part) (u : Thread) → u.goal ≡ goal → ((depth : ℕ) → depth_in waiting goal ≡ Some depth → depth ≤ DEPTH_LIMIT → has_room goal depth → P (base_of goal depth) u) → Grounded P waiting u
grounded_as P waiting goal u e f depth i l r =
    subst (λ (g : Part). P (base_of g depth) u) (sym e) (f depth (subst (λ (g : Part). depth_in waiting g ≡ Some depth) e i) l (subst (λ (g : Part). has_room g depth) e r))

-- ---- up to the token

rested_moved : (base : ℕ) (t : Thread) → Rested base t → Moved base t
rested_moved base t h d = let now = h d in (now.1, inl now.0)

ground_moves : (waiting : List (List Thread)) (look : Look) (at : ℕ) (t : Thread) → Grounded Moved waiting t → Each (Grounded Moved waiting) (moving look at t)
ground_moves waiting look at t h = by (moving look at t) (moving_come (look.kind ∷ look.next ∷ []) at t) (λ depth i l r. moving_moved (base_of t.goal depth) look at t (h depth i l r))
  where
    by : (us : List Thread) → Each (λ (u : Thread). Comes (look.kind ∷ look.next ∷ []) t.goal (coming t) u) us
        → ((depth : ℕ) → depth_in waiting t.goal ≡ Some depth → depth ≤ DEPTH_LIMIT → has_room t.goal depth → Each (Moved (base_of t.goal depth)) us) → Each (Grounded Moved waiting) us
    by [] c f = tt
    by (u ∷ us) c f = (grounded_as Moved waiting t.goal u c.0.same_goal (λ depth i l r. (f depth i l r).0), by us c.1 (λ depth i l r. (f depth i l r).1))

settled_grounds : (waiting : List (List Thread)) (look : Look) (at : ℕ) (ts : List Thread) → Each (Grounded Rested waiting) ts → Each (Grounded Moved waiting) (settled_all look at ts)
unfolding settled_all
settled_grounds waiting look at ts h =
    settled_each (Grounded Moved waiting) (Grounded Moved waiting) look at (λ t k. ground_moves waiting look at t k) (λ t k r. k) _ ts
    (each_kept (Grounded Rested waiting) (Grounded Moved waiting) ts (λ t k depth i l r. rested_moved (base_of t.goal depth) t (k depth i l r)) h)

-- ---- a brace begins

pub same_depth : (a b : ℕ) → ◌≡◌ {A = Option ℕ} (Some a) (Some b) → b ≡ a
same_depth a b e = cc

begun_moved : (look : Look) (p : Part) (depth : ℕ) → Five p → depth ≤ DEPTH_LIMIT → has_room p depth → Moved (base_of p depth) (begun look p depth)
unfolding begun choices matching rule_rows group_rows put opened fresh collapses
begun_moved look p depth five_block l r = λ d. ((omega arith, omega arith, omega arith), inr (record { ps = part.Token kind.LeftBrace ∷ body (part.Rule rule.Block); later = []; items = refl; some = refl; fits = omega arith }))
begun_moved look p depth five_initializer l r = λ d. ((omega arith, omega arith, omega arith), inr (record { ps = part.Token kind.LeftBrace ∷ body (part.Rule rule.Initializer); later = []; items = refl; some = refl; fits = omega arith }))
begun_moved look p depth five_body l r = λ d. ((omega arith, omega arith, omega arith), inr (record { ps = part.Token kind.LeftBrace ∷ body (part.Rule rule.ContainerBody); later = []; items = refl; some = refl; fits = omega arith }))
begun_moved look p depth five_errors l r = λ d. ((omega arith, omega arith, refl), inl l)
begun_moved look p depth five_switch l r = λ d. ((omega arith, omega arith, refl), inl l)

begun_grounds : (look : Look) (those : List Thread) (waiting : List (List Thread)) (p : Part) (depth : ℕ) → Five p → least_from None p those ≡ Some depth → Grounded Moved (those ∷ waiting) (begun look p depth)
begun_grounds look those waiting p depth five e =
    grounded_as Moved (those ∷ waiting) p (begun look p depth) (opens (look.kind ∷ look.next ∷ []) p depth five).own_goal
    (λ other i l r. (let same = same_depth depth other (sym e ∙ i) in
    subst (λ (n : ℕ). Moved (base_of p n) (begun look p depth)) (sym same) (begun_moved look p depth five (subst (λ (n : ℕ). n ≤ DEPTH_LIMIT) same l) (subst (λ (n : ℕ). has_room p n) same r))))

for_found : (P : Thread → Type 0) (look : Look) (ts : List Thread) (p : Part) → ((depth : ℕ) → least_from None p ts ≡ Some depth → P (begun look p depth)) → Each P (begun_for look ts p)
for_found P look ts p f = by (least_from None p ts) refl
  where
    by : (o : Option ℕ) → least_from None p ts ≡ o → Each P (begun_at look p o)
    by None e = tt
    by (Some depth) e = (f depth e, tt)

inside_found : (P : Thread → Type 0) (look : Look) (ts : List Thread) → ((p : Part) (depth : ℕ) → Five p → least_from None p ts ≡ Some depth → P (begun look p depth)) → Each P (inside look ts)
unfolding inside
inside_found P look ts f =
    let one = λ (p : Part) (k : Five p). for_found P look ts p (λ depth e. f p depth k e) in
    let four = begun_for look ts (part.Group group.ErrorBraces) in
    let last = begun_for look ts (part.Group group.SwitchBraces) in
    let body = begun_for look ts (part.Rule rule.ContainerBody) in
    let initializer = begun_for look ts (part.Rule rule.Initializer) in
    each_joined P (begun_for look ts (part.Rule rule.Block)) _ (one (part.Rule rule.Block) five_block)
    (each_joined P initializer _ (one (part.Rule rule.Initializer) five_initializer)
    (each_joined P body _ (one (part.Rule rule.ContainerBody) five_body)
    (each_joined P four last (one (part.Group group.ErrorBraces) five_errors) (one (part.Group group.SwitchBraces) five_switch))))

-- those that wait around the open braces
abbrev pub AllGrounded : List (List Thread) → Type 0
AllGrounded [] = Unit {0}
AllGrounded (ts ∷ waiting) = Each (Grounded Held waiting) ts × AllGrounded waiting

-- what is known of all threads
pub record Grounds (live : List Thread) (waiting : List (List Thread)) : Type 0 where
  pub rested : Each (Grounded Rested waiting) live
  pub held : AllGrounded waiting

-- at a token
record Readied (ready : List Thread) (waiting : List (List Thread)) : Type 0 where
  moved : Each (Grounded Moved waiting) ready
  held : AllGrounded waiting

enter_grounds : (look : Look) (ready : List Thread) (waiting : List (List Thread)) → Each (Grounded Moved waiting) ready → AllGrounded waiting → Readied (entered look ready) (entered_waiting ready waiting)
unfolding entered entered_waiting
enter_grounds look ready waiting h k = by (any_waits ready)
  where
    those : List Thread
    those = those_waiting ready

    by : (b : Bool) → Readied (if b then inside look (those_waiting ready) else ready) (if b then those_waiting ready ∷ waiting else waiting)
    by true = record {
      moved = inside_found (Grounded Moved (those_waiting ready ∷ waiting)) look (those_waiting ready) (λ p depth five e. begun_grounds look (those_waiting ready) waiting p depth five e);
      held = (those_each (Grounded Moved waiting) (Grounded Held waiting) ready (λ t p m. grounded_as Held waiting t.goal (met_part p t) (met_part_keeps p t).1 (λ depth i l r. met_held (base_of t.goal depth) p t (m depth i l r))) h, k);
    }
    by false = record { moved = h; held = k }

-- ---- the token is read

each_mapped : (P : Thread → Type 0) (f : Thread → Thread) (ts : List Thread) → Each (λ (t : Thread). P (f t)) ts → Each P (map f ts)
each_mapped P f [] h = tt
each_mapped P f (t ∷ ts) h = (h.0, each_mapped P f ts h.1)

base_low : (p : Part) (depth : ℕ) → depth ≤ DEPTH_LIMIT → base_of p depth ≤ DEPTH_LIMIT
base_low (part.Group _) depth l = omega arith
base_low (part.Rule _) depth l = l
base_low (part.Token _) depth l = l
base_low (part.OneOf _) depth l = l

read_grounds : (waiting : List (List Thread)) (ts : List Thread) → Each (Grounded Moved waiting) ts → Each (Grounded Rested waiting) (after_token [] ts)
read_grounds waiting ts h =
    subst (λ (l : List Thread). Each (Grounded Rested waiting) l) (sym (token_as [] ts))
    (keep_each (Grounded Rested waiting) [] (map after_read ts) tt
    (each_mapped (Grounded Rested waiting) after_read ts
    (each_kept (Grounded Moved waiting) (λ (t : Thread). Grounded Rested waiting (after_read t)) ts
    (λ t m. grounded_as Rested waiting t.goal (after_read t) (read_keeps t).1 (λ depth i l r. read_rested (base_of t.goal depth) (base_low t.goal depth l) t (m depth i l r))) h)))

-- ---- a brace is closed

one_rested : (waiting : List (List Thread)) (found : List Finished) (t : Thread) (o : Option Part) → Grounded Held waiting t → Each (Grounded Rested waiting) (goes_on_by found t o)
unfolding goes_on_by goes_on
one_rested waiting found t None h = tt
one_rested waiting found t (Some p) h = by (result_for found p)
  where
    by : (o : Option Finished) → Each (Grounded Rested waiting) (goes_on t o)
    by None = tt
    by (Some f) =
        (grounded_as Rested waiting t.goal (with_choices f.choices (received f.height t)) (received_keeps f.height t).1 (λ depth i l r. received_rested (base_of t.goal depth) f.height f.choices t (h depth i l r)), tt)

all_rested : (waiting : List (List Thread)) (found : List Finished) (ts : List Thread) → Each (Grounded Held waiting) ts → Each (Grounded Rested waiting) (all_go_on found ts)
unfolding all_go_on
all_rested waiting found [] h = tt
all_rested waiting found (t ∷ ts) h =
    each_joined (Grounded Rested waiting) (goes_on_by found t (waits_for t)) (all_go_on found ts) (one_rested waiting found t (waits_for t) h.0) (all_rested waiting found ts h.1)

resumed_grounds : (found : List Finished) (waiting : List (List Thread)) → AllGrounded waiting → Grounds (resumed_top found waiting) (rest waiting)
resumed_grounds found [] h = record { rested = tt; held = tt }
resumed_grounds found (those ∷ waiting) h = record {
  rested = subst (λ (l : List Thread). Each (Grounded Rested waiting) l) (sym (resumed_as found [] those)) (keep_each (Grounded Rested waiting) [] (all_go_on found those) tt (all_rested waiting found those h.0));
  held = h.1;
}

left_grounds : (look : Look) (live : List Thread) (waiting : List (List Thread)) → Each (Grounded Rested waiting) live → AllGrounded waiting → Grounds (left look live waiting) (left_waiting look live waiting)
unfolding left left_waiting
left_grounds look live waiting h k = by (is_closed look live)
  where
    by : (b : Bool) → Grounds (if b then resumed_top (map finished live) waiting else live) (if b then rest waiting else waiting)
    by true = resumed_grounds (map finished live) waiting k
    by false = record { rested = h; held = k }

-- ---- a token

alone_grounds : (waiting : List (List Thread)) (ts : List Thread) → Each (Grounded Rested waiting) ts → Each (Grounded Rested waiting) (alone ts)
alone_grounds waiting [] h = h
alone_grounds waiting (t ∷ []) h = (h.0, tt)
alone_grounds waiting (t ∷ u ∷ ts) h = h

pub next_grounds : (look : Look) (at : ℕ) (s : State) → Grounds s.live s.waiting → Grounds (next_state look at s).live (next_state look at s).waiting
unfolding next_state next_live read_live read_waiting
next_grounds look at s g =
    let ready = settled_all look at s.live in
    let r = enter_grounds look ready s.waiting (settled_grounds s.waiting look at s.live g.rested) g.held in
    let l = left_grounds look (after_token [] (entered look ready)) (entered_waiting ready s.waiting) (read_grounds (entered_waiting ready s.waiting) (entered look ready) r.moved) r.held in
    record { rested = alone_grounds (left_waiting look (after_token [] (entered look ready)) (entered_waiting ready s.waiting)) (left look (after_token [] (entered look ready)) (entered_waiting ready s.waiting)) l.rested; held = l.held }

pub first_grounds : (look : Look) → Grounds (first_state look).live (first_state look).waiting
unfolding first_state begun choices matching rule_rows put opened fresh collapses
first_grounds look = record { rested = (λ depth i l r d. (omega arith, (omega arith, omega arith, same_depth depth 0 (sym i))), tt); held = tt }
