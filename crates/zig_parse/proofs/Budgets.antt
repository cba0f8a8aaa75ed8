-- A thread that isn't marked as deep: its depth is the number of its nodes, with that of the node around what it
-- reads, and none of them has more nodes below it than the limit leaves.
use Rattle.std.proofs.Common.{◌≡◌, ℕ, ◌+◌, ◌-◌, ◌*◌, ◌<◌, ◌≤◌, Bool, true, false, ◌||◌, ◌⊎◌, inl, inr, List, [], ◌∷◌, ◌++◌, map, length, Some, None, refl, sym, ◌∙◌, ap, subst, arith}
use Rattle.std.specs.Prelude.{if◌then◌else◌, nat_lt, not, min, max, ◌^◌, ◌&&◌}
use Rattle.std.proofs.lemmas.Bool.{and_parts, ltb-true, ltb-false, le-ltb}
use Rattle.zig_tree.specs.declared.grammar.Rule.{Rule}
use Rattle.zig_tree.specs.declared.grammar.Group.{Group}
use Rattle.zig_tree.specs.declared.grammar.Part.{Part}
use Rattle.zig_tree.specs.declared.grammar.Part.TheVariants as part
use Rattle.zig_tree.specs.Grammar.{Alternative, group_rows, rule_rows}
use Rattle.zig_tree.specs.GrammarSentences.{open_at, Among}
use Rattle.zig_parse.specs.declared.choice.Look.{Look}
use Rattle.zig_parse.specs.declared.thread.Frame.{Frame}
use Rattle.zig_parse.specs.declared.thread.Item.{Item}
use Rattle.zig_parse.specs.declared.thread.Thread.{Thread}
use Rattle.zig_parse.specs.declared.thread.Move.{Move}
use Rattle.zig_parse.specs.declared.thread.Move.TheVariants as move
use Rattle.zig_parse.specs.Choices.{choices}
use Rattle.zig_parse.specs.Stack.{rest, with_first}
use Rattle.zig_parse.specs.Threads.{after_read, closed, closed_from, collapses, gained, hardened, is_deep, is_never_alone, item, met, met_from, met_part, one_more, opened, part_height, passed, put, received, replaced, risen, touched_from, with_choices, with_gain, with_part}
use Rattle.zig_parse.specs.Moves.{at_choice, move_at, move_from, moving, moving_by, next_move, spread}
use Rattle.zig_parse.proofs.Shapes.{count}
use Rattle.zig_parse.proofs.Derived.{open_is_row}
use Rattle.zig_parse.proofs.Picks.{choices_as, parts_in}
use Rattle.zig_parse.proofs.CostTables.{cost_of, cost_of_rule, front_cost, group_costs, has_some, may_be_empty, may_be_nothing, pairs_fit, row_fits, rows_fit, rule_cost_small, rule_costs}
use Rattle.zig_parse.proofs.Costs.{IsFront, group_front_at, part_not_close, rule_front}
use Rattle.zig_parse.proofs.Moving.{Each, spread_each}
use Rattle.zig_tree.specs.declared.tree.TheConstants.{DEPTH_LIMIT}

-- ---- what is kept

-- open nodes in a node of some depth, the innermost of them at this one
abbrev pub Within : ℕ → ℕ → List Frame → Type 0
Within base depth [] = depth ≡ base
Within base depth (f ∷ fs) = (f.height ≤ DEPTH_LIMIT - depth) × (count f.solid ≤ depth) × Within base (depth - count f.solid) fs

-- nodes were opened at this token: what comes first costs no more than the limit leaves
pub record Opened (t : Thread) : Type 0 where
  pub ps : List Part
  pub later : List Item
  pub items : t.items ≡ map (item (length t.frames)) ps ++ later
  pub some : has_some ps ≡ true
  pub fits : t.depth + 2 * front_cost ps ≤ 260

-- a thread that waits, one between two tokens, and one at a token
abbrev pub Held : ℕ → Thread → Type 0
Held base t = t.deep ≡ false → Within base t.depth t.frames

abbrev pub Rested : ℕ → Thread → Type 0
Rested base t = t.deep ≡ false → (t.depth ≤ DEPTH_LIMIT) × Within base t.depth t.frames

abbrev pub Moved : ℕ → Thread → Type 0
Moved base t = t.deep ≡ false → Within base t.depth t.frames × ((t.depth ≤ DEPTH_LIMIT) ⊎ Opened t)

-- ---- a node is closed

gained_within : (base depth h : ℕ) (fs : List Frame) → h ≤ DEPTH_LIMIT - depth → Within base depth fs → Within base depth (gained h fs)
gained_within base depth h [] l w = w
gained_within base depth h (f ∷ fs) l w = (omega (arith, w.0), w.1, w.2)

closed_within : (base depth : ℕ) (f : Frame) (fs : List Frame) → depth ≤ DEPTH_LIMIT → Within base depth (f ∷ fs) → Within base (depth - count f.solid) (gained (part_height f) fs)
closed_within base depth f fs d w = gained_within base (depth - count f.solid) (part_height f) fs (by f.solid w.0 w.1) w.2
  where
    by : (b : Bool) → f.height ≤ DEPTH_LIMIT - depth → count b ≤ depth → (if b then one_more f.height else f.height) ≤ DEPTH_LIMIT - (depth - count b)
    by true h c = omega arith
    by false h c = omega arith

pub less_one : (b : Bool) (d : ℕ) → (if b then d - 1 else d) ≡ d - count b
less_one true d = refl
less_one false d = omega arith

closed_by : (base : ℕ) (t : Thread) (fs : List Frame) → t.frames ≡ fs → t.depth ≤ DEPTH_LIMIT → Within base t.depth fs → ((closed_from t fs).depth ≤ DEPTH_LIMIT) × Within base (closed_from t fs).depth (closed_from t fs).frames
closed_by base t [] e d w = (d, subst (Within base t.depth) (sym e) w)
closed_by base t (f ∷ fs) e d w =
    let one = less_one f.solid t.depth in
    (omega (arith, one), subst (λ (n : ℕ). Within base n (gained (part_height f) fs)) (sym one) (closed_within base t.depth f fs d w))

closed_deep : (t : Thread) (fs : List Frame) → (closed_from t fs).deep ≡ t.deep
closed_deep t [] = refl
closed_deep t (f ∷ fs) = refl

closed_moved : (base : ℕ) (t : Thread) → (t.deep ≡ false → (t.depth ≤ DEPTH_LIMIT) × Within base t.depth t.frames) → Moved base (closed t)
unfolding closed
closed_moved base t h d =
    let now = h (sym (closed_deep t t.frames) ∙ d) in
    let c = closed_by base t t.frames refl now.0 now.1 in
    (c.1, inl c.0)

-- ---- a node is made one

or_left : (x y : Bool) → (x || y) ≡ false → x ≡ false
or_left true y h = absurd (cc)
or_left false y h = refl

or_right : (x y : Bool) → (x || y) ≡ false → y ≡ false
or_right true y h = absurd (cc)
or_right false y h = h

not_deep : (depth height : ℕ) → is_deep depth height ≡ false → depth + height ≤ DEPTH_LIMIT
unfolding is_deep
not_deep depth height h = let l = ltb-false DEPTH_LIMIT (min (depth + height) (2 ^ 32 - 1)) h in omega (arith, l)

-- what is known once the innermost node is one
record Hard (base : ℕ) (t u : Thread) : Type 0 where
  within : Within base u.depth u.frames
  room : u.depth ≤ DEPTH_LIMIT
  deeper : u.depth ≡ t.depth + 1
  shallow : t.deep ≡ false

hard_within : (base : ℕ) (f : Frame) (t : Thread) (fs : List Frame) → t.frames ≡ f ∷ fs → f.solid ≡ false → Held base t → (hardened f t).deep ≡ false → Hard base t (hardened f t)
unfolding hardened
hard_within base f t fs e s h d =
    let shallow = or_left t.deep (is_deep (one_more t.depth) f.height) d in
    let room = not_deep (one_more t.depth) f.height (or_right t.deep (is_deep (one_more t.depth) f.height) d) in
    let w : Within base t.depth (f ∷ fs) = subst (Within base t.depth) e (h shallow) in
    let more : one_more t.depth ≡ t.depth + 1 = omega (arith, room) in
    let back : t.depth - count f.solid ≡ one_more t.depth - 1 = (let z = ap count s in omega (arith, z, more)) in
    let node : Frame = record f { solid = true } in
    let now : Within base (one_more t.depth) (node ∷ fs) = (omega (arith, room), omega (arith, more), subst (λ (n : ℕ). Within base n fs) back w.2) in
    record {
      within = subst (Within base (one_more t.depth)) (sym (ap (with_first node) e)) now;
      room = omega (arith, room);
      deeper = more;
      shallow = shallow;
    }

-- where a rule begins
record Meets (base : ℕ) (t u : Thread) : Type 0 where
  within : Within base u.depth u.frames
  deeper : u.depth ≤ t.depth + 1
  shallow : t.deep ≡ false

met_within : (base : ℕ) (r : Rule) (t : Thread) (fs : List Frame) → t.frames ≡ fs → Held base t → (met_from r t fs).deep ≡ false → Meets base t (met_from r t fs)
met_within base r t [] e h d = record { within = h d; deeper = omega arith; shallow = d }
met_within base r t (f ∷ fs) e h d0 = by f.solid refl (nat_lt 0 f.parts || is_never_alone r) d0
  where
    by : (x : Bool) → f.solid ≡ x → (y : Bool) → (if not x && y then hardened f t else t).deep ≡ false → Meets base t (if not x && y then hardened f t else t)
    by true s y d = record { within = h d; deeper = omega arith; shallow = d }
    by false s false d = record { within = h d; deeper = omega arith; shallow = d }
    by false s true d = (let hard = hard_within base f t fs e s h d in record { within = hard.within; deeper = omega (arith, hard.deeper); shallow = hard.shallow })

-- ---- a token is read

gain_within : (base : ℕ) (t : Thread) → (t.depth ≤ DEPTH_LIMIT) × Within base t.depth t.frames → ((with_gain 0 t).depth ≤ DEPTH_LIMIT) × Within base (with_gain 0 t).depth (with_gain 0 t).frames
gain_within base t (d, w) = (d, gained_within base t.depth 0 t.frames (omega arith) w)

touched_within : (base : ℕ) → base ≤ DEPTH_LIMIT → (t : Thread) (fs : List Frame) → t.frames ≡ fs → Held base t → (touched_from t fs).deep ≡ false → ((touched_from t fs).depth ≤ DEPTH_LIMIT) × Within base (touched_from t fs).depth (touched_from t fs).frames
touched_within base low t [] e h d = let w = h d in (let none : t.depth ≡ base = subst (Within base t.depth) e w in omega (arith, none), w)
touched_within base low t (f ∷ fs) e h d0 = by f.solid refl d0
  where
    by : (x : Bool) → f.solid ≡ x → (if x then record t { deep = t.deep || is_deep t.depth 0 } else hardened f t).deep ≡ false
        → ((if x then record t { deep = t.deep || is_deep t.depth 0 } else hardened f t).depth ≤ DEPTH_LIMIT) × Within base (if x then record t { deep = t.deep || is_deep t.depth 0 } else hardened f t).depth (if x then record t { deep = t.deep || is_deep t.depth 0 } else hardened f t).frames
    by true s d = (omega (arith, not_deep t.depth 0 (or_right t.deep (is_deep t.depth 0) d)), h (or_left t.deep (is_deep t.depth 0) d))
    by false s d = (let hard = hard_within base f t fs e s h d in (hard.room, hard.within))

pub read_rested : (base : ℕ) → base ≤ DEPTH_LIMIT → (t : Thread) → Moved base t → Rested base (after_read t)
unfolding after_read
read_rested base low t h d = gain_within base (touched_from (passed t) t.frames) (touched_within base low (passed t) t.frames refl (λ e. (h e).0) d)

-- what stands in braces is there
pub received_rested : (base height : ℕ) (choices : List ℕ) (t : Thread) → Held base t → Rested base (with_choices choices (received height t))
unfolding received
received_rested base height choices t h d =
    let room = not_deep t.depth height (or_right t.deep (is_deep t.depth height) d) in
    (omega (arith, room), gained_within base t.depth height t.frames (omega (arith, room)) (h (or_left t.deep (is_deep t.depth height) d)))

-- a thread waits
pub met_held : (base : ℕ) (p : Part) (t : Thread) → Moved base t → Held base (met_part p t)
unfolding met
met_held base (part.Rule r) t h d = (met_within base r t t.frames refl (λ e. (h e).0) d).within
met_held base (part.Group g) t h d = (h d).0
met_held base (part.Token k) t h d = (h d).0
met_held base (part.OneOf c) t h d = (h d).0

-- ---- parts in front

some_joined : (ps qs : List Part) → has_some qs ≡ true → has_some (ps ++ qs) ≡ true
some_joined [] qs h = h
some_joined (p ∷ ps) qs h = by (not (may_be_nothing p)) (some_joined ps qs h)
  where
    by : (b : Bool) → has_some (ps ++ qs) ≡ true → (b || has_some (ps ++ qs)) ≡ true
    by true s = refl
    by false s = s

some_front : (ps qs : List Part) → has_some ps ≡ true → (has_some (ps ++ qs) ≡ true) × (front_cost (ps ++ qs) ≡ front_cost ps)
some_front [] qs h = absurd (cc)
some_front (p ∷ ps) qs h = by (may_be_nothing p) h (λ e. some_front ps qs e)
  where
    by : (b : Bool) → (not b || has_some ps) ≡ true → (has_some ps ≡ true → (has_some (ps ++ qs) ≡ true) × (front_cost (ps ++ qs) ≡ front_cost ps)) → ((not b || has_some (ps ++ qs)) ≡ true) × (cost_of p + (if b then front_cost (ps ++ qs) else 0) ≡ cost_of p + (if b then front_cost ps else 0))
    by true e more = (let s = more e in (s.0, ap (λ (n : ℕ). cost_of p + n) s.1))
    by false e more = (refl, refl)

none_front : (ps qs : List Part) → front_cost (ps ++ qs) ≤ front_cost ps + front_cost qs
none_front [] qs = omega arith
none_front (p ∷ ps) qs = by (may_be_nothing p) (none_front ps qs)
  where
    by : (b : Bool) → front_cost (ps ++ qs) ≤ front_cost ps + front_cost qs → cost_of p + (if b then front_cost (ps ++ qs) else 0) ≤ cost_of p + (if b then front_cost ps else 0) + front_cost qs
    by true h = omega arith
    by false h = omega arith

among_fits : (bound : ℕ) (empty : Bool) (a : Alternative) (rows : List Alternative) → Among a rows → rows_fit bound empty rows ≡ true → row_fits bound empty a ≡ true
among_fits bound empty a [] m h = elim m [ ]
among_fits bound empty a (b ∷ more) (inl e) h = subst (λ (x : Alternative). row_fits bound empty x ≡ true) (sym e) (and_parts (row_fits bound empty b) (pairs_fit bound b b.at more && rows_fit bound empty more) h).0
among_fits bound empty a (b ∷ more) (inr m) h =
    among_fits bound empty a more m (and_parts (pairs_fit bound b b.at more) (rows_fit bound empty more) (and_parts (row_fits bound empty b) (pairs_fit bound b b.at more && rows_fit bound empty more) h).1).1

or_yes : (x : Bool) → (x || false) ≡ true → x ≡ true
or_yes true h = refl
or_yes false h = absurd (cc)

-- ---- a rule is replaced

-- the first of what is to come is one of those in front
first_of : (n : ℕ) (p : Part) (ps : List Part) (later l : List Item) (i : Item) (is : List Item) → l ≡ map (item n) (p ∷ ps) ++ later → l ≡ i ∷ is → (i ≡ item n p) × (is ≡ map (item n) ps ++ later)
first_of n p ps later l i is e f = (cc, cc)

rule_room : (look : Look) (t : Thread) (r : Rule) → (f : IsFront (length t.frames) t.items (part.Rule r)) → (t.depth ≤ DEPTH_LIMIT) ⊎ Opened t → t.depth + 2 * cost_of_rule r ≤ 260
rule_room look t r f (inl d) = let small = ltb-true (cost_of_rule r) 30 (rule_cost_small r) in omega arith
rule_room look t r f (inr o) = by o.ps o.items o.some o.fits
  where
    by : (ps : List Part) → t.items ≡ map (item (length t.frames)) ps ++ o.later → has_some ps ≡ true → t.depth + 2 * front_cost ps ≤ 260 → t.depth + 2 * cost_of_rule r ≤ 260
    by [] e s fits = absurd (cc)
    by (p ∷ ps) e s fits =
        (let one = first_of (length t.frames) p ps o.later t.items f.i f.is e f.items in
        let same : p ≡ part.Rule r = sym (ap (λ (i : Item). i.part) one.0) ∙ f.part_is in
        let cost : front_cost (p ∷ ps) ≡ cost_of_rule r + 0 = ap (λ (q : Part). cost_of q + (if may_be_nothing q then front_cost ps else 0)) same in
        omega (arith, fits, cost))

opened_depth : (b : Bool) (d e : ℕ) → d ≤ e + 1 → (if b then d else one_more d) ≤ e + 2
opened_depth true d e h = omega arith
opened_depth false d e h = omega arith

opened_within : (base : ℕ) (b : Bool) (d : ℕ) (fs : List Frame) → d ≤ 300 → Within base d fs → (count (not b) ≤ (if b then d else one_more d)) × Within base ((if b then d else one_more d) - count (not b)) fs
opened_within base true d fs l w = (omega arith, subst (λ (n : ℕ). Within base n fs) (let e : d ≡ d - 0 = omega arith in e) w)
opened_within base false d fs l w = (omega arith, subst (λ (n : ℕ). Within base n fs) (let e : d ≡ one_more d - 1 = omega arith in e) w)

rule_moved : (base : ℕ) (look : Look) (t : Thread) (r : Rule) (ps : List Part) → (f : IsFront (length t.frames) t.items (part.Rule r)) → has_some ps ≡ true → front_cost ps < cost_of_rule r → Moved base t → Moved base (replaced (Some r) ps t)
unfolding replaced put opened met
rule_moved base look t r ps f some less h d =
    let u = met_from r (passed t) t.frames in
    let m = met_within base r (passed t) t.frames refl (λ e. (h e).0) d in
    let room = rule_room look t r f (h m.shallow).1 in
    let below = opened_within base (collapses r) u.depth u.frames (omega (arith, m.deeper)) m.within in (
      (omega arith, below.0, below.1),
      inr (record {
        ps = ps;
        later = u.items;
        items = refl;
        some = some;
        fits = omega (arith, opened_depth (collapses r) u.depth t.depth m.deeper);
      }),
    )

-- ---- a group is replaced

group_fits : (some empty : Bool) (front rest_cost bound all : ℕ) → front < bound → (some || empty) ≡ true → all ≤ front + rest_cost → (some ≡ true → all ≡ front) → all ≤ bound + (if empty then rest_cost else 0)
group_fits true empty front rest_cost bound all l h k e = let same = e refl in omega arith
group_fits false true front rest_cost bound all l h k e = omega arith
group_fits false false front rest_cost bound all l h k e = absurd (cc)

group_some : (some empty : Bool) (ps qs : List Part) → has_some ps ≡ some → (some || empty) ≡ true → (not empty || has_some qs) ≡ true → has_some (ps ++ qs) ≡ true
group_some true empty ps qs e h k = (some_front ps qs e).0
group_some false true ps qs e h k = some_joined ps qs k
group_some false false ps qs e h k = absurd (cc)

map_joined : (n : ℕ) (ps qs : List Part) (later : List Item) → map (item n) ps ++ (map (item n) qs ++ later) ≡ map (item n) (ps ++ qs) ++ later
map_joined n [] qs later = refl
map_joined n (p ∷ ps) qs later = ap (λ (l : List Item). item n p ∷ l) (map_joined n ps qs later)

group_opened : (look : Look) (t : Thread) (g : Group) (ps : List Part) → (f : IsFront (length t.frames) t.items (part.Group g)) → front_cost ps < cost_of (part.Group g) → (has_some ps || may_be_empty g) ≡ true → Opened t → Opened (replaced None ps t)
unfolding replaced put
group_opened look t g ps f less fits o = by o.ps o.items o.some o.fits
  where
    by : (qs : List Part) → t.items ≡ map (item (length t.frames)) qs ++ o.later → has_some qs ≡ true → t.depth + 2 * front_cost qs ≤ 260 → Opened (put ps (passed t))
    by [] e s room = absurd (cc)
    by (q ∷ qs) e s room =
        (let one = first_of (length t.frames) q qs o.later t.items f.i f.is e f.items in
        let same : q ≡ part.Group g = sym (ap (λ (i : Item). i.part) one.0) ∙ f.part_is in
        let cost : front_cost (q ∷ qs) ≡ cost_of (part.Group g) + (if may_be_empty g then front_cost qs else 0) = ap (λ (x : Part). cost_of x + (if may_be_nothing x then front_cost qs else 0)) same in
        let more : (not (may_be_empty g) || has_some qs) ≡ true = subst (λ (x : Part). (not (may_be_nothing x) || has_some qs) ≡ true) same s in
        let all = group_fits (has_some ps) (may_be_empty g) (front_cost ps) (front_cost qs) (cost_of (part.Group g)) (front_cost (ps ++ qs)) less fits (none_front ps qs) (λ i. (some_front ps qs i).1) in
        record {
          ps = ps ++ qs;
          later = o.later;
          items = ap (λ (l : List Item). map (item (length t.frames)) ps ++ l) (ap rest f.items ∙ one.1) ∙ map_joined (length t.frames) ps qs o.later;
          some = group_some (has_some ps) (may_be_empty g) ps qs refl fits more;
          fits = omega (arith, all, cost, room);
        })

group_moved : (base : ℕ) (look : Look) (t : Thread) (g : Group) (ps : List Part) → (f : IsFront (length t.frames) t.items (part.Group g)) → front_cost ps < cost_of (part.Group g) → (has_some ps || may_be_empty g) ≡ true → Moved base t → Moved base (replaced None ps t)
unfolding replaced put
group_moved base look t g ps f less fits h d =
    let now = h d in (
      now.0,
      elim now.1 [
        | inl room ↦ inl room
        | inr o ↦ inr (group_opened look t g ps f less fits o)
      ],
    )

-- ---- a move

-- no node is closed where one was opened at this token
opened_closes : (look : Look) (t : Thread) → next_move look true t ≡ move.Close → Opened t → ⊥
unfolding next_move
opened_closes look t h o = by o.ps o.items o.some
  where
    level : (n : ℕ) (p : Part) (is : List Item) → move_from look true n (item n p ∷ is) ≡ move.Close → move_at look true p ≡ move.Close
    level n p is e = (let same = le-ltb n n (omega arith) in sym (ap (λ (b : Bool). if b then move.Close else move_at look true p) same) ∙ e)

    by : (ps : List Part) → t.items ≡ map (item (length t.frames)) ps ++ o.later → has_some ps ≡ true → ⊥
    by [] e s = cc
    by (p ∷ ps) e s = part_not_close look true p (level (length t.frames) p (map (item (length t.frames)) ps ++ o.later) (sym (ap (move_from look true (length t.frames)) e) ∙ h))

-- a choice of the thread's own changes nothing
choice_moved : (base at : ℕ) (t : Thread) → Moved base t → Moved base (at_choice at t)
choice_moved base at t h d =
    let now = h d in (
      now.0,
      elim now.1 [
        | inl room ↦ inl room
        | inr o ↦ inr (record { ps = o.ps; later = o.later; items = o.items; some = o.some; fits = o.fits })
      ],
    )

choices_at : (look : Look) (rows : List Alternative) → choices look rows ≡ parts_in (open_at (look.kind ∷ look.next ∷ []) rows)
choices_at look rows = choices_as (look.kind ∷ look.next ∷ []) rows

moving_by_moved : (base : ℕ) (look : Look) (at : ℕ) (t : Thread) (m : Move) → next_move look true t ≡ m → Moved base t → Each (Moved base) (moving_by look at t m)
unfolding next_move
moving_by_moved base look at t move.Stop h k = tt
moving_by_moved base look at t move.Read h k = tt
moving_by_moved base look at t move.Close h k =
    (closed_moved base t (λ d. (let now = k d in (elim now.1 [ inl room ↦ room | inr o ↦ absurd (opened_closes look t h o) ], now.0))), tt)
moving_by_moved base look at t (move.Rule r) h k =
    let f = rule_front look true (length t.frames) t.items r h in
    let rows = open_at (look.kind ∷ look.next ∷ []) (rule_rows r) in
    subst (λ (l : List (List Part)). Each (Moved base) (spread at (Some r) l t)) (sym (choices_at look (rule_rows r)))
    (spread_each (Moved base) at (Some r) rows t (λ a m.
    (let fits = among_fits (cost_of_rule r) false a (rule_rows r) (open_is_row (look.kind ∷ look.next ∷ []) a (rule_rows r) m) (rule_costs r) in
    let s = and_parts (nat_lt (front_cost a.parts) (cost_of_rule r)) (has_some a.parts || false) fits in
    let less = ltb-true (front_cost a.parts) (cost_of_rule r) s.0 in
    let some = or_yes (has_some a.parts) s.1 in
    (rule_moved base look t r a.parts f some less k, rule_moved base look (at_choice at t) r a.parts f some less (choice_moved base at t k)))))
moving_by_moved base look at t (move.Group g) h k =
    let f = group_front_at look true (length t.frames) t.items g h in
    let rows = open_at (look.kind ∷ look.next ∷ []) (group_rows g) in
    subst (λ (l : List (List Part)). Each (Moved base) (spread at None l t)) (sym (choices_at look (group_rows g)))
    (spread_each (Moved base) at None rows t (λ a m.
    (let fits = among_fits (cost_of (part.Group g)) (may_be_empty g) a (group_rows g) (open_is_row (look.kind ∷ look.next ∷ []) a (group_rows g) m) (group_costs g) in
    let s = and_parts (nat_lt (front_cost a.parts) (cost_of (part.Group g))) (has_some a.parts || may_be_empty g) fits in
    let less = ltb-true (front_cost a.parts) (cost_of (part.Group g)) s.0 in
    (group_moved base look t g a.parts f less s.1 k, group_moved base look (at_choice at t) g a.parts f less s.1 (choice_moved base at t k)))))

pub moving_moved : (base : ℕ) (look : Look) (at : ℕ) (t : Thread) → Moved base t → Each (Moved base) (moving look at t)
unfolding moving
moving_moved base look at t k = moving_by_moved base look at t (next_move look true t) refl k

-- ---- nodes are closed in the end

risen_low : (base : ℕ) (fs : List Frame) (h depth : ℕ) → depth + h ≤ DEPTH_LIMIT → Within base depth fs → risen h fs ≤ DEPTH_LIMIT
unfolding risen
risen_low base [] h depth l w = omega arith
risen_low base (f ∷ fs) h depth l w = risen_low base fs (part_height (with_part h f)) (depth - count f.solid) (by f.solid w.0 w.1) w.2
  where
    by : (b : Bool) → f.height ≤ DEPTH_LIMIT - depth → count b ≤ depth → depth - count b + (if b then one_more (max f.height h) else max f.height h) ≤ DEPTH_LIMIT
    by true i c = omega arith
    by false i c = omega arith

pub rested_low : (base : ℕ) (t : Thread) → Rested base t → t.deep ≡ false → risen 0 t.frames ≤ DEPTH_LIMIT
rested_low base t h d = let now = h d in risen_low base t.frames 0 t.depth (omega (arith, now.0)) now.1
