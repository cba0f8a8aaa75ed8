-- The tree of tokens that end by one way, and by none before it, is read by that way; so those before them lie as its
-- threads count.
use Rattle.std.proofs.Common.{◌≡◌, ℕ, ◌+◌, ◌-◌, ◌<◌, ◌≤◌, Bool, true, false, inl, inr, List, [], ◌∷◌, ◌++◌, take, Some, None, refl, sym, ◌∙◌, ap, subst, arith, append_assoc, append-nil}
use Rattle.std.specs.Prelude.{◌⊎◌, if◌then◌else◌}
use Rattle.std.proofs.lemmas.Bool.{and_parts}
use Rattle.zig_tree.specs.declared.token.TokenKind.{TokenKind}
use Rattle.zig_tree.specs.declared.grammar.Rule.TheVariants as rule
use Rattle.zig_tree.specs.declared.grammar.Group.TheVariants as group
use Rattle.zig_tree.specs.declared.grammar.Part.{Part}
use Rattle.zig_tree.specs.declared.grammar.Part.TheVariants as part
use Rattle.zig_tree.specs.GrammarSentences.{AreShallow, Derives, Pieces}
use Rattle.zig_parse.specs.declared.thread.Thread.{Thread}
use Rattle.zig_parse.specs.declared.state.State.{State}
use Rattle.zig_parse.specs.Stack.{rest}
use Rattle.zig_parse.specs.Moves.{waits_for}
use Rattle.zig_parse.specs.Threads.{received}
use Rattle.zig_parse.specs.Passes.{depth_for, least_from, own_height}
use Rattle.zig_parse.specs.Leads.{Ending, Ends, EndsWith, HasRoom, NoneEnds, NoneGoesOn, ends_brace, ends_file, heavy, Roomy}
use Rattle.zig_parse.specs.Ways.{Fork}
use Rattle.zig_parse.proofs.Reading.{Reads, joined_read}
use Rattle.zig_parse.proofs.Weights.{heavy_joined, lightest}
use Rattle.zig_parse.proofs.Layers.{Layers, Spot}
use Rattle.zig_parse.proofs.Paths.{Path, Told, around_part, parts_of_items}
use Rattle.zig_parse.proofs.Endings.{ends_before, first_or, may_follow, quick_all}
use Rattle.zig_parse.proofs.Completing.{can_end}
use Rattle.zig_parse.proofs.Moving.{Each, coming, each_at, received_keeps, waits_front}
use Rattle.zig_parse.proofs.Opening.{Five, apart_five, path_derives}
use Rattle.zig_parse.proofs.Settling.{Dead}
use Rattle.zig_parse.proofs.Living.{Around, at_root, in_brace, Good}
use Rattle.zig_parse.proofs.Tracking.{Tracked}
use Rattle.zig_parse.proofs.Entering.{it_wants, least_in}
use Rattle.zig_parse.proofs.Shapes.{count}
use Rattle.zig_parse.specs.declared.thread.Frame.{Frame}
use Rattle.zig_parse.proofs.Lively.{GoesOn, GoesOnPlain, is_colon}
use Rattle.zig_parse.proofs.Lasting.{Alive, Lasts, Starts, Waits, around_brace, around_none}
use Rattle.zig_parse.proofs.Lasting as lasting
use Rattle.zig_parse.proofs.LastingEnds.{completes, file_front, file_tail, some_is}
use Rattle.zig_parse.proofs.Braced.{one_end}
use Rattle.zig_parse.proofs.Budgets.{Held, Rested, Within, less_one}
use Rattle.zig_parse.proofs.Firm.{firm_low}
use Rattle.zig_parse.proofs.Grounds.{AllGrounded, Grounded, Grounds, base_of, depth_in, has_room, same_depth}
use Rattle.zig_tree.specs.declared.tree.TheConstants.{DEPTH_LIMIT}

-- ---- the fewest tokens

-- some tokens that the parts of a thread derive are no more than the shortest
record Fewest (ps : List Part) : Type 0 where
  later : List TokenKind
  reads : Reads ps (quick_all ps ++ later) later

nothing_behind : (ps : List Part) → Reads ps (quick_all ps) [] → Fewest ps
nothing_behind ps r = record { later = []; reads = subst (λ (x : List TokenKind). Reads ps x []) (sym (append-nil (quick_all ps))) r }

-- of a live thread, and of one that waits behind its brace
front_fewest : (before : List TokenKind) (waiting : List (List Thread)) (read : List TokenKind) (n : TokenKind) (t : Thread) → lasting.Around before waiting → Alive waiting read n t → Fewest (coming t)
front_fewest before [] read n t a alive = nothing_behind (coming t) (file_front read n t alive)
front_fewest before (those ∷ others) read n t a alive =
    let o = (completes before those others t.goal a alive.wanted).1 in
    record { later = o.k ∷ o.m; reads = can_end (coming t) o.k o.m (alive.lively.ended o.k o.follows) }

tail_fewest : (before : List TokenKind) (waiting : List (List Thread)) (read : List TokenKind) (t : Thread) → lasting.Around before waiting → Waits waiting read t → Fewest (parts_of_items (rest t.items))
tail_fewest before [] read t a h = nothing_behind (parts_of_items (rest t.items)) (file_tail read t h)
tail_fewest before (those ∷ others) read t a h =
    let o = (completes before those others t.goal a h.wanted).1 in
    let qs = parts_of_items (rest t.items) in
    let first = waits_front t h.p h.waits in
    let whole = subst (λ (x : List Part). ends_before o.k x ≡ true) first.first (h.ended o.k o.follows) in
    record { later = o.k ∷ o.m; reads = can_end qs o.k o.m (and_parts (may_follow (first_or (quick_all qs) o.k) h.p) (ends_before o.k qs) whole).1 }

fewest_heavy : (ps : List Part) (tokens end : List TokenKind) → Fewest ps → EndsWith ps tokens end → heavy tokens ≤ lightest ps + heavy end
fewest_heavy ps tokens end f e =
    let l = e.fewest (quick_all ps ++ f.later) f.later f.reads.0 f.reads.1 in
    omega (arith, l, heavy_joined (quick_all ps) f.later)

-- ---- what threads read

good_read : (root : Bool) (from tokens end : List TokenKind) (t : Thread) → Good root from tokens t → Reads (coming t) tokens end → Reads (t.goal ∷ []) from end
good_read root from tokens end t g r = g.sound end r.0 r.1

-- a thread that waits reads its part and what comes after
waits_read : (t : Thread) (p : Part) (from mid end : List TokenKind) → waits_for t ≡ Some p → Reads (p ∷ []) from mid → Reads (parts_of_items (rest t.items)) mid end → Reads (coming t) from end
waits_read t p from mid end w inner outer = subst (λ (l : List Part). Reads l from end) (sym (waits_front t p w).first) (joined_read (p ∷ []) (parts_of_items (rest t.items)) from mid end inner outer)

path_tail : (low : ℕ → Type 0) (told : Told) (x : Thread) (p : Part) (at height_in height : ℕ) (mid end : List TokenKind) (forks : List Fork) → Path true low told false (received (own_height p height_in) x) at mid end height forks → Reads (parts_of_items (rest x.items)) mid end
path_tail low told x p at height_in height mid end forks path =
    let d = path_derives low told false (received (own_height p height_in) x) at mid end height forks path in
    subst (λ (l : List Part). Reads l mid end) (ap parts_of_items (received_keeps (own_height p height_in) x).0) d

-- ---- what ends is read

-- all ends with what is read for the part in the innermost brace
ends_read : (before : List TokenKind) (waiting : List (List Thread)) (alive : Part → Bool) (p : Part) (depth extra : ℕ) (end z : List TokenKind) → lasting.Around before waiting → Ends waiting alive p depth extra end → Starts waiting z → Reads (p ∷ []) z end
    → Reads (part.Rule rule.Root ∷ []) (before ++ z) []
ends_read before waiting alive p depth extra end z around_none (ends_file _ _) starts r = r
ends_read before waiting alive p depth extra end z (around_brace front read _ others a begins each) (ends_brace _ b c t _ _ alive_around _ around above _ _ _ outer_end e more w own none all_lost least sits) starts r =
    let h : Waits others read t = each_at (Waits others read) b c t (subst (Each (Waits others read)) e each) in
    let whole : Reads (coming t) z outer_end = waits_read t p z end outer_end w r (own.tree, own.derived) in
    let story = h.story starts.0 outer_end (subst (λ (x : List TokenKind). Reads (coming t) x outer_end) starts.1 whole) in
    let outer = subst (λ (x : List TokenKind). Reads (t.goal ∷ []) (read ++ x) outer_end) (sym starts.1) story in
    subst (λ (x : List TokenKind). Reads (part.Rule rule.Root ∷ []) x []) (sym (append_assoc front read z)) (ends_read front others alive_around t.goal around above outer_end (read ++ z) a more (begun others begins) outer)
  where
    begun : (ws : List (List Thread)) → Starts ws read → Starts ws (read ++ z)
    begun [] s = tt
    begun (those ∷ ws) s = (s.0 ++ z, ap (λ (x : List TokenKind). x ++ z) s.1)

ending_alive : (next : TokenKind) (s : State) (front w : List TokenKind) (e : Ending next s w) (l : Lasts s.live s.waiting front next) → Alive s.waiting l.read next e.t
ending_alive next s front w e l = each_at (Alive s.waiting l.read next) e.before e.after e.t (subst (Each (Alive s.waiting l.read next)) e.live_is l.alive)

pub ending_reads : (next : TokenKind) (s : State) (front w : List TokenKind) (e : Ending next s w) → Lasts s.live s.waiting front next → Reads (part.Rule rule.Root ∷ []) (front ++ w) []
ending_reads next s front w e l =
    subst (λ (x : List TokenKind). Reads (part.Rule rule.Root ∷ []) x []) (sym (append_assoc l.before l.read w) ∙ ap (λ (x : List TokenKind). x ++ w) (sym l.front_is))
    (ends_read l.before s.waiting e.alive e.t.goal e.depth e.more e.end (l.read ++ w) l.around e.ends (begun s.waiting l.starts) (by alive.lively.story))
  where
    alive : Alive s.waiting l.read next e.t
    alive = ending_alive next s front w e l

    begun : (ws : List (List Thread)) → Starts ws l.read → Starts ws (l.read ++ w)
    begun [] s = tt
    begun (those ∷ ws) s = (s.0 ++ w, ap (λ (x : List TokenKind). x ++ w) s.1)

    by : GoesOn l.read e.t.goal (coming e.t) ⊎ ((is_colon next ≡ false) × ((qs : List Part) × (coming e.t ≡ part.Group group.SuffixTail ∷ qs)) × GoesOnPlain l.read e.t.goal (coming e.t)) → Reads (e.t.goal ∷ []) (l.read ++ w) e.end
    by (inl s) = s w e.end (e.own.tree, e.own.derived)
    by (inr s) = s.2 w e.end (e.colon ∙ s.0) (e.own.tree, e.own.derived)

-- ---- one thread goes on

abbrev Other : Thread → Thread → Type 0
Other x u = u ≡ x → ⊥

none_ends : (goal : Part) (tokens end : List TokenKind) (x : Thread) (ts : List Thread) → NoneEnds goal tokens end ts → x.goal ≡ goal → Reads (coming x) tokens end → Each (Other x) ts
none_ends goal tokens end x [] h e r = tt
none_ends goal tokens end x (u ∷ ts) h e r =
    (λ same. h.0 (ap (λ (v : Thread). v.goal) same ∙ e) r.0 (subst (λ (v : Thread). Derives (coming v) tokens end r.0) (sym same) r.1), none_ends goal tokens end x ts h.1 e r)

none_goes_on : (goal p : Part) (alive : Part → Bool) (tokens end : List TokenKind) (x : Thread) (ts : List Thread) → NoneGoesOn goal alive tokens end ts → x.goal ≡ goal → waits_for x ≡ Some p → (alive p ≡ false → ⊥) → Reads (parts_of_items (rest x.items)) tokens end → Each (Other x) ts
none_goes_on goal p alive tokens end x [] h e w free r = tt
none_goes_on goal p alive tokens end x (u ∷ ts) h e w free r = (λ same. by same (h.0 (ap (λ (v : Thread). v.goal) same ∙ e) p (ap waits_for same ∙ w)), none_goes_on goal p alive tokens end x ts h.1 e w free r)
  where
    by : u ≡ x → (alive p ≡ false) ⊎ ((q : Pieces) → Derives (parts_of_items (rest u.items)) tokens end q → ⊥) → ⊥
    by same (inl one) = free one
    by same (inr f) = f r.0 (subst (λ (v : Thread). Derives (parts_of_items (rest v.items)) tokens end r.0) (sym same) r.1)

-- the thread of a path is the one that goes on, where that leads to the same end
way_same : (goal : Part) (tokens end : List TokenKind) (b a before after : List Thread) (x t : Thread) → b ++ x ∷ a ≡ before ++ t ∷ after → t.goal ≡ goal → Each (Other x) before → Each (Dead goal tokens end) b → Reads (coming t) tokens end → x ≡ t
way_same goal tokens end [] a [] after x t e et none dead r = cc
way_same goal tokens end [] a (y ∷ before) after x t e et none dead r = let same : y ≡ x = cc in absurd (none.0 same)
way_same goal tokens end (z ∷ b) a [] after x t e et none dead r = let same : z ≡ t = cc in absurd (dead.0 (ap (λ (u : Thread). u.goal) same ∙ et) r.0 (subst (λ (u : Thread). Reads (coming u) tokens end) (sym same) r).1)
way_same goal tokens end (z ∷ b) a (y ∷ before) after x t e et none dead r = way_same goal tokens end b a before after x t (cc) et none.1 dead.1 r

-- ---- the least depth

shallow_depth : (t : Thread) → t.deep ≡ false → depth_for t ≡ t.depth
shallow_depth t h = ap (λ (b : Bool). if b then DEPTH_LIMIT else t.depth) h

least_low : (p : Part) (those : List Thread) (least : ℕ) → least_from None p those ≡ Some least → (before after : List Thread) (t : Thread) → those ≡ before ++ t ∷ after → waits_for t ≡ Some p → t.deep ≡ false → least ≤ t.depth
least_low p those least h before after t e w shallow =
    let found = least_in None p before after t (it_wants t p w) in
    let same : least ≡ found.0 = same_depth found.0 least (sym (sym h ∙ ap (least_from None p) e ∙ found.1)) in
    omega (arith, same, found.2, shallow_depth t shallow)

-- ---- brace by brace

ends_depth : (waiting : List (List Thread)) (alive : Part → Bool) (p : Part) (depth extra : ℕ) (end : List TokenKind) → Ends waiting alive p depth extra end → depth_in waiting p ≡ Some depth
ends_depth waiting alive p depth extra end (ends_file _ _) = refl
ends_depth waiting alive p depth extra end (ends_brace those before after t others _ _ _ around above _ _ _ outer_end e more w own none all_lost least sits) = least

ends_low : (waiting : List (List Thread)) (alive : Part → Bool) (p : Part) (depth extra : ℕ) (end : List TokenKind) → Ends waiting alive p depth extra end → depth ≤ DEPTH_LIMIT
ends_low waiting alive p depth extra end (ends_file _ _) = omega arith
ends_low waiting alive p depth extra end (ends_brace those before after t others _ _ _ around above _ _ _ outer_end e more w own none all_lost least sits) =
    let l = least_low p those depth least before after t e w sits.shallow in
    omega (arith, l, sits.low)

root_ends : (alive : Part → Bool) (p : Part) (depth extra : ℕ) (end : List TokenKind) → Ends [] alive p depth extra end → (p ≡ part.Rule rule.Root) × (end ≡ [])
root_ends alive p depth extra end (ends_file _ _) = (refl, refl)

brace_five : (those : List Thread) (others : List (List Thread)) (alive : Part → Bool) (p : Part) (depth extra : ℕ) (end : List TokenKind) → Ends (those ∷ others) alive p depth extra end → Five p
brace_five those others alive p depth extra end (ends_brace _ before after t _ _ _ _ around above _ _ _ outer_end e more w own none all_lost least sits) = apart_five p (waits_front t p w).apart

-- what is read in the innermost brace ends at one place
way_end : (low : ℕ → Type 0) (top total : ℕ) (spot : Spot) (waiting : List (List Thread)) (goal : Part) (from end : List TokenKind) (height : ℕ) (root : Bool) (cs : List ℕ) (forks : List Fork) → Around low top total spot waiting goal from end height root cs forks
    → (alive : Part → Bool) (p : Part) (depth extra : ℕ) (ends : List TokenKind) → Ends waiting alive p depth extra ends → Reads (p ∷ []) from ends → Reads (goal ∷ []) from end → end ≡ ends
way_end low top total spot waiting goal from end height root cs forks (at_root depths _ says) alive p depth extra ends l h k = sym (root_ends alive p depth extra ends l).1
way_end low top total spot waiting goal from mid height root cs forks
    (in_brace those b c others x _ outer_goal begin _ _ end told outer_root at inner_height outer_height begin_at base outer_cs outer outer_forks those_is x_waits x_goal dead good shallow awaits seen path place hears around)
    alive p depth extra ends l h k =
    one_end goal p (apart_five goal (waits_front x goal x_waits).apart) (brace_five those others alive p depth extra ends l) from mid ends k h

-- the part that is read in the innermost brace begins at its token, no deeper than is counted, with so many nodes that
-- aren't
record Standing (low : ℕ → Type 0) (spot : Spot) (p : Part) (depth extra : ℕ) : Type 0 where
  low_start : AreShallow (take spot.start spot.depths)
  says : (n : ℕ) → AreShallow (take n spot.depths) → low n
  base_low : spot.base ≤ base_of p depth + extra
  room : has_room p depth

-- the path goes this way
record SameWay (low : ℕ → Type 0) (spot : Spot) (goal p : Part) (depth extra : ℕ) : Type 0 where
  goal_is : goal ≡ p
  stands : Standing low spot p depth extra

around_base : (p : Part) (base depth n least extra : ℕ) → around_part p base ≡ depth → depth ≤ n → n ≤ least + extra → (n ≡ least) ⊎ (0 < least) → (base ≤ base_of p least + extra) × has_room p least
around_base (part.Group _) base depth n least extra e l c (inl same) = (omega (arith, e), omega (arith, e))
around_base (part.Group _) base depth n least extra e l c (inr some) = (omega (arith, e), some)
around_base (part.Rule _) base depth n least extra e l c s = (omega (arith, e), tt)
around_base (part.Token _) base depth n least extra e l c s = (omega (arith, e), tt)
around_base (part.OneOf _) base depth n least extra e l c s = (omega (arith, e), tt)

-- with more nodes around than are counted
within_more : (extra base n : ℕ) (fs : List Frame) → Within base n fs → Roomy extra n fs → Within (base + extra) (n + extra) fs
within_more extra base n [] w r = omega (arith, w)
within_more extra base n (f ∷ fs) w r =
    let less : Roomy extra (n - count f.solid) fs = subst (λ (m : ℕ). Roomy extra m fs) (less_one f.solid n) r.1 in
    let one : n - count f.solid + extra ≡ n + extra - count f.solid = omega (arith, w.1) in
    (omega (arith, r.0), omega (arith, w.1), subst (λ (m : ℕ). Within (base + extra) m fs) one (within_more extra base (n - count f.solid) fs w.2 less))

within_room : (extra base : ℕ) (t : Thread) → Within base t.depth t.frames → HasRoom extra t → Within (base + extra) (t.depth + extra) t.frames
within_room extra base t w (inl none) =
    let n : t.depth ≡ t.depth + extra = omega (arith, none) in
    let m : base ≡ base + extra = omega (arith, none) in
    subst (λ (k : ℕ). Within k (t.depth + extra) t.frames) m (subst (λ (k : ℕ). Within base k t.frames) n w)
within_room extra base t w (inr room) = within_more extra base t.depth t.frames w room.1

room_low : (extra : ℕ) (t : Thread) → t.depth ≤ DEPTH_LIMIT → HasRoom extra t → t.depth + extra ≤ DEPTH_LIMIT
room_low extra t l (inl none) = omega (arith, none, l)
room_low extra t l (inr room) = room.0

none_loose : (light loose outer inner : ℕ) → light + loose + outer ≤ inner → inner ≤ light + outer → loose ≡ 0
none_loose light loose outer inner h e = omega (arith, h, e)

same_way : (low : ℕ → Type 0) (top total : ℕ) (spot : Spot) (waiting : List (List Thread)) (goal : Part) (from end : List TokenKind) (height : ℕ) (root : Bool) (cs : List ℕ) (forks : List Fork) → Around low top total spot waiting goal from end height root cs forks
    → AllGrounded waiting → (before : List TokenKind) → lasting.Around before waiting → (alive : Part → Bool) (p : Part) (depth extra : ℕ) (ends : List TokenKind) → Ends waiting alive p depth extra ends → Reads (p ∷ []) from ends → Reads (goal ∷ []) from end → (alive goal ≡ false → ⊥)
    → SameWay low spot goal p depth extra
same_way low top total spot waiting goal from end height root cs forks (at_root depths _ says) g before a alive p depth extra ends l h k free =
    let same = (root_ends alive p depth extra ends l).0 in
    record {
      goal_is = sym same;
      stands = record { low_start = tt; says = says; base_low = omega arith; room = subst (λ (q : Part). has_room q depth) (sym same) tt };
    }
same_way low top total spot waiting goal from mid height root cs forks
    (in_brace those b c others x _ outer_goal begin _ _ end told outer_root at inner_height outer_height begin_at base outer_cs outer outer_forks those_is x_waits x_goal dead good shallow awaits seen path place hears around)
    g before a alive p depth extra ends l h k free =
    by before alive depth extra ends l a h free (λ front a2 found q n over later m r other. same_way low top total told.spot others outer_goal begin end outer_height outer_root outer_cs outer_forks around g.1 front a2 found q n over later m r x_outer other)
  where
    x_tail : Reads (parts_of_items (rest x.items)) mid end
    x_tail = path_tail low told x goal at inner_height outer_height mid end outer path

    x_good : Good outer_root begin from x
    x_good = each_at (Good outer_root begin from) b c x (subst (Each (Good outer_root begin from)) those_is good)

    x_outer : Reads (outer_goal ∷ []) begin end
    x_outer = subst (λ (q : Part). Reads (q ∷ []) begin end) x_goal (good_read outer_root begin from end x x_good (waits_read x goal from mid end x_waits k x_tail))

    Outer : Type 0
    Outer = (front : List TokenKind) → lasting.Around front others → (found : Part → Bool) (q : Part) (n over : ℕ) (later : List TokenKind) → Ends others found q n over later → Reads (q ∷ []) begin later → (found outer_goal ≡ false → ⊥) → SameWay low told.spot outer_goal q n over

    by : (read_before : List TokenKind) (alive : Part → Bool) (depth extra : ℕ) (tail : List TokenKind) → Ends (those ∷ others) alive p depth extra tail → lasting.Around read_before (those ∷ others) → Reads (p ∷ []) from tail → (alive goal ≡ false → ⊥) → Outer → SameWay low spot goal p depth extra
    by _ alive depth extra tail (ends_brace _ first after t _ _ alive_around _ around_depth over _ _ _ outer_end e more w own none all_lost least sits) (around_brace front read _ _ a2 starts each) h2 free go =
        (let waits : Waits others read t = each_at (Waits others read) first after t (subst (Each (Waits others read)) e each) in
        let qs = parts_of_items (rest t.items) in
        let mid_is : mid ≡ tail = one_end goal p (apart_five goal (waits_front x goal x_waits).apart) (apart_five p (waits_front t p w).apart) from mid tail k h2 in
        let t_reads : Reads (coming t) from outer_end = waits_read t p from tail outer_end w h2 (own.tree, own.derived) in
        let t_good : Good outer_root begin from t = each_at (Good outer_root begin from) first after t (subst (Each (Good outer_root begin from)) e good) in
        let t_outer = good_read outer_root begin from outer_end t t_good t_reads in
        let end_is : end ≡ outer_end = way_end low top total told.spot others outer_goal begin end outer_height outer_root outer_cs outer_forks around alive_around t.goal around_depth over outer_end more t_outer x_outer in
        let x_ends : Reads (parts_of_items (rest x.items)) tail outer_end = subst (λ (z : List TokenKind). Reads (parts_of_items (rest x.items)) tail z) end_is (subst (λ (z : List TokenKind). Reads (parts_of_items (rest x.items)) z end) mid_is x_tail) in
        let not_lost : alive_around outer_goal ≡ false → ⊥ =
        (λ i. each_at (Other x) b c x (subst (Each (Other x)) those_is (none_goes_on outer_goal goal alive tail outer_end x those (all_lost outer_goal i) x_goal x_waits free x_ends)) refl) in
        let outer_way = go front a2 alive_around t.goal around_depth over outer_end more t_outer not_lost in
        let same : x ≡ t =
        way_same outer_goal from end b c first after x t (sym those_is ∙ e) (sym outer_way.goal_is) (none_goes_on t.goal goal alive tail outer_end x first none (x_goal ∙ outer_way.goal_is) x_waits free x_ends) dead
        (subst (λ (z : List TokenKind). Reads (coming t) from z) (sym end_is) t_reads) in
        let goal_is : goal ≡ p = some_is goal p (sym x_waits ∙ ap waits_for same ∙ w) in
        let light : lightest qs + awaits.loose + heavy end ≤ heavy mid = subst (λ (u : Thread). lightest (parts_of_items (rest u.items)) + awaits.loose + heavy end ≤ heavy mid) same awaits.light in
        let few : heavy tail ≤ lightest qs + heavy outer_end = fewest_heavy qs tail outer_end (tail_fewest front others read t a2 waits) own in
        let firm : awaits.loose ≡ 0 = none_loose (lightest qs) awaits.loose (heavy end) (heavy mid) light (omega (arith, few, ap heavy mid_is, ap heavy end_is)) in
        let layers : Layers told.spot t.frames begin_at awaits.depth awaits.loose = subst (λ (u : Thread). Layers told.spot u.frames begin_at awaits.depth awaits.loose) same awaits.layers in
        let ground : Grounded Held others t = each_at (Grounded Held others) first after t (subst (Each (Grounded Held others)) e g.0) in
        let within = ground around_depth (ends_depth others alive_around t.goal around_depth over outer_end more) (ends_low others alive_around t.goal around_depth over outer_end more) outer_way.stands.room sits.shallow in
        let f = firm_low told.spot (base_of t.goal around_depth + over) (t.depth + over) t.frames begin_at awaits.depth awaits.loose layers firm (within_room over (base_of t.goal around_depth) t within sits.room) outer_way.stands.base_low sits.low outer_way.stands.low_start in
        let inner = around_base goal base awaits.depth (t.depth + over) depth extra awaits.inner f.1 sits.counted sits.some in
        record {
          goal_is = goal_is;
          stands = record {
            low_start = f.0;
            says = outer_way.stands.says;
            base_low = subst (λ (q : Part). base ≤ base_of q depth + extra) goal_is inner.0;
            room = subst (λ (q : Part). has_room q depth) goal_is inner.1;
          };
        })

-- ---- the tokens that were read

pub ending_low : (low : ℕ → Type 0) (top total at : ℕ) (next : TokenKind) (s : State) (front w : List TokenKind) (ds : List ℕ) (forks : List Fork) → Tracked low top total at w s.live s.waiting ds forks → Grounds s.live s.waiting → Lasts s.live s.waiting front next
    → (e : Ending next s w) → e.t.deep ≡ false → low at
ending_low low top total at next s front w ds forks t g lasts e shallow =
    let y = e.t in
    let y_reads : Reads (coming y) w e.end = (e.own.tree, e.own.derived) in
    let y_good : Good t.root t.from w y = each_at (Good t.root t.from w) e.before e.after y (subst (Each (Good t.root t.from w)) e.live_is t.good) in
    let y_outer = good_read t.root t.from w e.end y y_good y_reads in
    let x_reads : Reads (coming t.x) w t.end = path_derives low t.told false t.x at w t.end t.height t.inner t.path in
    let x_good : Good t.root t.from w t.x = each_at (Good t.root t.from w) t.before t.after t.x (subst (Each (Good t.root t.from w)) t.live_is t.good) in
    let x_outer = subst (λ (q : Part). Reads (q ∷ []) t.from t.end) t.goal_is (good_read t.root t.from w t.end t.x x_good x_reads) in
    let end_is : t.end ≡ e.end = way_end low top total t.told.spot s.waiting t.goal t.from t.end t.height t.root t.cs t.outer t.around e.alive y.goal e.depth e.more e.end e.ends y_outer x_outer in
    let x_ends : Reads (coming t.x) w e.end = subst (λ (z : List TokenKind). Reads (coming t.x) w z) end_is x_reads in
    let not_lost : e.alive t.goal ≡ false → ⊥ = (λ i. each_at (Other t.x) t.before t.after t.x (subst (Each (Other t.x)) t.live_is (none_ends t.goal w e.end t.x s.live (e.none_lost t.goal i) t.goal_is x_ends)) refl) in
    let way = same_way low top total t.told.spot s.waiting t.goal t.from t.end t.height t.root t.cs t.outer t.around g.held lasts.before lasts.around e.alive y.goal e.depth e.more e.end e.ends y_outer x_outer not_lost in
    let same : t.x ≡ y =
    way_same t.goal w t.end t.before t.after e.before e.after t.x y (sym t.live_is ∙ e.live_is) (sym way.goal_is) (none_ends y.goal w e.end t.x e.before e.none (t.goal_is ∙ way.goal_is) x_ends) t.dead (subst (λ (z : List TokenKind). Reads (coming y) w z) (sym end_is) y_reads) in
    let seen = t.seen in
    let light : lightest (coming y) + seen.loose + heavy t.end ≤ heavy w = subst (λ (u : Thread). lightest (coming u) + seen.loose + heavy t.end ≤ heavy w) same seen.light in
    let few : heavy w ≤ lightest (coming y) + heavy e.end = fewest_heavy (coming y) w e.end (front_fewest lasts.before s.waiting lasts.read next y lasts.around (ending_alive next s front w e lasts)) e.own in
    let firm = none_loose (lightest (coming y)) seen.loose (heavy t.end) (heavy w) light (omega (arith, few, ap heavy end_is)) in
    let layers : Layers t.told.spot y.frames at seen.depth seen.loose = subst (λ (u : Thread). Layers t.told.spot u.frames at seen.depth seen.loose) same seen.layers in
    let ground : Grounded Rested s.waiting y = each_at (Grounded Rested s.waiting) e.before e.after y (subst (Each (Grounded Rested s.waiting)) e.live_is g.rested) in
    let rested = ground e.depth (ends_depth s.waiting e.alive y.goal e.depth e.more e.end e.ends) (ends_low s.waiting e.alive y.goal e.depth e.more e.end e.ends) way.stands.room shallow in
    let f = firm_low t.told.spot (base_of y.goal e.depth + e.more) (y.depth + e.more) y.frames at seen.depth seen.loose layers firm (within_room e.more (base_of y.goal e.depth) y rested.1 e.room) way.stands.base_low (room_low e.more y rested.0 e.room) way.stands.low_start in
    way.stands.says at f.0
