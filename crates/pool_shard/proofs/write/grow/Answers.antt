use Rattle.std.proofs.Common.{◌≡◌, ℕ, suc, ◌+◌, ◌<◌, ◌≤◌, List, [], length, set, take, refl, sym, ap, ◌∙◌, subst, arith, add-one}
use Rattle.std.proofs.lemmas.List.{take_all}
use Rattle.pool_words.specs.declared.view.Layout.{Layout}
use Rattle.pool_words.specs.declared.view.View.{View}
use Rattle.pool_words.specs.Layout.{Row, half, base, start, used, rows_of, head, level}
use Rattle.pool_words.specs.Rule.{In, HasRows, IsPool}
use Rattle.pool_words.specs.Views.{IsFull, Moves}
use Rattle.pool_words.proofs.Members.{used-nil}
use Rattle.pool_words.proofs.Places.{level_low}
use Rattle.pool_shard.specs.Looks.{Fills, IsNextRow, IsReadyShard}
use Rattle.pool_shard.proofs.Keeping.{Keeps-refl}
use Rattle.pool_shard.proofs.Readings.{next_row}
use Rattle.pool_shard.proofs.Filling.{Fills-keeps, Fills-trans, Touches-trans, Touches-move, move_live, move_levels}
use Rattle.pool_shard.proofs.write.grow.Goals as goal

pub loop-n-init : goal.loop-n-init
loop-n-init c =
    let q = c.requires.seat in
    let v = c.args.seat.now.me.0 in
    let u = used-nil in
    let b = c.base_of.ensures.base in
    let t = c.start_of.ensures.start in
    record {
      seat = q;
      fills = Fills-keeps c.args.shard (suc c.args.at) v v c.requires.ours.0 (Keeps-refl v (subst (λ (y : Layout). IsPool y v.words v.log) (sym q.layout) q.pool));
      slots = refl;
      filled = c.requires.empty;
      placed = omega arith;
    }

-- the rows of the shard are what they were
kept_rows : (z : Layout) (u v : View) (s k : ℕ) → u.layout ≡ z → Fills s k u v → In s u.writes → rows_of z s v.log ≡ rows_of z s u.log
kept_rows z u v s k e f i = subst (λ y. rows_of y s v.log ≡ rows_of y s u.log) e (f.touches.rows s i)

-- the next row stands where the writer is
step : (z : Layout) (u v : View) (s at n count place : ℕ) → u.layout ≡ z → Fills s (suc at) u v → In s u.writes → s < z.shards → IsPool z v.words v.log → count ≡ length (rows_of z s u.log) → n < count
    → HasRows (level z v.words s (suc at)) (suc at) (take n (rows_of z s v.log)) → place ≡ base z s + (start z + used (take n (rows_of z s v.log)))
    → (r : Row) × IsNextRow z v s at n r × (r.0 ≡ place) × (used (take (suc n) (rows_of z s v.log)) ≡ used (take n (rows_of z s v.log)) + (length r.1 + 1))
step z u v s at n count place e f i lt p c l filled placed =
    let k = kept_rows z u v s (suc at) e f i in
    let m : length (rows_of z s v.log) ≡ length (rows_of z s u.log) = ap length k in
    let left : n < length (rows_of z s v.log) = omega arith in
    let g = next_row (base z s + start z) n (rows_of z s v.log) (p.placed s lt) left in
    let a = g.2 in
    (g.0, record { filled = filled; left = left; next = g.1 }, omega arith, g.3)

pub fill_next-place-requires-clause-next : goal.fill_next-place-requires-clause-next
fill_next-place-requires-clause-next c =
    let z = c.args.layout.now in
    let q = c.requires.seat in
    let i = c.loop-n.invariant in
    let g = step z c.args.seat.now.me.0 c.loop-n.seat.me.0 c.args.shard c.args.at c.loop-n.n c.args.count c.loop-n.place q.layout i.fills c.requires.ours.0 c.requires.ours.1 i.seat.pool c.requires.count.0 c.loop-n-test.true i.filled i.placed in
    (c.loop-n.n, g.0, g.1, g.2)

pub loop-n-preserved : goal.loop-n-preserved
loop-n-preserved c =
    let z = c.args.layout.now in
    let q = c.requires.seat in
    let i = c.loop-n.invariant in
    let u = c.args.seat.now.me.0 in
    let v = c.loop-n.seat.me.0 in
    let w = c.fill_next-place.new.seat.me.0 in
    let g = step z u v c.args.shard c.args.at c.loop-n.n c.args.count c.loop-n.place q.layout i.fills c.requires.ours.0 c.requires.ours.1 i.seat.pool c.requires.count.0 c.loop-n-test.true i.filled i.placed in
    let fills = Fills-trans c.args.shard (suc c.args.at) u v w i.fills c.fill_next-place.ensures.fills in
    let one : suc c.loop-n.n ≡ c.loop-n.n + 1 = sym (add-one c.loop-n.n) in
    let same : rows_of z c.args.shard w.log ≡ rows_of z c.args.shard v.log = kept_rows z u w c.args.shard (suc c.args.at) q.layout fills c.requires.ours.0 ∙ sym (kept_rows z u v c.args.shard (suc c.args.at) q.layout i.fills c.requires.ours.0) in
    let more : used (take (suc c.loop-n.n) (rows_of z c.args.shard w.log)) ≡ used (take c.loop-n.n (rows_of z c.args.shard v.log)) + (length g.0.1 + 1) = ap (λ (l : List Row). used (take (suc c.loop-n.n) l)) same ∙ g.3 in
    let place = c.fill_next-place.ensures.place c.loop-n.n g.0 g.1 g.2 in
    let at_last : c.fill_next-place.result ≡ base z c.args.shard + (start z + used (take (suc c.loop-n.n) (rows_of z c.args.shard w.log))) = let p = i.placed in omega arith in
    record {
      seat = c.fill_next-place.ensures.seat;
      fills = fills;
      slots = c.fill_next-place.ensures.slots ∙ i.slots;
      filled = subst (λ n. HasRows (level z w.words c.args.shard (suc c.args.at)) (suc c.args.at) (take n (rows_of z c.args.shard w.log))) one (c.fill_next-place.ensures.filled c.loop-n.n g.0 g.1 g.2);
      placed = subst (λ n. c.fill_next-place.result ≡ base z c.args.shard + (start z + used (take n (rows_of z c.args.shard w.log)))) one at_last;
    }

pub overflow_add-at : goal.overflow_add-at
overflow_add-at c = let q = c.requires.seat in let t = c.requires.live.1 in let l = level_low c.args.layout.now c.args.at q.laid (omega arith) in record { fits = omega arith }

-- at the loop's end the level has every row
full : (z : Layout) (u v : View) (s at n count : ℕ) → u.layout ≡ z → Fills s (suc at) u v → In s u.writes → head z u.words s ≡ at → at < z.top → count ≡ length (rows_of z s u.log) → half at ≤ count → count ≤ n
    → HasRows (level z v.words s (suc at)) (suc at) (take n (rows_of z s v.log)) → IsFull z v.words v.log s at
full z u v s at n count e f i live top c many l filled =
    let k = kept_rows z u v s (suc at) e f i in
    let m : length (rows_of z s v.log) ≡ length (rows_of z s u.log) = ap length k in
    record {
      live = subst (λ y. head y v.words s ≡ head y u.words s) e f.own_head ∙ live;
      below_top = top;
      filled = subst (HasRows (level z v.words s (suc at)) (suc at)) (take_all n (rows_of z s v.log) (omega arith)) filled;
      many = omega arith;
    }

pub move_head-requires-clause-whole : goal.move_head-requires-clause-whole
move_head-requires-clause-whole c =
    let z = c.args.layout.now in
    let q = c.requires.seat in
    let i = c.loop-n.invariant in
    let u = c.args.seat.now.me.0 in
    let v = c.loop-n.seat.me.0 in
    let f = full z u v c.args.shard c.args.at c.loop-n.n c.args.count q.layout i.fills c.requires.ours.0 c.requires.live.0 c.requires.live.1 c.requires.count.0 c.requires.count.1 c.loop-n-test.false i.filled in
    record {
      shard = c.args.shard;
      ours = subst (In c.args.shard) (sym i.fills.touches.writes) c.requires.ours.0;
      head_is = c.args.at;
      full = subst (λ (y : Layout). IsFull y v.words v.log c.args.shard c.args.at) (sym i.seat.layout) f;
      at = c.base_of-2.ensures.base ∙ ap (λ (y : Layout). base y c.args.shard) (sym i.seat.layout);
      is = add-one c.args.at;
    }

-- the step that moves the head, in the layout's own words
as_move : (z : Layout) (v w : View) (s at word x : ℕ) → word ≡ base z s → x ≡ suc at → Moves v (set v.words word x) v.log w → Moves v (set v.words (base z s) (suc at)) v.log w
as_move z v w s at word x e f m = subst (λ n. Moves v (set v.words (base z s) n) v.log w) f (subst (λ n. Moves v (set v.words n x) v.log w) e m)

pub returns-clause-touches : goal.returns-clause-touches
returns-clause-touches c =
    let z = c.args.layout.now in
    let q = c.requires.seat in
    let i = c.loop-n.invariant in
    let u = c.args.seat.now.me.0 in
    let v = c.loop-n.seat.me.0 in
    let w = c.move_head.new.seat.me.0 in
    let f = full z u v c.args.shard c.args.at c.loop-n.n c.args.count q.layout i.fills c.requires.ours.0 c.requires.live.0 c.requires.live.1 c.requires.count.0 c.requires.count.1 c.loop-n-test.false i.filled in
    let m = as_move z v w c.args.shard c.args.at c.base_of-2.result (c.args.at + 1) c.base_of-2.ensures.base (add-one c.args.at) c.move_head.ensures.stored in
    Touches-trans c.args.shard u v w i.fills.touches
    (Touches-move z v w c.args.shard c.args.at q.laid i.seat.pool c.requires.ours.1 f i.seat.layout (subst (In c.args.shard) (sym i.fills.touches.writes) c.requires.ours.0) m)

pub returns-clause-live : goal.returns-clause-live
returns-clause-live c =
    let z = c.args.layout.now in
    let q = c.requires.seat in
    let i = c.loop-n.invariant in
    let u = c.args.seat.now.me.0 in
    let v = c.loop-n.seat.me.0 in
    let w = c.move_head.new.seat.me.0 in
    let f = full z u v c.args.shard c.args.at c.loop-n.n c.args.count q.layout i.fills c.requires.ours.0 c.requires.live.0 c.requires.live.1 c.requires.count.0 c.requires.count.1 c.loop-n-test.false i.filled in
    let m = as_move z v w c.args.shard c.args.at c.base_of-2.result (c.args.at + 1) c.base_of-2.ensures.base (add-one c.args.at) c.move_head.ensures.stored in
    move_live z v w c.args.shard c.args.at q.laid i.seat.pool c.requires.ours.1 f i.seat.layout (subst (In c.args.shard) (sym i.fills.touches.writes) c.requires.ours.0) m

-- the level after the new live one was empty and is so
still_empty : (z : Layout) (u v w : View) (s at : ℕ) → u.layout ≡ z → IsPool z u.words u.log → s < z.shards → head z u.words s ≡ at → Fills s (suc at) u v → head z w.words s ≡ suc at → ((k : ℕ) → k ≤ z.top → level z w.words s k ≡ level z v.words s k) → IsReadyShard z w.words s
still_empty z u v w s at e p lt live f hd same l =
    let b = p.shard s lt in
    let top : suc (suc at) ≤ z.top = omega arith in
    let h : b.held (suc (suc at)) ≡ 0 = b.later (suc (suc at)) (omega arith) in
    let old : HasRows (level z u.words s (suc (suc at))) (suc (suc at)) [] = subst (λ n. HasRows (level z u.words s (suc (suc at))) (suc (suc at)) (take n (rows_of z s u.log))) h (b.has (suc (suc at)) top) in
    let lv : level z v.words s (suc (suc at)) ≡ level z u.words s (suc (suc at)) = subst (λ y. level y v.words s (suc (suc at)) ≡ level y u.words s (suc (suc at))) e (f.own_levels (suc (suc at)) (λ c. absurd (omega arith)) (subst (λ (y : Layout). suc (suc at) ≤ y.top) (sym e) top)) in
    let new : HasRows (level z w.words s (suc (suc at))) (suc (suc at)) [] = subst (λ slots. HasRows slots (suc (suc at)) []) (sym (same (suc (suc at)) top ∙ lv)) old in
    subst (λ n. HasRows (level z w.words s (suc n)) (suc n) []) (sym hd) new

pub returns-clause-ready : goal.returns-clause-ready
returns-clause-ready c =
    let z = c.args.layout.now in
    let q = c.requires.seat in
    let i = c.loop-n.invariant in
    let u = c.args.seat.now.me.0 in
    let v = c.loop-n.seat.me.0 in
    let w = c.move_head.new.seat.me.0 in
    let f = full z u v c.args.shard c.args.at c.loop-n.n c.args.count q.layout i.fills c.requires.ours.0 c.requires.live.0 c.requires.live.1 c.requires.count.0 c.requires.count.1 c.loop-n-test.false i.filled in
    let m = as_move z v w c.args.shard c.args.at c.base_of-2.result (c.args.at + 1) c.base_of-2.ensures.base (add-one c.args.at) c.move_head.ensures.stored in
    let ours = subst (In c.args.shard) (sym i.fills.touches.writes) c.requires.ours.0 in
    still_empty z u v w c.args.shard c.args.at q.layout q.pool c.requires.ours.1 c.requires.live.0 i.fills
    (move_live z v w c.args.shard c.args.at q.laid i.seat.pool c.requires.ours.1 f i.seat.layout ours m)
    (λ k le. move_levels z v w c.args.shard c.args.at q.laid i.seat.pool c.requires.ours.1 f i.seat.layout ours m c.args.shard k ours le)
