use Rattle.std.proofs.Common.{◌≡◌, ℕ, suc, ◌+◌, ◌<◌, ◌≤◌, List, length, sym, ap, ◌∙◌, subst, arith, add-one}
use Rattle.pool_words.specs.declared.view.Layout.{Layout}
use Rattle.pool_words.specs.declared.view.View.{View}
use Rattle.pool_words.specs.Layout.{half, spot, level_at, base, shard_of, rows_of, head, level, IsLayout}
use Rattle.pool_words.specs.Rule.{In, IsPool}
use Rattle.pool_words.proofs.Places.{level_low, half_next}
use Rattle.pool_shard.specs.Looks.{Keeps, IsSpot, IsOpen, IsReadyShard, Touches}
use Rattle.pool_shard.proofs.Keeping.{Keeps-refl}
use Rattle.pool_shard.proofs.Filling.{same_shard, Touches-keeps, Touches-trans}
use Rattle.pool_shard.proofs.Publishing.{IsReady-keeps}
use Rattle.pool_shard.proofs.add.open_slot.Goals as goal

pub returns-then-count-half_of-clause-touches : goal.returns-then-count-half_of-clause-touches
returns-then-count-half_of-clause-touches c =
    let q = c.requires.seat in
    let v = c.args.seat.now.me.0 in
    Touches-keeps c.args.shard v v (Keeps-refl v (subst (λ (y : Layout). IsPool y v.words v.log) (sym q.layout) q.pool))

pub returns-then-count-half_of-clause-slot : goal.returns-then-count-half_of-clause-slot
returns-then-count-half_of-clause-slot c =
    let z = c.args.layout.now in
    let e = c.requires.key.1 in
    let n = c.requires.count.0 in
    let h = c.half_of.ensures in
    let t = c.if-count-half_of.true in (
      c.args.at,
      c.args.far,
      record {
        live = c.requires.live;
        first_free = c.requires.far;
        place = c.slot_of.ensures.slot c.args.key.now c.requires.key.0 ∙ ap (λ s. base z s + (level_at c.args.at + spot c.args.key.now c.args.at c.args.far)) (sym e);
        few = omega arith;
        ready = c.requires.ready;
      },
    )

pub overflow_add-at : goal.overflow_add-at
overflow_add-at c = let q = c.requires.seat in let t = (q.pool.shard c.args.shard c.requires.ours.1).head_in in let v = c.requires.live in let l = level_low c.args.layout.now c.args.at q.laid (omega arith) in record { fits = omega arith }

pub overflow_add-at-2 : goal.overflow_add-at-2
overflow_add-at-2 c = let q = c.requires.seat in let t = (q.pool.shard c.args.shard c.requires.ours.1).head_in in let v = c.requires.live in let l = level_low c.args.layout.now c.args.at q.laid (omega arith) in record { fits = omega arith }

pub free_spot-far-requires-clause-ours : goal.free_spot-far-requires-clause-ours
free_spot-far-requires-clause-ours c key e =
    let z = c.args.layout.now in
    let s : shard_of z key ≡ c.args.shard = same_shard z key c.args.key.now (sym e ∙ c.requires.key.0) ∙ sym c.requires.key.1 in
    subst (λ t. In t c.grow.new.seat.me.0.writes) (sym s) (subst (In c.args.shard) (sym c.grow.ensures.touches.writes) c.requires.ours.0)

pub returns-clause-touches : goal.returns-clause-touches
returns-clause-touches c =
    Touches-trans c.args.shard c.args.seat.now.me.0 c.grow.new.seat.me.0 c.free_spot-far.new.seat.me.0 c.grow.ensures.touches (Touches-keeps c.args.shard c.grow.new.seat.me.0 c.free_spot-far.new.seat.me.0 c.free_spot-far.ensures.keeps)

-- after a growth one more row may stand
opened : (z : Layout) (u v w : View) (s at far slot count : ℕ) (key : List ℕ) → u.layout ≡ z → v.layout ≡ z → IsLayout z → IsPool z v.words v.log → s < z.shards → s ≡ shard_of z key → In s u.writes → Touches s u v → Keeps v w → head z v.words s ≡ suc at → IsReadyShard z v.words s
    → count ≡ length (rows_of z s u.log) → IsPool z u.words u.log → head z u.words s ≡ at → IsSpot (level z w.words (shard_of z key) (at + 1)) (at + 1) key far → slot ≡ base z (shard_of z key) + (level_at (at + 1) + spot key (at + 1) far) → IsOpen z w s (suc at) far slot key
opened z u v w s at far slot count key lu lv l p lt e i t k live ready n pu live_u sp place =
    let one : at + 1 ≡ suc at = add-one at in
    let iv : In s v.writes = subst (In s) (sym t.writes) i in
    let hd : head z w.words s ≡ head z v.words s = subst (λ y. head y w.words s ≡ head y v.words s) lv (k.heads s iv) in
    let rv : rows_of z s v.log ≡ rows_of z s u.log = subst (λ y. rows_of y s v.log ≡ rows_of y s u.log) lu (t.rows s i) in
    let rw' : rows_of z s w.log ≡ rows_of z s v.log = subst (λ y. rows_of y s w.log ≡ rows_of y s v.log) lv (k.rows s iv) in
    let m : length (rows_of z s w.log) ≡ length (rows_of z s u.log) = ap length (rw' ∙ rv) in
    let b = pu.shard s lt in
    let h : b.held at ≤ half at = b.halves at (let x = b.head_in in omega arith) in
    let d : b.held at ≡ length (rows_of z s u.log) = subst (λ x. b.held x ≡ length (rows_of z s u.log)) live_u b.live in
    let g = half_next at in
    record {
      live = hd ∙ live;
      first_free = subst (λ x. IsSpot (level z w.words s x) x key far) one (subst (λ x. IsSpot (level z w.words x (at + 1)) (at + 1) key far) (sym e) sp);
      place = subst (λ x. slot ≡ base z s + (level_at x + spot key x far)) one (subst (λ x. slot ≡ base z x + (level_at (at + 1) + spot key (at + 1) far)) (sym e) place);
      few = omega arith;
      ready = IsReady-keeps z v w s lv lt p k iv ready;
    }

pub returns-clause-slot : goal.returns-clause-slot
returns-clause-slot c =
    let z = c.args.layout.now in
    let q = c.requires.seat in
    let u = c.args.seat.now.me.0 in
    let v = c.grow.new.seat.me.0 in
    let w = c.free_spot-far.new.seat.me.0 in (
      suc c.args.at,
      c.free_spot-far.result,
      opened z u v w c.args.shard c.args.at c.free_spot-far.result c.slot_of-2.result c.args.count c.args.key.now q.layout c.grow.ensures.seat.layout q.laid c.grow.ensures.seat.pool c.requires.ours.1 c.requires.key.1 c.requires.ours.0 c.grow.ensures.touches c.free_spot-far.ensures.keeps c.grow.ensures.live c.grow.ensures.ready
          c.requires.count.0 q.pool c.requires.live (c.free_spot-far.ensures.spot c.args.key.now c.requires.key.0) (c.slot_of-2.ensures.slot c.args.key.now c.requires.key.0),
    )
