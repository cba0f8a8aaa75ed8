use Rattle.std.proofs.Common.{◌≡◌, ℕ, suc, ◌+◌, ◌<◌, ◌≤◌, List, [], ◌∷◌, ◌++◌, length, set, refl, sym, ap, subst, arith}
use Rattle.pool_words.specs.declared.view.Layout.{Layout}
use Rattle.pool_words.specs.declared.view.View.{View}
use Rattle.pool_words.specs.Layout.{Row, window, base, start, used, shard_of, rows_of}
use Rattle.pool_words.specs.Rule.{In, IsPool}
use Rattle.pool_words.specs.Views.{IsFree, IsReady}
use Rattle.pool_words.proofs.Places.{base_in}
use Rattle.pool_shard.specs.Looks.{Keeps, IsOpen, IsReadyShard, Adds, HasNot}
use Rattle.pool_shard.proofs.Keeping.{IsSeat-moves}
use Rattle.pool_shard.proofs.Publishing.{IsOpen-keeps, IsFree-of, Adds-publish, Adds-after}
use Rattle.pool_shard.proofs.add.add_row.Goals as goal

-- the row is free to be published in the view v, in which it was stored
free : (z : Layout) (u v : View) (s at far slot taken place : ℕ) (key : List ℕ) → u.layout ≡ z → IsPool z u.words u.log → s < z.shards → Keeps u v → In s u.writes → s ≡ shard_of z key → IsOpen z u s at far slot key → 0 < length key → length key ≤ 64
    → taken ≡ used (rows_of z s u.log) → place ≡ base z s + (start z + taken) → start z + taken + (length key + 1) ≤ z.size → window v.words place (suc (length key)) ≡ length key ∷ key → HasNot (rows_of z s u.log) key → IsFree z v.words v.log slot (place, key)
free z u v s at far slot taken place key e p lt k i es o some few t b room whole new =
    let rows : rows_of z s v.log ≡ rows_of z s u.log = subst (λ y. rows_of y s v.log ≡ rows_of y s u.log) e (k.rows s i) in
    let sum : used (rows_of z s v.log) ≡ used (rows_of z s u.log) = ap used rows in
    IsFree-of z v s at far slot place key es (IsOpen-keeps z u v s at far slot key e p lt k i o) some few (omega arith) (omega arith) whole (λ j m. new j (subst (In (j, key)) rows m))

-- and can be published by the seat
ready : (z : Layout) (u v : View) (s slot place : ℕ) (key : List ℕ) → v.layout ≡ z → Keeps u v → In s u.writes → s ≡ shard_of z key → IsFree z v.words v.log slot (place, key) → IsReady v slot (place, key)
ready z u v s slot place key lv k i e f = record {
  ours = subst (λ y. In (shard_of y key) v.writes) (sym lv) (subst (λ t. In t v.writes) e (subst (In s) (sym k.writes) i));
  free = subst (λ y. IsFree y v.words v.log slot (place, key)) (sym lv) f;
}

pub publish-requires-clause-ready : goal.publish-requires-clause-ready
publish-requires-clause-ready c =
    let z = c.args.layout.now in
    let q = c.requires.seat in
    let u = c.args.seat.now.me.0 in
    let v = c.store_row-place.new.seat.me.0 in
    let k = c.store_row-place.ensures.keeps in
    let o = c.requires.slot in
    let key = c.args.key.now in
    let f = free z u v c.args.shard o.0 o.1 c.args.slot c.args.taken c.store_row-place.result key q.layout q.pool c.requires.ours.1 k c.requires.ours.0 c.requires.key.2 o.2 c.requires.key.0 c.requires.key.1 c.requires.taken c.store_row-place.ensures.place c.requires.room c.store_row-place.ensures.whole c.requires.new in
    ((c.store_row-place.result, key), ready z u v c.args.shard c.args.slot c.store_row-place.result key c.store_row-place.ensures.seat.layout k c.requires.ours.0 c.requires.key.2 f, refl)

pub returns-clause-seat : goal.returns-clause-seat
returns-clause-seat c =
    let z = c.args.layout.now in
    let q = c.requires.seat in
    let u = c.args.seat.now.me.0 in
    let v = c.store_row-place.new.seat.me.0 in
    let k = c.store_row-place.ensures.keeps in
    let o = c.requires.slot in
    let key = c.args.key.now in
    let r : Row = (c.store_row-place.result, key) in
    let f = free z u v c.args.shard o.0 o.1 c.args.slot c.args.taken c.store_row-place.result key q.layout q.pool c.requires.ours.1 k c.requires.ours.0 c.requires.key.2 o.2 c.requires.key.0 c.requires.key.1 c.requires.taken c.store_row-place.ensures.place c.requires.room c.store_row-place.ensures.whole c.requires.new in
    let rd = ready z u v c.args.shard c.args.slot c.store_row-place.result key c.store_row-place.ensures.seat.layout k c.requires.ours.0 c.requires.key.2 f in
    IsSeat-moves c.args.layout.now c.args.words.now.shared.table_id c.store_row-place.new.seat c.publish.new.seat (set v.words c.args.slot (c.store_row-place.result + 1)) (v.log ++ r ∷ []) c.store_row-place.ensures.seat c.publish.ensures.seat.0 (c.publish.ensures.published r rd refl)

pub returns-clause-adds : goal.returns-clause-adds
returns-clause-adds c =
    let z = c.args.layout.now in
    let q = c.requires.seat in
    let u = c.args.seat.now.me.0 in
    let v = c.store_row-place.new.seat.me.0 in
    let w = c.publish.new.seat.me.0 in
    let k = c.store_row-place.ensures.keeps in
    let o = c.requires.slot in
    let key = c.args.key.now in
    let r : Row = (c.store_row-place.result, key) in
    let f = free z u v c.args.shard o.0 o.1 c.args.slot c.args.taken c.store_row-place.result key q.layout q.pool c.requires.ours.1 k c.requires.ours.0 c.requires.key.2 o.2 c.requires.key.0 c.requires.key.1 c.requires.taken c.store_row-place.ensures.place c.requires.room c.store_row-place.ensures.whole c.requires.new in
    let lv = c.store_row-place.ensures.seat.layout in
    let ours : In (shard_of z key) v.writes = subst (λ t. In t v.writes) c.requires.key.2 (subst (In c.args.shard) (sym k.writes) c.requires.ours.0) in
    let rd = ready z u v c.args.shard c.args.slot c.store_row-place.result key lv k c.requires.ours.0 c.requires.key.2 f in
    let ov = IsOpen-keeps z u v c.args.shard o.0 o.1 c.args.slot key q.layout q.pool c.requires.ours.1 k c.requires.ours.0 o.2 in
    let a = Adds-publish z v w c.args.slot r q.laid c.store_row-place.ensures.seat.pool f lv ours (subst (λ t. t < z.shards) c.requires.key.2 c.requires.ours.1) (c.publish.ensures.published r rd refl) (subst (λ t. IsReadyShard z v.words t) c.requires.key.2 ov.ready) in
    Adds-after c.args.shard r u v w k c.requires.ours.0 (subst (λ t. Adds t r v w) (sym c.requires.key.2) a)

pub returns-clause-place : goal.returns-clause-place
returns-clause-place c =
    let z = c.args.layout.now in
    let q = c.requires.seat in
    let b = base_in z c.args.shard q.laid c.requires.ours.1 in
    let p = c.store_row-place.ensures.place in
    let r = c.requires.room in
    omega arith
