-- What steps keep, one after another.
use Rattle.std.proofs.Common.{◌≡◌, ℕ, ◌+◌, ◌<◌, ◌≤◌, List, set, refl, sym, ◌∙◌, subst}
use Rattle.pool_words.specs.declared.view.Layout.{Layout}
use Rattle.pool_words.specs.declared.view.View.{View}
use Rattle.pool_words.specs.Layout.{Row, shard_of, rows_of, used, base, start, head, level, IsLayout}
use Rattle.pool_words.specs.Rule.{In, IsPool, Earlier, Same}
use Rattle.pool_words.specs.Views.{Moves, Shown}
use Rattle.pool_words.proofs.Members.{In-rows_of, rows_of-In}
use Rattle.pool_words.proofs.Orders.{Earlier-refl, Earlier-trans, head_same, level_same}
use Rattle.pool_words.proofs.Shards.{head_spared, level_spared, private_spares}
use Rattle.atomic_table.specs.Seated.{TableId}
use Rattle.atomic_table.specs.declared.shared.Seat.{Seat}
use Rattle.pool_shard.specs.Looks.{IsSeat, Keeps, HasNot}

pub Keeps-shown : (v w : View) → Shown v w → Keeps v w
Keeps-shown v w m = record {
  layout = m.layout;
  writes = m.writes;
  later = m.later;
  heads = λ s o. sym (head_same v.layout s v.words v.log w.words w.log m.laid (m.owns s o));
  levels = λ s k o le. sym (level_same v.layout s k v.words v.log w.words w.log m.laid le (m.owns s o));
  rows = λ s o. sym (m.owns s o).rows;
}

pub Keeps-refl : (v : View) → IsPool v.layout v.words v.log → Keeps v v
Keeps-refl v p = record {
  layout = refl;
  writes = refl;
  later = Earlier-refl v.layout v.words v.log p;
  heads = λ s o. refl;
  levels = λ s k o le. refl;
  rows = λ s o. refl;
}

pub Keeps-trans : (u v w : View) → Keeps u v → Keeps v w → Keeps u w
Keeps-trans u v w a b =
    let z = a.layout in
    let o : (s : ℕ) → In s u.writes → In s v.writes = λ s i. subst (In s) (sym a.writes) i in
    record {
      layout = b.layout ∙ z;
      writes = b.writes ∙ a.writes;
      later = Earlier-trans u.layout u.words u.log v.words v.log w.words w.log a.later (subst (λ y. Earlier y v.words v.log w.words w.log) z b.later);
      heads = λ s i. subst (λ y. head y w.words s ≡ head y v.words s) z (b.heads s (o s i)) ∙ a.heads s i;
      levels = λ s k i le. subst (λ y. level y w.words s k ≡ level y v.words s k) z (b.levels s k (o s i) (subst (λ (y : Layout). k ≤ y.top) (sym z) le)) ∙ a.levels s k i le;
      rows = λ s i. subst (λ y. rows_of y s w.log ≡ rows_of y s v.log) z (b.rows s (o s i)) ∙ a.rows s i;
    }

pub Keeps-private : (z : Layout) (v w : View) (s i x : ℕ) → v.layout ≡ z → IsLayout z → IsPool z v.words v.log → s < z.shards → base z s + (start z + used (rows_of z s v.log)) ≤ i → i < base z s + z.size → Moves v (set v.words i x) v.log w → Keeps v w
Keeps-private z v w s i x e l p lt above inside m = record {
  layout = m.layout;
  writes = m.writes;
  later = m.later;
  heads = λ t o. subst (λ y. head y w.words t ≡ head y v.words t) (sym e) (heads t (subst (λ y. Same y t (set v.words i x) v.log w.words w.log) e (m.owns t o)));
  levels = λ t k o le. subst (λ y. level y w.words t k ≡ level y v.words t k) (sym e) (levels t k (subst (λ (y : Layout). k ≤ y.top) e le) (subst (λ y. Same y t (set v.words i x) v.log w.words w.log) e (m.owns t o)));
  rows = λ t o. sym (m.owns t o).rows;
}
  where
    heads : (t : ℕ) → Same z t (set v.words i x) v.log w.words w.log → head z w.words t ≡ head z v.words t
    heads t h = sym (head_same z t (set v.words i x) v.log w.words w.log l h) ∙ head_spared z v.words t i x (private_spares z v.words v.log s i x l p lt above inside t)

    levels : (t k : ℕ) → k ≤ z.top → Same z t (set v.words i x) v.log w.words w.log → level z w.words t k ≡ level z v.words t k
    levels t k le h = sym (level_same z t k (set v.words i x) v.log w.words w.log l le h) ∙ level_spared z v.words t k i x le (private_spares z v.words v.log s i x l p lt above inside t)

-- a seat after a step
pub IsSeat-moves : {S : Type 0} (z : Layout) (t : TableId) (q r : Seat S View) (ws : List ℕ) (log : List Row) → IsSeat z t q → r.table_id ≡ q.table_id → Moves q.me.0 ws log r.me.0 → IsSeat z t r
IsSeat-moves z t q r ws log h e m = record {
  of = e ∙ h.of;
  wide = h.wide;
  layout = m.layout ∙ h.layout;
  laid = h.laid;
  pool = subst (λ y. IsPool y r.me.0.words r.me.0.log) h.layout m.pool;
}

-- a key that had no row has none where the rows of its shard stayed
pub still_new : (v w : View) (z : Layout) (key : List ℕ) → v.layout ≡ z → Keeps v w → In (shard_of z key) v.writes → HasNot v.log key → HasNot w.log key
still_new v w z key lv k i none j m =
    let rows : rows_of z (shard_of z key) w.log ≡ rows_of z (shard_of z key) v.log = subst (λ y. rows_of y (shard_of z key) w.log ≡ rows_of y (shard_of z key) v.log) lv (k.rows (shard_of z key) i) in
    let a = subst (In (j, key)) rows (In-rows_of z (shard_of z key) (j, key) w.log refl m) in
    none j (rows_of-In z (shard_of z key) (j, key) v.log a).0
