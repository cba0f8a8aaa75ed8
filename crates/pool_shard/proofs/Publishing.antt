-- What the publication of a row does to a seat's view.
use Rattle.std.proofs.Common.{◌≡◌, ◌≢◌, ℕ, suc, ◌+◌, ◌<◌, ◌≤◌, List, [], ◌∷◌, ◌++◌, length, set, slice_index, refl, sym, ap, ◌∙◌, subst, arith}
use Rattle.pool_words.specs.declared.view.Layout.{Layout}
use Rattle.pool_words.specs.declared.view.View.{View}
use Rattle.pool_words.specs.Layout.{Row, width, half, spot, level_at, window, used, shard_of, base, start, rows_of, head, level, IsLayout}
use Rattle.pool_words.specs.Rule.{In, HasRows, IsPool, Earlier, Same}
use Rattle.pool_words.specs.Views.{IsFree, Moves}
use Rattle.pool_words.proofs.Members.{rows_of-push, rows_of-other}
use Rattle.pool_words.proofs.Shards.{head_spared, level_spared, publish_head, publish_else, publish_spares}
use Rattle.pool_words.proofs.Orders.{Earlier-trans, head_same, level_same}
use Rattle.pool_shard.specs.Looks.{Keeps, IsSpot, IsOpen, IsReadyShard, Touches, Adds, HasNot}

pub IsReady-keeps : (z : Layout) (u v : View) (s : ℕ) → u.layout ≡ z → s < z.shards → IsPool z u.words u.log → Keeps u v → In s u.writes → IsReadyShard z u.words s → IsReadyShard z v.words s
IsReady-keeps z u v s e lt p k i ready l =
    let hd : head z v.words s ≡ head z u.words s = subst (λ y. head y v.words s ≡ head y u.words s) e (k.heads s i) in
    let m : suc (head z u.words s) ≤ z.top = omega arith in
    let lv : level z v.words s (suc (head z u.words s)) ≡ level z u.words s (suc (head z u.words s)) = subst (λ y. level y v.words s (suc (head z u.words s)) ≡ level y u.words s (suc (head z u.words s))) e (k.levels s (suc (head z u.words s)) i (subst (λ (y : Layout). suc (head z u.words s) ≤ y.top) (sym e) m)) in
    subst (λ n. HasRows (level z v.words s (suc n)) (suc n) []) (sym hd) (subst (λ slots. HasRows slots (suc (head z u.words s)) []) (sym lv) (ready (omega arith)))

-- what a store behind the rows leaves open
pub IsOpen-keeps : (z : Layout) (u v : View) (s at far slot : ℕ) (key : List ℕ) → u.layout ≡ z → IsPool z u.words u.log → s < z.shards → Keeps u v → In s u.writes → IsOpen z u s at far slot key → IsOpen z v s at far slot key
IsOpen-keeps z u v s at far slot key e p lt k i o =
    let hd : head z v.words s ≡ head z u.words s = subst (λ y. head y v.words s ≡ head y u.words s) e (k.heads s i) in
    let lv : (n : ℕ) → n ≤ z.top → level z v.words s n ≡ level z u.words s n = λ n le. subst (λ y. level y v.words s n ≡ level y u.words s n) e (k.levels s n i (subst (λ (y : Layout). n ≤ y.top) (sym e) le)) in
    let rows : rows_of z s v.log ≡ rows_of z s u.log = subst (λ y. rows_of y s v.log ≡ rows_of y s u.log) e (k.rows s i) in
    let top = (p.shard s lt).head_in in
    let live = o.live in
    record {
      live = hd ∙ o.live;
      first_free = subst (λ slots. IsSpot slots at key far) (sym (lv at (omega arith))) o.first_free;
      place = o.place;
      few = subst (λ (l : List Row). length l < half at) (sym rows) o.few;
      ready = IsReady-keeps z u v s e lt p k i o.ready;
    }

-- a row that is stored whole, with an open slot, can be published
pub IsFree-of : (z : Layout) (v : View) (s at far slot place : ℕ) (key : List ℕ) → s ≡ shard_of z key → IsOpen z v s at far slot key → 0 < length key → length key ≤ 64 → place ≡ base z s + (start z + used (rows_of z s v.log)) → start z + used (rows_of z s v.log) + (length key + 1) ≤ z.size
    → window v.words place (suc (length key)) ≡ length key ∷ key → HasNot (rows_of z s v.log) key → IsFree z v.words v.log slot (place, key)
IsFree-of z v s at far slot place key e o some few behind room whole new = subst (λ t. IsFree z v.words v.log slot (place, key)) e (record {
  some = some;
  few = few;
  behind = subst (λ t. place ≡ base z t + (start z + used (rows_of z t v.log))) e behind;
  room = subst (λ t. start z + used (rows_of z t v.log) + (length key + 1) ≤ z.size) e room;
  whole = whole;
  few_rows = subst (λ t. length (rows_of z t v.log) < half (head z v.words t)) e (subst (λ n. length (rows_of z s v.log) < half n) (sym o.live) o.few);
  far = far;
  within = subst (λ t. far < width (head z v.words t)) e (subst (λ n. far < width n) (sym o.live) o.first_free.within);
  slot = subst (λ t. slot ≡ base z t + (level_at (head z v.words t) + spot key (head z v.words t) far)) e (subst (λ n. slot ≡ base z s + (level_at n + spot key n far)) (sym o.live) o.place);
  free = subst (λ t. slice_index (level z v.words t (head z v.words t)) (spot key (head z v.words t) far) ≡ 0) e (subst (λ n. slice_index (level z v.words s n) (spot key n far) ≡ 0) (sym o.live) o.first_free.free);
  run = λ d l. subst (λ t. slice_index (level z v.words t (head z v.words t)) (spot key (head z v.words t) d) ≢ 0) e (subst (λ n. slice_index (level z v.words s n) (spot key n d) ≢ 0) (sym o.live) (o.first_free.run d l));
  new = λ i m. new i (subst (λ t. In (i, key) (rows_of z t v.log)) (sym e) m);
})

-- a view v, and the view w after the row was published
module _ (z : Layout) (v w : View) (slot : ℕ) (r : Row) (l : IsLayout z) (p : IsPool z v.words v.log) (f : IsFree z v.words v.log slot r) (e : v.layout ≡ z) (ours : In (shard_of z r.1) v.writes) (lt : shard_of z r.1 < z.shards) (m : Moves v (set v.words slot (r.0 + 1)) (v.log ++ r ∷ []) w) (ready : IsReadyShard z v.words (shard_of z r.1)) where
  same : (t : ℕ) → In t v.writes → Same z t (set v.words slot (r.0 + 1)) (v.log ++ r ∷ []) w.words w.log
  same t o = subst (λ y. Same y t (set v.words slot (r.0 + 1)) (v.log ++ r ∷ []) w.words w.log) e (m.owns t o)

  now_head : head z w.words (shard_of z r.1) ≡ head z v.words (shard_of z r.1)
  now_head = sym (head_same z (shard_of z r.1) (set v.words slot (r.0 + 1)) (v.log ++ r ∷ []) w.words w.log l (same (shard_of z r.1) ours)) ∙ publish_head z v.words v.log slot r l p f

  now_ready : IsReadyShard z w.words (shard_of z r.1)
  now_ready q =
      let h = now_head in
      let le : suc (head z v.words (shard_of z r.1)) ≤ z.top = omega arith in
      let lv : level z w.words (shard_of z r.1) (suc (head z v.words (shard_of z r.1))) ≡ level z v.words (shard_of z r.1) (suc (head z v.words (shard_of z r.1))) =
      sym (level_same z (shard_of z r.1) (suc (head z v.words (shard_of z r.1))) (set v.words slot (r.0 + 1)) (v.log ++ r ∷ []) w.words w.log l le (same (shard_of z r.1) ours))
      ∙ publish_else z v.words v.log slot r l p f (suc (head z v.words (shard_of z r.1))) le (λ c. absurd (omega arith)) in
      subst (λ n. HasRows (level z w.words (shard_of z r.1) (suc n)) (suc n) []) (sym h) (subst (λ slots. HasRows slots (suc (head z v.words (shard_of z r.1))) []) (sym lv) (ready (omega arith)))

  pub Adds-publish : Adds (shard_of z r.1) r v w
  Adds-publish = record {
    layout = m.layout;
    writes = m.writes;
    later = m.later;
    heads = λ t o ne. subst (λ y. head y w.words t ≡ head y v.words t) (sym e)
        (sym (head_same z t (set v.words slot (r.0 + 1)) (v.log ++ r ∷ []) w.words w.log l (same t o)) ∙ head_spared z v.words t slot (r.0 + 1) (publish_spares z v.words v.log slot r l p f t (λ c. ne (sym c))));
    levels = λ t k o ne le. subst (λ y. level y w.words t k ≡ level y v.words t k) (sym e)
        (sym (level_same z t k (set v.words slot (r.0 + 1)) (v.log ++ r ∷ []) w.words w.log l (subst (λ (y : Layout). k ≤ y.top) e le) (same t o)) ∙ level_spared z v.words t k slot (r.0 + 1) (subst (λ (y : Layout). k ≤ y.top) e le) (publish_spares z v.words v.log slot r l p f t (λ c. ne (sym c))));
    rows = λ t o ne. subst (λ y. rows_of y t w.log ≡ rows_of y t v.log) (sym e) (sym (same t o).rows ∙ rows_of-other z t v.log r (λ c. ne (sym c)));
    added = subst (λ y. rows_of y (shard_of z r.1) w.log ≡ rows_of y (shard_of z r.1) v.log ++ r ∷ []) (sym e) (sym (same (shard_of z r.1) ours).rows ∙ rows_of-push z (shard_of z r.1) v.log r refl);
    ready = subst (λ y. IsReadyShard y w.words (shard_of z r.1)) (sym e) now_ready;
  }

-- a row that is published after steps that touch its shard alone
pub Adds-touched : (s : ℕ) (r : Row) (u v w : View) → In s u.writes → Touches s u v → Adds s r v w → Adds s r u w
Adds-touched s r u v w i k a =
    let z = k.layout in
    let o : (t : ℕ) → In t u.writes → In t v.writes = λ t i. subst (In t) (sym k.writes) i in
    record {
      layout = a.layout ∙ z;
      writes = a.writes ∙ k.writes;
      later = Earlier-trans u.layout u.words u.log v.words v.log w.words w.log k.later (subst (λ y. Earlier y v.words v.log w.words w.log) z a.later);
      heads = λ t i ne. subst (λ y. head y w.words t ≡ head y v.words t) z (a.heads t (o t i) ne) ∙ k.heads t i ne;
      levels = λ t n i ne le. subst (λ y. level y w.words t n ≡ level y v.words t n) z (a.levels t n (o t i) ne (subst (λ (y : Layout). n ≤ y.top) (sym z) le)) ∙ k.levels t n i ne le;
      rows = λ t i ne. subst (λ y. rows_of y t w.log ≡ rows_of y t v.log) z (a.rows t (o t i) ne) ∙ k.rows t i;
      added = subst (λ y. rows_of y s w.log ≡ rows_of y s v.log ++ r ∷ []) z a.added ∙ ap (λ (l : List Row). l ++ r ∷ []) (k.rows s i);
      ready = subst (λ y. IsReadyShard y w.words s) z a.ready;
    }

pub Adds-after : (s : ℕ) (r : Row) (u v w : View) → Keeps u v → In s u.writes → Adds s r v w → Adds s r u w
Adds-after s r u v w k i a =
    let z = k.layout in
    let o : (t : ℕ) → In t u.writes → In t v.writes = λ t i. subst (In t) (sym k.writes) i in
    record {
      layout = a.layout ∙ z;
      writes = a.writes ∙ k.writes;
      later = Earlier-trans u.layout u.words u.log v.words v.log w.words w.log k.later (subst (λ y. Earlier y v.words v.log w.words w.log) z a.later);
      heads = λ t i ne. subst (λ y. head y w.words t ≡ head y v.words t) z (a.heads t (o t i) ne) ∙ k.heads t i;
      levels = λ t n i ne le. subst (λ y. level y w.words t n ≡ level y v.words t n) z (a.levels t n (o t i) ne (subst (λ (y : Layout). n ≤ y.top) (sym z) le)) ∙ k.levels t n i le;
      rows = λ t i ne. subst (λ y. rows_of y t w.log ≡ rows_of y t v.log) z (a.rows t (o t i) ne) ∙ k.rows t i;
      added = subst (λ y. rows_of y s w.log ≡ rows_of y s v.log ++ r ∷ []) z a.added ∙ ap (λ (l : List Row). l ++ r ∷ []) (k.rows s i);
      ready = subst (λ y. IsReadyShard y w.words s) z a.ready;
    }
