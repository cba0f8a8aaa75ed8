-- What one more row in the next level does to a seat's view.
use Rattle.std.proofs.Common.{◌≡◌, ℕ, suc, ◌+◌, ◌%◌, ◌<◌, ◌≤◌, List, [], ◌∷◌, ◌++◌, length, set, take, sym, ap, ◌∙◌, subst, arith, add-one}
use Rattle.pool_words.specs.declared.view.Layout.{Layout}
use Rattle.pool_words.specs.declared.view.View.{View}
use Rattle.pool_words.specs.Layout.{Row, spot, level_at, hash_of, shard_of, base, rows_of, head, level, IsLayout}
use Rattle.pool_words.specs.Rule.{In, HasRows, IsPool, Earlier, Same}
use Rattle.pool_words.specs.Views.{IsNext, IsFull, Moves}
use Rattle.pool_words.proofs.Members.{In-last, In-take, rows_of-In}
use Rattle.pool_words.proofs.Levels.{HasRows-set}
use Rattle.pool_words.proofs.Shards.{level_spared, levels_spare}
use Rattle.pool_words.proofs.Growing.{fill_low, fill_high, fill_level, fill_else, next_long, heads_stay, moved, head_else, levels_all}
use Rattle.pool_words.proofs.Orders.{Earlier-trans, head_same, level_same}
use Rattle.pool_shard.proofs.Keeping.{Keeps-refl}
use Rattle.pool_shard.specs.Looks.{Keeps, IsSpot, Touches, Fills, IsNextRow}

pub same_shard : (z : Layout) (a b : List ℕ) → hash_of a ≡ hash_of b → shard_of z a ≡ shard_of z b
unfolding shard_of
same_shard z a b e = ap (λ h. h % z.shards) e

-- the next row is one of the shard
pub next_in : (z : Layout) (u : View) (s at n : ℕ) (r : Row) → IsNextRow z u s at n r → In r u.log × (shard_of z r.1 ≡ s)
next_in z u s at n r f = rows_of-In z s r u.log (In-take r (suc n) (rows_of z s u.log) (subst (λ (l : List Row). In r l) (sym f.next) (In-last r (take n (rows_of z s u.log)))))

pub IsNext-of : (z : Layout) (u w : View) (s at n far slot : ℕ) (r : Row) → u.layout ≡ z → Keeps u w → In s u.writes → head z u.words s ≡ at → at < z.top → IsNextRow z u s at n r
    → IsSpot (level z w.words (shard_of z r.1) (at + 1)) (at + 1) r.1 far → slot ≡ base z (shard_of z r.1) + (level_at (at + 1) + spot r.1 (at + 1) far) → IsNext z w.words w.log s at n slot r
IsNext-of z u w s at n far slot r lu k ours live below_top f sp place =
    let one : at + 1 ≡ suc at = add-one at in
    let e : shard_of z r.1 ≡ s = (next_in z u s at n r f).1 in
    let rows : rows_of z s w.log ≡ rows_of z s u.log = subst (λ y. rows_of y s w.log ≡ rows_of y s u.log) lu (k.rows s ours) in
    let lv : level z w.words s (suc at) ≡ level z u.words s (suc at) = subst (λ y. level y w.words s (suc at) ≡ level y u.words s (suc at)) lu (k.levels s (suc at) ours (subst (λ (y : Layout). suc at ≤ y.top) (sym lu) (omega arith))) in
    let hd : head z w.words s ≡ head z u.words s = subst (λ y. head y w.words s ≡ head y u.words s) lu (k.heads s ours) in
    let sp' : IsSpot (level z w.words s (suc at)) (suc at) r.1 far = subst (λ t. IsSpot (level z w.words t (suc at)) (suc at) r.1 far) e (subst (λ m. IsSpot (level z w.words (shard_of z r.1) m) m r.1 far) one sp) in
    let place' : slot ≡ base z s + (level_at (suc at) + spot r.1 (suc at) far) = subst (λ t. slot ≡ base z t + (level_at (suc at) + spot r.1 (suc at) far)) e (subst (λ m. slot ≡ base z (shard_of z r.1) + (level_at m + spot r.1 m far)) one place) in
    record {
      live = hd ∙ live;
      below_top = below_top;
      filled = subst (λ slots. HasRows slots (suc at) (take n (rows_of z s w.log))) (sym lv) (subst (λ (l : List Row). HasRows (level z u.words s (suc at)) (suc at) (take n l)) (sym rows) f.filled);
      left = subst (λ (l : List Row). n < length l) (sym rows) f.left;
      next = subst (λ (l : List Row). take (suc n) l ≡ take n l ++ r ∷ []) (sym rows) f.next;
      far = far;
      within = sp'.within;
      slot = place';
      free = sp'.free;
      run = sp'.run;
    }

-- a view w, and the view x after the store of the next row
module _ (z : Layout) (w x : View) (s at n slot : ℕ) (r : Row) (l : IsLayout z) (p : IsPool z w.words w.log) (lt : s < z.shards) (f : IsNext z w.words w.log s at n slot r) (lw : w.layout ≡ z) (ours : In s w.writes) (m : Moves w (set w.words slot (r.0 + 1)) w.log x) where
  same : (t : ℕ) → In t w.writes → Same z t (set w.words slot (r.0 + 1)) w.log x.words x.log
  same t o = subst (λ y. Same y t (set w.words slot (r.0 + 1)) w.log x.words x.log) lw (m.owns t o)

  low : base z s ≤ slot
  low = let a = fill_low z w.words w.log s at n slot r l p lt f in omega arith

  heads : (t : ℕ) → In t w.writes → head z x.words t ≡ head z w.words t
  heads t o = sym (head_same z t (set w.words slot (r.0 + 1)) w.log x.words x.log l (same t o)) ∙ heads_stay z w.words w.log s at n slot r l p lt f t

  levels : (t k : ℕ) → In t w.writes → (t ≡ s → ⊥) → k ≤ z.top → level z x.words t k ≡ level z w.words t k
  levels t k o ne le = sym (level_same z t k (set w.words slot (r.0 + 1)) w.log x.words x.log l le (same t o))
      ∙ level_spared z w.words t k slot (r.0 + 1) le (levels_spare z w.words w.log s slot (r.0 + 1) l p lt low (fill_high z w.words w.log s at n slot r l p lt f) t (λ e. ne (sym e)))

  own_levels : (k : ℕ) → (k ≡ suc at → ⊥) → k ≤ z.top → level z x.words s k ≡ level z w.words s k
  own_levels k ne le = sym (level_same z s k (set w.words slot (r.0 + 1)) w.log x.words x.log l le (same s ours)) ∙ fill_else z w.words w.log s at n slot r l p lt f k le ne

  rows : (t : ℕ) → In t w.writes → rows_of z t x.log ≡ rows_of z t w.log
  rows t o = sym (same t o).rows

  pub Fills-store : Fills s (suc at) w x
  Fills-store = record {
    touches = record {
      layout = m.layout;
      writes = m.writes;
      later = m.later;
      heads = λ t o ne. subst (λ y. head y x.words t ≡ head y w.words t) (sym lw) (heads t o);
      levels = λ t k o ne le. subst (λ y. level y x.words t k ≡ level y w.words t k) (sym lw) (levels t k o ne (subst (λ (y : Layout). k ≤ y.top) lw le));
      rows = λ t o. subst (λ y. rows_of y t x.log ≡ rows_of y t w.log) (sym lw) (rows t o);
    };
    own_head = subst (λ y. head y x.words s ≡ head y w.words s) (sym lw) (heads s ours);
    own_levels = λ k ne le. subst (λ y. level y x.words s k ≡ level y w.words s k) (sym lw) (own_levels k ne (subst (λ (y : Layout). k ≤ y.top) lw le));
  }

  pub filled_store : HasRows (level z x.words s (suc at)) (suc at) (take (suc n) (rows_of z s x.log))
  filled_store =
      let t = f.below_top in
      let new = HasRows-set (level z w.words s (suc at)) (suc at) (take n (rows_of z s w.log)) r f.far (next_long z w.words w.log s at n slot r l p lt f) f.filled f.within f.free f.run in
      let e : level z x.words s (suc at) ≡ set (level z w.words s (suc at)) (spot r.1 (suc at) f.far) (r.0 + 1) = sym (level_same z s (suc at) (set w.words slot (r.0 + 1)) w.log x.words x.log l (omega arith) (same s ours)) ∙ fill_level z w.words w.log s at n slot r l p lt f in
      let g : take (suc n) (rows_of z s x.log) ≡ take n (rows_of z s w.log) ++ r ∷ [] = ap (λ (q : List Row). take (suc n) q) (rows s ours) ∙ f.next in
      subst (HasRows (level z x.words s (suc at)) (suc at)) (sym g) (subst (λ slots. HasRows slots (suc at) (take n (rows_of z s w.log) ++ r ∷ [])) (sym e) new)

pub Touches-keeps : (s : ℕ) (v w : View) → Keeps v w → Touches s v w
Touches-keeps s v w k = record { layout = k.layout; writes = k.writes; later = k.later; heads = λ t o ne. k.heads t o; levels = λ t n o ne le. k.levels t n o le; rows = k.rows }

pub Touches-trans : (s : ℕ) (u v w : View) → Touches s u v → Touches s v w → Touches s u w
Touches-trans s u v w a b =
    let z = a.layout in
    let o : (t : ℕ) → In t u.writes → In t v.writes = λ t i. subst (In t) (sym a.writes) i in
    record {
      layout = b.layout ∙ z;
      writes = b.writes ∙ a.writes;
      later = Earlier-trans u.layout u.words u.log v.words v.log w.words w.log a.later (subst (λ y. Earlier y v.words v.log w.words w.log) z b.later);
      heads = λ t i ne. subst (λ y. head y w.words t ≡ head y v.words t) z (b.heads t (o t i) ne) ∙ a.heads t i ne;
      levels = λ t k i ne le. subst (λ y. level y w.words t k ≡ level y v.words t k) z (b.levels t k (o t i) ne (subst (λ (y : Layout). k ≤ y.top) (sym z) le)) ∙ a.levels t k i ne le;
      rows = λ t i. subst (λ y. rows_of y t w.log ≡ rows_of y t v.log) z (b.rows t (o t i)) ∙ a.rows t i;
    }

pub Fills-keeps : (s at : ℕ) (v w : View) → In s v.writes → Keeps v w → Fills s at v w
Fills-keeps s at v w i k = record { touches = Touches-keeps s v w k; own_head = k.heads s i; own_levels = λ n ne le. k.levels s n i le }

pub Fills-trans : (s at : ℕ) (u v w : View) → Fills s at u v → Fills s at v w → Fills s at u w
Fills-trans s at u v w a b =
    let z = a.touches.layout in
    record {
      touches = Touches-trans s u v w a.touches b.touches;
      own_head = subst (λ y. head y w.words s ≡ head y v.words s) z b.own_head ∙ a.own_head;
      own_levels = λ k ne le. subst (λ y. level y w.words s k ≡ level y v.words s k) z (b.own_levels k ne (subst (λ (y : Layout). k ≤ y.top) (sym z) le)) ∙ a.own_levels k ne le;
    }

-- a view w, and the view x after a move of the head
module _ (z : Layout) (w x : View) (s at : ℕ) (l : IsLayout z) (p : IsPool z w.words w.log) (lt : s < z.shards) (f : IsFull z w.words w.log s at) (lw : w.layout ≡ z) (ours : In s w.writes) (m : Moves w (set w.words (base z s) (suc at)) w.log x) where
  after : (t : ℕ) → In t w.writes → Same z t (set w.words (base z s) (suc at)) w.log x.words x.log
  after t o = subst (λ y. Same y t (set w.words (base z s) (suc at)) w.log x.words x.log) lw (m.owns t o)

  pub move_levels : (t k : ℕ) → In t w.writes → k ≤ z.top → level z x.words t k ≡ level z w.words t k
  move_levels t k o le = sym (level_same z t k (set w.words (base z s) (suc at)) w.log x.words x.log l le (after t o)) ∙ levels_all z w.words w.log s at l p lt f t k le

  pub move_live : head z x.words s ≡ suc at
  move_live = sym (head_same z s (set w.words (base z s) (suc at)) w.log x.words x.log l (after s ours)) ∙ moved z w.words w.log s at l p lt f

  pub Touches-move : Touches s w x
  Touches-move = record {
    layout = m.layout;
    writes = m.writes;
    later = m.later;
    heads = λ t o ne. subst (λ y. head y x.words t ≡ head y w.words t) (sym lw) (sym (head_same z t (set w.words (base z s) (suc at)) w.log x.words x.log l (after t o)) ∙ head_else z w.words w.log s at l p lt f t (λ e. ne (sym e)));
    levels = λ t k o ne le. subst (λ y. level y x.words t k ≡ level y w.words t k) (sym lw) (move_levels t k o (subst (λ (y : Layout). k ≤ y.top) lw le));
    rows = λ t o. sym (m.owns t o).rows;
  }

pub Touches-refl : (z : Layout) (s : ℕ) (v : View) → v.layout ≡ z → IsPool z v.words v.log → Touches s v v
Touches-refl z s v e p = Touches-keeps s v v (Keeps-refl v (subst (λ y. IsPool y v.words v.log) (sym e) p))
