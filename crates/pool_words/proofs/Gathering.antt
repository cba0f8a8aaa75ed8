-- A join of a seat that is one shard's writer keeps the rule.
use Rattle.std.proofs.Common.{◌≡◌, ◌≢◌, ◌⊎◌, inl, inr, ⊎_elim, ℕ, ◌<◌, List, [], ◌∷◌, length, set, refl, sym, ap, ◌∙◌, subst, arith, slice_index}
use Rattle.std.proofs.lemmas.Bool.{cases_eq}
use mathlib.Core.Option.{some, some-injective}
use lib.ListN.{get_elem?}
use Rattle.atomic_table.specs.Table.{Joins}
use Rattle.atomic_table.proofs.Lists.{at_set, set_else}
use Rattle.pool_words.specs.declared.view.Layout.{Layout}
use Rattle.pool_words.specs.declared.view.View.{View}
use Rattle.pool_words.specs.Layout.{Row, used, shard_of, rows_of, head, level, IsLayout}
use Rattle.pool_words.specs.Rule.{In, IsShard, IsRow, IsPool, Extends, Earlier, Same}
use Rattle.pool_words.specs.Views.{Seats, IsLive, Falls, Knows, IsShared, Holds, CanGather, patched, put_in, own_shard, gathered, spent_view}
use Rattle.pool_words.proofs.Windows.{window_part}
use Rattle.pool_words.proofs.Members.{In-rows_of, rows_of-In}
use Rattle.pool_words.proofs.Places.{shard_in}
use Rattle.pool_words.proofs.Shards.{IsShard-same, row_in}
use Rattle.pool_words.proofs.Orders.{head_same, level_same}
use Rattle.pool_words.proofs.Turns.{set_there}
use Rattle.pool_words.proofs.Falling.{In-put_in, put_in-here, put_in-there, Falls-put_in}
use Rattle.pool_words.proofs.Patches.{patched_long, patched_here, patched_else}
use Rattle.pool_words.proofs.Joins.{dead}

-- a row lies whole where its shard is the same
IsRow-same : (z : Layout) (us : List ℕ) (l : List Row) (ws : List ℕ) (log : List Row) (r : Row) → IsLayout z → IsPool z us l → In r l → Same z (shard_of z r.1) us l ws log → IsRow z ws log r
IsRow-same z us l ws log r h p i e =
    let q = p.row r i in
    let w = row_in z us l r h p i in
    let u : used (rows_of z (shard_of z r.1) l) ≡ used (rows_of z (shard_of z r.1) log) = ap used e.rows in
    record {
      some = q.some;
      few = q.few;
      begins = q.begins;
      ends = let b = q.ends in omega arith;
      whole = sym (window_part us ws (Rattle.pool_words.specs.Layout.base z (shard_of z r.1)) z.size r.0 (ℕ.suc (length r.1)) e.words (let a = Rattle.pool_words.proofs.Places.start_pos z in omega arith) (omega arith)) ∙ q.whole;
    }

-- each shard is as it is in a pool that went on to be this one
abbrev From : Layout → List ℕ → List Row → List ℕ → List Row → Type 0
From z ws log now nlog = (t : ℕ) → t < z.shards → (us : List ℕ) × (l : List Row) × IsPool z us l × Earlier z us l now nlog × Same z t us l ws log

module _ (z : Layout) (ws : List ℕ) (log : List Row) (now : List ℕ) (nlog : List Row) (h : IsLayout z) (from : From z ws log now nlog) where
  -- a row of a shard is one of the pool that the shard is from
  row_from : (r : Row) (t : ℕ) (lt : t < z.shards) → shard_of z r.1 ≡ t → In r log → In r (from t lt).1
  row_from r t lt e i = let f = from t lt in (rows_of-In z t r f.1 (subst (In r) (sym f.4.rows) (In-rows_of z t r log e i))).0

  shard_from : (t : ℕ) → t < z.shards → IsShard z (head z ws t) (level z ws t) (rows_of z t log)
  shard_from t lt =
      let f = from t lt in
      let s = f.2.shard t lt in
      subst (IsShard z (head z ws t) (level z ws t)) f.4.rows
      (IsShard-same z (head z f.0 t) (head z ws t) (level z f.0 t) (level z ws t) (rows_of z t f.1) (sym (head_same z t f.0 f.1 ws log h f.4)) (λ k le. sym (level_same z t k f.0 f.1 ws log h le f.4)) s)

  IsPool-from : (xs : List ℕ) → IsPool z xs log → length ws ≡ z.words → IsPool z ws log
  IsPool-from xs p long = record {
    long = long;
    shard = shard_from;
    row = λ r i.
        let lt = shard_in z r.1 h in
        let f = from (shard_of z r.1) lt in
        IsRow-same z f.0 f.1 ws log r h f.2 (row_from r (shard_of z r.1) lt refl i) f.4;
    placed = p.placed;
    once = p.once;
  }

  Earlier-from : Extends log nlog → Earlier z ws log now nlog
  Earlier-from x = record {
    grows = x;
    heads = λ t lt. let f = from t lt in let e = head_same z t f.0 f.1 ws log h f.4 in let g = f.3.heads t lt in omega arith;
    slots = λ t k j lt le ltj n.
        let f = from t lt in
        let e = head_same z t f.0 f.1 ws log h f.4 in
        let top = (f.2.shard t lt).head_in in
        let v : level z f.0 t k ≡ level z ws t k = level_same z t k f.0 f.1 ws log h (omega arith) f.4 in
        f.3.slots t k j lt (omega arith) ltj (λ q. n (ap (λ slots. slice_index slots j) (sym v) ∙ q)) ∙ ap (λ slots. slice_index slots j) v;
    reached = λ t k r lt low high i e.
        let f = from t lt in
        let g = head_same z t f.0 f.1 ws log h f.4 in
        f.3.reached t k r lt (omega arith) high (row_from r t lt e i) e;
  }

-- the seat's view after it took over the shard
module _ (z : Layout) (ws : List ℕ) (log : List Row) (v w : View) (h : IsLayout z) (k : Knows z ws log v) (kw : Knows z ws log w) (in_range : own_shard w < z.shards) (g : CanGather v w) where
  own : In (own_shard w) w.writes
  own = subst (In (own_shard w)) (sym g.one) (inl refl)

  rows : rows_of z (own_shard w) v.log ≡ rows_of z (own_shard w) w.log
  rows = subst (λ y. rows_of y (own_shard w) v.log ≡ rows_of y (own_shard w) w.log) k.layout g.rows

  here : Same z (own_shard w) w.words w.log (patched z v.words w.words (own_shard w)) v.log
  here = record { words = sym (patched_here z v.words w.words (own_shard w) h k.pool.long kw.pool.long in_range); rows = sym rows }

  else : (t : ℕ) → (t ≡ own_shard w → ⊥) → Same z t v.words v.log (patched z v.words w.words (own_shard w)) v.log
  else t ne = record { words = sym (patched_else z v.words w.words (own_shard w) h k.pool.long kw.pool.long in_range t ne); rows = refl }

  from : From z (patched z v.words w.words (own_shard w)) v.log ws log
  from t lt = ⊎_elim
      (λ e. (w.words, w.log, kw.pool, kw.earlier, subst (λ n. Same z n w.words w.log (patched z v.words w.words (own_shard w)) v.log) (sym e) here))
      (λ ne. (v.words, v.log, k.pool, k.earlier, else t ne)) (cases_eq t (own_shard w))

  owns_here : Same z (own_shard w) (patched z v.words w.words (own_shard w)) v.log ws log
  owns_here = let o = kw.owns (own_shard w) own in record { words = sym here.words ∙ o.words; rows = rows ∙ o.rows }

  owns : (t : ℕ) → In t (put_in (own_shard w) v.writes) → Same z t (patched z v.words w.words (own_shard w)) v.log ws log
  owns t i = ⊎_elim (λ e. subst (λ n. Same z n (patched z v.words w.words (own_shard w)) v.log ws log) (sym e) owns_here)
      (λ ne. ⊎_elim (λ e. absurd (ne e)) (λ j. let o = k.owns t j in record { words = sym (else t ne).words ∙ o.words; rows = o.rows }) (In-put_in t (own_shard w) v.writes i))
      (cases_eq t (own_shard w))

  gathered_knows : Knows z ws log (gathered v w)
  gathered_knows = record {
    layout = k.layout;
    pool = subst (λ y. IsPool z (patched y v.words w.words (own_shard w)) v.log) (sym k.layout) (IsPool-from z (patched z v.words w.words (own_shard w)) v.log ws log h from v.words k.pool (patched_long z v.words w.words (own_shard w) h k.pool.long kw.pool.long in_range));
    earlier = subst (λ y. Earlier z (patched y v.words w.words (own_shard w)) v.log ws log) (sym k.layout) (Earlier-from z (patched z v.words w.words (own_shard w)) v.log ws log h from k.earlier.grows);
    owns = λ t i. subst (λ y. Same z t (patched y v.words w.words (own_shard w)) v.log ws log) (sym k.layout) (owns t i);
    told = kw.earlier.grows;
  }

-- a view after the join: one that was there, the one that took over, or the spent one
abbrev Kind : Seats → ℕ → ℕ → View → ℕ → View → Type 0
Kind views id other l j u = ((j ≢ id) × (j ≢ other) × (get_elem? views j ≡ some u)) ⊎ (((j ≡ id) × (l ≡ u)) ⊎ (spent_view ≡ u))

kind : (views : Seats) (id other : ℕ) (l : View) (j : ℕ) (u : View) → get_elem? (set (set views id l) other spent_view) j ≡ some u → Kind views id other l j u
kind views id other l j u e = ⊎_elim (λ a. inr (inr a.1)) (λ a. ⊎_elim (λ b. inr (inl (b.0, b.1))) (λ b. inl (b.0, a.0, b.1)) (at_set views id j l u a.1)) (at_set (set views id l) other j spent_view u e)

module _ (z : Layout) (views : Seats) (id other : ℕ) (v w l : View) (h : IsShared z views) (at : get_elem? views id ≡ some v) (there : get_elem? views other ≡ some w) (ne : other ≢ id) (s : ℕ) (one : w.writes ≡ s ∷ []) (put : l.writes ≡ put_in s v.writes) where
  mine : In s w.writes
  mine = subst (In s) (sym one) (inl refl)

  not_there : In s v.writes → ⊥
  not_there i = ne (h.alone other id w v s there at mine i)

  -- the shards of the view that took over
  of_left : (u : View) (t : ℕ) → l ≡ u → In t u.writes → (t ≡ s) ⊎ In t v.writes
  of_left u t e i = In-put_in t s v.writes (subst (In t) put (subst (λ (y : View). In t y.writes) (sym e) i))

  of_spent : (u : View) (t : ℕ) → spent_view ≡ u → In t u.writes → ⊥
  of_spent u t e i = subst (λ (y : View). In t y.writes) (sym e) i

  in_range : (j : ℕ) (u : View) (t : ℕ) → Kind views id other l j u → In t u.writes → t < z.shards
  in_range j u t k i = ⊎_elim (λ a. h.in_range j u t a.2 i)
      (λ b. ⊎_elim (λ c. ⊎_elim (λ e. h.in_range other w t there (subst (λ n. In n w.writes) (sym e) mine)) (λ o. h.in_range id v t at o) (of_left u t c.1 i)) (λ c. absurd (of_spent u t c i)) b) k

  -- an old view and the one that took over do not write one shard
  old_left : (j : ℕ) (u y : View) (t : ℕ) → j ≢ id → j ≢ other → get_elem? views j ≡ some u → l ≡ y → In t u.writes → In t y.writes → ⊥
  old_left j u y t a b g e i i' = ⊎_elim (λ c. b (h.alone j other u w t g there i (subst (λ n. In n w.writes) (sym c) mine))) (λ o. a (h.alone j id u v t g at i o)) (of_left y t e i')

  alone : (j j' : ℕ) (u u' : View) (t : ℕ) → Kind views id other l j u → Kind views id other l j' u' → In t u.writes → In t u'.writes → j ≡ j'
  alone j j' u u' t k k' i i' = ⊎_elim
      (λ a. ⊎_elim (λ a'. h.alone j j' u u' t a.2 a'.2 i i')
      (λ b'. ⊎_elim (λ c'. absurd (old_left j u u' t a.0 a.1 a.2 c'.1 i i')) (λ c'. absurd (of_spent u' t c' i')) b') k')
      (λ b. ⊎_elim
      (λ c. ⊎_elim (λ a'. absurd (old_left j' u' u t a'.0 a'.1 a'.2 c.1 i' i)) (λ b'. ⊎_elim (λ c'. c.0 ∙ sym c'.0) (λ c'. absurd (of_spent u' t c' i')) b') k')
      (λ c. absurd (of_spent u t c i)) b) k

  left_there : get_elem? (set (set views id l) other spent_view) id ≡ some l
  left_there = set_else (set views id l) other id spent_view (λ e. ne (sym e)) ∙ set_there views id l v at

  owned : (t : ℕ) (j : ℕ) (u : View) → get_elem? views j ≡ some u → In t u.writes → (n : ℕ) × (x : View) × (get_elem? (set (set views id l) other spent_view) n ≡ some x) × In t x.writes
  owned t j u g i = ⊎_elim
      (λ e. let f : v ≡ u = some-injective v u (sym at ∙ subst (λ n. get_elem? views n ≡ some u) e g) in
      (id, l, left_there, subst (In t) (sym put) (put_in-there t s v.writes (subst (λ (y : View). In t y.writes) (sym f) i))))
      (λ a. ⊎_elim
      (λ e. let f : w ≡ u = some-injective w u (sym there ∙ subst (λ n. get_elem? views n ≡ some u) e g) in
      let o : In t (s ∷ []) = subst (In t) one (subst (λ (y : View). In t y.writes) (sym f) i) in
      (id, l, left_there, subst (In t) (sym put) (⊎_elim (λ c. subst (λ n. In n (put_in s v.writes)) (sym c) (put_in-here s v.writes)) (λ c. absurd c) o)))
      (λ b. (j, u, set_else (set views id l) other j spent_view b ∙ (set_else views id j l a ∙ g), i))
      (cases_eq j other))
      (cases_eq j id)

  falling : (j : ℕ) (u : View) → Kind views id other l j u → Falls u.writes
  falling j u k = ⊎_elim (λ a. h.falling j u a.2)
      (λ b. ⊎_elim (λ c. subst (λ (y : View). Falls y.writes) c.1 (subst Falls (sym put) (Falls-put_in s v.writes (h.falling id v at) not_there))) (λ c. subst (λ (y : View). Falls y.writes) c tt) b) k

  IsShared-gather : IsShared z (set (set views id l) other spent_view)
  IsShared-gather = record {
    falling = λ j u g. falling j u (kind views id other l j u g);
    in_range = λ j u t g i. in_range j u t (kind views id other l j u g) i;
    alone = λ j j' u u' t g g' i i'. alone j j' u u' t (kind views id other l j u g) (kind views id other l j' u' g') i i';
    owned = λ t lt. let o = h.owned t lt in owned t o.0 o.1 o.2 o.3;
  }

pub gathers : {S : Type 0} (z : Layout) (id : ℕ) (v : View) (other : ℕ) (w : View) → IsLive v → IsLive w → CanGather v w → Joins {S = S} (Holds z) id v other w (gathered v w) spent_view
gathers z id v other w lv lw g st h at ne there =
    let k = h.known id v at lv in
    let before : get_elem? st.views other ≡ some w = sym (set_else st.views id other (gathered v w) ne) ∙ there in
    let kw = h.known other w before lw in
    let s : own_shard w < z.shards = h.shared.in_range other w (own_shard w) before (subst (In (own_shard w)) (sym g.one) (inl refl)) in
    let knows = gathered_knows z st.words h.log v w h.laid k kw s g in
    record {
      log = h.log;
      laid = h.laid;
      pool = h.pool;
      known = λ j u e live. ⊎_elim (λ a. h.known j u a.2 live) (λ b. ⊎_elim (λ c. subst (Knows z st.words h.log) c.1 knows) (λ c. absurd (dead u c live)) b) (kind st.views id other (gathered v w) j u e);
      shared = IsShared-gather z st.views id other v w (gathered v w) h.shared at before ne (own_shard w) g.one refl;
    }
