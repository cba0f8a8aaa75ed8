-- Each kind of step keeps the rule.
use Rattle.std.proofs.Common.{◌≡◌, ◌≢◌, ⊎_elim, ℕ, zero, suc, ◌+◌, ◌<◌, ◌≤◌, List, [], ◌∷◌, ◌++◌, length, set, refl, sym, ap, ◌∙◌, subst, arith, slice_index}
use Rattle.std.proofs.lemmas.Bool.{cases_eq}
use Rattle.std.proofs.lemmas.List.{set-get_or}
use mathlib.Core.Option.{Option, some, none, some-injective, some-ne-none}
use lib.ListN.{get_elem?}
use Rattle.atomic_table.specs.Table.{State, Me, step, keeps, Allows, stepped}
use Rattle.atomic_table.proofs.Lists.{at_set, set_else}
use Rattle.pool_words.specs.declared.view.Layout.{Layout}
use Rattle.pool_words.specs.declared.view.View.{View}
use Rattle.pool_words.specs.Layout.{Row, window, used, shard_of, base, start, rows_of}
use Rattle.pool_words.specs.Rule.{In, IsPool, Earlier, Same, Extends}
use Rattle.pool_words.specs.Views.{IsLive, Seats, Falls, Knows, IsShared, Holds, Moves, Shown, IsPrivate, IsFree, IsReady, IsNext, IsFull, CanFill, CanMove, loaded, stored, published}
use Rattle.pool_words.proofs.Windows.{one_row}
use Rattle.pool_words.proofs.Members.{Extends-trans, rows_of-other}
use Rattle.pool_words.proofs.Places.{start_low, start_pos, shard_in}
use Rattle.pool_words.proofs.Shards.{IsPool-private, IsPool-publish, publish_low, publish_high}
use Rattle.pool_words.proofs.Orders.{Earlier-refl, Earlier-trans, Earlier-private, Earlier-publish, Same-refl, Same-trans, Same-other, Same-set, Same-push, IsFree-same, IsNext-same, IsFull-same}
use Rattle.pool_words.proofs.Growing.{fill_low, fill_high, IsPool-fill, Earlier-fill, IsPool-move, Earlier-move}

pub set_there : {A : Type 0} (l : List A) (i : ℕ) (a b : A) → get_elem? l i ≡ some b → get_elem? (set l i a) i ≡ some a
set_there [] i a b e = absurd (some-ne-none b (sym e))
set_there (x ∷ xs) zero a b e = refl
set_there (x ∷ xs) (suc i) a b e = set_there xs i a b e

-- a seat may take any new view of its own shards
module _ (z : Layout) (views : Seats) (id : ℕ) (v w : View) (h : IsShared z views) (at : get_elem? views id ≡ some v) (same : w.writes ≡ v.writes) where
  -- a view after the change was there before, with what it writes
  was : (j : ℕ) (u : View) → get_elem? (set views id w) j ≡ some u → (x : View) × (get_elem? views j ≡ some x) × (x.writes ≡ u.writes)
  was j u e = ⊎_elim (λ t. (v, subst (λ n. get_elem? views n ≡ some v) (sym t.0) at, sym same ∙ ap (λ (y : View). y.writes) t.1)) (λ t. (u, t.1, refl)) (at_set views id j w u e)

  is_owned : (s : ℕ) → (j : ℕ) (u : View) → get_elem? views j ≡ some u → In s u.writes → (k : ℕ) × (x : View) × (get_elem? (set views id w) k ≡ some x) × In s x.writes
  is_owned s j u g i = ⊎_elim
      (λ e.
      let f : v ≡ u = some-injective v u (sym at ∙ subst (λ n. get_elem? views n ≡ some u) e g) in
      (id, w, set_there views id w v at, subst (In s) (ap (λ (y : View). y.writes) (sym f) ∙ sym same) i))
      (λ ne. (j, u, set_else views id j w ne ∙ g, i))
      (cases_eq j id)

  pub IsShared-set : IsShared z (set views id w)
  IsShared-set = record {
    falling = λ j u g. let x = was j u g in subst Falls x.2 (h.falling j x.0 x.1);
    in_range = λ j u s g i. let x = was j u g in h.in_range j x.0 s x.1 (subst (In s) (sym x.2) i);
    alone = λ j j' u u' s g g' i i'. let x = was j u g in let x' = was j' u' g' in h.alone j j' x.0 x'.0 s x.1 x'.1 (subst (In s) (sym x.2) i) (subst (In s) (sym x'.2) i');
    owned = λ s l. let o = h.owned s l in is_owned s o.0 o.1 o.2 o.3;
  }

-- a step of a seat by which the pool goes on, and only its own shards change
Holds-step : {S : Type 0} (z : Layout) (st : State S View) (id : ℕ) (v w : View) (ws : List ℕ) (log : List Row) (homes : List (Option S)) (h : Holds z st) → get_elem? st.views id ≡ some v → w.writes ≡ v.writes
    → IsPool z ws log → Earlier z st.words h.log ws log → ((t : ℕ) → (In t v.writes → ⊥) → Same z t st.words h.log ws log) → Knows z ws log w
    → Holds z record { words = ws; homes = homes; views = set st.views id w }
Holds-step {S} z st id v w ws log homes h at same pool earlier others knows = record {
  log = log;
  laid = h.laid;
  pool = pool;
  known = λ j u g live. ⊎_elim (λ t. subst (Knows z ws log) t.1 knows) (λ t. still j u t.0 t.1 live) (at_set st.views id j w u g);
  shared = IsShared-set z st.views id v w h.shared at same;
}
  where
    still : (j : ℕ) (u : View) → j ≢ id → get_elem? st.views j ≡ some u → IsLive u → Knows z ws log u
    still j u ne g live =
        let k = h.known j u g live in
        record {
          layout = k.layout;
          pool = k.pool;
          earlier = Earlier-trans z u.words u.log st.words h.log ws log k.earlier earlier;
          owns = λ s i. Same-trans z s u.words u.log st.words h.log ws log (k.owns s i) (others s (λ o. ne (h.shared.alone j id u v s g at i o)));
          told = Extends-trans u.told h.log log k.told earlier.grows;
        }

-- what a seat knows at its step
knows_all : (z : Layout) (w : View) → w.layout ≡ z → w.told ≡ [] → IsPool z w.words w.log → Knows z w.words w.log w
knows_all z w e t p = record { layout = e; pool = p; earlier = Earlier-refl z w.words w.log p; owns = λ s i. Same-refl z s w.words w.log; told = subst (λ (l : List Row). Extends l w.log) (sym t) (w.log, refl) }

abbrev with_pool : View → List ℕ → List Row → View
with_pool v ws log = record { layout = v.layout; words = ws; log = log; writes = v.writes; told = [] }

module _ {S : Type 0} (st : State S View) (id : ℕ) (v : View) (h : Holds v.layout st) (at : get_elem? st.views id ≡ some v) (live : IsLive v) (homes : List (Option S)) where
  load_holds : Holds v.layout record { words = st.words; homes = homes; views = set st.views id (with_pool v st.words h.log) }
  load_holds =
      let w = with_pool v st.words h.log in
      Holds-step v.layout st id v w st.words h.log homes h at refl h.pool (Earlier-refl v.layout st.words h.log h.pool) (λ t n. Same-refl v.layout t st.words h.log) (knows_all v.layout w refl refl h.pool)

  load_moves : Shown v (with_pool v st.words h.log)
  load_moves = let k = h.known id v at live in record { layout = refl; writes = refl; laid = h.laid; pool = h.pool; later = k.earlier; owns = k.owns; heard = k.told; told = refl }

  module _ (i x : ℕ) (pr : IsPrivate v i) where
    in_range : pr.shard < v.layout.shards
    in_range = h.shared.in_range id v pr.shard at pr.ours

    above : base v.layout pr.shard + (start v.layout + used (rows_of v.layout pr.shard h.log)) ≤ i
    above = let k = h.known id v at live in subst (λ (l : List Row). base v.layout pr.shard + (start v.layout + used l) ≤ i) (k.owns pr.shard pr.ours).rows pr.above

    low : base v.layout pr.shard ≤ i
    low = let a = pr.above in omega arith

    store_pool : IsPool v.layout (set st.words i x) h.log
    store_pool = IsPool-private v.layout st.words h.log pr.shard i x h.laid h.pool in_range above pr.inside

    store_earlier : Earlier v.layout st.words h.log (set st.words i x) h.log
    store_earlier = Earlier-private v.layout st.words h.log pr.shard i x h.laid h.pool in_range above pr.inside

    store_holds : Holds v.layout record { words = set st.words i x; homes = homes; views = set st.views id (with_pool v (set st.words i x) h.log) }
    store_holds =
        let w = with_pool v (set st.words i x) h.log in
        Holds-step v.layout st id v w (set st.words i x) h.log homes h at refl store_pool store_earlier
        (λ t n. Same-other v.layout pr.shard t i x st.words h.log (λ e. n (subst (λ s. In s v.writes) e pr.ours)) low pr.inside) (knows_all v.layout w refl refl store_pool)

    store_moves : Moves v (set v.words i x) v.log (with_pool v (set st.words i x) h.log)
    store_moves =
        let k = h.known id v at live in
        record {
          layout = refl;
          writes = refl;
          laid = h.laid;
          pool = store_pool;
          later = Earlier-trans v.layout v.words v.log st.words h.log (set st.words i x) h.log k.earlier store_earlier;
          owns = λ s o. Same-set v.layout pr.shard s i x v.words v.log st.words h.log low pr.inside (k.owns s o);
          heard = k.told;
          told = refl;
        }

  module _ (word : ℕ) (r : Row) (rd : IsReady v word r) where
    at_state : IsFree v.layout st.words h.log word r
    at_state =
        let k = h.known id v at live in
        let b = (k.pool.shard (shard_of v.layout r.1) (shard_in v.layout r.1 h.laid)).head_in in
        IsFree-same v.layout v.words v.log st.words h.log word r h.laid b (k.owns (shard_of v.layout r.1) rd.ours) rd.free

    from : base v.layout (shard_of v.layout r.1) < word
    from = publish_low v.layout st.words h.log word r h.laid h.pool at_state

    to : word < base v.layout (shard_of v.layout r.1) + v.layout.size
    to = let a = publish_high v.layout st.words h.log word r h.laid h.pool at_state in let b = start_low v.layout h.laid in omega arith

    publish_pool : IsPool v.layout (set st.words word (r.0 + 1)) (h.log ++ r ∷ [])
    publish_pool = IsPool-publish v.layout st.words h.log word r h.laid h.pool at_state

    publish_earlier : Earlier v.layout st.words h.log (set st.words word (r.0 + 1)) (h.log ++ r ∷ [])
    publish_earlier = Earlier-publish v.layout st.words h.log word r h.laid h.pool at_state

    others : (t : ℕ) → (In t v.writes → ⊥) → Same v.layout t st.words h.log (set st.words word (r.0 + 1)) (h.log ++ r ∷ [])
    others t n =
        let ne : shard_of v.layout r.1 ≡ t → ⊥ = λ e. n (subst (λ s. In s v.writes) e rd.ours) in
        let a = from in
        record {
          words = (Same-other v.layout (shard_of v.layout r.1) t word (r.0 + 1) st.words h.log ne (omega arith) to).words;
          rows = sym (rows_of-other v.layout t h.log r ne);
        }

    publish_holds : Holds v.layout record { words = set st.words word (r.0 + 1); homes = homes; views = set st.views id (with_pool v (set st.words word (r.0 + 1)) (h.log ++ r ∷ [])) }
    publish_holds =
        let w = with_pool v (set st.words word (r.0 + 1)) (h.log ++ r ∷ []) in
        Holds-step v.layout st id v w (set st.words word (r.0 + 1)) (h.log ++ r ∷ []) homes h at refl publish_pool publish_earlier others (knows_all v.layout w refl refl publish_pool)

    publish_moves : Moves v (set v.words word (r.0 + 1)) (v.log ++ r ∷ []) (with_pool v (set st.words word (r.0 + 1)) (h.log ++ r ∷ []))
    publish_moves =
        let k = h.known id v at live in
        let a = from in
        record {
          layout = refl;
          writes = refl;
          laid = h.laid;
          pool = publish_pool;
          later = Earlier-trans v.layout v.words v.log st.words h.log (set st.words word (r.0 + 1)) (h.log ++ r ∷ []) k.earlier publish_earlier;
          owns = λ s o. Same-push v.layout s (set v.words word (r.0 + 1)) v.log (set st.words word (r.0 + 1)) h.log r (Same-set v.layout (shard_of v.layout r.1) s word (r.0 + 1) v.words v.log st.words h.log (omega arith) to (k.owns s o));
          heard = Extends-trans v.told h.log (h.log ++ r ∷ []) k.told publish_earlier.grows;
          told = refl;
        }

module _ {S : Type 0} (st : State S View) (id : ℕ) (v : View) (h : Holds v.layout st) (at : get_elem? st.views id ≡ some v) (live : IsLive v) (homes : List (Option S)) (s word x : ℕ) (ours : In s v.writes) (from : base v.layout s ≤ word) (to : word < base v.layout s + start v.layout)
    (pool : IsPool v.layout (set st.words word x) h.log) (earlier : Earlier v.layout st.words h.log (set st.words word x) h.log) where
  within : word < base v.layout s + v.layout.size
  within = let a = start_low v.layout h.laid in omega arith

  level_holds : Holds v.layout record { words = set st.words word x; homes = homes; views = set st.views id (with_pool v (set st.words word x) h.log) }
  level_holds =
      let w = with_pool v (set st.words word x) h.log in
      Holds-step v.layout st id v w (set st.words word x) h.log homes h at refl pool earlier
      (λ t n. Same-other v.layout s t word x st.words h.log (λ e. n (subst (λ s. In s v.writes) e ours)) from within) (knows_all v.layout w refl refl pool)

  level_moves : Moves v (set v.words word x) v.log (with_pool v (set st.words word x) h.log)
  level_moves =
      let k = h.known id v at live in
      record {
        layout = refl;
        writes = refl;
        laid = h.laid;
        pool = pool;
        later = Earlier-trans v.layout v.words v.log st.words h.log (set st.words word x) h.log k.earlier earlier;
        owns = λ t o. Same-set v.layout s t word x v.words v.log st.words h.log from within (k.owns t o);
        heard = k.told;
        told = refl;
      }

one_pair : (r q : Row) → r.0 ≡ q.0 → r.1 ≡ q.1 → r ≡ q
one_pair r q a b = λ i. (a i, b i)

-- the word tells which row was published
one_ready : (v : View) (word : ℕ) (r q : Row) → IsReady v word r → IsReady v word q → q.0 + 1 ≡ r.0 + 1 → q ≡ r
one_ready v word r q a b e =
    let p : q.0 ≡ r.0 = omega arith in
    let w = subst (λ n. window v.words n (suc (length q.1)) ≡ length q.1 ∷ q.1) p b.free.whole in
    one_pair q r p (one_row v.words r.0 q.1 r.1 w a.free.whole)

module _ {S : Type 0} (z : Layout) (slots id : ℕ) (me : Me S View) (live : IsLive me.0) where
  own_layout : (st : State S View) → Holds z st → get_elem? st.views id ≡ some me.0 → (me.0.layout ≡ z) × Holds me.0.layout st
  own_layout st h at = let e = (h.known id me.0 at live).layout in (e, subst (λ y. Holds y st) (sym e) h)

  pub load_allowed : (i : ℕ) → Allows (Holds z) slots id me i (λ n. n) (loaded (step slots i 0 0 none) me)
  load_allowed i st h homes at small =
      let o = own_layout st h at in
      let w = with_pool me.0 st.words o.1.log in
      let same : set st.words i (slice_index st.words i) ≡ st.words = set-get_or st.words i 0 in (
        w,
        keeps,
        tt,
        subst (λ y. Holds y (stepped st i (slice_index st.words i) id me.1 w keeps)) o.0 (subst (λ us. Holds me.0.layout record { words = us; homes = st.homes; views = set st.views id w }) (sym same) (load_holds st id me.0 o.1 at live st.homes)),
        (load_moves st id me.0 o.1 at live st.homes, refl, refl, o.1.shared.falling id me.0 at),
      )

  pub store_allowed : (i x : ℕ) → IsPrivate me.0 i → Allows (Holds z) slots id me i (λ _. x) (λ _. stored (step slots i x 0 none) me x)
  store_allowed i x pr st h homes at small =
      let o = own_layout st h at in
      let w = with_pool me.0 (set st.words i x) o.1.log in (
        w,
        keeps,
        tt,
        subst (λ y. Holds y (stepped st i x id me.1 w keeps)) o.0 (store_holds st id me.0 o.1 at live st.homes i x pr),
        (store_moves st id me.0 o.1 at live st.homes i x pr, refl),
      )

  level_allowed : (s i x : ℕ) → In s me.0.writes → ((st : State S View) (h : Holds me.0.layout st) → get_elem? st.views id ≡ some me.0
      → (base me.0.layout s ≤ i) × (i < base me.0.layout s + start me.0.layout) × IsPool me.0.layout (set st.words i x) h.log × Earlier me.0.layout st.words h.log (set st.words i x) h.log)
      → Allows (Holds z) slots id me i (λ _. x) (λ _. stored (step slots i x 0 none) me x)
  level_allowed s i x ours good st h homes at small =
      let o = own_layout st h at in
      let g = good st o.1 at in
      let w = with_pool me.0 (set st.words i x) o.1.log in (
        w,
        keeps,
        tt,
        subst (λ y. Holds y (stepped st i x id me.1 w keeps)) o.0 (level_holds st id me.0 o.1 at live st.homes s i x ours g.0 g.1 g.2 g.3),
        (level_moves st id me.0 o.1 at live st.homes s i x ours g.0 g.1 g.2 g.3, refl),
      )

  fill_row : (i : ℕ) (s n h : ℕ) (r : Row) → In s me.0.writes → IsNext me.0.layout me.0.words me.0.log s h n i r → Allows (Holds z) slots id me i (λ _. r.0 + 1) (λ _. stored (step slots i (r.0 + 1) 0 none) me (r.0 + 1))
  fill_row i s n h r ours f = level_allowed s i (r.0 + 1) ours (λ st hs at.
      let lt = hs.shared.in_range id me.0 s at ours in
      let k = hs.known id me.0 at live in
      let g = IsNext-same me.0.layout me.0.words me.0.log st.words hs.log s h n i r hs.laid (k.owns s ours) f in
      let a = fill_low me.0.layout st.words hs.log s h n i r hs.laid hs.pool lt g in
      (omega arith, fill_high me.0.layout st.words hs.log s h n i r hs.laid hs.pool lt g, IsPool-fill me.0.layout st.words hs.log s h n i r hs.laid hs.pool lt g, Earlier-fill me.0.layout st.words hs.log s h n i r hs.laid hs.pool lt g))

  pub fill_allowed : (i x : ℕ) → CanFill me.0 i x → Allows (Holds z) slots id me i (λ _. x) (λ _. stored (step slots i x 0 none) me x)
  fill_allowed i x f = subst (λ y. Allows (Holds z) slots id me i (λ _. y) (λ _. stored (step slots i y 0 none) me y)) (sym f.is) (fill_row i f.shard f.done f.head_is f.row f.ours f.next)

  move_row : (s h : ℕ) → In s me.0.writes → IsFull me.0.layout me.0.words me.0.log s h
      → Allows (Holds z) slots id me (base me.0.layout s) (λ _. suc h) (λ _. stored (step slots (base me.0.layout s) (suc h) 0 none) me (suc h))
  move_row s h ours f = level_allowed s (base me.0.layout s) (suc h) ours (λ st hs at.
      let lt = hs.shared.in_range id me.0 s at ours in
      let k = hs.known id me.0 at live in
      let g = IsFull-same me.0.layout me.0.words me.0.log st.words hs.log s h hs.laid (k.owns s ours) f in
      let a = start_pos me.0.layout in
      (omega arith, omega arith, IsPool-move me.0.layout st.words hs.log s h hs.laid hs.pool lt g, Earlier-move me.0.layout st.words hs.log s h hs.laid hs.pool lt g))

  pub move_allowed : (i x : ℕ) → CanMove me.0 i x → Allows (Holds z) slots id me i (λ _. x) (λ _. stored (step slots i x 0 none) me x)
  move_allowed i x f = subst (λ y. Allows (Holds z) slots id me i (λ _. y) (λ _. stored (step slots i y 0 none) me y)) (sym f.is)
      (subst (λ y. Allows (Holds z) slots id me y (λ _. suc f.head_is) (λ _. stored (step slots y (suc f.head_is) 0 none) me (suc f.head_is))) (sym f.at) (move_row f.shard f.head_is f.ours f.full))

  publish_row : (i : ℕ) (r : Row) → IsReady me.0 i r → Allows (Holds z) slots id me i (λ _. r.0 + 1) (λ _. published (step slots i (r.0 + 1) 0 none) me (r.0 + 1))
  publish_row i r rd st h homes at small =
      let o = own_layout st h at in
      let w = with_pool me.0 (set st.words i (r.0 + 1)) (o.1.log ++ r ∷ []) in
      let m = publish_moves st id me.0 o.1 at live st.homes i r rd in (
        w,
        keeps,
        tt,
        subst (λ y. Holds y (stepped st i (r.0 + 1) id me.1 w keeps)) o.0 (publish_holds st id me.0 o.1 at live st.homes i r rd),
        ((λ q rq e. subst (λ (y : Row). Moves me.0 (set me.0.words i (r.0 + 1)) (me.0.log ++ y ∷ []) w) (sym (one_ready me.0 i r q rd rq (sym e))) m), refl),
      )

  pub publish_allowed : (i x : ℕ) (r : Row) → IsReady me.0 i r → x ≡ r.0 + 1 → Allows (Holds z) slots id me i (λ _. x) (λ _. published (step slots i x 0 none) me x)
  publish_allowed i x r rd e = subst (λ y. Allows (Holds z) slots id me i (λ _. y) (λ _. published (step slots i y 0 none) me y)) (sym e) (publish_row i r rd)
