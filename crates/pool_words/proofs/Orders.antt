-- Pools in the order of their steps, and shards that stay.
use Rattle.std.proofs.Common.{◌≡◌, ◌≢◌, ⊎_elim, ℕ, suc, ◌+◌, ◌-◌, ◌<◌, ◌≤◌, List, [], ◌∷◌, ◌++◌, length, set, take, refl, sym, ap, ◌∙◌, subst, arith, slice_index}
use Rattle.std.proofs.lemmas.Bool.{cases_eq, cases_lt}
use Rattle.std.proofs.lemmas.List.{take_all}
use Rattle.pool_words.specs.declared.view.Layout.{Layout}
use Rattle.pool_words.specs.Layout.{Row, window, width, half, level_at, spot, used, shard_of, base, start, rows_of, head, level, IsLayout}
use Rattle.pool_words.specs.Rule.{In, Stands, HasRows, IsPool, Earlier, Same}
use Rattle.pool_words.specs.Views.{IsFree, IsNext, IsFull}
use Rattle.pool_words.proofs.Windows.{window_out, window_at, window_part, index_part}
use Rattle.pool_words.proofs.Members.{In-extends, Extends-refl, Extends-trans, Extends-push, In-rows_of, rows_of-append}
use Rattle.pool_words.proofs.Places.{level_ends, start_low, start_pos, other_shard}
use Rattle.pool_words.proofs.Levels.{KeepsSlots, Stands-kept, set_keeps}
use Rattle.pool_words.proofs.Shards.{Spares, head_spared, level_spared, private_spares, publish_spares, publish_head, publish_live, publish_else}

-- each row of a shard stands in its live level
pub stands_live : (z : Layout) (ws : List ℕ) (log : List Row) (s : ℕ) (r : Row) → s < z.shards → IsPool z ws log → In r log → shard_of z r.1 ≡ s → Stands (level z ws s (head z ws s)) (head z ws s) r
stands_live z ws log s r l p i e =
    let b = p.shard s l in
    let all = take_all (b.held (head z ws s)) (rows_of z s log) (let v = b.live in omega arith) in
    let has : HasRows (level z ws s (head z ws s)) (head z ws s) (rows_of z s log) = subst (HasRows (level z ws s (head z ws s)) (head z ws s)) all (b.has (head z ws s) b.head_in) in
    has.stands r (In-rows_of z s r log e i)

pub Earlier-refl : (z : Layout) (ws : List ℕ) (log : List Row) → IsPool z ws log → Earlier z ws log ws log
Earlier-refl z ws log p = record {
  grows = Extends-refl log;
  heads = λ s l. omega arith;
  slots = λ s k j l le lt n. refl;
  reached = λ s k r l low high i e. let m : head z ws s ≡ k = omega arith in subst (λ n. Stands (level z ws s n) n r) m (stands_live z ws log s r l p i e);
}

pub Earlier-trans : (z : Layout) (ws : List ℕ) (log : List Row) (ws' : List ℕ) (log' : List Row) (ws'' : List ℕ) (log'' : List Row)
    → Earlier z ws log ws' log' → Earlier z ws' log' ws'' log'' → Earlier z ws log ws'' log''
Earlier-trans z ws log ws' log' ws'' log'' a b = record {
  grows = Extends-trans log log' log'' a.grows b.grows;
  heads = λ s l. let c = a.heads s l in let d = b.heads s l in omega arith;
  slots = λ s k j l le lt n.
      let e = a.slots s k j l le lt n in
      let c = a.heads s l in
      b.slots s k j l (omega arith) lt (λ q. n (sym e ∙ q)) ∙ e;
  reached = λ s k r l low high i e.
      ⊎_elim (λ g. b.reached s k r l (omega arith) high (In-extends r log log' a.grows i) e)
      (λ m. Stands-kept (level z ws' s k) (level z ws'' s k) k r (λ j lt n. b.slots s k j l m lt n) (a.reached s k r l low m i e))
      (cases_lt (head z ws' s) k);
}

-- the same levels and heads, with what was there and perhaps more
pub Earlier-spared : (z : Layout) (ws : List ℕ) (log : List Row) (i x : ℕ) → IsPool z ws log → ((s : ℕ) → Spares z s i) → Earlier z ws log (set ws i x) log
Earlier-spared z ws log i x p h = record {
  grows = Extends-refl log;
  heads = λ s l. let e = head_spared z ws s i x (h s) in omega arith;
  slots = λ s k j l le lt n. let t = (p.shard s l).head_in in ap (λ slots. slice_index slots j) (level_spared z ws s k i x (omega arith) (h s));
  reached = λ s k r l low high q e.
      let f = head_spared z ws s i x (h s) in
      let m : head z ws s ≡ k = omega arith in
      let t = (p.shard s l).head_in in
      let g : level z (set ws i x) s k ≡ level z ws s k = level_spared z ws s k i x (omega arith) (h s) in
      subst (λ slots. Stands slots k r) (sym g) (subst (λ n. Stands (level z ws s n) n r) m (stands_live z ws log s r l p q e));
}

pub Earlier-private : (z : Layout) (ws : List ℕ) (log : List Row) (s i x : ℕ) → IsLayout z → IsPool z ws log → s < z.shards → base z s + (start z + used (rows_of z s log)) ≤ i → i < base z s + z.size → Earlier z ws log (set ws i x) log
Earlier-private z ws log s i x h p l above inside = Earlier-spared z ws log i x p (private_spares z ws log s i x h p l above inside)

module _ (z : Layout) (ws : List ℕ) (log : List Row) (word : ℕ) (r : Row) (h : IsLayout z) (p : IsPool z ws log) (f : IsFree z ws log word r) where
  heads_stay : (s : ℕ) → head z (set ws word (r.0 + 1)) s ≡ head z ws s
  heads_stay s = ⊎_elim (λ e. subst (λ t. head z (set ws word (r.0 + 1)) t ≡ head z ws t) e (publish_head z ws log word r h p f)) (λ ne. head_spared z ws s word (r.0 + 1) (publish_spares z ws log word r h p f s ne)) (cases_eq (shard_of z r.1) s)

  slots_stay : (s k : ℕ) → k ≤ z.top → KeepsSlots (level z ws s k) (level z (set ws word (r.0 + 1)) s k) k
  slots_stay s k le = ⊎_elim (λ e. subst (λ t. KeepsSlots (level z ws t k) (level z (set ws word (r.0 + 1)) t k) k) e (own_stay k le)) (λ ne j l n. ap (λ slots. slice_index slots j) (level_spared z ws s k word (r.0 + 1) le (publish_spares z ws log word r h p f s ne))) (cases_eq (shard_of z r.1) s)
    where
      own_stay : (k : ℕ) → k ≤ z.top → KeepsSlots (level z ws (shard_of z r.1) k) (level z (set ws word (r.0 + 1)) (shard_of z r.1) k) k
      own_stay k le = ⊎_elim
          (λ e. subst (λ m. KeepsSlots (level z ws (shard_of z r.1) m) (level z (set ws word (r.0 + 1)) (shard_of z r.1) m) m) (sym e)
          (λ j l n. ap (λ slots. slice_index slots j) (publish_live z ws log word r h p f) ∙ set_keeps (level z ws (shard_of z r.1) (head z ws (shard_of z r.1))) (head z ws (shard_of z r.1)) (spot r.1 (head z ws (shard_of z r.1)) f.far) (r.0 + 1) f.free j l n))
          (λ ne j l n. ap (λ slots. slice_index slots j) (publish_else z ws log word r h p f k le ne))
          (cases_eq k (head z ws (shard_of z r.1)))

  pub Earlier-publish : Earlier z ws log (set ws word (r.0 + 1)) (log ++ r ∷ [])
  Earlier-publish = record {
    grows = Extends-push log r;
    heads = λ s l. let e = heads_stay s in omega arith;
    slots = λ s k j l le lt n. let t = (p.shard s l).head_in in slots_stay s k (omega arith) j lt n;
    reached = λ s k q l low high i e.
        let g = heads_stay s in
        let m : head z ws s ≡ k = omega arith in
        let t = (p.shard s l).head_in in
        Stands-kept (level z ws s k) (level z (set ws word (r.0 + 1)) s k) k q (slots_stay s k (omega arith)) (subst (λ n. Stands (level z ws s n) n q) m (stands_live z ws log s q l p i e));
  }

pub Same-refl : (z : Layout) (s : ℕ) (ws : List ℕ) (log : List Row) → Same z s ws log ws log
Same-refl z s ws log = record { words = refl; rows = refl }

pub Same-trans : (z : Layout) (s : ℕ) (ws : List ℕ) (log : List Row) (ws' : List ℕ) (log' : List Row) (ws'' : List ℕ) (log'' : List Row)
    → Same z s ws log ws' log' → Same z s ws' log' ws'' log'' → Same z s ws log ws'' log''
Same-trans z s ws log ws' log' ws'' log'' a b = record { words = a.words ∙ b.words; rows = a.rows ∙ b.rows }

-- a store elsewhere leaves a shard, and the same store in both does
pub Same-other : (z : Layout) (s t i x : ℕ) (ws : List ℕ) (log : List Row) → (s ≡ t → ⊥) → base z s ≤ i → i < base z s + z.size → Same z t ws log (set ws i x) log
Same-other z s t i x ws log ne low high = record { words = sym (window_out ws (base z t) z.size i x (other_shard z s t i ne low high)); rows = refl }

set_both : (z : Layout) (s i x : ℕ) (ws ws' : List ℕ) → base z s ≤ i → i < base z s + z.size → window ws (base z s) z.size ≡ window ws' (base z s) z.size → window (set ws i x) (base z s) z.size ≡ window (set ws' i x) (base z s) z.size
set_both z s i x ws ws' low high e =
    let d : i ≡ base z s + (i - base z s) = omega arith in
    window_at ws (base z s) z.size i (i - base z s) x d (omega arith) ∙ ap (λ us. set us (i - base z s) x) e ∙ sym (window_at ws' (base z s) z.size i (i - base z s) x d (omega arith))

pub Same-set : (z : Layout) (s t i x : ℕ) (ws : List ℕ) (log : List Row) (ws' : List ℕ) (log' : List Row) → base z s ≤ i → i < base z s + z.size → Same z t ws log ws' log' → Same z t (set ws i x) log (set ws' i x) log'
Same-set z s t i x ws log ws' log' low high h = ⊎_elim
    (λ e. let f : base z s ≡ base z t = ap (base z) e in record { words = set_both z t i x ws ws' (omega arith) (omega arith) h.words; rows = h.rows })
    (λ ne. let o = other_shard z s t i ne low high in record { words = window_out ws (base z t) z.size i x o ∙ h.words ∙ sym (window_out ws' (base z t) z.size i x o); rows = h.rows })
    (cases_eq s t)

pub Same-push : (z : Layout) (t : ℕ) (ws : List ℕ) (log : List Row) (ws' : List ℕ) (log' : List Row) (r : Row) → Same z t ws log ws' log' → Same z t ws (log ++ r ∷ []) ws' (log' ++ r ∷ [])
Same-push z t ws log ws' log' r h = record {
  words = h.words;
  rows = rows_of-append z t log (r ∷ []) ∙ ap (λ (l : List Row). l ++ rows_of z t (r ∷ [])) h.rows ∙ sym (rows_of-append z t log' (r ∷ []));
}

-- what is read in a shard is the same where the shard is
pub head_same : (z : Layout) (s : ℕ) (ws : List ℕ) (log : List Row) (ws' : List ℕ) (log' : List Row) → IsLayout z → Same z s ws log ws' log' → head z ws s ≡ head z ws' s
head_same z s ws log ws' log' h e = let l = start_low z h in let q = start_pos z in index_part ws ws' (base z s) z.size (base z s) e.words (omega arith) (omega arith)

pub level_same : (z : Layout) (s k : ℕ) (ws : List ℕ) (log : List Row) (ws' : List ℕ) (log' : List Row) → IsLayout z → k ≤ z.top → Same z s ws log ws' log' → level z ws s k ≡ level z ws' s k
level_same z s k ws log ws' log' h le e = let l = level_ends z k le in let q = start_low z h in window_part ws ws' (base z s) z.size (base z s + level_at k) (width k) e.words (omega arith) (omega arith)

-- what may be published in a shard may be so where the shard is the same
pub IsFree-same : (z : Layout) (ws : List ℕ) (log : List Row) (ws' : List ℕ) (log' : List Row) (word : ℕ) (r : Row) → IsLayout z → head z ws (shard_of z r.1) ≤ z.top → Same z (shard_of z r.1) ws log ws' log' → IsFree z ws log word r → IsFree z ws' log' word r
IsFree-same z ws log ws' log' word r h top e f =
    let s : ℕ = shard_of z r.1 in
    let hd : head z ws (shard_of z r.1) ≡ head z ws' (shard_of z r.1) = head_same z (shard_of z r.1) ws log ws' log' h e in
    let lv : level z ws (shard_of z r.1) (head z ws (shard_of z r.1)) ≡ level z ws' (shard_of z r.1) (head z ws (shard_of z r.1)) = level_same z (shard_of z r.1) (head z ws (shard_of z r.1)) ws log ws' log' h top e in
    let u : used (rows_of z (shard_of z r.1) log) ≡ used (rows_of z (shard_of z r.1) log') = ap used e.rows in
    let a = f.behind in
    let b = f.room in
    record {
      some = f.some;
      few = f.few;
      behind = omega arith;
      room = omega arith;
      whole = sym (window_part ws ws' (base z (shard_of z r.1)) z.size r.0 (suc (length r.1)) e.words (omega arith) (omega arith)) ∙ f.whole;
      few_rows = subst (λ n. length (rows_of z (shard_of z r.1) log') < half n) hd (subst (λ (l : List Row). length l < half (head z ws (shard_of z r.1))) e.rows f.few_rows);
      far = f.far;
      within = subst (λ n. f.far < width n) hd f.within;
      slot = subst (λ n. word ≡ base z (shard_of z r.1) + (level_at n + spot r.1 n f.far)) hd f.slot;
      free = subst (λ n. slice_index (level z ws' (shard_of z r.1) n) (spot r.1 n f.far) ≡ 0) hd (subst (λ slots. slice_index slots (spot r.1 (head z ws (shard_of z r.1)) f.far) ≡ 0) lv f.free);
      run = λ d l. subst (λ n. slice_index (level z ws' (shard_of z r.1) n) (spot r.1 n d) ≢ 0) hd (subst (λ slots. slice_index slots (spot r.1 (head z ws (shard_of z r.1)) d) ≢ 0) lv (f.run d l));
      new = λ i m. f.new i (subst (In (i, r.1)) (sym e.rows) m);
    }

-- what may be filled in, or is full, is so where the shard is the same
pub IsNext-same : (z : Layout) (ws : List ℕ) (log : List Row) (ws' : List ℕ) (log' : List Row) (s h n word : ℕ) (r : Row) → IsLayout z → Same z s ws log ws' log' → IsNext z ws log s h n word r → IsNext z ws' log' s h n word r
IsNext-same z ws log ws' log' s h n word r l e f =
    let t = f.below_top in
    let lv : level z ws s (suc h) ≡ level z ws' s (suc h) = level_same z s (suc h) ws log ws' log' l (omega arith) e in
    record {
      live = sym (head_same z s ws log ws' log' l e) ∙ f.live;
      below_top = f.below_top;
      filled = subst (λ slots. HasRows slots (suc h) (take n (rows_of z s log'))) lv (subst (λ (rows : List Row). HasRows (level z ws s (suc h)) (suc h) (take n rows)) e.rows f.filled);
      left = subst (λ (rows : List Row). n < length rows) e.rows f.left;
      next = subst (λ (rows : List Row). take (suc n) rows ≡ take n rows ++ r ∷ []) e.rows f.next;
      far = f.far;
      within = f.within;
      slot = f.slot;
      free = subst (λ slots. slice_index slots (spot r.1 (suc h) f.far) ≡ 0) lv f.free;
      run = λ d m. subst (λ slots. slice_index slots (spot r.1 (suc h) d) ≢ 0) lv (f.run d m);
    }

pub IsFull-same : (z : Layout) (ws : List ℕ) (log : List Row) (ws' : List ℕ) (log' : List Row) (s h : ℕ) → IsLayout z → Same z s ws log ws' log' → IsFull z ws log s h → IsFull z ws' log' s h
IsFull-same z ws log ws' log' s h l e f =
    let t = f.below_top in
    let lv : level z ws s (suc h) ≡ level z ws' s (suc h) = level_same z s (suc h) ws log ws' log' l (omega arith) e in
    record {
      live = sym (head_same z s ws log ws' log' l e) ∙ f.live;
      below_top = f.below_top;
      filled = subst (λ slots. HasRows slots (suc h) (rows_of z s log')) lv (subst (HasRows (level z ws s (suc h)) (suc h)) e.rows f.filled);
      many = subst (λ (rows : List Row). half h ≤ length rows) e.rows f.many;
    }
