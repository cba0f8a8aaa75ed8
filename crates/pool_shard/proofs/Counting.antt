-- The counts of the shards, after steps.
use Rattle.std.proofs.Common.{◌≡◌, inl, inr, ⊎_elim, ℕ, suc, ◌+◌, ◌-◌, ◌*◌, ◌^◌, ◌<◌, ◌≤◌, List, [], ◌∷◌, ◌++◌, length, set, slice_index, sym, ap, ◌∙◌, subst, arith, get_or-set_same, get_or-set_other, length-append}
use Rattle.std.proofs.lemmas.Bool.{cases_eq}
use Rattle.std.proofs.lemmas.List.{length-set}
use Rattle.atomic_table.specs.Seated.{TableId}
use Rattle.atomic_table.specs.declared.shared.Seat.{Seat}
use Rattle.pool_words.specs.declared.view.Layout.{Layout}
use Rattle.pool_words.specs.declared.view.View.{View}
use Rattle.pool_words.specs.Layout.{Row, half, used, start, rows_of, head, level, IsLayout}
use Rattle.pool_words.specs.Rule.{In, HasRows, Extends, IsPool}
use Rattle.pool_words.proofs.Members.{used-push, used-append, rows_of-append}
use Rattle.pool_words.proofs.Places.{half_is, half_mono, halves, width_low}
use Rattle.pool_shard.specs.Pairs.{Rows, GoesOn, IsAtNumbers, IsFullShard}
use Rattle.pool_shard.specs.Looks.{IsSeat, Keeps, Touches, Adds, IsReadyShard, IsPart, IsRows}
use Rattle.pool_shard.proofs.Publishing.{IsReady-keeps}

-- a shard has at most half of the slots of its last level of rows, and its words fit
pub most_rows : (z : Layout) (v : View) (s : ℕ) → IsPool z v.words v.log → s < z.shards → (length (rows_of z s v.log) ≤ half z.top) × (start z + used (rows_of z s v.log) ≤ z.size)
most_rows z v s p l =
    let b = p.shard s l in
    let h = b.halves (head z v.words s) b.head_in in
    let m = half_mono (head z v.words s) z.top b.head_in in
    let e = b.live in
    (omega arith, b.fits)

-- a shard that has as many rows, or whose row does not fit, is at the numbers
pub by_rows : (z : Layout) (v : View) (s n count taken : ℕ) → IsPool z v.words v.log → s < z.shards → IsPart z v s count taken → half z.top ≤ count → IsAtNumbers z v.log s n
by_rows z v s n count taken p l x h = let m = most_rows z v s p l in let c = x.counted in let e : length (rows_of z s v.log) ≡ half z.top = omega arith in inl (e ∙ half_is z.top)

pub by_words : (z : Layout) (v : View) (s n count taken left : ℕ) → IsPool z v.words v.log → s < z.shards → IsPart z v s count taken → left ≡ z.size - start z - taken → left < n + 1 → IsAtNumbers z v.log s n
by_words z v s n count taken left p l x e h = let m = most_rows z v s p l in let c = x.summed in inr (omega arith)

-- as many rows as a shard takes are few
pub few_rows : (z : Layout) (count : ℕ) → IsLayout z → count < half z.top → count < 2 ^ 60
few_rows z count l h = let a = halves z.top in let b = width_low z z.top l (omega arith) in omega arith

pub GoesOn-of : (p q : Rows) → q.id ≡ p.id → q.view.layout ≡ p.view.layout → IsLayout q.view.layout → Extends p.view.log q.view.log → IsPool q.view.layout q.view.words q.view.log → GoesOn p q
GoesOn-of p q e f laid x pool = record {
  id = e;
  layout = f;
  laid = laid;
  log = x;
  placed = record {
    placed = pool.placed;
    fit = λ s l. (most_rows q.view.layout q.view s pool l).1;
    most = λ s l. subst (λ n. length (rows_of q.view.layout s q.view.log) ≤ n) (half_is q.view.layout.top) (most_rows q.view.layout q.view s pool l).0;
  };
}

-- the same for rows whose seat is at a layout of their own
pub GoesOn-seat : {S : Type 0} (z : Layout) (t : TableId) (q r : Seat S View) (p : Rows) → record { id = q.table_id; view = q.me.0 } ≡ p → IsSeat z t q → IsSeat z t r → Extends q.me.0.log r.me.0.log → GoesOn p (record { id = r.table_id; view = r.me.0 })
GoesOn-seat {S} z t q r p e a b x = subst (λ (y : Rows). GoesOn y (record { id = r.table_id; view = r.me.0 })) e
    (GoesOn-of (record { id = q.table_id; view = q.me.0 }) (record { id = r.table_id; view = r.me.0 }) (b.of ∙ sym a.of) (b.layout ∙ sym a.layout) (subst IsLayout (sym b.layout) b.laid) x (subst (λ y. IsPool y r.me.0.words r.me.0.log) (sym b.layout) b.pool))

-- a shard that is full stays so
pub full_later : (p q : Rows) (s : ℕ) → GoesOn p q → s < p.view.layout.shards → IsFullShard p.view.layout p.view.log s → IsFullShard q.view.layout q.view.log s
full_later p q s g l f =
    let z : Layout = q.view.layout in
    let e : rows_of q.view.layout s q.view.log ≡ rows_of q.view.layout s p.view.log ++ rows_of q.view.layout s g.log.0 = ap (rows_of q.view.layout s) g.log.1 ∙ rows_of-append q.view.layout s p.view.log g.log.0 in
    let n : length (rows_of q.view.layout s q.view.log) ≡ length (rows_of q.view.layout s p.view.log) + length (rows_of q.view.layout s g.log.0) = ap length e ∙ length-append (rows_of q.view.layout s p.view.log) (rows_of q.view.layout s g.log.0) in
    let u : used (rows_of q.view.layout s q.view.log) ≡ used (rows_of q.view.layout s p.view.log) + used (rows_of q.view.layout s g.log.0) = ap used e ∙ used-append (rows_of q.view.layout s p.view.log) (rows_of q.view.layout s g.log.0) in
    let m = g.placed.most s (subst (λ (y : Layout). s < y.shards) (sym g.layout) l) in
    let f' : IsFullShard q.view.layout p.view.log s = subst (λ y. IsFullShard y p.view.log s) (sym g.layout) f in
    ⊎_elim (λ a. inl (let t : ℕ = 32 * 2 ^ q.view.layout.top in let a' : length (rows_of q.view.layout s p.view.log) ≡ t = a in let m' : length (rows_of q.view.layout s q.view.log) ≤ t = m in let r : length (rows_of q.view.layout s q.view.log) ≡ t = omega arith in r)) (λ b. inr (omega arith)) f'

-- a shard at the numbers of a key is full
pub full_at : (z : Layout) (log : List Row) (s n : ℕ) → n ≤ 64 → IsAtNumbers z log s n → IsFullShard z log s
full_at z log s n h f = ⊎_elim (λ a. inl a) (λ b. inr (omega arith)) f

-- the counts of a shard, after steps that keep it
pub IsPart-keeps : (z : Layout) (u v : View) (s count taken : ℕ) → u.layout ≡ z → s < z.shards → IsPool z u.words u.log → Keeps u v → In s u.writes → IsPart z u s count taken → IsPart z v s count taken
IsPart-keeps z u v s count taken e l pool k i p =
    let rows : rows_of z s v.log ≡ rows_of z s u.log = subst (λ y. rows_of y s v.log ≡ rows_of y s u.log) e (k.rows s i) in
    record {
      counted = p.counted ∙ ap length (sym rows);
      summed = p.summed ∙ ap used (sym rows);
      ready = IsReady-keeps z u v s e l pool k i p.ready;
    }

pub IsRows-keeps : {S : Type 0} (z : Layout) (t : TableId) (q r : Seat S View) (counts sums : List ℕ) → IsRows z t q counts sums → IsSeat z t r → Keeps q.me.0 r.me.0 → r.me.1 ≡ q.me.1 → IsRows z t r counts sums
IsRows-keeps z t q r counts sums h seat k slots = record {
  seat = seat;
  slots = slots ∙ h.slots;
  many_counts = h.many_counts;
  many_sums = h.many_sums;
  all = k.writes ∙ h.all;
  owns = λ s l. subst (In s) (sym k.writes) (h.owns s l);
  parts = λ s l. IsPart-keeps z q.me.0 r.me.0 s (slice_index counts s) (slice_index sums s) h.seat.layout l h.seat.pool k (h.owns s l) (h.parts s l);
}

-- a shard whose head, levels and rows are the same
pub IsPart-same : (z : Layout) (u v : View) (s count taken : ℕ) → head z v.words s ≡ head z u.words s → ((k : ℕ) → k ≤ z.top → level z v.words s k ≡ level z u.words s k) → rows_of z s v.log ≡ rows_of z s u.log → IsPart z u s count taken → IsPart z v s count taken
IsPart-same z u v s count taken hd lv rows p = record {
  counted = p.counted ∙ ap length (sym rows);
  summed = p.summed ∙ ap used (sym rows);
  ready = λ l.
      let m : suc (head z u.words s) ≤ z.top = omega arith in
      subst (λ n. HasRows (level z v.words s (suc n)) (suc n) []) (sym hd) (subst (λ slots. HasRows slots (suc (head z u.words s)) []) (sym (lv (suc (head z u.words s)) m)) (p.ready (omega arith)));
}

-- one row more in a shard
pub IsPart-adds : (z : Layout) (u v w : View) (s count taken : ℕ) (row : Row) → u.layout ≡ z → In s u.writes → Touches s u v → Adds s row v w → IsPart z u s count taken → IsPart z w s (count + 1) (taken + length row.1 + 1)
IsPart-adds z u v w s count taken row e i a b p =
    let f : v.layout ≡ z = a.layout ∙ e in
    let rows : rows_of z s v.log ≡ rows_of z s u.log = subst (λ y. rows_of y s v.log ≡ rows_of y s u.log) e (a.rows s i) in
    let new : rows_of z s w.log ≡ rows_of z s u.log ++ row ∷ [] = subst (λ y. rows_of y s w.log ≡ rows_of y s v.log ++ row ∷ []) f b.added ∙ ap (λ (l : List Row). l ++ row ∷ []) rows in
    let n : length (rows_of z s w.log) ≡ length (rows_of z s u.log) + 1 = ap length new ∙ length-append (rows_of z s u.log) (row ∷ []) in
    let m : used (rows_of z s w.log) ≡ used (rows_of z s u.log) + (length row.1 + 1) = ap used new ∙ used-push (rows_of z s u.log) row in
    let x = p.counted in
    let y = p.summed in
    record {
      counted = omega arith;
      summed = omega arith;
      ready = subst (λ y. IsReadyShard y w.words s) f b.ready;
    }

pub IsRows-adds : {S : Type 0} (z : Layout) (t : TableId) (q r : Seat S View) (v : View) (counts sums : List ℕ) (s : ℕ) (row : Row) → IsRows z t q counts sums → IsSeat z t r → s < z.shards → Touches s q.me.0 v → Adds s row v r.me.0 → r.me.1 ≡ q.me.1
    → IsRows z t r (set counts s (slice_index counts s + 1)) (set sums s (slice_index sums s + length row.1 + 1))
IsRows-adds z t q r v counts sums s row h seat lt a b slots = record {
  seat = seat;
  slots = slots ∙ h.slots;
  many_counts = length-set counts s (slice_index counts s + 1) ∙ h.many_counts;
  many_sums = length-set sums s (slice_index sums s + length row.1 + 1) ∙ h.many_sums;
  all = b.writes ∙ (a.writes ∙ h.all);
  owns = λ n l. subst (In n) (sym (b.writes ∙ a.writes)) (h.owns n l);
  parts = λ n l. ⊎_elim (λ e. subst (λ m. IsPart z r.me.0 m (slice_index (set counts s (slice_index counts s + 1)) m) (slice_index (set sums s (slice_index sums s + length row.1 + 1)) m)) (sym e) own) (λ ne. other n l ne) (cases_eq n s);
}
  where
    lu : q.me.0.layout ≡ z
    lu = h.seat.layout

    lv : v.layout ≡ z
    lv = a.layout ∙ h.seat.layout

    own : IsPart z r.me.0 s (slice_index (set counts s (slice_index counts s + 1)) s) (slice_index (set sums s (slice_index sums s + length row.1 + 1)) s)
    own =
        let c : slice_index (set counts s (slice_index counts s + 1)) s ≡ slice_index counts s + 1 = get_or-set_same counts s (slice_index counts s + 1) 0 (let m = h.many_counts in omega arith) in
        let d : slice_index (set sums s (slice_index sums s + length row.1 + 1)) s ≡ slice_index sums s + length row.1 + 1 = get_or-set_same sums s (slice_index sums s + length row.1 + 1) 0 (let m = h.many_sums in omega arith) in
        subst (λ n. IsPart z r.me.0 s n (slice_index (set sums s (slice_index sums s + length row.1 + 1)) s)) (sym c) (subst (IsPart z r.me.0 s (slice_index counts s + 1)) (sym d)
        (IsPart-adds z q.me.0 v r.me.0 s (slice_index counts s) (slice_index sums s) row lu (h.owns s lt) a b (h.parts s lt)))

    other : (n : ℕ) → n < z.shards → (n ≡ s → ⊥) → IsPart z r.me.0 n (slice_index (set counts s (slice_index counts s + 1)) n) (slice_index (set sums s (slice_index sums s + length row.1 + 1)) n)
    other n l ne =
        let i = h.owns n l in
        let j = subst (In n) (sym a.writes) i in
        let c = get_or-set_other counts s n (slice_index counts s + 1) 0 ne in
        let d = get_or-set_other sums s n (slice_index sums s + length row.1 + 1) 0 ne in
        let hd : head z r.me.0.words n ≡ head z q.me.0.words n = subst (λ y. head y r.me.0.words n ≡ head y v.words n) lv (b.heads n j ne) ∙ subst (λ y. head y v.words n ≡ head y q.me.0.words n) lu (a.heads n i ne) in
        let lvl : (k : ℕ) → k ≤ z.top → level z r.me.0.words n k ≡ level z q.me.0.words n k = λ k le.
        subst (λ y. level y r.me.0.words n k ≡ level y v.words n k) lv (b.levels n k j ne (subst (λ (y : Layout). k ≤ y.top) (sym lv) le)) ∙ subst (λ y. level y v.words n k ≡ level y q.me.0.words n k) lu (a.levels n k i ne (subst (λ (y : Layout). k ≤ y.top) (sym lu) le)) in
        let rows : rows_of z n r.me.0.log ≡ rows_of z n q.me.0.log = subst (λ y. rows_of y n r.me.0.log ≡ rows_of y n v.log) lv (b.rows n j ne) ∙ subst (λ y. rows_of y n v.log ≡ rows_of y n q.me.0.log) lu (a.rows n i) in
        subst (λ x. IsPart z r.me.0 n x (slice_index (set sums s (slice_index sums s + length row.1 + 1)) n)) (sym c) (subst (λ x. IsPart z r.me.0 n (slice_index counts n) x) (sym d) (IsPart-same z q.me.0 r.me.0 n (slice_index counts n) (slice_index sums n) hd lvl rows (h.parts n l)))
