-- Seats that tell one another, and the writers of shards.
use Rattle.std.proofs.Common.{◌≡◌, inl, ⊎_elim, ℕ, ◌+◌, ◌<◌, List, [], ◌∷◌, ◌++◌, length, set, slice_index, refl, sym, ap, ◌∙◌, subst, arith, get_or-set_same, get_or-set_other, length-append}
use Rattle.std.proofs.lemmas.Bool.{cases_eq}
use Rattle.std.proofs.lemmas.List.{length-set, append-nil}
use Rattle.atomic_table.specs.Seated.{TableId}
use Rattle.atomic_table.specs.Table.{Me}
use Rattle.atomic_table.specs.declared.shared.Seat.{Seat}
use Rattle.pool_words.specs.declared.view.Layout.{Layout}
use Rattle.pool_words.specs.declared.view.View.{View}
use Rattle.pool_words.specs.Layout.{Row, used, rows_of, IsLayout}
use Rattle.pool_words.specs.Rule.{In, Extends, IsPool, Same}
use Rattle.pool_words.specs.Views.{below, Falls, Shown, informed, reader, patched, put_in, own_shard, gathered}
use Rattle.pool_words.proofs.Members.{rows_of-append}
use Rattle.pool_words.proofs.Orders.{head_same, level_same}
use Rattle.pool_words.proofs.Opening.{in_below}
use Rattle.pool_words.proofs.Falling.{In-put_in, length-put_in, Falls-whole}
use Rattle.pool_words.proofs.Patches.{patched_here, patched_else}
use Rattle.pool_words.proofs.Places.{size_low}
use Rattle.pool_shard.specs.Pairs.{Rows, PoolId, pool_of}
use Rattle.pool_shard.specs.Looks.{IsSeat, Keeps, Touches, Adds, IsReadyShard, IsPart, IsRows, IsReader, IsWriter, IsGathered, IsPoolOf}
use Rattle.pool_shard.proofs.Keeping.{Keeps-shown, Keeps-refl}
use Rattle.pool_shard.proofs.Counting.{IsPart-keeps, IsPart-same, IsPart-adds}

-- a seat at the same table that knows the same pool
pub IsSeat-same : {S : Type 0} (z : Layout) (t : TableId) (q r : Seat S View) → IsSeat z t q → r.table_id ≡ q.table_id → r.me.0.layout ≡ q.me.0.layout → r.me.0.words ≡ q.me.0.words → r.me.0.log ≡ q.me.0.log → IsSeat z t r
IsSeat-same z t q r h e layout words log = record {
  of = e ∙ h.of;
  wide = h.wide;
  layout = layout ∙ h.layout;
  laid = h.laid;
  pool = subst (λ us. IsPool z us r.me.0.log) (sym words) (subst (λ (l : List Row). IsPool z q.me.0.words l) (sym log) h.pool);
}

-- a reader's own copy of what a seat knows
pub IsSeat-reader : {S : Type 0} (z : Layout) (t : TableId) (q r : Seat S View) → IsSeat z t q → r.table_id ≡ q.table_id → r.me ≡ (reader q.me.0, []) → IsSeat z t r
IsSeat-reader {S} z t q r h e m = IsSeat-same z t q r h e (ap (λ (x : Me S View). x.0.layout) m) (ap (λ (x : Me S View). x.0.words) m) (ap (λ (x : Me S View). x.0.log) m)

pub IsSeat-me : {S : Type 0} (z : Layout) (t : TableId) (q r : Seat S View) → IsSeat z t q → r.table_id ≡ q.table_id → r.me ≡ q.me → IsSeat z t r
IsSeat-me {S} z t q r h e m = IsSeat-same z t q r h e (ap (λ (x : Me S View). x.0.layout) m) (ap (λ (x : Me S View). x.0.words) m) (ap (λ (x : Me S View). x.0.log) m)

-- a seat that was told of another one, after its next load
pub Keeps-told : (v o w : View) → Shown (informed v o) w → Keeps v w
Keeps-told v o w m = let k = Keeps-shown (informed v o) w m in record { layout = k.layout; writes = k.writes; later = k.later; heads = k.heads; levels = k.levels; rows = k.rows }

-- a seat after a step of one whose view is known
pub IsSeat-shown : {S : Type 0} (z : Layout) (t : TableId) (r : Seat S View) (v : View) → r.table_id ≡ t → t.words ≡ z.words → v.layout ≡ z → IsLayout z → Shown v r.me.0 → IsSeat z t r
IsSeat-shown z t r v of wide layout laid m = record {
  of = of;
  wide = wide;
  layout = m.layout ∙ layout;
  laid = laid;
  pool = subst (λ y. IsPool y r.me.0.words r.me.0.log) layout m.pool;
}

pub IsWriter-keeps : {S : Type 0} (z : Layout) (t : TableId) (q r : Seat S View) (s count taken : ℕ) → IsWriter z t q s count taken → IsSeat z t r → Keeps q.me.0 r.me.0 → r.me.1 ≡ q.me.1 → IsWriter z t r s count taken
IsWriter-keeps z t q r s count taken h seat k slots = record {
  seat = seat;
  slots = slots ∙ h.slots;
  one = k.writes ∙ h.one;
  in_range = h.in_range;
  part = IsPart-keeps z q.me.0 r.me.0 s count taken h.seat.layout h.in_range h.seat.pool k (subst (In s) (sym h.one) (inl refl)) h.part;
}

pub IsWriter-me : {S : Type 0} (z : Layout) (t : TableId) (q r : Seat S View) (s count taken : ℕ) → IsWriter z t q s count taken → r.table_id ≡ q.table_id → r.me ≡ q.me → IsWriter z t r s count taken
IsWriter-me {S} z t q r s count taken h e m = record {
  seat = IsSeat-me z t q r h.seat e m;
  slots = ap (λ (x : Me S View). x.1) m ∙ h.slots;
  one = ap (λ (x : Me S View). x.0.writes) m ∙ h.one;
  in_range = h.in_range;
  part = subst (λ (x : Me S View). IsPart z x.0 s count taken) (sym m) h.part;
}

pub IsWriter-adds : {S : Type 0} (z : Layout) (t : TableId) (q r : Seat S View) (v : View) (s count taken : ℕ) (row : Row) → IsWriter z t q s count taken → IsSeat z t r → Touches s q.me.0 v → Adds s row v r.me.0 → r.me.1 ≡ q.me.1 → IsWriter z t r s (count + 1) (taken + length row.1 + 1)
IsWriter-adds z t q r v s count taken row h seat a b slots = record {
  seat = seat;
  slots = slots ∙ h.slots;
  one = b.writes ∙ (a.writes ∙ h.one);
  in_range = h.in_range;
  part = IsPart-adds z q.me.0 v r.me.0 s count taken row h.seat.layout (subst (In s) (sym h.one) (inl refl)) a b h.part;
}

-- a list between two that are one
none_left : (n : ℕ) (xs : List Row) → length xs + n ≡ n → xs ≡ []
none_left n [] e = refl
none_left n (x ∷ xs) e = absurd (omega arith)

pub rows_between : (z : Layout) (s : ℕ) (a b c : List Row) → Extends a b → Extends b c → rows_of z s c ≡ rows_of z s a → rows_of z s b ≡ rows_of z s c
rows_between z s a b c f g e =
    let x : rows_of z s b ≡ rows_of z s a ++ rows_of z s f.0 = ap (rows_of z s) f.1 ∙ rows_of-append z s a f.0 in
    let y : rows_of z s c ≡ rows_of z s b ++ rows_of z s g.0 = ap (rows_of z s) g.1 ∙ rows_of-append z s b g.0 in
    let m : length (rows_of z s b) ≡ length (rows_of z s a) + length (rows_of z s f.0) = ap length x ∙ length-append (rows_of z s a) (rows_of z s f.0) in
    let n : length (rows_of z s c) ≡ length (rows_of z s b) + length (rows_of z s g.0) = ap length y ∙ length-append (rows_of z s b) (rows_of z s g.0) in
    let l : length (rows_of z s c) ≡ length (rows_of z s a) = ap length e in
    let none : rows_of z s g.0 ≡ [] = none_left (length (rows_of z s b)) (rows_of z s g.0) (omega arith) in
    sym (append-nil (rows_of z s b)) ∙ (ap (λ (l : List Row). rows_of z s b ++ l) (sym none) ∙ sym y)

-- a seat that took over the part of a shard's writer, after its next load
module _ {S : Type 0} (z : Layout) (t : TableId) (q o p r : Seat S View) (counts sums : List ℕ) (s count taken : ℕ) (h : IsGathered z t q counts sums) (w : IsWriter z t o s count taken)
    (rows : rows_of z s q.me.0.log ≡ rows_of z s o.me.0.log) (e : p.table_id ≡ q.table_id) (me : p.me ≡ (gathered q.me.0 o.me.0, q.me.1)) (e' : r.table_id ≡ p.table_id) (slots : r.me.1 ≡ p.me.1) (shown : Shown p.me.0 r.me.0) (falls : Falls r.me.0.writes) where
  pub own : own_shard o.me.0 ≡ s
  own = ap (λ xs. slice_index xs 0) w.one

  after : Shown (gathered q.me.0 o.me.0) r.me.0
  after = subst (λ (x : Me S View). Shown x.0 r.me.0) me shown

  at_s : (P : ℕ → Type 0) → P (own_shard o.me.0) → P s
  at_s P x = subst P own x

  writes : r.me.0.writes ≡ put_in s q.me.0.writes
  writes = after.writes ∙ ap (λ n. put_in n q.me.0.writes) own

  pub gathered_more : length r.me.0.writes ≡ length q.me.0.writes + 1
  gathered_more = let l = length-put_in s q.me.0.writes in ap length writes ∙ omega arith

  pub gathered_log : Extends q.me.0.log r.me.0.log
  gathered_log = after.later.grows

  -- the words that it took over, and the pool of its next load
  taken_over : List ℕ
  taken_over = patched z q.me.0.words o.me.0.words s

  kept : (n : ℕ) → In n r.me.0.writes → Same z n (patched z q.me.0.words o.me.0.words s) q.me.0.log r.me.0.words r.me.0.log
  kept n i =
      let a : Same q.me.0.layout n (patched q.me.0.layout q.me.0.words o.me.0.words (own_shard o.me.0)) q.me.0.log r.me.0.words r.me.0.log = after.owns n (subst (In n) after.writes i) in
      at_s (λ m. Same z n (patched z q.me.0.words o.me.0.words m) q.me.0.log r.me.0.words r.me.0.log) (subst (λ y. Same y n (patched y q.me.0.words o.me.0.words (own_shard o.me.0)) q.me.0.log r.me.0.words r.me.0.log) h.seat.layout a)

  here : In s r.me.0.writes → Same z s o.me.0.words o.me.0.log r.me.0.words r.me.0.log
  here i =
      let a = kept s i in
      record {
        words = sym (patched_here z q.me.0.words o.me.0.words s h.seat.laid h.seat.pool.long w.seat.pool.long w.in_range) ∙ a.words;
        rows = sym rows ∙ a.rows;
      }

  else : (n : ℕ) → (n ≡ s → ⊥) → In n r.me.0.writes → Same z n q.me.0.words q.me.0.log r.me.0.words r.me.0.log
  else n ne i =
      let a = kept n i in
      record {
        words = sym (patched_else z q.me.0.words o.me.0.words s h.seat.laid h.seat.pool.long w.seat.pool.long w.in_range n ne) ∙ a.words;
        rows = a.rows;
      }

  of_before : (n : ℕ) → (n ≡ s → ⊥) → In n r.me.0.writes → In n q.me.0.writes
  of_before n ne i = ⊎_elim (λ c. absurd (ne c)) (λ j. j) (In-put_in n s q.me.0.writes (subst (In n) writes i))

  part_here : In s r.me.0.writes → IsPart z r.me.0 s count taken
  part_here i =
      let a = here i in
      IsPart-same z o.me.0 r.me.0 s count taken (sym (head_same z s o.me.0.words o.me.0.log r.me.0.words r.me.0.log h.seat.laid a)) (λ k le. sym (level_same z s k o.me.0.words o.me.0.log r.me.0.words r.me.0.log h.seat.laid le a)) (sym a.rows) w.part

  part_else : (n : ℕ) → (n ≡ s → ⊥) → In n r.me.0.writes → IsPart z r.me.0 n (slice_index counts n) (slice_index sums n)
  part_else n ne i =
      let a = else n ne i in
      IsPart-same z q.me.0 r.me.0 n (slice_index counts n) (slice_index sums n) (sym (head_same z n q.me.0.words q.me.0.log r.me.0.words r.me.0.log h.seat.laid a)) (λ k le. sym (level_same z n k q.me.0.words q.me.0.log r.me.0.words r.me.0.log h.seat.laid le a)) (sym a.rows) (h.parts n (of_before n ne i))

  part : (n : ℕ) → In n r.me.0.writes → IsPart z r.me.0 n (slice_index (set counts s count) n) (slice_index (set sums s taken) n)
  part n i = ⊎_elim
      (λ c. subst (λ m. IsPart z r.me.0 m (slice_index (set counts s count) m) (slice_index (set sums s taken) m)) (sym c)
      (subst (λ m. IsPart z r.me.0 s m (slice_index (set sums s taken) s)) (sym (get_or-set_same counts s count 0 (let m = h.many_counts in let l = w.in_range in omega arith)))
      (subst (IsPart z r.me.0 s count) (sym (get_or-set_same sums s taken 0 (let m = h.many_sums in let l = w.in_range in omega arith))) (part_here (subst (λ m. In m r.me.0.writes) c i)))))
      (λ ne. subst (λ m. IsPart z r.me.0 n m (slice_index (set sums s taken) n)) (sym (get_or-set_other counts s n count 0 ne)) (subst (IsPart z r.me.0 n (slice_index counts n)) (sym (get_or-set_other sums s n taken 0 ne)) (part_else n ne i)))
      (cases_eq n s)

  pub gathered_is : IsGathered z t r (set counts s count) (set sums s taken)
  gathered_is = record {
    seat = IsSeat-shown z t r (gathered q.me.0 o.me.0) (e' ∙ (e ∙ h.seat.of)) h.seat.wide h.seat.layout h.seat.laid after;
    slots = slots ∙ (ap (λ (x : Me S View). x.1) me ∙ h.slots);
    falls = falls;
    many_counts = length-set counts s count ∙ h.many_counts;
    many_sums = length-set sums s taken ∙ h.many_sums;
    in_range = λ n i. ⊎_elim (λ c. subst (λ m. m < z.shards) (sym c) w.in_range) (λ j. h.in_range n j) (In-put_in n s q.me.0.writes (subst (In n) writes i));
    parts = part;
  }

-- a seat that took over as many parts as there are shards has them all
pub gathered_whole : {S : Type 0} (z : Layout) (t : TableId) (q : Seat S View) (counts sums : List ℕ) → IsGathered z t q counts sums → length q.me.0.writes ≡ z.shards → IsRows z t q counts sums
gathered_whole z t q counts sums h n =
    let all : q.me.0.writes ≡ below z.shards = Falls-whole z.shards q.me.0.writes h.falls h.in_range n in
    let owns : (s : ℕ) → s < z.shards → In s q.me.0.writes = λ s l. subst (In s) (sym all) (in_below z.shards s l) in
    record {
      seat = h.seat;
      slots = h.slots;
      many_counts = h.many_counts;
      many_sums = h.many_sums;
      all = all;
      owns = owns;
      parts = λ s l. h.parts s (owns s l);
    }

-- a seat that has no part yet
pub gathered_none : {S : Type 0} (z : Layout) (t : TableId) (q : Seat S View) (counts sums : List ℕ) → IsSeat z t q → q.me.1 ≡ [] → q.me.0.writes ≡ [] → length counts ≡ z.shards → length sums ≡ z.shards → IsGathered z t q counts sums
gathered_none z t q counts sums seat slots none a b = record {
  seat = seat;
  slots = slots;
  falls = subst Falls (sym none) tt;
  many_counts = a;
  many_sums = b;
  in_range = λ s i. absurd (subst (In s) none i);
  parts = λ s i. absurd (subst (In s) none i);
}

-- what a seat at a shared pool is to the pool's calls
pub seat_named : {S : Type 0} (n : PoolId) (z : Layout) (t : TableId) (a b d : ℕ) (p : Rows) (q : Seat S View) → IsPoolOf n z t a b d → record { id = q.table_id; view = q.me.0 } ≡ p → pool_of p ≡ n → IsReader q → IsSeat z t q
seat_named n z t a b d p q h e of r =
    let layout : q.me.0.layout ≡ z = ap (λ (x : Rows). x.view.layout) e ∙ (ap (λ (i : PoolId). i.layout) of ∙ sym h.layout) in
    record {
      of = ap (λ (x : Rows). x.id) e ∙ (ap (λ (i : PoolId). i.table) of ∙ sym h.table);
      wide = h.wide;
      layout = layout;
      laid = h.laid;
      pool = subst (λ y. IsPool y q.me.0.words q.me.0.log) layout r.seat.pool;
    }

pub IsReader-of : {S : Type 0} (z : Layout) (t : TableId) (q : Seat S View) → IsSeat z t q → q.me.1 ≡ [] → q.me.0.writes ≡ [] → IsReader q
IsReader-of z t q h slots none = record {
  seat = record {
    of = refl;
    wide = ap (λ (i : TableId). i.words) h.of ∙ (h.wide ∙ ap (λ (y : Layout). y.words) (sym h.layout));
    layout = refl;
    laid = subst IsLayout (sym h.layout) h.laid;
    pool = subst (λ y. IsPool y q.me.0.words q.me.0.log) (sym h.layout) h.pool;
  };
  slots = slots;
  none = none;
}

-- a reader after steps that keep what it knows
pub IsReader-keeps : {S : Type 0} (z : Layout) (t : TableId) (q r : Seat S View) → IsReader q → IsSeat z t r → Keeps q.me.0 r.me.0 → r.me.1 ≡ q.me.1 → IsReader r
IsReader-keeps z t q r h seat k slots = IsReader-of z t r seat (slots ∙ h.slots) (k.writes ∙ h.none)

-- the words of a table are some
pub words_some : {S : Type 0} (z : Layout) (t : TableId) (q : Seat S View) → IsSeat z t q → 0 < t.words
words_some z t q h = let l = size_low z h.laid in let m = h.laid.large in let w = h.wide in omega arith

pub Keeps-joined : {S : Type 0} (q p r : Seat S View) (o : View) → p.me ≡ (informed q.me.0 o, q.me.1) → Shown p.me.0 r.me.0 → Keeps q.me.0 r.me.0
Keeps-joined {S} q p r o e m = Keeps-told q.me.0 o r.me.0 (subst (λ (x : Me S View). Shown x.0 r.me.0) e m)

-- a copy has the log that was copied
pub reader_log : {S : Type 0} (q r : Seat S View) → r.me ≡ (reader q.me.0, []) → r.me.0.log ≡ q.me.0.log
reader_log {S} q r e = ap (λ (x : Me S View). x.0.log) e

-- Seats that told each other know the same rows of the shard that the second one, o, writes. Each was told by a copy
pub settled_rows : {S : Type 0} (z : Layout) (t : TableId) (s count taken : ℕ) (o o1 a q q1 b o2 : Seat S View) → IsWriter z t o s count taken → o1.me ≡ o.me → a.me ≡ (reader o.me.0, []) → Extends a.me.0.log q.me.0.log → q1.me ≡ q.me → b.me ≡ (reader q.me.0, []) → Extends b.me.0.log o2.me.0.log
    → Keeps o1.me.0 o2.me.0 → rows_of z s q1.me.0.log ≡ rows_of z s o2.me.0.log
settled_rows {S} z t s count taken o o1 a q q1 b o2 h e f x e' f' y k =
    let low : Extends o.me.0.log q.me.0.log = subst (λ (l : List Row). Extends l q.me.0.log) (reader_log o a f) x in
    let high : Extends q.me.0.log o2.me.0.log = subst (λ (l : List Row). Extends l o2.me.0.log) (reader_log q b f') y in
    let k' : Keeps o.me.0 o2.me.0 = subst (λ (m : Me S View). Keeps m.0 o2.me.0) e k in
    let rows : rows_of z s o2.me.0.log ≡ rows_of z s o.me.0.log = subst (λ y. rows_of y s o2.me.0.log ≡ rows_of y s o.me.0.log) h.seat.layout (k'.rows s (subst (In s) (sym h.one) (inl refl))) in
    ap (λ (m : Me S View). rows_of z s m.0.log) e' ∙ rows_between z s o.me.0.log q.me.0.log o2.me.0.log low high rows

-- a seat with some parts, after steps that keep what it knows
pub IsGathered-keeps : {S : Type 0} (z : Layout) (t : TableId) (q r : Seat S View) (counts sums : List ℕ) → IsGathered z t q counts sums → IsSeat z t r → Keeps q.me.0 r.me.0 → r.me.1 ≡ q.me.1 → IsGathered z t r counts sums
IsGathered-keeps z t q r counts sums h seat k slots = record {
  seat = seat;
  slots = slots ∙ h.slots;
  falls = subst Falls (sym k.writes) h.falls;
  many_counts = h.many_counts;
  many_sums = h.many_sums;
  in_range = λ s i. h.in_range s (subst (In s) k.writes i);
  parts = λ s i. let j = subst (In s) k.writes i in IsPart-keeps z q.me.0 r.me.0 s (slice_index counts s) (slice_index sums s) h.seat.layout (h.in_range s j) h.seat.pool k j (h.parts s j);
}

-- a part is of the words and the log alone
pub IsPart-pool : (z : Layout) (v w : View) (s count taken : ℕ) → w.words ≡ v.words → w.log ≡ v.log → IsPart z v s count taken → IsPart z w s count taken
IsPart-pool z v w s count taken e f p = record {
  counted = p.counted ∙ ap (λ (l : List Row). length (rows_of z s l)) (sym f);
  summed = p.summed ∙ ap (λ (l : List Row). used (rows_of z s l)) (sym f);
  ready = subst (λ us. IsReadyShard z us s) (sym e) p.ready;
}

-- a pool's own table and layout are those that are seen of it
pub pool_seen : (n : PoolId) (z : Layout) (t : TableId) (a b d : ℕ) (i : PoolId) → IsPoolOf n z t a b d → record { table = t; layout = z } ≡ i → IsPoolOf n i.layout i.table a b d
pool_seen n z t a b d i h e = subst (λ (j : PoolId). IsPoolOf n j.layout j.table a b d) e h

-- a seat that is as it was
pub Keeps-me : {S : Type 0} (z : Layout) (t : TableId) (q r : Seat S View) → IsSeat z t q → r.me ≡ q.me → Keeps q.me.0 r.me.0
Keeps-me {S} z t q r h e = subst (λ (m : Me S View). Keeps q.me.0 m.0) (sym e) (Keeps-refl q.me.0 (subst (λ y. IsPool y q.me.0.words q.me.0.log) (sym h.layout) h.pool))
