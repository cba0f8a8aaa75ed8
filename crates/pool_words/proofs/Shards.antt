-- What a store does to a shard, to a row and to the pool.
use Rattle.std.proofs.Common.{◌≡◌, ◌≢◌, ◌⊎◌, inl, inr, ⊎_elim, ℕ, suc, ◌+◌, ◌<◌, ◌≤◌, ◌==◌, cond, List, [], ◌∷◌, ◌++◌, length, set, take, refl, sym, ap, ◌∙◌, subst, arith, get_or-set_other, length-append, slice_index}
use Rattle.std.proofs.lemmas.Bool.{cases_eq, cases_lt, cases_order, eq-eqb, ne_eqb}
use Rattle.std.proofs.lemmas.List.{length-set, take_all}
use Rattle.pool_words.specs.declared.view.Layout.{Layout}
use Rattle.pool_words.specs.Layout.{Row, width, half, level_at, spot, used, shard_of, base, start, rows_of, head, level, IsLayout}
use Rattle.pool_words.specs.Rule.{In, HasRows, IsShard, IsRow, Laid, IsPool}
use Rattle.pool_words.specs.Views.{IsFree}
use Rattle.pool_words.proofs.Windows.{window_length, window_out, window_at}
use Rattle.pool_words.proofs.Members.{In-push, In-rows_of, rows_of-push, rows_of-other, used-push, take-push, Laid-push}
use Rattle.pool_words.proofs.Places.{level_pos, level_apart, level_ends, start_low, start_pos, spot_in, shard_in, base_in, other_shard}
use Rattle.pool_words.proofs.Levels.{HasRows-set}

-- a shard reads its levels alone
pub IsShard-same : (z : Layout) (h h' : ℕ) (levels levels' : ℕ → List ℕ) (rows : List Row) → h' ≡ h → ((k : ℕ) → k ≤ z.top → levels' k ≡ levels k) → IsShard z h levels rows → IsShard z h' levels' rows
IsShard-same z h h' levels levels' rows e same b = subst (λ n. IsShard z n levels' rows) (sym e) (record {
  held = b.held;
  head_in = b.head_in;
  grown = b.grown;
  has = λ k l. subst (λ slots. HasRows slots k (take (b.held k) rows)) (sym (same k l)) (b.has k l);
  halves = b.halves;
  rising = b.rising;
  live = b.live;
  next = b.next;
  later = b.later;
  fits = b.fits;
})

-- no level has more rows than there are
pub held_few : (z : Layout) (h : ℕ) (levels : ℕ → List ℕ) (rows : List Row) (b : IsShard z h levels rows) (k : ℕ) → b.held k ≤ length rows
held_few z h levels rows b k =
    ⊎_elim (λ l. let r = b.rising k h (omega arith) (omega arith) in let e = b.live in omega arith)
    (λ g. ⊎_elim (λ e. let n = b.next in subst (λ m. b.held m ≤ length rows) (sym e) n) (λ o. ⊎_elim (λ l. let r = b.rising k h (omega arith) (omega arith) in let e = b.live in omega arith) (λ m. let e = b.later k m in omega arith) o) (cases_order k (suc h)))
    (cases_lt k h)

pub bumped : ℕ → (ℕ → ℕ) → ℕ → ℕ
bumped h held k = cond (k == h) (suc (held h)) (held k)

pub bumped_here : (h : ℕ) (held : ℕ → ℕ) (k : ℕ) → k ≡ h → bumped h held k ≡ suc (held h)
unfolding bumped
bumped_here h held k e = ap (λ b. cond b (suc (held h)) (held k)) (eq-eqb k h e)

pub bumped_else : (h : ℕ) (held : ℕ → ℕ) (k : ℕ) → (k ≡ h → ⊥) → bumped h held k ≡ held k
unfolding bumped
bumped_else h held k e = ap (λ b. cond b (suc (held h)) (held k)) (ne_eqb k h e)

-- one row more, in the live level
module _ (z : Layout) (h : ℕ) (levels levels' : ℕ → List ℕ) (rows : List Row) (r : Row) (far : ℕ) (b : IsShard z h levels rows) where
  one_more : (n : ℕ) → n + 1 ≡ suc n
  one_more n = omega arith

  longer : length (rows ++ r ∷ []) ≡ suc (length rows)
  longer = length-append rows (r ∷ []) ∙ one_more (length rows)

  new_level : length (levels h) ≡ width h → far < width h → slice_index (levels h) (spot r.1 h far) ≡ 0
      → ((d : ℕ) → d < far → slice_index (levels h) (spot r.1 h d) ≢ 0) → levels' h ≡ set (levels h) (spot r.1 h far) (r.0 + 1)
      → HasRows (levels' h) h (take (bumped h b.held h) (rows ++ r ∷ []))
  new_level len within free run e =
      let all : take (b.held h) rows ≡ rows = take_all (b.held h) rows (let l = b.live in omega arith) in
      let old : HasRows (levels h) h rows = subst (HasRows (levels h) h) all (b.has h b.head_in) in
      let new = HasRows-set (levels h) h rows r far len old within free run in
      let all' : take (bumped h b.held h) (rows ++ r ∷ []) ≡ rows ++ r ∷ [] = take_all (bumped h b.held h) (rows ++ r ∷ []) (let l = b.live in let g = bumped_here h b.held h refl in let n = longer in omega arith) in
      subst (HasRows (levels' h) h) (sym all') (subst (λ slots. HasRows slots h (rows ++ r ∷ [])) (sym e) new)

  old_level : (k : ℕ) → k ≤ z.top → (k ≡ h → ⊥) → levels' k ≡ levels k → HasRows (levels' k) k (take (bumped h b.held k) (rows ++ r ∷ []))
  old_level k l ne e =
      let f : take (bumped h b.held k) (rows ++ r ∷ []) ≡ take (b.held k) rows = ap (λ n. take n (rows ++ r ∷ [])) (bumped_else h b.held k ne) ∙ take-push (b.held k) rows r (held_few z h levels rows b k) in
      subst (HasRows (levels' k) k) (sym f) (subst (λ slots. HasRows slots k (take (b.held k) rows)) (sym e) (b.has k l))

  rises : (k l : ℕ) → k ≤ l → l ≤ h → bumped h b.held k ≤ bumped h b.held l
  rises k l le in_live = ⊎_elim at_live below_live (cases_eq l h)
    where
      at_live : l ≡ h → bumped h b.held k ≤ bumped h b.held l
      at_live e =
          let f = bumped_here h b.held l e in
          ⊎_elim (λ c. let g = bumped_here h b.held k c in omega arith) (λ c. let g = bumped_else h b.held k c in let q = b.rising k h (omega arith) (omega arith) in omega arith) (cases_eq k h)

      below_live : (l ≡ h → ⊥) → bumped h b.held k ≤ bumped h b.held l
      below_live ne =
          let f = bumped_else h b.held l ne in
          let n : l < h = ⊎_elim (λ x. x) (λ g. absurd (ne (omega arith))) (cases_lt l h) in
          let g = bumped_else h b.held k (λ c. absurd (omega arith)) in
          let q = b.rising k l le in_live in
          omega arith

  pub IsShard-push : length (levels h) ≡ width h → far < width h → slice_index (levels h) (spot r.1 h far) ≡ 0
      → ((d : ℕ) → d < far → slice_index (levels h) (spot r.1 h d) ≢ 0) → levels' h ≡ set (levels h) (spot r.1 h far) (r.0 + 1)
      → ((k : ℕ) → k ≤ z.top → (k ≡ h → ⊥) → levels' k ≡ levels k) → length rows < half h → start z + used rows + (length r.1 + 1) ≤ z.size → IsShard z h levels' (rows ++ r ∷ [])
  IsShard-push len within free run e same few room = record {
    held = bumped h b.held;
    head_in = b.head_in;
    grown = λ k p. let g = b.grown k p in let n = longer in omega arith;
    has = λ k l. ⊎_elim (λ c. subst (λ m. HasRows (levels' m) m (take (bumped h b.held m) (rows ++ r ∷ []))) (sym c) (new_level len within free run e)) (λ c. old_level k l c (same k l c)) (cases_eq k h);
    halves = λ k l. ⊎_elim (λ c. let g = bumped_here h b.held k c in let v = b.live in let f : half k ≡ half h = ap half c in omega arith) (λ c. let g = bumped_else h b.held k c in let q = b.halves k l in omega arith) (cases_eq k h);
    rising = rises;
    live = let g = bumped_here h b.held h refl in let v = b.live in let n = longer in omega arith;
    next = let g = bumped_else h b.held (suc h) (λ c. absurd (omega arith)) in let q = b.next in let n = longer in omega arith;
    later = λ k l. let g = bumped_else h b.held k (λ c. absurd (omega arith)) in let q = b.later k l in omega arith;
    fits = let u = used-push rows r in omega arith;
  }

-- a word before a shard, or behind its levels
abbrev pub Spares : Layout → ℕ → ℕ → Type 0
Spares z s i = (i < base z s) ⊎ (base z s + start z ≤ i)

pub head_spared : (z : Layout) (ws : List ℕ) (s i x : ℕ) → Spares z s i → head z (set ws i x) s ≡ head z ws s
head_spared z ws s i x h = let p = start_pos z in get_or-set_other ws i (base z s) x 0 (λ e. ⊎_elim (λ l. absurd (omega arith)) (λ g. absurd (omega arith)) h)

pub level_spared : (z : Layout) (ws : List ℕ) (s k i x : ℕ) → k ≤ z.top → Spares z s i → level z (set ws i x) s k ≡ level z ws s k
level_spared z ws s k i x le h =
    let e = level_ends z k le in
    window_out ws (base z s + level_at k) (width k) i x (⊎_elim (λ l. inl (omega arith)) (λ g. inr (omega arith)) h)

pub spares_other : (z : Layout) (s t i : ℕ) → IsLayout z → (s ≡ t → ⊥) → base z s ≤ i → i < base z s + z.size → Spares z t i
spares_other z s t i h ne low high = let q = start_low z h in ⊎_elim (λ l. inl l) (λ g. inr (omega arith)) (other_shard z s t i ne low high)

-- a row lies in its shard
pub row_in : (z : Layout) (ws : List ℕ) (log : List Row) (r : Row) → IsLayout z → IsPool z ws log → In r log
    → (base z (shard_of z r.1) + start z ≤ r.0) × (r.0 + suc (length r.1) ≤ base z (shard_of z r.1) + z.size)
row_in z ws log r h p i =
    let q = p.row r i in
    let f = (p.shard (shard_of z r.1) (shard_in z r.1 h)).fits in
    let a = q.begins in
    let b = q.ends in
    (a, omega arith)

pub IsRow-set : (z : Layout) (ws : List ℕ) (log log' : List Row) (r : Row) (i x : ℕ) → IsRow z ws log r → (i < r.0) ⊎ (r.0 + suc (length r.1) ≤ i)
    → used (rows_of z (shard_of z r.1) log) ≤ used (rows_of z (shard_of z r.1) log') → IsRow z (set ws i x) log' r
IsRow-set z ws log log' r i x q out more = record {
  some = q.some;
  few = q.few;
  begins = q.begins;
  ends = let b = q.ends in omega arith;
  whole = window_out ws r.0 (suc (length r.1)) i x out ∙ q.whole;
}

-- a store among the head and the levels of a shard, after which it is a shard still
module _ (z : Layout) (ws : List ℕ) (log : List Row) (s i x : ℕ) (h : IsLayout z) (p : IsPool z ws log) (in_range : s < z.shards) (from : base z s ≤ i) (to : i < base z s + start z) where
  pub levels_spare : (t : ℕ) → (s ≡ t → ⊥) → Spares z t i
  levels_spare t ne = let c = start_low z h in spares_other z s t i h ne from (omega arith)

  row_apart : (r : Row) → In r log → (i < r.0) ⊎ (r.0 + suc (length r.1) ≤ i)
  row_apart r q =
      let w = row_in z ws log r h p q in
      let c = start_low z h in
      ⊎_elim (λ e. let g : base z s ≡ base z (shard_of z r.1) = ap (base z) e in inl (omega arith))
      (λ ne. ⊎_elim (λ l. inl (omega arith)) (λ g. inr (omega arith)) (other_shard z s (shard_of z r.1) i ne from (omega arith))) (cases_eq s (shard_of z r.1))

  pub IsPool-levels : IsShard z (head z (set ws i x) s) (level z (set ws i x) s) (rows_of z s log) → IsPool z (set ws i x) log
  IsPool-levels new = record {
    long = length-set ws i x ∙ p.long;
    shard = λ t l. ⊎_elim (λ e. subst (λ t. IsShard z (head z (set ws i x) t) (level z (set ws i x) t) (rows_of z t log)) e new)
        (λ ne. IsShard-same z (head z ws t) (head z (set ws i x) t) (level z ws t) (level z (set ws i x) t) (rows_of z t log) (head_spared z ws t i x (levels_spare t ne)) (λ k le. level_spared z ws t k i x le (levels_spare t ne)) (p.shard t l))
        (cases_eq s t);
    row = λ r q. IsRow-set z ws log log r i x (p.row r q) (row_apart r q) (omega arith);
    placed = p.placed;
    once = p.once;
  }

-- a store behind the rows of a shard
module _ (z : Layout) (ws : List ℕ) (log : List Row) (s i x : ℕ) (h : IsLayout z) (p : IsPool z ws log) (in_range : s < z.shards) (above : base z s + (start z + used (rows_of z s log)) ≤ i) (inside : i < base z s + z.size) where
  pub private_spares : (t : ℕ) → Spares z t i
  private_spares t = ⊎_elim (λ e. let f : base z s ≡ base z t = ap (base z) e in inr (omega arith)) (λ ne. spares_other z s t i h ne (omega arith) inside) (cases_eq s t)

  row_out : (r : Row) → In r log → (i < r.0) ⊎ (r.0 + suc (length r.1) ≤ i)
  row_out r q = ⊎_elim here there (cases_eq s (shard_of z r.1))
    where
      here : s ≡ shard_of z r.1 → (i < r.0) ⊎ (r.0 + suc (length r.1) ≤ i)
      here e =
          let b = (p.row r q).ends in
          let f : base z (shard_of z r.1) + (start z + used (rows_of z (shard_of z r.1) log)) ≤ i = subst (λ t. base z t + (start z + used (rows_of z t log)) ≤ i) e above in
          inr (omega arith)

      there : (s ≡ shard_of z r.1 → ⊥) → (i < r.0) ⊎ (r.0 + suc (length r.1) ≤ i)
      there ne =
          let w = row_in z ws log r h p q in
          ⊎_elim (λ l. inl (omega arith)) (λ g. inr (omega arith)) (other_shard z s (shard_of z r.1) i ne (omega arith) inside)

  pub IsPool-private : IsPool z (set ws i x) log
  IsPool-private = record {
    long = length-set ws i x ∙ p.long;
    shard = λ t l. IsShard-same z (head z ws t) (head z (set ws i x) t) (level z ws t) (level z (set ws i x) t) (rows_of z t log) (head_spared z ws t i x (private_spares t)) (λ k le. level_spared z ws t k i x le (private_spares t)) (p.shard t l);
    row = λ r q. IsRow-set z ws log log r i x (p.row r q) (row_out r q) (omega arith);
    placed = p.placed;
    once = p.once;
  }

-- a store in a free slot of the live level
module _ (z : Layout) (ws : List ℕ) (log : List Row) (word : ℕ) (r : Row) (h : IsLayout z) (p : IsPool z ws log) (f : IsFree z ws log word r) where
  abbrev s : ℕ
  s = shard_of z r.1

  abbrev live : ℕ
  live = head z ws (shard_of z r.1)

  own : IsShard z (head z ws (shard_of z r.1)) (level z ws (shard_of z r.1)) (rows_of z (shard_of z r.1) log)
  own = p.shard (shard_of z r.1) (shard_in z r.1 h)

  pub publish_low : base z (shard_of z r.1) < word
  publish_low = let e = f.slot in let l = level_pos live in omega arith

  pub publish_high : word < base z (shard_of z r.1) + start z
  publish_high = let e = f.slot in let l = level_ends z live own.head_in in let q = spot_in r.1 live f.far in omega arith

  pub publish_spares : (t : ℕ) → (shard_of z r.1 ≡ t → ⊥) → Spares z t word
  publish_spares t ne = let a = publish_low in let b = publish_high in let c = start_low z h in spares_other z s t word h ne (omega arith) (omega arith)

  pub publish_head : head z (set ws word (r.0 + 1)) (shard_of z r.1) ≡ head z ws (shard_of z r.1)
  publish_head = let a = publish_low in get_or-set_other ws word (base z s) (r.0 + 1) 0 (λ e. absurd (omega arith))

  pub publish_live : level z (set ws word (r.0 + 1)) (shard_of z r.1) (head z ws (shard_of z r.1)) ≡ set (level z ws (shard_of z r.1) (head z ws (shard_of z r.1))) (spot r.1 (head z ws (shard_of z r.1)) f.far) (r.0 + 1)
  publish_live = window_at ws (base z s + level_at live) (width live) word (spot r.1 live f.far) (r.0 + 1) (let e = f.slot in omega arith) (spot_in r.1 live f.far)

  pub publish_else : (k : ℕ) → k ≤ z.top → (k ≡ head z ws (shard_of z r.1) → ⊥) → level z (set ws word (r.0 + 1)) (shard_of z r.1) k ≡ level z ws (shard_of z r.1) k
  publish_else k le ne =
      let e = f.slot in
      let q = spot_in r.1 live f.far in
      window_out ws (base z s + level_at k) (width k) word (r.0 + 1)
      (⊎_elim (λ c. absurd (ne c)) (λ o. ⊎_elim (λ l. let a = level_apart k live l in inr (omega arith)) (λ g. let a = level_apart live k g in inl (omega arith)) o) (cases_order k live))

  level_long : length (level z ws (shard_of z r.1) (head z ws (shard_of z r.1))) ≡ width (head z ws (shard_of z r.1))
  level_long =
      let l = level_ends z live own.head_in in
      let b = base_in z s h (shard_in z r.1 h) in
      let c = start_low z h in
      let n = p.long in
      window_length ws (base z s + level_at live) (width live) (omega arith)

  own_shard : IsShard z (head z (set ws word (r.0 + 1)) (shard_of z r.1)) (level z (set ws word (r.0 + 1)) (shard_of z r.1)) (rows_of z (shard_of z r.1) (log ++ r ∷ []))
  own_shard =
      subst (λ n. IsShard z n (level z (set ws word (r.0 + 1)) s) (rows_of z s (log ++ r ∷ []))) (sym publish_head)
      (subst (λ rows. IsShard z live (level z (set ws word (r.0 + 1)) s) rows) (sym (rows_of-push z s log r refl))
      (IsShard-push z live (level z ws s) (level z (set ws word (r.0 + 1)) s) (rows_of z s log) r f.far own level_long f.within f.free f.run publish_live publish_else f.few_rows f.room))

  other : (t : ℕ) → t < z.shards → (shard_of z r.1 ≡ t → ⊥) → IsShard z (head z (set ws word (r.0 + 1)) t) (level z (set ws word (r.0 + 1)) t) (rows_of z t (log ++ r ∷ []))
  other t l ne =
      subst (λ rows. IsShard z (head z (set ws word (r.0 + 1)) t) (level z (set ws word (r.0 + 1)) t) rows) (sym (rows_of-other z t log r ne))
      (IsShard-same z (head z ws t) (head z (set ws word (r.0 + 1)) t) (level z ws t) (level z (set ws word (r.0 + 1)) t) (rows_of z t log) (head_spared z ws t word (r.0 + 1) (publish_spares t ne)) (λ k le. level_spared z ws t k word (r.0 + 1) le (publish_spares t ne)) (p.shard t l))

  pub used_grows : (t : ℕ) → used (rows_of z t log) ≤ used (rows_of z t (log ++ r ∷ []))
  used_grows t = ⊎_elim
      (λ e. let u : used (rows_of z t (log ++ r ∷ [])) ≡ used (rows_of z t log) + (length r.1 + 1) = ap used (rows_of-push z t log r e) ∙ used-push (rows_of z t log) r in omega arith)
      (λ ne. let u : used (rows_of z t (log ++ r ∷ [])) ≡ used (rows_of z t log) = ap used (rows_of-other z t log r ne) in omega arith) (cases_eq (shard_of z r.1) t)

  old_row : (q : Row) → In q log → IsRow z (set ws word (r.0 + 1)) (log ++ r ∷ []) q
  old_row q i =
      let w = row_in z ws log q h p i in
      let a = publish_low in
      let b = publish_high in
      let c = start_low z h in
      IsRow-set z ws log (log ++ r ∷ []) q word (r.0 + 1) (p.row q i)
      (⊎_elim (λ e. let g : base z (shard_of z r.1) ≡ base z (shard_of z q.1) = ap (base z) e in inl (omega arith))
      (λ ne. ⊎_elim (λ l. inl (omega arith)) (λ g. inr (omega arith)) (other_shard z s (shard_of z q.1) word ne (omega arith) (omega arith))) (cases_eq (shard_of z r.1) (shard_of z q.1)))
      (used_grows (shard_of z q.1))

  new_row : IsRow z (set ws word (r.0 + 1)) (log ++ r ∷ []) r
  new_row =
      let b = publish_high in
      let e = f.behind in
      let u : used (rows_of z s (log ++ r ∷ [])) ≡ used (rows_of z s log) + (length r.1 + 1) = ap used (rows_of-push z s log r refl) ∙ used-push (rows_of z s log) r in
      record {
        some = f.some;
        few = f.few;
        begins = omega arith;
        ends = omega arith;
        whole = window_out ws r.0 (suc (length r.1)) word (r.0 + 1) (inl (omega arith)) ∙ f.whole;
      }

  no_key : (i : ℕ) → In (i, r.1) log → ⊥
  no_key i m = f.new i (In-rows_of z s (i, r.1) log refl m)

  one_place : (i j : ℕ) (key : List ℕ) → In (i, key) (log ++ r ∷ []) → In (j, key) (log ++ r ∷ []) → i ≡ j
  one_place i j key a b = ⊎_elim (λ c. ⊎_elim (λ d. p.once i j key c d) (λ d. absurd (no_key i (subst (λ ws. In (i, ws) log) (ap (λ (q : Row). q.1) d) c))) (In-push (j, key) r log b))
      (λ c. ⊎_elim (λ d. absurd (no_key j (subst (λ ws. In (j, ws) log) (ap (λ (q : Row). q.1) c) d))) (λ d. ap (λ (q : Row). q.0) c ∙ sym (ap (λ (q : Row). q.0) d)) (In-push (j, key) r log b)) (In-push (i, key) r log a)

  behind : (t : ℕ) → shard_of z r.1 ≡ t → r.0 ≡ base z t + start z + used (rows_of z t log)
  behind t e = subst (λ u. r.0 ≡ base z u + start z + used (rows_of z u log)) e (let b = f.behind in omega arith)

  pub IsPool-publish : IsPool z (set ws word (r.0 + 1)) (log ++ r ∷ [])
  IsPool-publish = record {
    long = length-set ws word (r.0 + 1) ∙ p.long;
    shard = λ t l. ⊎_elim (λ e. subst (λ t. IsShard z (head z (set ws word (r.0 + 1)) t) (level z (set ws word (r.0 + 1)) t) (rows_of z t (log ++ r ∷ []))) e own_shard) (λ ne. other t l ne) (cases_eq (shard_of z r.1) t);
    row = λ q i. ⊎_elim (λ o. old_row q o) (λ e. subst (IsRow z (set ws word (r.0 + 1)) (log ++ r ∷ [])) (sym e) new_row) (In-push q r log i);
    placed = λ t l. ⊎_elim
        (λ e. subst (Laid (base z t + start z)) (sym (rows_of-push z t log r e)) (Laid-push (base z t + start z) (rows_of z t log) r (p.placed t l) (behind t e)))
        (λ ne. subst (Laid (base z t + start z)) (sym (rows_of-other z t log r ne)) (p.placed t l)) (cases_eq (shard_of z r.1) t);
    once = one_place;
  }
