-- What filling the next level and moving the head do to a shard and to the pool.
use Rattle.std.proofs.Common.{◌≡◌, ◌≢◌, inl, inr, ⊎_elim, ℕ, suc, ◌+◌, ◌<◌, ◌≤◌, List, [], ◌∷◌, ◌++◌, length, set, take, refl, sym, ap, ◌∙◌, subst, arith, get_or-set_same, get_or-set_other, slice_index}
use Rattle.std.proofs.lemmas.Bool.{cases_eq, cases_lt, cases_order}
use Rattle.std.proofs.lemmas.List.{length-take-le, take_all}
use Rattle.pool_words.specs.declared.view.Layout.{Layout}
use Rattle.pool_words.specs.Layout.{Row, width, half, level_at, spot, shard_of, base, start, rows_of, head, level, IsLayout}
use Rattle.pool_words.specs.Rule.{In, Stands, HasRows, IsShard, IsPool, Earlier}
use Rattle.pool_words.specs.Views.{IsNext, IsFull}
use Rattle.pool_words.proofs.Windows.{window_length, window_out, window_at}
use Rattle.pool_words.proofs.Members.{Extends-refl, In-rows_of}
use Rattle.pool_words.proofs.Places.{half_mono, level_pos, level_apart, level_ends, start_low, start_pos, spot_in, base_in}
use Rattle.pool_words.proofs.Levels.{HasRows-set}
use Rattle.pool_words.proofs.Shards.{IsShard-same, held_few, bumped, bumped_here, bumped_else, head_spared, level_spared, levels_spare, IsPool-levels}
use Rattle.pool_words.proofs.Orders.{stands_live}

-- how many rows stand in a level is told by its slots
pub one_count : (slots : List ℕ) (k n m : ℕ) (rows : List Row) → n ≤ length rows → m ≤ length rows → HasRows slots k (take n rows) → HasRows slots k (take m rows) → n ≡ m
one_count slots k n m rows a b f g =
    let c = f.counted in
    let d = g.counted in
    let e = length-take-le n rows a in
    let o = length-take-le m rows b in
    omega arith

-- one row more stands in the level after the live one
module _ (z : Layout) (h : ℕ) (levels levels' : ℕ → List ℕ) (rows : List Row) (n : ℕ) (r : Row) (far : ℕ) (b : IsShard z h levels rows) (below_top : h < z.top) (filled : HasRows (levels (suc h)) (suc h) (take n rows)) (left : n < length rows)
    (next : take (suc n) rows ≡ take n rows ++ r ∷ []) where
  held_is : b.held (suc h) ≡ n
  held_is = one_count (levels (suc h)) (suc h) (b.held (suc h)) n rows b.next (omega arith) (b.has (suc h) (omega arith)) filled

  next_level : length (levels (suc h)) ≡ width (suc h) → far < width (suc h) → slice_index (levels (suc h)) (spot r.1 (suc h) far) ≡ 0
      → ((d : ℕ) → d < far → slice_index (levels (suc h)) (spot r.1 (suc h) d) ≢ 0) → levels' (suc h) ≡ set (levels (suc h)) (spot r.1 (suc h) far) (r.0 + 1)
      → HasRows (levels' (suc h)) (suc h) (take (bumped (suc h) b.held (suc h)) rows)
  next_level len within free run e =
      let new = HasRows-set (levels (suc h)) (suc h) (take n rows) r far len filled within free run in
      let c : bumped (suc h) b.held (suc h) ≡ suc n = bumped_here (suc h) b.held (suc h) refl ∙ ap suc held_is in
      subst (λ m. HasRows (levels' (suc h)) (suc h) (take m rows)) (sym c) (subst (λ slots. HasRows slots (suc h) (take (suc n) rows)) (sym e) (subst (HasRows (set (levels (suc h)) (spot r.1 (suc h) far) (r.0 + 1)) (suc h)) (sym next) new))

  low_half : half h ≤ half (suc h)
  low_half = half_mono h (suc h) (omega arith)

  pub IsShard-fill : length (levels (suc h)) ≡ width (suc h) → far < width (suc h) → slice_index (levels (suc h)) (spot r.1 (suc h) far) ≡ 0
      → ((d : ℕ) → d < far → slice_index (levels (suc h)) (spot r.1 (suc h) d) ≢ 0) → levels' (suc h) ≡ set (levels (suc h)) (spot r.1 (suc h) far) (r.0 + 1)
      → ((k : ℕ) → k ≤ z.top → (k ≡ suc h → ⊥) → levels' k ≡ levels k) → IsShard z h levels' rows
  IsShard-fill len within free run e same = record {
    held = bumped (suc h) b.held;
    head_in = b.head_in;
    grown = b.grown;
    has = λ k l. ⊎_elim (λ c. subst (λ m. HasRows (levels' m) m (take (bumped (suc h) b.held m) rows)) (sym c) (next_level len within free run e))
        (λ c. subst (λ m. HasRows (levels' k) k (take m rows)) (sym (bumped_else (suc h) b.held k c)) (subst (λ slots. HasRows slots k (take (b.held k) rows)) (sym (same k l c)) (b.has k l))) (cases_eq k (suc h));
    halves = λ k l. ⊎_elim
        (λ c. let g = bumped_here (suc h) b.held k c in let v = held_is in let u = b.halves h b.head_in in let w = b.live in let q = low_half in let f : half k ≡ half (suc h) = ap half c in omega arith)
        (λ c. let g = bumped_else (suc h) b.held k c in let q = b.halves k l in omega arith) (cases_eq k (suc h));
    rising = λ k l le lh. let f = bumped_else (suc h) b.held k (λ c. absurd (omega arith)) in let g = bumped_else (suc h) b.held l (λ c. absurd (omega arith)) in let q = b.rising k l le lh in omega arith;
    live = bumped_else (suc h) b.held h (λ c. absurd (omega arith)) ∙ b.live;
    next = let g = bumped_here (suc h) b.held (suc h) refl in let v = held_is in omega arith;
    later = λ k l. bumped_else (suc h) b.held k (λ c. absurd (omega arith)) ∙ b.later k l;
    fits = b.fits;
  }

-- the live level is the next one, in which every row stands
pub IsShard-move : (z : Layout) (h : ℕ) (levels : ℕ → List ℕ) (rows : List Row) → IsShard z h levels rows → h < z.top → HasRows (levels (suc h)) (suc h) rows → half h ≤ length rows → IsShard z (suc h) levels rows
IsShard-move z h levels rows b below_top full many =
    let all : take (length rows) rows ≡ rows = take_all (length rows) rows (omega arith) in
    let e : b.held (suc h) ≡ length rows = one_count (levels (suc h)) (suc h) (b.held (suc h)) (length rows) rows b.next (omega arith) (b.has (suc h) (omega arith)) (subst (HasRows (levels (suc h)) (suc h)) (sym all) full) in
    record {
      held = b.held;
      head_in = omega arith;
      grown = λ k p. let c : h ≡ k = omega arith in subst (λ m. half m ≤ length rows) c many;
      has = b.has;
      halves = b.halves;
      rising = λ k l le lh. ⊎_elim (λ c. let f : b.held l ≡ b.held (suc h) = ap b.held c in let g = held_few z h levels rows b k in omega arith) (λ ne. b.rising k l le (⊎_elim (λ m. omega arith) (λ g. absurd (ne (omega arith))) (cases_lt l (suc h)))) (cases_eq l (suc h));
      live = e;
      next = let f = b.later (suc (suc h)) (omega arith) in omega arith;
      later = λ k l. b.later k (omega arith);
      fits = b.fits;
    }

-- a store that fills one slot of the level after the live one
module _ (z : Layout) (ws : List ℕ) (log : List Row) (s h n word : ℕ) (r : Row) (l : IsLayout z) (p : IsPool z ws log) (in_range : s < z.shards) (f : IsNext z ws log s h n word r) where
  own : IsShard z h (level z ws s) (rows_of z s log)
  own = subst (λ m. IsShard z m (level z ws s) (rows_of z s log)) f.live (p.shard s in_range)

  pub fill_low : base z s < word
  fill_low = let e = f.slot in let o = level_pos (suc h) in omega arith

  pub fill_high : word < base z s + start z
  fill_high = let e = f.slot in let t = f.below_top in let o = level_ends z (suc h) (omega arith) in let q = spot_in r.1 (suc h) f.far in omega arith

  fill_head : head z (set ws word (r.0 + 1)) s ≡ head z ws s
  fill_head = let a = fill_low in get_or-set_other ws word (base z s) (r.0 + 1) 0 (λ e. absurd (omega arith))

  pub fill_level : level z (set ws word (r.0 + 1)) s (suc h) ≡ set (level z ws s (suc h)) (spot r.1 (suc h) f.far) (r.0 + 1)
  fill_level = window_at ws (base z s + level_at (suc h)) (width (suc h)) word (spot r.1 (suc h) f.far) (r.0 + 1) (let e = f.slot in omega arith) (spot_in r.1 (suc h) f.far)

  pub fill_else : (k : ℕ) → k ≤ z.top → (k ≡ suc h → ⊥) → level z (set ws word (r.0 + 1)) s k ≡ level z ws s k
  fill_else k le ne =
      let e = f.slot in
      let q = spot_in r.1 (suc h) f.far in
      window_out ws (base z s + level_at k) (width k) word (r.0 + 1)
      (⊎_elim (λ c. absurd (ne c)) (λ o. ⊎_elim (λ m. let a = level_apart k (suc h) m in inr (omega arith)) (λ g. let a = level_apart (suc h) k g in inl (omega arith)) o) (cases_order k (suc h)))

  pub next_long : length (level z ws s (suc h)) ≡ width (suc h)
  next_long =
      let t = f.below_top in
      let o = level_ends z (suc h) (omega arith) in
      let b = base_in z s l in_range in
      let c = start_low z l in
      let m = p.long in
      window_length ws (base z s + level_at (suc h)) (width (suc h)) (omega arith)

  pub IsPool-fill : IsPool z (set ws word (r.0 + 1)) log
  IsPool-fill =
      let a = fill_low in
      let b = fill_high in
      IsPool-levels z ws log s word (r.0 + 1) l p in_range (omega arith) b
      (subst (λ m. IsShard z m (level z (set ws word (r.0 + 1)) s) (rows_of z s log)) (sym (fill_head ∙ f.live))
      (IsShard-fill z h (level z ws s) (level z (set ws word (r.0 + 1)) s) (rows_of z s log) n r f.far own f.below_top f.filled f.left f.next next_long f.within f.free f.run fill_level fill_else))

  pub heads_stay : (t : ℕ) → head z (set ws word (r.0 + 1)) t ≡ head z ws t
  heads_stay t =
      let a = fill_low in
      let b = fill_high in
      ⊎_elim (λ e. subst (λ u. head z (set ws word (r.0 + 1)) u ≡ head z ws u) e fill_head) (λ ne. head_spared z ws t word (r.0 + 1) (levels_spare z ws log s word (r.0 + 1) l p in_range (omega arith) b t ne)) (cases_eq s t)

  levels_stay : (t k : ℕ) → k ≤ z.top → k ≤ head z ws t → level z (set ws word (r.0 + 1)) t k ≡ level z ws t k
  levels_stay t k le lh =
      let a = fill_low in
      let b = fill_high in
      let v = f.live in
      ⊎_elim (λ e. let g : head z ws s ≡ head z ws t = ap (head z ws) e in subst (λ u. level z (set ws word (r.0 + 1)) u k ≡ level z ws u k) e (fill_else k le (λ c. absurd (omega arith))))
      (λ ne. level_spared z ws t k word (r.0 + 1) le (levels_spare z ws log s word (r.0 + 1) l p in_range (omega arith) b t ne)) (cases_eq s t)

  pub Earlier-fill : Earlier z ws log (set ws word (r.0 + 1)) log
  Earlier-fill = record {
    grows = Extends-refl log;
    heads = λ t m. let e = heads_stay t in omega arith;
    slots = λ t k j m le lt ne. let o = (p.shard t m).head_in in ap (λ slots. slice_index slots j) (levels_stay t k (omega arith) le);
    reached = λ t k q m low high i e.
        let g = heads_stay t in
        let o = (p.shard t m).head_in in
        let c : head z ws t ≡ k = omega arith in
        subst (λ slots. Stands slots k q) (sym (levels_stay t k (omega arith) (omega arith))) (subst (λ n. Stands (level z ws t n) n q) c (stands_live z ws log t q m p i e));
  }

-- a move of the head
module _ (z : Layout) (ws : List ℕ) (log : List Row) (s h : ℕ) (l : IsLayout z) (p : IsPool z ws log) (in_range : s < z.shards) (f : IsFull z ws log s h) where
  move_high : base z s < base z s + start z
  move_high = let a = start_pos z in omega arith

  pub moved : head z (set ws (base z s) (suc h)) s ≡ suc h
  moved = let a = base_in z s l in_range in let m = p.long in let c = l.large in get_or-set_same ws (base z s) (suc h) 0 (omega arith)

  move_level : (k : ℕ) → k ≤ z.top → level z (set ws (base z s) (suc h)) s k ≡ level z ws s k
  move_level k le = let a = level_pos k in window_out ws (base z s + level_at k) (width k) (base z s) (suc h) (inl (omega arith))

  pub IsPool-move : IsPool z (set ws (base z s) (suc h)) log
  IsPool-move =
      let own : IsShard z h (level z ws s) (rows_of z s log) = subst (λ m. IsShard z m (level z ws s) (rows_of z s log)) f.live (p.shard s in_range) in
      IsPool-levels z ws log s (base z s) (suc h) l p in_range (omega arith) move_high
      (IsShard-same z (suc h) (head z (set ws (base z s) (suc h)) s) (level z ws s) (level z (set ws (base z s) (suc h)) s) (rows_of z s log) moved move_level (IsShard-move z h (level z ws s) (rows_of z s log) own f.below_top f.filled f.many))

  pub head_else : (t : ℕ) → (s ≡ t → ⊥) → head z (set ws (base z s) (suc h)) t ≡ head z ws t
  head_else t ne = head_spared z ws t (base z s) (suc h) (levels_spare z ws log s (base z s) (suc h) l p in_range (omega arith) move_high t ne)

  pub levels_all : (t k : ℕ) → k ≤ z.top → level z (set ws (base z s) (suc h)) t k ≡ level z ws t k
  levels_all t k le = ⊎_elim (λ e. subst (λ u. level z (set ws (base z s) (suc h)) u k ≡ level z ws u k) e (move_level k le))
      (λ ne. level_spared z ws t k (base z s) (suc h) le (levels_spare z ws log s (base z s) (suc h) l p in_range (omega arith) move_high t ne)) (cases_eq s t)

  old_reached : (t k : ℕ) (q : Row) → t < z.shards → k ≤ z.top → head z ws t ≡ k → In q log → shard_of z q.1 ≡ t → Stands (level z (set ws (base z s) (suc h)) t k) k q
  old_reached t k q m le c i e = subst (λ slots. Stands slots k q) (sym (levels_all t k le)) (subst (λ n. Stands (level z ws t n) n q) c (stands_live z ws log t q m p i e))

  own_reached : (k : ℕ) (q : Row) → h ≤ k → k ≤ suc h → In q log → shard_of z q.1 ≡ s → Stands (level z (set ws (base z s) (suc h)) s k) k q
  own_reached k q low high i e = ⊎_elim
      (λ c. let t = f.below_top in
      let g = f.filled.stands q (In-rows_of z s q log e i) in
      subst (λ n. Stands (level z (set ws (base z s) (suc h)) s n) n q) (sym c) (subst (λ slots. Stands slots (suc h) q) (sym (move_level (suc h) (omega arith))) g))
      (λ ne. let t = f.below_top in let c : h ≡ k = ⊎_elim (λ m. omega arith) (λ g. absurd (ne (omega arith))) (cases_lt k (suc h)) in old_reached s k q in_range (omega arith) (f.live ∙ c) i e)
      (cases_eq k (suc h))

  pub Earlier-move : Earlier z ws log (set ws (base z s) (suc h)) log
  Earlier-move = record {
    grows = Extends-refl log;
    heads = λ t m. let v = f.live in ⊎_elim (λ e. subst (λ u. head z ws u ≤ head z (set ws (base z s) (suc h)) u) e (let g = moved in omega arith)) (λ ne. let g = head_else t ne in omega arith) (cases_eq s t);
    slots = λ t k j m le lt ne. let o = (p.shard t m).head_in in ap (λ slots. slice_index slots j) (levels_all t k (omega arith));
    reached = λ t k q m low high i e. ⊎_elim
        (λ c. let v = f.live in let g = moved in let a : head z ws s ≤ k = subst (λ u. head z ws u ≤ k) (sym c) low in let b : k ≤ head z (set ws (base z s) (suc h)) s = subst (λ u. k ≤ head z (set ws (base z s) (suc h)) u) (sym c) high in
        subst (λ u. Stands (level z (set ws (base z s) (suc h)) u k) k q) c (own_reached k q (omega arith) (omega arith) i (e ∙ sym c)))
        (λ ne. let g = head_else t ne in let o = (p.shard t m).head_in in old_reached t k q m (omega arith) (omega arith) i e)
        (cases_eq s t);
  }
