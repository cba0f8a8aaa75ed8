-- What the words of a row and of a level tell.
use Rattle.std.proofs.Common.{◌≡◌, ◌≢◌, inl, inr, ⊎_elim, ℕ, zero, suc, ◌+◌, ◌-◌, ◌*◌, ◌/◌, ◌%◌, ◌^◌, ◌<◌, ◌≤◌, List, [], ◌∷◌, ◌++◌, length, take, refl, sym, ap, ◌∙◌, subst, arith, slice_index}
use Rattle.std.proofs.lemmas.Bool.{cases_order}
use Rattle.std.proofs.lemmas.List.{length-take}
use Rattle.std.proofs.lemmas.List.{ext_get_or}
use Rattle.pool_words.specs.declared.view.Layout.{Layout}
use Rattle.pool_words.specs.declared.view.View.{View}
use Rattle.pool_words.specs.Layout.{Row, window, width, level_at, spot, hash_of, used, shard_of, base, rows_of, head, level, IsLayout}
use Rattle.pool_words.specs.Rule.{In, Stands, Laid, IsPool, Earlier}
use Rattle.pool_words.proofs.Windows.{window_length, window_index, one_row}
use Rattle.pool_words.proofs.Members.{In-extends, In-take, rows_of-In, used-cons, used-nil}
use Rattle.pool_words.proofs.Places.{width_pos, halves, level_ends, start_low, spot_in, shard_in, base_in, width_low, level_from}
use Rattle.std.proofs.Math.Nat.{mod-lt, div-lt_iff_lt-mul}
use Rattle.pool_words.proofs.Levels.{circle_full}
use Rattle.pool_words.proofs.Shards.{row_in}
use Rattle.pool_shard.specs.Looks.{IsPassed, HasNot}

-- a row lies within the words
pub place_in : (z : Layout) (ws : List ℕ) (log : List Row) (r : Row) → IsLayout z → IsPool z ws log → In r log → r.0 + length r.1 < z.words
place_in z ws log r h p i = let w = row_in z ws log r h p i in let b = base_in z (shard_of z r.1) h (shard_in z r.1 h) in omega arith

pub count_read : (z : Layout) (ws : List ℕ) (log : List Row) (r : Row) → IsPool z ws log → In r log → slice_index ws r.0 ≡ length r.1
count_read z ws log r p i =
    let w = (p.row r i).whole in
    let e : r.0 + 0 ≡ r.0 = omega arith in
    sym (subst (λ n. slice_index (window ws r.0 (suc (length r.1))) 0 ≡ slice_index ws n) e (window_index ws r.0 (suc (length r.1)) 0 (omega arith))) ∙ ap (λ us. slice_index us 0) w

pub word_read : (z : Layout) (ws : List ℕ) (log : List Row) (r : Row) (j : ℕ) → IsPool z ws log → In r log → j < length r.1 → slice_index ws (r.0 + 1 + j) ≡ slice_index r.1 j
word_read z ws log r j p i l =
    let w = (p.row r i).whole in
    let e : r.0 + suc j ≡ r.0 + 1 + j = omega arith in
    sym (subst (λ n. slice_index (window ws r.0 (suc (length r.1))) (suc j) ≡ slice_index ws n) e (window_index ws r.0 (suc (length r.1)) (suc j) (omega arith))) ∙ ap (λ us. slice_index us (suc j)) w

-- what a look at a known row's first word tells
pub row_facts : (z : Layout) (ws : List ℕ) (log old : List Row) (place n : ℕ) (key : List ℕ) → IsLayout z → IsPool z ws log → ((r : Row) → In r old → In r log) → In (place, key) old → n ≡ slice_index ws place
    → (n ≡ length key) × (place + length key < z.words) × (length key ≤ 64)
row_facts z ws log old place n key h p still i e =
    let j = still (place, key) i in
    (e ∙ count_read z ws log (place, key) p j, place_in z ws log (place, key) h p j, (p.row (place, key) j).few)

-- a place has one key
pub one_key : (z : Layout) (ws : List ℕ) (log : List Row) (i : ℕ) (a b : List ℕ) → IsPool z ws log → In (i, a) log → In (i, b) log → a ≡ b
one_key z ws log i a b p x y = one_row ws i a b (p.row (i, a) x).whole (p.row (i, b) y).whole

pub same_keys : (a b : List ℕ) → length a ≡ length b → ((k : ℕ) → k < length a → slice_index a k ≡ slice_index b k) → a ≡ b
same_keys a b e h = ext_get_or 0 a b e h

-- the slots of a level that is reached
module _ (z : Layout) (ws : List ℕ) (log : List Row) (s k : ℕ) (h : IsLayout z) (p : IsPool z ws log) (in_range : s < z.shards) (le : k ≤ z.top) where
  pub level_long : length (level z ws s k) ≡ width k
  level_long = let e = level_ends z k le in let b = base_in z s h in_range in let c = start_low z h in let n = p.long in window_length ws (base z s + level_at k) (width k) (omega arith)

  pub slot_in : (key : List ℕ) (d : ℕ) → base z s + (level_at k + spot key k d) < z.words
  slot_in key d = let e = level_ends z k le in let b = base_in z s h in_range in let c = start_low z h in let q = spot_in key k d in omega arith

  pub slot_read : (key : List ℕ) (d : ℕ) → slice_index (level z ws s k) (spot key k d) ≡ slice_index ws (base z s + (level_at k + spot key k d))
  slot_read key d =
      let e : base z s + level_at k + spot key k d ≡ base z s + (level_at k + spot key k d) = omega arith in
      subst (λ n. slice_index (level z ws s k) (spot key k d) ≡ slice_index ws n) e (window_index ws (base z s + level_at k) (width k) (spot key k d) (spot_in key k d))

  -- a slot that is not 0 has a row
  pub slot_row : (j : ℕ) → j < width k → slice_index (level z ws s k) j ≢ 0 → (r : Row) × In r log × (slice_index (level z ws s k) j ≡ r.0 + 1)
  slot_row j l n =
      let b = p.shard s in_range in
      let f = (b.has k le).backed j l n in
      (f.0, (rows_of-In z s f.0 log (In-take f.0 (b.held k) (rows_of z s log) f.1)).0, f.2)

  -- some slot of a circle is 0
  pub not_full : (key : List ℕ) → ((d : ℕ) → d < width k → slice_index (level z ws s k) (spot key k d) ≢ 0) → ⊥
  not_full key all =
      let b = p.shard s in_range in
      let f = circle_full (level z ws s k) key k level_long all in
      let c = (b.has k le).counted in
      let t = length-take (b.held k) (rows_of z s log) in
      let m = b.halves k le in
      let w = halves k in
      let g = width_pos k in
      absurd (omega arith)

-- what was passed stays so
pub passed_later : (z : Layout) (ws : List ℕ) (log : List Row) (ws' : List ℕ) (log' : List Row) (s k : ℕ) (key : List ℕ) (d : ℕ) → s < z.shards → Earlier z ws log ws' log' → k ≤ head z ws s → IsPassed (level z ws s k) k key log d → IsPassed (level z ws' s k) k key log' d
passed_later z ws log ws' log' s k key d l e le f = record {
  row = f.row;
  there = In-extends f.row log log' e.grows f.there;
  here = e.slots s k (spot key k d) l le (spot_in key k d) (λ n. let g = f.here in absurd (omega arith)) ∙ f.here;
  differs = f.differs;
}

pub passed_taken : (slots : List ℕ) (k : ℕ) (key : List ℕ) (log : List Row) (d : ℕ) → IsPassed slots k key log d → slice_index slots (spot key k d) ≢ 0
passed_taken slots k key log d f n = let g = f.here in absurd (omega arith)

absurd_zero : (n m : ℕ) → n ≡ m + 1 → n ≡ 0 → ⊥
absurd_zero n m a b = absurd (omega arith)

-- where each slot before a free one was passed, no row that stands in the level has the key
pub absent : (z : Layout) (ws : List ℕ) (log old : List Row) (s k : ℕ) (key : List ℕ) (far : ℕ) → IsPool z ws log → ((d : ℕ) → d < far → IsPassed (level z ws s k) k key log d) → slice_index (level z ws s k) (spot key k far) ≡ 0
    → ((r : Row) → In r old → In r log) → ((r : Row) → In r old → r.1 ≡ key → Stands (level z ws s k) k r) → HasNot old key
absent z ws log old s k key far p passed free still stands i o =
    let t = stands (i, key) o refl in
    ⊎_elim (λ e. absurd_zero _ i (subst (λ d. slice_index (level z ws s k) (spot key k d) ≡ i + 1) e t.here) free)
    (λ q. ⊎_elim
    (λ l.
    let f = passed t.far l in
    let g : f.row.0 ≡ i = let a = f.here in let b = t.here in omega arith in
    f.differs (one_key z ws log i f.row.1 key p (subst (λ n. In (n, f.row.1) log) g f.there) (still (i, key) o)))
    (λ g. t.run far g free) q)
    (cases_order t.far far)

-- where a slot lies, by the numbers that the code adds
pub slot_sum : (z : Layout) (k hash far : ℕ) (slots : ℕ) → IsLayout z → k ≤ z.top → slots ≡ width k → far < slots → hash < 2 ^ 64
    → (hash % z.shards * z.size + (slots - 63 + (hash / 256 + far) % slots) < z.words) × (hash / 256 + far < 2 ^ 64) × (hash % z.shards * z.size + z.size ≤ z.words) × (slots - 63 + (hash / 256 + far) % slots < z.size)
unfolding base
slot_sum z k hash far slots h le e l m =
    let s : ℕ = hash % z.shards in
    let s_in : s < z.shards = mod-lt hash h.some in
    let b : s * z.size + z.size ≤ z.words = base_in z s h s_in in
    let x : ℕ = s * z.size in
    let b' : x + z.size ≤ z.words = b in
    let w = width_pos k in
    let f : (hash / 256 + far) % slots < slots = mod-lt (hash / 256 + far) (omega arith) in
    let y : ℕ = (hash / 256 + far) % slots in
    let f' : y < slots = f in
    let n = level_ends z k le in
    let v = level_from k in
    let c = start_low z h in
    let d = width_low z k h le in
    let u : hash / 256 < 2 ^ 56 = div-lt_of hash m in
    let r : ℕ = hash / 256 in
    let u' : r < 2 ^ 56 = u in
    (omega arith, omega arith, b, omega arith)
  where
    div-lt_of : (n : ℕ) → n < 2 ^ 64 → n / 256 < 2 ^ 56
    div-lt_of n lt = (div-lt_iff_lt-mul {k = 256} (omega arith)).1 (omega arith)

pub slot_is : (z : Layout) (k hash far : ℕ) (slots : ℕ) (key : List ℕ) → slots ≡ width k → hash ≡ hash_of key → hash % z.shards * z.size + (slots - 63 + (hash / 256 + far) % slots) ≡ base z (shard_of z key) + (level_at k + spot key k far)
unfolding base shard_of spot
slot_is z k hash far slots key e f =
    let v : slots - 63 ≡ level_at k = ap (λ n. n - 63) e ∙ sym (level_from k) in
    ap (λ h. h % z.shards * z.size + (slots - 63 + (h / 256 + far) % slots)) f ∙ ap (λ n. hash_of key % z.shards * z.size + (n - 63 + (hash_of key / 256 + far) % n)) e ∙ ap (λ n. hash_of key % z.shards * z.size + (n + (hash_of key / 256 + far) % width k)) (sym (level_from k))

-- the slot at which a look was, as a slot of its level
pub spot_read : (z : Layout) (v : View) (at far slot value : ℕ) (key : List ℕ) → IsLayout z → IsPool z v.words v.log → at ≤ z.top → slot ≡ base z (shard_of z key) + (level_at at + spot key at far) → value ≡ slice_index v.words slot
    → slice_index (level z v.words (shard_of z key) at) (spot key at far) ≡ value
spot_read z v at far slot value key h p le e f = slot_read z v.words v.log (shard_of z key) at h p (shard_in z key h) le key far ∙ sym (f ∙ ap (slice_index v.words) e)

-- rows one behind the other, and the next one
pub next_row : (place n : ℕ) (rows : List Row) → Laid place rows → n < length rows → (r : Row) × (take (suc n) rows ≡ take n rows ++ r ∷ []) × (r.0 ≡ place + used (take n rows)) × (used (take (suc n) rows) ≡ used (take n rows) + (length r.1 + 1)) × In r rows
next_row place n [] h l = absurd (omega arith)
next_row place zero (r ∷ rows) h l = let u = used-nil in let v = used-cons r [] in (r, refl, (let a = h.0 in omega arith), omega arith, inl refl)
next_row place (suc n) (q ∷ rows) h l =
    let g = next_row (place + (length q.1 + 1)) n rows h.1 (omega arith) in
    let u = used-cons q (take n rows) in
    let v = used-cons q (take (suc n) rows) in
    let a = g.2 in
    let b = g.3 in
    (g.0, ap (λ (l : List Row). q ∷ l) g.1, omega arith, omega arith, inr g.4)
