-- Where shards and levels lie.
use Rattle.std.proofs.Common.{◌≡◌, ◌⊎◌, inl, inr, ⊎_elim, ℕ, zero, suc, ◌+◌, ◌-◌, ◌*◌, ◌/◌, ◌%◌, ◌^◌, ◌<◌, ◌≤◌, List, refl, ap, ◌∙◌, arith, mul-le-mul_right, suc-mul, add-one, subst, sym}
use Rattle.std.proofs.lemmas.Bool.{cases_lt, cases_order}
use Rattle.std.proofs.lemmas.Nat.{pow_pos, mod-mul-add}
use Rattle.std.proofs.Math.Nat.{pow-suc, pow-le-pow_right, mod-lt, mod-eq_of_lt, mod-add-div', mod-add-mod}
use Rattle.pool_words.specs.declared.view.Layout.{Layout}
use Rattle.pool_words.specs.Layout.{width, half, level_at, spot, hash_of, base, start, shard_of, IsLayout}

pub width_pos : (k : ℕ) → 64 ≤ width k
unfolding width
width_pos k = let p : 0 < 2 ^ k = pow_pos k in let q : ℕ = 2 ^ k in let p' : 0 < q = p in omega arith

pub halves : (k : ℕ) → half k + half k ≡ width k
unfolding half width
halves k = let q : ℕ = 2 ^ k in let r : 32 * q + 32 * q ≡ 64 * q = omega arith in r

pub half_mono : (k l : ℕ) → k ≤ l → half k ≤ half l
unfolding half
half_mono k l h = let e : 2 ^ k ≤ 2 ^ l = pow-le-pow_right {n = 2} (omega arith) h in let a : ℕ = 2 ^ k in let b : ℕ = 2 ^ l in let e' : a ≤ b = e in omega arith

pub half_next : (k : ℕ) → half k < half (suc k)
unfolding half
half_next k =
    let p : 0 < 2 ^ k = pow_pos k in
    let e : 2 ^ suc k ≡ 2 ^ k * 2 = pow-suc 2 k in
    let q : ℕ = 2 ^ k in
    let p' : 0 < q = p in
    let f : 32 * q < 32 * (q * 2) = omega arith in
    subst (λ n. 32 * q < 32 * n) (sym e) f

pub half_is : (k : ℕ) → half k ≡ 32 * 2 ^ k
unfolding half
half_is k = refl

pub half_pos : (k : ℕ) → 32 ≤ half k
unfolding half
half_pos k = let p : 0 < 2 ^ k = pow_pos k in let q : ℕ = 2 ^ k in let p' : 0 < q = p in omega arith

pub level_first : level_at 0 ≡ 1
unfolding level_at
level_first = refl

pub level_pos : (k : ℕ) → 1 ≤ level_at k
unfolding level_at
level_pos k = let p : 0 < 2 ^ k = pow_pos k in let q : ℕ = 2 ^ k in let p' : 0 < q = p in omega arith

-- a level begins where the one before ends
pub level_next : (k : ℕ) → level_at (suc k) ≡ level_at k + width k
unfolding level_at width
level_next k =
    let p : 0 < 2 ^ k = pow_pos k in
    let e : 2 ^ suc k ≡ 2 ^ k * 2 = pow-suc 2 k in
    let q : ℕ = 2 ^ k in
    let p' : 0 < q = p in
    let f : 64 * (q * 2) - 63 ≡ 64 * q - 63 + 64 * q = omega arith in
    ap (λ n. 64 * n - 63) e ∙ f

pub level_mono : (k l : ℕ) → k ≤ l → level_at k ≤ level_at l
unfolding level_at
level_mono k l h = let e : 2 ^ k ≤ 2 ^ l = pow-le-pow_right {n = 2} (omega arith) h in let a : ℕ = 2 ^ k in let b : ℕ = 2 ^ l in let e' : a ≤ b = e in omega arith

-- a lower level ends before a higher one begins
pub level_apart : (k l : ℕ) → k < l → level_at k + width k ≤ level_at l
level_apart k l h = let m = level_mono (suc k) l (omega arith) in omega (arith, level_next k)

-- each level ends before the rows begin
pub level_ends : (z : Layout) (k : ℕ) → k ≤ z.top → level_at k + width k ≤ start z
unfolding start
level_ends z k h = level_apart k (z.top + 1) (omega arith)

-- the levels take at most a quarter of a shard
pub start_low : (z : Layout) → IsLayout z → start z * 4 ≤ z.size
unfolding start
start_low z h = let q = h.quarter in let e = Rattle.std.proofs.Math.Nat.mod-add-div z.size 4 in omega arith

pub start_pos : (z : Layout) → 1 < start z
unfolding start
start_pos z = let l = level_apart 0 (z.top + 1) (omega arith) in let w = width_pos 0 in omega (arith, level_first)

pub spot_in : (ws : List ℕ) (k d : ℕ) → spot ws k d < width k
unfolding spot
spot_in ws k d = let w = width_pos k in mod-lt (hash_of ws / 2 ^ 8 + d) (omega arith)

pub shard_in : (z : Layout) (ws : List ℕ) → IsLayout z → shard_of z ws < z.shards
unfolding shard_of
shard_in z ws h = mod-lt (hash_of ws) h.some

-- a lower shard ends before a higher one begins
pub base_apart : (z : Layout) (s t : ℕ) → s < t → base z s + z.size ≤ base z t
unfolding base
base_apart z s t h =
    let a : suc s * z.size ≤ t * z.size = mul-le-mul_right z.size (omega arith) in
    let e : suc s * z.size ≡ s * z.size + z.size = suc-mul s z.size in
    let x : ℕ = s * z.size in
    let y : ℕ = suc s * z.size in
    let w : ℕ = t * z.size in
    let a' : y ≤ w = a in
    let e' : y ≡ x + z.size = e in
    omega arith

pub base_in : (z : Layout) (s : ℕ) → IsLayout z → s < z.shards → base z s + z.size ≤ z.words
unfolding base
base_in z s h l =
    let a : base z s + z.size ≤ base z z.shards = base_apart z s z.shards l in
    let f = h.fits in
    let x : ℕ = s * z.size in
    let y : ℕ = z.shards * z.size in
    let a' : x + z.size ≤ y = a in
    let f' : y ≤ z.words = f in
    omega arith

-- a word of a shard is none of another shard's
pub other_shard : (z : Layout) (s t i : ℕ) → (s ≡ t → ⊥) → base z s ≤ i → i < base z s + z.size → (i < base z t) ⊎ (base z t + z.size ≤ i)
other_shard z s t i ne low high =
    ⊎_elim (λ e. absurd (ne e)) (λ o. ⊎_elim (λ l. let a = base_apart z s t l in inl (omega arith)) (λ g. let a = base_apart z t s g in inr (omega arith)) o) (cases_order s t)

turned : (F W j q f : ℕ) → F ≡ q * W + f → f < W → j < W → (d : ℕ) × (d < W) × ((F + d) % W ≡ j)
turned F W j q f e l m = ⊎_elim behind ahead (cases_lt j f)
  where
    ahead : f ≤ j → (d : ℕ) × (d < W) × ((F + d) % W ≡ j)
    ahead le =
        let x : ℕ = q * W in
        let e' : F ≡ x + f = e in
        let g : F + (j - f) ≡ x + j = omega arith in
        (j - f, omega arith, ap (λ n. n % W) g ∙ mod-mul-add q W j m)

    behind : j < f → (d : ℕ) × (d < W) × ((F + d) % W ≡ j)
    behind lt =
        let x : ℕ = q * W in
        let e' : F ≡ x + f = e in
        let s : suc q * W ≡ x + W = suc-mul q W in
        let y : ℕ = suc q * W in
        let s' : y ≡ x + W = s in
        let g : F + (W - f + j) ≡ y + j = omega arith in
        (W - f + j, omega arith, ap (λ n. n % W) g ∙ mod-mul-add (suc q) W j m)

-- a key's circle goes through each slot
pub spot_reaches : (ws : List ℕ) (k j : ℕ) → j < width k → (d : ℕ) × (d < width k) × (spot ws k d ≡ j)
unfolding spot
spot_reaches ws k j h =
    let F : ℕ = hash_of ws / 2 ^ 8 in
    let W : ℕ = width k in
    let e = mod-add-div' F W in
    let l : F % W < W = mod-lt F (omega arith) in
    turned F W j (F / W) (F % W) (let a : ℕ = F % W in let b : ℕ = F / W * W in let e' : a + b ≡ F = e in let g : F ≡ b + a = omega arith in g) l h

pub size_low : (z : Layout) → IsLayout z → z.size ≤ z.words
size_low z h = let b = base_in z 0 h h.some in omega arith

-- the numbers of a level fit a word
pub width_low : (z : Layout) (k : ℕ) → IsLayout z → k ≤ z.top → width k < 2 ^ 60
width_low z k h le = let e = level_ends z k le in let s = start_low z h in let w = size_low z h in let m = h.small in omega arith

pub level_low : (z : Layout) (k : ℕ) → IsLayout z → k ≤ z.top → k < 64
unfolding width
level_low z k h le = ⊎_elim (λ l. l) over (cases_lt k 64)
  where
    over : 64 ≤ k → k < 64
    over g =
        let a : 2 ^ 64 ≤ 2 ^ k = pow-le-pow_right {n = 2} (omega arith) g in
        let b : 64 * 2 ^ k < 2 ^ 60 = width_low z k h le in
        let q : ℕ = 2 ^ k in
        let a' : 2 ^ 64 ≤ q = a in
        let b' : 64 * q < 2 ^ 60 = b in
        absurd (omega arith)

pub width_shift : (z : Layout) (k : ℕ) → IsLayout z → k ≤ z.top → 64 * 2 ^ k % 2 ^ 64 ≡ width k
unfolding width
width_shift z k h le = let b : 64 * 2 ^ k < 2 ^ 60 = width_low z k h le in let q : ℕ = 64 * 2 ^ k in let b' : q < 2 ^ 60 = b in mod-eq_of_lt (omega arith)

pub level_from : (k : ℕ) → level_at k ≡ width k - 63
unfolding level_at width
level_from k = refl

pub start_is : (z : Layout) → start z ≡ 2 * width z.top - 63
unfolding start
start_is z =
    let e : level_at (z.top + 1) ≡ level_at z.top + width z.top = ap level_at (add-one z.top) ∙ level_next z.top in
    let f = level_from z.top in
    let w = width_pos z.top in
    omega arith

-- a level begins behind its number
pub top_low : (k : ℕ) → k ≤ level_at k
top_low zero = omega arith
top_low (suc k) = let t = top_low k in let n = level_next k in let w = width_pos k in omega arith
