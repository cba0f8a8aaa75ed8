-- The groups of a number: one step, how many there are, and that they meet the grammar.
use Rattle.std.proofs.Common.{◌≡◌, ℕ, zero, suc, ◌+◌, ◌-◌, ◌*◌, ◌/◌, ◌^◌, ◌<◌, ◌≤◌, Bool, true, false, List, [], ◌∷◌, ◌++◌, length, refl, ap, sym, ◌∙◌, arith, ◌⊎◌, inl, inr, append_assoc}
use Rattle.std.proofs.lemmas.Bool.{cond_below, cond_above}
use Rattle.std.specs.Prelude.{ℤ, pos, negsuc, ◌<ℤ◌, ◌≤ℤ◌}
use Rattle.std.specs.Int.RustNames.{unsigned_abs}
use Rattle.std.proofs.lemmas.Int.{ints}
use Rattle.zw_bytes.specs.Leb.{groups, padded_groups, low_group, signed_leb, signed_padded}

-- what has at most j + 1 groups is below this
abbrev pub groups_bound : ℕ → ℕ → ℕ
groups_bound limit zero = limit
groups_bound limit (suc k) = 128 * groups_bound limit k

pub groups_last : (limit : ℕ) (s : Bool) (k n : ℕ) → n < limit → groups limit s (suc k) n ≡ low_group s n ∷ []
unfolding groups
groups_last limit s k n h = sym (cond_below n limit _ _ h)

pub groups_step : (limit : ℕ) (s : Bool) (k n : ℕ) → limit ≤ n → groups limit s (suc k) n ≡ (128 + low_group s n) ∷ groups limit s k (n / 128)
unfolding groups
groups_step limit s k n h = sym (cond_above n limit _ _ _ h refl)

pub below_or : (a b : ℕ) → (a < b) ⊎ (b ≤ a)
below_or a b = grind arith

pub part_below : (n b : ℕ) → n < 128 * b → n / 128 < b
part_below n b h = omega arith

-- more groups than a number needs change nothing
pub groups_enough : (limit : ℕ) (s : Bool) (j k n : ℕ) → n < groups_bound limit j → j ≤ k → groups limit s (suc k) n ≡ groups limit s (suc j) n
groups_enough limit s zero k n h le = groups_last limit s k n h ∙ sym (groups_last limit s zero n h)
groups_enough limit s (suc j) zero n h le = absurd (omega arith)
groups_enough limit s (suc j) (suc k) n h le = elim (below_or n limit) [
  | inl lt ↦ groups_last limit s (suc k) n lt ∙ sym (groups_last limit s (suc j) n lt)
  | inr ge ↦ groups_step limit s (suc k) n ge ∙ ap (λ gs. (128 + low_group s n) ∷ gs) (groups_enough limit s j k (n / 128) (part_below n _ h) (omega arith)) ∙ sym (groups_step limit s (suc j) n ge)
]

-- what is below the bound has no more groups
pub length-groups : (limit : ℕ) (s : Bool) (j k n : ℕ) → n < groups_bound limit j → j ≤ k → length (groups limit s (suc k) n) ≤ suc j
length-groups limit s zero k n h le = rw (groups_last limit s k n h) (omega arith)
length-groups limit s (suc j) zero n h le = absurd (omega arith)
length-groups limit s (suc j) (suc k) n h le = elim (below_or n limit) [
  | inl lt ↦ rw (groups_last limit s (suc k) n lt) (omega arith)
  | inr ge ↦ rw (groups_step limit s (suc k) n ge) (let r = length-groups limit s j k (n / 128) (part_below n _ h) (omega arith) in omega arith)
]

-- one step of the groups of a number below 2^64
pub groups_more : (limit : ℕ) (s : Bool) (n : ℕ) → 64 ≤ limit → limit ≤ n → n < 2 ^ 64 → groups limit s 10 n ≡ (128 + low_group s n) ∷ groups limit s 10 (n / 128)
groups_more limit s n low ge h = groups_step limit s 9 n ge ∙ ap (λ gs. (128 + low_group s n) ∷ gs) (sym (groups_enough limit s 8 9 (n / 128) (omega arith) (omega arith)))

-- a number has at least one group
pub length-groups_positive : (limit : ℕ) (s : Bool) (n : ℕ) → 1 ≤ length (groups limit s 10 n)
length-groups_positive limit s n = elim (below_or n limit) [
  | inl lt ↦ rw (groups_last limit s 9 n lt) (omega arith)
  | inr ge ↦ rw (groups_step limit s 9 n ge) (omega arith)
]

-- a byte that stands, and what is left of the number
pub groups_moved : (limit : ℕ) (s : Bool) (n : ℕ) (old new : List ℕ) → 64 ≤ limit → limit ≤ n → n < 2 ^ 64 → new ≡ old ++ (128 + low_group s n) ∷ [] → new ++ groups limit s 10 (n / 128) ≡ old ++ groups limit s 10 n
groups_moved limit s n old new low ge h e = rw (e, groups_more limit s n low ge h, append_assoc) refl

pub length-groups_more : (limit : ℕ) (s : Bool) (n : ℕ) → 64 ≤ limit → limit ≤ n → n < 2 ^ 64 → length (groups limit s 10 n) ≡ length (groups limit s 10 (n / 128)) + 1
length-groups_more limit s n low ge h = rw (groups_more limit s n low ge h) (omega arith)

-- a number of 32 bits has at most five groups
pub unsigned_room : (n : ℕ) → n < 2 ^ 32 → length (groups 128 false 10 n) ≤ 5
unsigned_room n h = length-groups 128 false 4 9 n (omega arith) (omega arith)

pub length_room : (n : ℕ) → n < 2 ^ 64 → length (groups 128 false 10 n) ≤ 10
length_room n h = length-groups 128 false 9 9 n (omega arith) (omega arith)

pub signed_room : (s : Bool) (n : ℕ) → n < 2 ^ 32 → length (groups 64 s 10 n) ≤ 5
signed_room s n h = length-groups 64 s 4 9 n (omega arith) (omega arith)

-- one of 64 bits has at most ten
pub long_signed_room : (s : Bool) (n : ℕ) → n < 2 ^ 64 → length (groups 64 s 10 n) ≤ 10
long_signed_room s n h = length-groups 64 s 9 9 n (omega arith) (omega arith)

pub padded_negative : (v : ℤ) → v <ℤ pos 0 → padded_groups true 4 (unsigned_abs v - 1) ≡ signed_padded v
padded_negative (pos n) h = absurd (omega (arith, ints))
padded_negative (negsuc n) h = ap (padded_groups true 4) (omega arith)

pub padded_positive : (v : ℤ) → pos 0 ≤ℤ v → padded_groups false 4 (unsigned_abs v) ≡ signed_padded v
padded_positive (pos n) h = refl
padded_positive (negsuc n) h = absurd (omega (arith, ints))

pub signed_negative : (v : ℤ) → v <ℤ pos 0 → groups 64 true 10 (unsigned_abs v - 1) ≡ signed_leb v
signed_negative (pos n) h = absurd (omega (arith, ints))
signed_negative (negsuc n) h = ap (groups 64 true 10) (omega arith)

pub signed_positive : (v : ℤ) → pos 0 ≤ℤ v → groups 64 false 10 (unsigned_abs v) ≡ signed_leb v
signed_positive (pos n) h = refl
signed_positive (negsuc n) h = absurd (omega (arith, ints))
