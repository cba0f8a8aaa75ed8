-- Division that rounds down. Division toward zero is `int_div` of std, and its remainder, which has the numerator's sign, `int_rem`.
use Rattle.std.specs.Prelude.{ℕ, zero, suc, ℤ, pos, negsuc, neg_ℤ, ◌/◌, ◌≤ℤ◌, Bool, true, false}
use Rattle.std.specs.Int.{int_rem_euclid}

-- the greatest integer that is not above a / n
abbrev pub floor_by : ℤ → ℕ → ℤ
floor_by (pos a) n = pos (a / n)
floor_by (negsuc a) n = negsuc (a / n)

-- the greatest integer that is not above a / b: below 0, b is turned round, and a with it
abbrev pub int_floor_div : ℤ → ℤ → ℤ
int_floor_div a (pos n) = floor_by a n
int_floor_div a (negsuc n) = floor_by (neg_ℤ a) (suc n)

-- what that quotient leaves of a: from 0 to b - 1, or from b + 1 to 0 where b is negative
abbrev pub int_modulo : ℤ → ℤ → ℤ
int_modulo a (pos n) = int_rem_euclid a (pos n)
int_modulo a (negsuc n) = neg_ℤ (int_rem_euclid (neg_ℤ a) (pos (suc n)))

-- the remainder r is not 0, and its sign is not that of b
abbrev pub has_other_sign : ℤ → ℤ → Bool
has_other_sign (pos zero) b = false
has_other_sign (pos (suc r)) (pos n) = false
has_other_sign (pos (suc r)) (negsuc n) = true
has_other_sign (negsuc r) (pos n) = true
has_other_sign (negsuc r) (negsuc n) = false

-- the remainder r is 0 or has the sign of z
abbrev pub HasSignOf : ℤ → ℤ → Type 0
HasSignOf (pos n) r = pos 0 ≤ℤ r
HasSignOf (negsuc n) r = r ≤ℤ pos 0
