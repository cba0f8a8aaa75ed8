-- The numbers of WebAssembly's binary format: LEB128, least significant group of seven bits first.
-- A number's bytes as a function, and the grammar of the standard that they meet.
use Rattle.std.specs.Prelude.{◌≡◌, ℕ, zero, suc, ℤ, pos, negsuc, ◌+ℤ◌, ◌*ℤ◌, ◌-ℤ◌, ◌+◌, ◌-◌, ◌*◌, ◌/◌, ◌%◌, ◌<◌, ◌≤◌, Bool, true, false, nat_lt, if◌then◌else◌, List, [], ◌∷◌}

-- the low seven bits of n, or for a negative number, which is -(n + 1), of that number
abbrev pub low_group : Bool → ℕ → ℕ
low_group false n = n % 128
low_group true n = 127 - n % 128

-- The groups of a number, at most this many: what is below the limit fits the last byte, whose high bit is clear.
unfoldable pub groups : ℕ → Bool → ℕ → ℕ → List ℕ
groups limit negative zero n = []
groups limit negative (suc k) n =
    if nat_lt n limit then low_group negative n ∷ [] else ((128 + low_group negative n) ∷ groups limit negative k (n / 128))

-- the shortest bytes of an unsigned number below 2^64
abbrev pub unsigned_leb : ℕ → List ℕ
unsigned_leb n = groups 128 false 10 n

-- the shortest bytes of a signed number of at most 64 bits
abbrev pub signed_leb : ℤ → List ℕ
signed_leb (pos n) = groups 64 false 10 n
signed_leb (negsuc n) = groups 64 true 10 n

-- the groups of a number in one more byte than this, whether it needs them or not
abbrev pub padded_groups : Bool → ℕ → ℕ → List ℕ
padded_groups negative zero n = low_group negative n ∷ []
padded_groups negative (suc k) n = (128 + low_group negative n) ∷ padded_groups negative k (n / 128)

-- the five bytes of an unsigned number of 32 bits: a number that is known later takes the place of another
abbrev pub unsigned_padded : ℕ → List ℕ
unsigned_padded n = padded_groups false 4 n

-- the five bytes of a signed number of 32 bits
abbrev pub signed_padded : ℤ → List ℕ
signed_padded (pos n) = padded_groups false 4 n
signed_padded (negsuc n) = padded_groups true 4 n

-- All forms of an unsigned number. A byte below 128 is the last and stands for itself. One from 128 on has the
-- low seven bits, and the bytes after it stand for the rest.
abbrev pub IsUnsignedForm : List ℕ → ℕ → Type 0
IsUnsignedForm [] n = ⊥
IsUnsignedForm (b ∷ []) n = (b < 128) × (n ≡ b)
IsUnsignedForm (b ∷ c ∷ bs) n = (128 ≤ b) × (b < 256) × (high : ℕ) × (n + 128 ≡ b + 128 * high) × IsUnsignedForm (c ∷ bs) high

-- The shortest form of an unsigned number: what the bytes after one from 128 on stand for isn't 0, so no form can
-- be shortened.
abbrev pub IsUnsignedLeb : List ℕ → ℕ → Type 0
IsUnsignedLeb [] n = ⊥
IsUnsignedLeb (b ∷ []) n = (b < 128) × (n ≡ b)
IsUnsignedLeb (b ∷ c ∷ bs) n = (128 ≤ b) × (b < 256) × (high : ℕ) × (0 < high) × (n + 128 ≡ b + 128 * high) × IsUnsignedLeb (c ∷ bs) high

-- the number that a last byte stands for: from 64 on it is negative
abbrev pub last_signed : ℕ → ℤ
last_signed b = if nat_lt b 64 then pos b else (pos b -ℤ pos 128)

-- what one byte can't hold
abbrev pub IsLong : ℤ → Type 0
IsLong (pos n) = 64 ≤ n
IsLong (negsuc n) = 64 ≤ n

-- All forms of a signed number. A byte below 128 is the last. One from 128 on has the low seven bits, and the bytes
-- after it stand for the rest.
abbrev pub IsSignedForm : List ℕ → ℤ → Type 0
IsSignedForm [] z = ⊥
IsSignedForm (b ∷ []) z = (b < 128) × (z ≡ last_signed b)
IsSignedForm (b ∷ c ∷ bs) z = (128 ≤ b) × (b < 256) × (high : ℤ) × (z ≡ pos (b - 128) +ℤ (pos 128 *ℤ high)) × IsSignedForm (c ∷ bs) high

-- The shortest form of a signed number: where bytes follow, the number doesn't fit one byte, so no form can be
-- shortened.
abbrev pub IsSignedLeb : List ℕ → ℤ → Type 0
IsSignedLeb [] z = ⊥
IsSignedLeb (b ∷ []) z = (b < 128) × (z ≡ last_signed b)
IsSignedLeb (b ∷ c ∷ bs) z = (128 ≤ b) × (b < 256) × IsLong z × (high : ℤ) × (z ≡ pos (b - 128) +ℤ (pos 128 *ℤ high)) × IsSignedLeb (c ∷ bs) high
