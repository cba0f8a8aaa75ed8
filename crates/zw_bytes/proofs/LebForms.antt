-- The groups of a number meet the grammar, and no form of a number begins another.
use Rattle.std.proofs.Common.{◌≡◌, ℕ, zero, suc, ◌+◌, ◌-◌, ◌*◌, ◌/◌, ◌<◌, ◌≤◌, Bool, true, false, List, [], ◌∷◌, ◌++◌, ap, sym, ◌∙◌, arith, inl, inr}
use Rattle.std.proofs.lemmas.Int.{ints}
use Rattle.std.specs.Prelude.{ℤ, pos, negsuc, ◌+ℤ◌, ◌*ℤ◌}
use Rattle.std.specs.Int.{w32, w64}
use Rattle.std.specs.Int.RustNames.{FitsSigned}
use Rattle.zw_bytes.specs.Leb.{groups, padded_groups, low_group, signed_leb, signed_padded, unsigned_padded, last_signed, IsLong, IsUnsignedLeb, IsSignedLeb, IsUnsignedForm, IsSignedForm}
use Rattle.zw_bytes.proofs.LebLemmas.{groups_bound, groups_last, groups_step, part_below, below_or}

unsigned_longer : (b : ℕ) (bs : List ℕ) (n high : ℕ) → 128 ≤ b → b < 256 → 0 < high → n + 128 ≡ b + 128 * high → IsUnsignedLeb bs high → IsUnsignedLeb (b ∷ bs) n
unsigned_longer b [] n high f g p e h = absurd h
unsigned_longer b (c ∷ cs) n high f g p e h = (f, g, high, p, e, h)

unsigned_last : (n : ℕ) → n < 128 → IsUnsignedLeb (low_group false n ∷ []) n
unsigned_last n h = (omega arith, omega arith)

pub unsigned_form : (j n : ℕ) → n < groups_bound 128 j → IsUnsignedLeb (groups 128 false (suc j) n) n
unsigned_form zero n h = rw (groups_last 128 false zero n h) (unsigned_last n h)
unsigned_form (suc j) n h = elim (below_or n 128) [
  | inl lt ↦ rw (groups_last 128 false (suc j) n lt) (unsigned_last n lt)
  | inr ge ↦ rw (groups_step 128 false (suc j) n ge)
      (unsigned_longer _ _ n (n / 128) (omega arith) (omega arith) (omega arith) (omega arith) (unsigned_form j (n / 128) (part_below n _ h)))
]

-- the number of this sign
abbrev number : Bool → ℕ → ℤ
number false n = pos n
number true n = negsuc n

signed_longer : (b : ℕ) (bs : List ℕ) (z high : ℤ) → 128 ≤ b → b < 256 → IsLong z → z ≡ pos (b - 128) +ℤ (pos 128 *ℤ high) → IsSignedLeb bs high → IsSignedLeb (b ∷ bs) z
signed_longer b [] z high f g l e h = absurd h
signed_longer b (c ∷ cs) z high f g l e h = (f, g, l, high, e, h)

low_small : (s : Bool) (n : ℕ) → low_group s n < 128
low_small false n = omega arith
low_small true n = omega arith

low_last : (s : Bool) (n : ℕ) → n < 64 → number s n ≡ last_signed (low_group s n)
low_last false n h = grind (arith, ints)
low_last true n h = grind (arith, ints)

is_long : (s : Bool) (n : ℕ) → 64 ≤ n → IsLong (number s n)
is_long false n h = h
is_long true n h = h

splits : (s : Bool) (n : ℕ) → number s n ≡ pos ((128 + low_group s n) - 128) +ℤ (pos 128 *ℤ number s (n / 128))
splits false n = omega (arith, ints)
splits true n = omega (arith, ints)

signed_last : (s : Bool) (n : ℕ) → n < 64 → IsSignedLeb (low_group s n ∷ []) (number s n)
signed_last s n h = (low_small s n, low_last s n h)

pub signed_form : (s : Bool) (j n : ℕ) → n < groups_bound 64 j → IsSignedLeb (groups 64 s (suc j) n) (number s n)
signed_form s zero n h = rw (groups_last 64 s zero n h) (signed_last s n h)
signed_form s (suc j) n h = elim (below_or n 64) [
  | inl lt ↦ rw (groups_last 64 s (suc j) n lt) (signed_last s n lt)
  | inr ge ↦ rw (groups_step 64 s (suc j) n ge)
      (signed_longer _ _ _ (number s (n / 128)) (omega arith) (let low = low_small s n in omega arith) (is_long s n ge) (splits s n) (signed_form s j (n / 128) (part_below n _ h)))
]

pub signed_leb_form : (z : ℤ) → FitsSigned w64 z → IsSignedLeb (signed_leb z) z
signed_leb_form (pos n) h = signed_form false 9 n (let f = h.sfits in omega arith)
signed_leb_form (negsuc n) h = signed_form true 9 n (let f = h.sfits in omega arith)

-- the shortest form is a form
pub unsigned_any : (bs : List ℕ) (n : ℕ) → IsUnsignedLeb bs n → IsUnsignedForm bs n
unsigned_any [] n f = f
unsigned_any (b ∷ []) n f = f
unsigned_any (b ∷ c ∷ bs) n (f1, f2, u, f3, f4, f5) = (f1, f2, u, f4, unsigned_any (c ∷ bs) u f5)

pub signed_any : (bs : List ℕ) (z : ℤ) → IsSignedLeb bs z → IsSignedForm bs z
signed_any [] z f = f
signed_any (b ∷ []) z f = f
signed_any (b ∷ c ∷ bs) z (f1, f2, f3, u, f4, f5) = (f1, f2, u, f4, signed_any (c ∷ bs) u f5)

-- no form of a number begins another
pub unsigned_apart : (a b x y : List ℕ) (m n : ℕ) → IsUnsignedForm a m → IsUnsignedForm b n → a ++ x ≡ b ++ y → (a ≡ b) × (m ≡ n)
unsigned_apart [] b x y m n f g e = absurd f
unsigned_apart (p ∷ ps) [] x y m n f g e = absurd g
unsigned_apart (p ∷ []) (q ∷ []) x y m n f g e = let h : p ≡ q = cc in (cc, omega arith)
unsigned_apart (p ∷ []) (q ∷ r ∷ rs) x y m n f g e = let h : p ≡ q = cc in absurd (omega arith)
unsigned_apart (p ∷ o ∷ os) (q ∷ []) x y m n f g e = let h : p ≡ q = cc in absurd (omega arith)
unsigned_apart (p ∷ o ∷ os) (q ∷ r ∷ rs) x y m n (f1, f2, u, f3, f4) (g1, g2, v, g3, g4) e =
    let h : p ≡ q = cc in
    let t : (o ∷ os) ++ x ≡ (r ∷ rs) ++ y = cc in
    let both = unsigned_apart (o ∷ os) (r ∷ rs) x y u v f4 g4 t in
    (cc, omega arith)

pub signed_apart : (a b x y : List ℕ) (m n : ℤ) → IsSignedForm a m → IsSignedForm b n → a ++ x ≡ b ++ y → (a ≡ b) × (m ≡ n)
signed_apart [] b x y m n f g e = absurd f
signed_apart (p ∷ ps) [] x y m n f g e = absurd g
signed_apart (p ∷ []) (q ∷ []) x y m n f g e = let h : p ≡ q = cc in (cc, f.1 ∙ ap last_signed h ∙ sym g.1)
signed_apart (p ∷ []) (q ∷ r ∷ rs) x y m n f g e = let h : p ≡ q = cc in absurd (omega arith)
signed_apart (p ∷ o ∷ os) (q ∷ []) x y m n f g e = let h : p ≡ q = cc in absurd (omega arith)
signed_apart (p ∷ o ∷ os) (q ∷ r ∷ rs) x y m n (f1, f2, u, f3, f4) (g1, g2, v, g3, g4) e =
    let h : p ≡ q = cc in
    let t : (o ∷ os) ++ x ≡ (r ∷ rs) ++ y = cc in
    let both = signed_apart (o ∷ os) (r ∷ rs) x y u v f4 g4 t in
    (cc, cc)

-- the five bytes of a number are a form of it
unsigned_step : (b : ℕ) (bs : List ℕ) (n high : ℕ) → 128 ≤ b → b < 256 → n + 128 ≡ b + 128 * high → IsUnsignedForm bs high → IsUnsignedForm (b ∷ bs) n
unsigned_step b [] n high f g e h = absurd h
unsigned_step b (c ∷ cs) n high f g e h = (f, g, high, e, h)

pub padded_unsigned : (k n : ℕ) → n < groups_bound 128 k → IsUnsignedForm (padded_groups false k n) n
padded_unsigned zero n h = unsigned_last n h
padded_unsigned (suc k) n h = unsigned_step _ _ n (n / 128) (omega arith) (omega arith) (omega arith) (padded_unsigned k (n / 128) (part_below n _ h))

signed_step : (b : ℕ) (bs : List ℕ) (z high : ℤ) → 128 ≤ b → b < 256 → z ≡ pos (b - 128) +ℤ (pos 128 *ℤ high) → IsSignedForm bs high → IsSignedForm (b ∷ bs) z
signed_step b [] z high f g e h = absurd h
signed_step b (c ∷ cs) z high f g e h = (f, g, high, e, h)

pub padded_signed : (s : Bool) (k n : ℕ) → n < groups_bound 64 k → IsSignedForm (padded_groups s k n) (number s n)
padded_signed s zero n h = signed_last s n h
padded_signed s (suc k) n h = signed_step _ _ _ (number s (n / 128)) (omega arith) (let low = low_small s n in omega arith) (splits s n) (padded_signed s k (n / 128) (part_below n _ h))

pub signed_padded_form : (z : ℤ) → FitsSigned w32 z → IsSignedForm (signed_padded z) z
signed_padded_form (pos n) h = padded_signed false 4 n (let f = h.sfits in omega arith)
signed_padded_form (negsuc n) h = padded_signed true 4 n (let f = h.sfits in omega arith)
