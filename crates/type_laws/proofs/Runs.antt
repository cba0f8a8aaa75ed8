-- Runs of bytes, numbers, names and quoted bytes are read back from a text that begins with them.
use Rattle.std.proofs.Common.{◌≡◌, ℕ, ℤ, pos, negsuc, suc, ◌/◌, ◌%◌, ◌^◌, ◌<◌, ◌≤◌, nat_le, ◌==◌, not, ◌&&◌, ◌||◌, Bool, true, false, if◌then◌else◌, List, [], ◌∷◌, ◌++◌, length, refl, sym, ap, subst, ◌∙◌, arith, append_assoc, true≢false}
use Rattle.std.specs.List.{list_all, flat_map}
use Rattle.std.specs.Fmt.{decimal}
use Rattle.std.specs.Str.Parse.{AllDigits, digits_value}
use Rattle.std.proofs.lemmas.Fmt.{decimal_is_IsNumeral_wide}
use Rattle.std.proofs.lemmas.Str.Parse.{digit_from_value}
use Rattle.type_form.specs.Spelling.{number_text, int_text, is_word_byte, hex_digit, quoted_byte, quoted}
use Rattle.type_form.specs.Words.{FitsInt}
use Rattle.type_form.specs.Fit.{IsNumber}

pub and_left : (a b : Bool) → (a && b) ≡ true → a ≡ true
and_left true b e = refl
and_left false b e = absurd (true≢false (sym e))

pub and_right : (a b : Bool) → (a && b) ≡ true → b ≡ true
and_right true b e = e
and_right false b e = absurd (true≢false (sym e))

pub heads : (a b : ℕ) (x y : List ℕ) → a ∷ x ≡ b ∷ y → a ≡ b
heads a b x y e = cc

pub tails : (a b : ℕ) (x y : List ℕ) → a ∷ x ≡ b ∷ y → x ≡ y
tails a b x y e = cc

-- equal fronts leave equal rests
pub cut : (a x y : List ℕ) → a ++ x ≡ a ++ y → x ≡ y
cut [] x y e = e
cut (c ∷ a) x y e = cut a x y (tails c c (a ++ x) (a ++ y) e)

-- the byte behind a run is none of it
abbrev pub stops : (ℕ → Bool) → List ℕ → Bool
stops p [] = true
stops p (c ∷ cs) = not (p c)

no_stop : (p : ℕ → Bool) (c : ℕ) → p c ≡ true → not (p c) ≡ true → ⊥
no_stop p c e f = true≢false (sym f ∙ ap not e)

-- of two texts that begin with a run, the runs are equal, and what stands behind them
pub run_unique : (p : ℕ → Bool) (a b x y : List ℕ) → list_all p a ≡ true → list_all p b ≡ true → stops p x ≡ true → stops p y ≡ true → a ++ x ≡ b ++ y → (a ≡ b) × (x ≡ y)
run_unique p [] [] x y f g h k e = (refl, e)
run_unique p [] (d ∷ b) x y f g h k e = absurd (no_stop p d (and_left (p d) (list_all p b) g) (subst (λ z. stops p z ≡ true) e h))
run_unique p (c ∷ a) [] x y f g h k e = absurd (no_stop p c (and_left (p c) (list_all p a) f) (subst (λ z. stops p z ≡ true) (sym e) k))
run_unique p (c ∷ a) (d ∷ b) x y f g h k e =
    let same : c ≡ d = cc in
    let rest : a ++ x ≡ b ++ y = cc in
    let r = run_unique p a b x y (and_right (p c) (list_all p a) f) (and_right (p d) (list_all p b) g) h k rest in
    let front = r.0 in
    (cc, r.1)

-- numbers

abbrev pub is_digit : ℕ → Bool
is_digit b = nat_le 48 b && nat_le b 57

digit_is : (c : ℕ) → 48 ≤ c → c ≤ 57 → is_digit c ≡ true
digit_is c h k = grind arith

all_digits : (ds : List ℕ) → AllDigits 10 ds → list_all is_digit ds ≡ true
all_digits [] d = refl
all_digits (c ∷ cs) d =
    let r = digit_from_value c d.0 in
    ap (λ t. t && list_all is_digit cs) (digit_is c (omega (arith, r)) (omega (arith, r))) ∙ all_digits cs d.1

wide : (n : ℕ) → IsNumber n → n < 10 ^ 64
wide n h = omega (arith, h)

pub number_digits : (n : ℕ) → IsNumber n → list_all is_digit (number_text n) ≡ true
unfolding number_text
number_digits n h = all_digits (decimal n) (decimal_is_IsNumeral_wide n (wide n h)).0.1

pub number_some : (n : ℕ) → IsNumber n → 0 < length (number_text n)
unfolding number_text
number_some n h = (decimal_is_IsNumeral_wide n (wide n h)).0.0

number_injective : (m n : ℕ) → IsNumber m → IsNumber n → number_text m ≡ number_text n → m ≡ n
unfolding number_text
number_injective m n h k e = sym (decimal_is_IsNumeral_wide m (wide m h)).1 ∙ ap (digits_value 10) e ∙ (decimal_is_IsNumeral_wide n (wide n k)).1

pub number_unique : (m n : ℕ) (x y : List ℕ) → IsNumber m → IsNumber n → stops is_digit x ≡ true → stops is_digit y ≡ true → number_text m ++ x ≡ number_text n ++ y → (m ≡ n) × (x ≡ y)
number_unique m n x y h k s t e =
    let r = run_unique is_digit (number_text m) (number_text n) x y (number_digits m h) (number_digits n k) s t e in
    (number_injective m n h k r.0, r.1)

-- the first byte of what is not empty, where each is so
pub head_of : (p : ℕ → Bool) (ds : List ℕ) → 0 < length ds → list_all p ds ≡ true → (d : ℕ) × (rest : List ℕ) × (ds ≡ d ∷ rest) × (p d ≡ true)
head_of p [] h all = absurd (omega (arith, h))
head_of p (d ∷ ds) h all = (d, ds, refl, and_left (p d) (list_all p ds) all)

pub number_head : (n : ℕ) → IsNumber n → (d : ℕ) × (rest : List ℕ) × (number_text n ≡ d ∷ rest) × (is_digit d ≡ true)
number_head n h = head_of is_digit (number_text n) (number_some n h) (number_digits n h)

-- no number begins with another byte
pub number_not : (n c : ℕ) (x y : List ℕ) → IsNumber n → is_digit c ≡ false → number_text n ++ x ≡ c ∷ y → ⊥
number_not n c x y h f e =
    let r = number_head n h in
    let g : r.0 ∷ (r.1 ++ x) ≡ c ∷ y = ap (λ t. t ++ x) (sym r.2) ∙ e in
    let same : r.0 ≡ c = cc in
    true≢false (sym r.3 ∙ ap is_digit same ∙ f)

-- integers

int_pos : (n : ℕ) → int_text (pos n) ≡ number_text n
unfolding int_text number_text
int_pos n = refl

int_neg : (n : ℕ) → int_text (negsuc n) ≡ 45 ∷ number_text (suc n)
unfolding int_text number_text
int_neg n = refl

pos_fits : (n : ℕ) → n < 2 ^ 127 → IsNumber n
pos_fits n h = omega (arith, h)

neg_fits : (n : ℕ) → n < 2 ^ 127 → IsNumber (suc n)
neg_fits n h = omega (arith, h)

pub int_unique : (m n : ℤ) (x y : List ℕ) → FitsInt m → FitsInt n → stops is_digit x ≡ true → stops is_digit y ≡ true → int_text m ++ x ≡ int_text n ++ y → (m ≡ n) × (x ≡ y)
int_unique (pos m) (pos n) x y h k s t e =
    let r = number_unique m n x y (pos_fits m h) (pos_fits n k) s t (ap (λ z. z ++ x) (sym (int_pos m)) ∙ e ∙ ap (λ z. z ++ y) (int_pos n)) in
    (ap pos r.0, r.1)
int_unique (pos m) (negsuc n) x y h k s t e =
    absurd (number_not m 45 x (number_text (suc n) ++ y) (pos_fits m h) refl (ap (λ z. z ++ x) (sym (int_pos m)) ∙ e ∙ ap (λ z. z ++ y) (int_neg n)))
int_unique (negsuc m) (pos n) x y h k s t e =
    absurd (number_not n 45 y (number_text (suc m) ++ x) (pos_fits n k) refl (ap (λ z. z ++ y) (sym (int_pos n)) ∙ sym e ∙ ap (λ z. z ++ x) (int_neg m)))
int_unique (negsuc m) (negsuc n) x y h k s t e =
    let f : 45 ∷ (number_text (suc m) ++ x) ≡ 45 ∷ (number_text (suc n) ++ y) = ap (λ z. z ++ x) (sym (int_neg m)) ∙ e ∙ ap (λ z. z ++ y) (int_neg n) in
    let g : number_text (suc m) ++ x ≡ number_text (suc n) ++ y = cc in
    let r = number_unique (suc m) (suc n) x y (neg_fits m h) (neg_fits n k) s t g in
    (ap negsuc (omega (arith, r.0)), r.1)

or_first : (a b : Bool) → a ≡ true → (a || b) ≡ true
or_first true b e = refl
or_first false b e = absurd (true≢false (sym e))

-- an integer begins with a digit or a minus sign
pub int_head : (z : ℤ) → FitsInt z → (c : ℕ) × (rest : List ℕ) × (int_text z ≡ c ∷ rest) × ((is_digit c || (c == 45)) ≡ true)
int_head (pos n) h = let r = number_head n (pos_fits n h) in (r.0, r.1, int_pos n ∙ r.2, or_first (is_digit r.0) _ r.3)
int_head (negsuc n) h = (45, number_text (suc n), int_neg n, refl)

-- quoted bytes

hex_injective : (m n : ℕ) → hex_digit m ≡ hex_digit n → m ≡ n
hex_injective m n e = grind arith

whole : (c d : ℕ) → c / 16 ≡ d / 16 → c % 16 ≡ d % 16 → c ≡ d
whole c d e f = omega (arith, e, f)

abbrev written : Bool → ℕ → List ℕ
written true b = b ∷ []
written false b = 92 ∷ 120 ∷ hex_digit (b / 16) ∷ hex_digit (b % 16) ∷ []

byte_written : (b : ℕ) → quoted_byte b ≡ written (is_word_byte b) b
unfolding quoted_byte
byte_written b = by (is_word_byte b)
  where
    by : (t : Bool) → (if t then b ∷ [] else 92 ∷ 120 ∷ hex_digit (b / 16) ∷ hex_digit (b % 16) ∷ []) ≡ written t b
    by true = refl
    by false = refl

byte_unique : (c d : ℕ) (x y : List ℕ) → quoted_byte c ++ x ≡ quoted_byte d ++ y → (c ≡ d) × (x ≡ y)
byte_unique c d x y e = by (is_word_byte c) (is_word_byte d) refl refl (ap (λ z. z ++ x) (sym (byte_written c)) ∙ e ∙ ap (λ z. z ++ y) (byte_written d))
  where
    by : (s t : Bool) → is_word_byte c ≡ s → is_word_byte d ≡ t → written s c ++ x ≡ written t d ++ y → (c ≡ d) × (x ≡ y)
    by true true f g h = (cc, cc)
    by true false f g h = let same : c ≡ 92 = cc in absurd (true≢false (sym f ∙ ap is_word_byte same))
    by false true f g h = let same : d ≡ 92 = cc in absurd (true≢false (sym g ∙ ap is_word_byte same))
    by false false f g h =
        let high : hex_digit (c / 16) ≡ hex_digit (d / 16) = cc in
        let low : hex_digit (c % 16) ≡ hex_digit (d % 16) = cc in
        (whole c d (hex_injective (c / 16) (d / 16) high) (hex_injective (c % 16) (d % 16) low), cc)

no_quote : (x y : List ℕ) → 34 ∷ x ≡ 92 ∷ y → ⊥
no_quote x y e = cc

byte_not_by : (t : Bool) (d : ℕ) (x y : List ℕ) → is_word_byte d ≡ t → 34 ∷ x ≡ written t d ++ y → ⊥
byte_not_by true d x y g h = let same : d ≡ 34 = cc in true≢false (sym g ∙ ap is_word_byte same)
byte_not_by false d x y g h = no_quote x _ h

byte_not : (d : ℕ) (x y : List ℕ) → 34 ∷ x ≡ quoted_byte d ++ y → ⊥
byte_not d x y e = byte_not_by (is_word_byte d) d x y refl (e ∙ ap (λ z. z ++ y) (byte_written d))

quoted_more : (b : ℕ) (bs x : List ℕ) → quoted (b ∷ bs) ++ x ≡ quoted_byte b ++ (quoted bs ++ x)
unfolding quoted
quoted_more b bs x = append_assoc (quoted_byte b) (flat_map quoted_byte bs) x

quoted_none : (x : List ℕ) → quoted [] ++ x ≡ x
unfolding quoted
quoted_none x = refl

pub quoted_unique : (a b x y : List ℕ) → quoted a ++ 34 ∷ x ≡ quoted b ++ 34 ∷ y → (a ≡ b) × (x ≡ y)
quoted_unique [] [] x y e = let f = sym (quoted_none (34 ∷ x)) ∙ e ∙ quoted_none (34 ∷ y) in (refl, cc)
quoted_unique [] (d ∷ b) x y e = absurd (byte_not d x (quoted b ++ 34 ∷ y) (sym (quoted_none (34 ∷ x)) ∙ e ∙ quoted_more d b (34 ∷ y)))
quoted_unique (c ∷ a) [] x y e = absurd (byte_not c y (quoted a ++ 34 ∷ x) (sym (quoted_none (34 ∷ y)) ∙ sym e ∙ quoted_more c a (34 ∷ x)))
quoted_unique (c ∷ a) (d ∷ b) x y e =
    let r = byte_unique c d (quoted a ++ 34 ∷ x) (quoted b ++ 34 ∷ y) (sym (quoted_more c a (34 ∷ x)) ∙ e ∙ quoted_more d b (34 ∷ y)) in
    let s = quoted_unique a b x y r.1 in
    let head = r.0 in
    let rest = s.0 in
    (cc, s.1)
