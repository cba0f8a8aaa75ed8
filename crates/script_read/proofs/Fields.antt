-- What the words of a line say: an allowed path is a word, and so is a length's numeral, which is the only one of its number.
use Rattle.std.proofs.Common.{◌≡◌, ◌≢◌, ℕ, ◌<◌, ◌≤◌, ◌^◌, ◌==◌, nat_lt, nat_le, Bool, true, false, ◌&&◌, ◌||◌, List, [], ◌∷◌, length, slice_index, Option, None, Some, is_none, refl, sym, arith, zero, suc}
use Rattle.std.proofs.lemmas.Bool.{eqb-true}
use Rattle.std.proofs.lemmas.Bool.Decides.{nat_tests}
use Rattle.std.proofs.lemmas.Fmt.{decimal_nonempty, length-decimal-le, decimal_digit, first_decimal, digits_decimal, digits_value-decimal, decimal-digits_value}
use Rattle.std.proofs.lemmas.Str.Parse.{digits_value_short}
use Rattle.std.specs.Char.{is_ascii_digit}
use Rattle.std.specs.Fmt.{decimal}
use Rattle.std.specs.List.{list_all, list_any}
use Rattle.zw_base.specs.Path.{path_fault, is_path_byte}
use Rattle.zw_base.specs.declared.path.PathFault.{PathFault}
use Rattle.script_read.specs.Line.{HasNoEnd}
use Rattle.script_read.specs.Words.{is_length, number_of}
use Rattle.script_read.specs.Grammar.{Says, ALength, IsWord}
use Rattle.script_read.proofs.Numbers.{own}
use Rattle.script_read.proofs.Paths.{path_bytes}

both : (a b : Bool) → (a && b) ≡ true → (a ≡ true) × (b ≡ true)
both true b h = (refl, h)
both false b h = cc

-- where a test refuses a byte, and all bytes pass it, this byte isn't there
fails_at : (test : ℕ → Bool) (c b : ℕ) (here : Bool) → test c ≡ false → (b == c) ≡ here → test b ≡ true → here ≡ false
fails_at test c b true refused e h =
    let is : b ≡ c = eqb-true b c e in
    let wrong : test c ≡ true = rw is at h in
    cc
fails_at test c b false refused e h = refl

lacks : (test : ℕ → Bool) (c : ℕ) (word : List ℕ) → test c ≡ false → list_all test word ≡ true → list_any (λ b. b == c) word ≡ false
lacks test c [] refused h = refl
lacks test c (b ∷ word) refused h =
    let parts : (test b ≡ true) × (list_all test word ≡ true) = both _ _ h in
    rw (fails_at test c b (b == c) refused refl parts.0) (lacks test c word refused parts.1)

-- ---- paths

some_path : (word : List ℕ) → path_fault word ≡ None → word ≢ []
some_path [] h e = cc
some_path (b ∷ word) h e = cc

pub path_is_word : (word : List ℕ) → path_fault word ≡ None → IsWord word
path_is_word word h = (some_path word h, lacks is_path_byte 32 word refl (path_bytes word (rw h refl)))

pub path_has_no_end : (word : List ℕ) → path_fault word ≡ None → HasNoEnd word
path_has_no_end word h = lacks is_path_byte 10 word refl (path_bytes word (rw h refl))

pub no_fault : (fault : Option PathFault) → is_none fault ≡ true → fault ≡ None
no_fault None h = refl
no_fault (Some f) h = cc

-- ---- lengths

first_digit : (n : ℕ) → n < 2 ^ 64 → (nat_lt 48 (slice_index (decimal n) 0) || (length (decimal n) == 1)) ≡ true
first_digit zero small = rw (decimal_digit 0 (omega arith)) refl
first_digit (suc n) small = let above : nat_lt 48 (slice_index (decimal (suc n)) 0) ≡ true = grind (arith, nat_tests, first_decimal (suc n) (omega arith) small) in rw above refl

all_four : (a b c d : Bool) → a ≡ true → b ≡ true → c ≡ true → d ≡ true → (a && b && c && d) ≡ true
all_four a b c d e f g h = rw (e, f, g, h) refl

pub numeral_is_length : (n : ℕ) → n < 10 ^ 10 → is_length (decimal n) ≡ true
numeral_is_length n small =
    let within : n < 2 ^ 64 = omega arith in
    let some : nat_lt 0 (length (decimal n)) ≡ true = grind (arith, nat_tests, decimal_nonempty n within) in
    let few : nat_le (length (decimal n)) 10 ≡ true = grind (arith, nat_tests, length-decimal-le 10 n (omega arith) small within) in
    all_four _ _ _ _ some few (digits_decimal own n within) (first_digit n within)

pub numeral_value : (n : ℕ) → n < 10 ^ 10 → number_of (decimal n) ≡ n
numeral_value n small = digits_value-decimal own n (omega arith)

not_empty : (word : List ℕ) → 0 < length word → word ≢ []
not_empty [] h e = omega (arith, h)
not_empty (b ∷ word) h e = cc

pub numeral_is_word : (n : ℕ) → n < 10 ^ 10 → IsWord (decimal n)
numeral_is_word n small =
    let within : n < 2 ^ 64 = omega arith in
    (not_empty (decimal n) (decimal_nonempty n within), lacks is_ascii_digit 32 (decimal n) refl (digits_decimal own n within))

pub numeral_has_no_end : (n : ℕ) → n < 10 ^ 10 → HasNoEnd (decimal n)
numeral_has_no_end n small = lacks is_ascii_digit 10 (decimal n) refl (digits_decimal own n (omega arith))

one_digit : (above : Bool) (one : Bool) (word : List ℕ) → nat_lt 48 (slice_index word 0) ≡ above → (length word == 1) ≡ one → (above || one) ≡ true → slice_index word 0 ≡ 48 → length word ≡ 1
one_digit true one word e f h is = grind (arith, nat_tests)
one_digit false true word e f h is = eqb-true _ _ f
one_digit false false word e f h is = cc

four : (a b c d : Bool) → (a && b && c && d) ≡ true → (a ≡ true) × (b ≡ true) × (c ≡ true) × (d ≡ true)
four true true true true h = (refl, refl, refl, refl)
four true true true false h = cc
four true true false d h = cc
four true false c d h = cc
four false b c d h = cc

-- 1 to 10 digits without a leading zero are the numeral of a number
pub length_says : (word : List ℕ) → is_length word ≡ true → (number_of word < 10 ^ 10) × (word ≡ decimal (number_of word))
length_says word h =
    let parts = four (nat_lt 0 (length word)) (nat_le (length word) 10) (list_all is_ascii_digit word) (nat_lt 48 (slice_index word 0) || (length word == 1)) h in
    let some : nat_lt 0 (length word) ≡ true = parts.0 in
    let few : nat_le (length word) 10 ≡ true = parts.1 in
    let least : 0 < length word = grind (arith, nat_tests) in
    let most : length word ≤ 10 = grind (arith, nat_tests) in
    let small : number_of word < 10 ^ 10 = digits_value_short own word 10 parts.2 most in
    (small, sym (decimal-digits_value own word parts.2 least (one_digit _ _ word refl refl parts.3) (omega arith)))

-- and other words aren't
pub no_length : (word : List ℕ) → is_length word ≡ false → Says ALength word → ⊥
no_length word h (n, small, is) = let wrong : is_length word ≡ true = rw is (numeral_is_length n small) in cc
