-- The number that digits write.
use Rattle.std.proofs.Common.{◌≡◌, ℕ, ◌+◌, ◌*◌, ◌-◌, ◌^◌, ◌<◌, ◌≤◌, Bool, true, false, ◌&&◌, List, [], ◌∷◌, take, fold, refl, arith, rules, suc, zero}
use Rattle.std.proofs.lemmas.List.{length-take}
use Rattle.std.specs.Char.{is_ascii_digit}
use Rattle.std.specs.List.{list_all}
use Rattle.std.proofs.lemmas.Str.Parse.{IsNumeralModel, numerals_by_fold, digits_value_short}
use Rattle.script_read.specs.Words.{number_of}

abbrev pub AreDigits : List ℕ → Type 0
AreDigits word = list_all is_ascii_digit word ≡ true

abbrev pub number_on : ℕ → List ℕ → ℕ
number_on n digits = fold (λ n digit. 10 * n + (digit - 48)) n digits

pub own : IsNumeralModel AreDigits number_of
own = numerals_by_fold AreDigits (search rules) number_on (search rules)

both : (a b : Bool) → (a && b) ≡ true → (a ≡ true) × (b ≡ true)
both true b h = (refl, h)
both false b h = cc

together : (a b : Bool) → a ≡ true → b ≡ true → (a && b) ≡ true
together true b g h = h
together false b g h = cc

pub digits_in_front : (word : List ℕ) (i : ℕ) → AreDigits word → AreDigits (take i word)
digits_in_front word zero h = search rules
digits_in_front [] (suc i) h = refl
digits_in_front (d ∷ word) (suc i) h = together _ _ (both _ _ h).0 (digits_in_front word i (both _ _ h).1)

-- up to nine digits write a number of nine digits
pub front_is_small : (word : List ℕ) (i : ℕ) → AreDigits word → i ≤ 9 → number_of (take i word) < 10 ^ 9
front_is_small word i h few = digits_value_short own (take i word) 9 (digits_in_front word i h) (omega (arith, length-take {A = ℕ}))
