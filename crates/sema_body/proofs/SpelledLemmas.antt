-- Names that are well-formed UTF-8.
use Rattle.std.proofs.Common.{◌≡◌, ℕ, ◌<◌, List, length, true, false, ap, ◌∙◌, arith}
use Rattle.std.specs.Prelude.{◌==◌}
use Rattle.std.specs.Str.{IsUtf8, IsValidUpTo}
use Rattle.std.specs.Str.Lossy.{utf8_valid_len}
use Rattle.std.proofs.lemmas.Bool.{eq-eqb, ne_eqb}
use Rattle.std.proofs.lemmas.Str.{utf8_valid_len-IsUtf8, utf8_valid_len-IsValidUpTo}
use Rattle.elab_form.specs.Units.{is_export_name}

same_number : (n m : ℕ) → n ≡ m → (n == m) ≡ true
same_number n m e = eq-eqb n m e

other_number : (n m : ℕ) → n < m → (n == m) ≡ false
other_number n m h = ne_eqb n m (λ e. absurd (omega (arith, e, h)))

pub good-name : (name : List ℕ) → IsUtf8 name → is_export_name name ≡ true
good-name name h = same_number (utf8_valid_len name) (length name) (utf8_valid_len-IsUtf8 name h)

pub bad-name : (name : List ℕ) (n : ℕ) → IsValidUpTo name n → is_export_name name ≡ false
bad-name name n h = ap (λ m. m == length name) (utf8_valid_len-IsValidUpTo name n h) ∙ other_number n (length name) h.short

pub ruleset names = (good-name, bad-name)
