-- A word that is no text is no path.
use Rattle.std.proofs.Common.{◌≡◌, ℕ, ◌<◌, Bool, true, false, ◌&&◌, List, [], ◌∷◌, None, Some, is_none, Err, refl, arith, suc, zero, lit<, if◌then◌else◌}
use Rattle.std.proofs.lemmas.Bool.Decides.{nat_tests}
use Rattle.std.specs.List.{list_all}
use Rattle.std.specs.Str.{IsAscii, IsUtf8}
use Rattle.std.proofs.lemmas.Str.{IsUtf8-from_ascii}
use Rattle.zw_base.specs.Path.{path_fault, is_path_byte}
use Rattle.zw_base.specs.declared.path.PathFault.TheVariants.{Empty, TooLong, BadByte, BadPart}
use Rattle.zw_base.specs.declared.reason.Reason.TheVariants.{BadPath}
use Rattle.script_read.specs.declared.command.Refusal.TheVariants.{Bad}
use Rattle.script_read.specs.Words.{path_in}

both : (a b : Bool) → (a && b) ≡ true → (a ≡ true) × (b ≡ true)
both true b h = (refl, h)
both false b h = cc

path_byte_below : (b : ℕ) → is_path_byte b ≡ true → b < 128
path_byte_below b h = grind (arith, nat_tests)

path_bytes_ascii : (word : List ℕ) → list_all is_path_byte word ≡ true → IsAscii word
path_bytes_ascii [] h i = lit< tt
path_bytes_ascii (b ∷ word) h zero = path_byte_below b (both _ _ h).0
path_bytes_ascii (b ∷ word) h (suc i) = path_bytes_ascii word (both _ _ h).1 i

third : (a b c d : Bool) → is_none (if a then Some Empty else if b then Some TooLong else if c then (if d then Some BadPart else None) else Some BadByte) ≡ true → c ≡ true
third true b c d h = cc
third false true c d h = cc
third false false true d h = refl
third false false false d h = cc

-- each byte of an allowed path may stand in one
pub path_bytes : (word : List ℕ) → is_none (path_fault word) ≡ true → list_all is_path_byte word ≡ true
path_bytes word h = third _ _ _ _ h

pub text_of_path : (word : List ℕ) → is_none (path_fault word) ≡ true → IsUtf8 word
text_of_path word h = IsUtf8-from_ascii word (path_bytes_ascii word (path_bytes word h))

no_path : (word : List ℕ) (b : Bool) → is_none (path_fault word) ≡ b → (IsUtf8 word → ⊥) → path_in word ≡ Err (Bad BadPath)
no_path word true h binary = absurd (binary (text_of_path word h))
no_path word false h binary = rw h refl

pub no_text_no_path : (word : List ℕ) → (IsUtf8 word → ⊥) → path_in word ≡ Err (Bad BadPath)
no_text_no_path word binary = no_path word (is_none (path_fault word)) refl binary
