-- Names of types and values that no declaration gives (Zig Language Reference 0.14, "Primitive Types",
-- "Primitive Values"), with the integer types up to 64 bits.
use Rattle.std.specs.Prelude.{ℕ, ◌+◌, ◌*◌, ◌-◌, ◌==◌, ◌&&◌, nat_le, if◌then◌else◌, List, [], ◌∷◌, map, codes, Option, None, Some}
use Rattle.std.specs.Borrow.{Bor}
use Rattle.std.specs.Option.{option_or}
use Rattle.std.specs.Str.{bytes_eq}
use Rattle.zig_tree.specs.TokenBytes.{is_within}
use Rattle.zir_form.specs.declared.primitive.Primitive.{Primitive}
use Rattle.zir_form.specs.declared.primitive.Primitive.TheVariants as primitive

-- a row: what is written, and what it is
abbrev pub Row : Type 0
Row = List ℕ × Primitive

-- those without a width
abbrev pub words : List Row
words =
    (codes "usize", primitive.Usize)
    ∷ (codes "isize", primitive.Isize)
    ∷ (codes "bool", primitive.Bool)
    ∷ (codes "void", primitive.Void)
    ∷ (codes "noreturn", primitive.Noreturn)
    ∷ (codes "type", primitive.Type)
    ∷ (codes "comptime_int", primitive.ComptimeInt)
    ∷ (codes "anyerror", primitive.AnyError)
    ∷ (codes "true", primitive.True)
    ∷ (codes "false", primitive.False)
    ∷ (codes "null", primitive.Null)
    ∷ (codes "undefined", primitive.Undefined)
    ∷ []

-- the rows of the program's table, as rows of this one
abbrev pub written : List (Bor (List ℕ) × Primitive) → List Row
written rows = map (λ row. (row.0.now, row.1)) rows

-- what the row says that is written so
unfoldable pub word_in : List Row → List ℕ → Option Primitive
word_in [] name = None
word_in (row ∷ rows) name = if bytes_eq row.0 name then Some row.1 else word_in rows name

-- a width from 1 to 64, in decimal without a leading zero
unfoldable pub one_digit : ℕ → Option ℕ
one_digit ones = if is_within 49 57 ones then Some (ones - 48) else None

unfoldable pub two_digits : ℕ → ℕ → Option ℕ
two_digits tens ones =
    if is_within 49 57 tens && (is_within 48 57 ones && nat_le (10 * (tens - 48) + (ones - 48)) 64) then Some (10 * (tens - 48) + (ones - 48)) else None

unfoldable pub width_of : List ℕ → Option ℕ
width_of (ones ∷ []) = one_digit ones
width_of (tens ∷ ones ∷ []) = two_digits tens ones
width_of _ = None

-- `u` or `i`, and a width
abbrev pub integer_named : ℕ → Option ℕ → Option Primitive
integer_named letter None = None
integer_named letter (Some width) =
    if letter == 117 then Some (primitive.Unsigned width)
    else (if letter == 105 then Some (primitive.Signed width) else None)

unfoldable pub integer_of : List ℕ → Option Primitive
integer_of [] = None
integer_of (letter ∷ digits) = integer_named letter (width_of digits)

-- what a name stands for by itself
unfoldable pub primitive_of : List ℕ → Option Primitive
primitive_of name = option_or (word_in words name) (integer_of name)
