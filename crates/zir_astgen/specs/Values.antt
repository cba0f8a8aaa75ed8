-- The bytes that string literals stand for (Zig Language Reference 0.14, "String Literals and Unicode Code Point
-- Literals", "Multiline String Literals"). Each definition has a value at every list of bytes; what the values are
-- where no literal is written does not matter.
use Rattle.std.specs.Prelude.{ℕ, zero, suc, ◌+◌, ◌==◌, ◌&&◌, ◌||◌, if◌then◌else◌, List, [], ◌∷◌, slice_index, drop}
use Rattle.zir_form.specs.Escapes.{value_from}

-- a string on one line: what stands between the quotes, escapes resolved
unfoldable pub string_value : List ℕ → List ℕ
string_value bytes = value_from 0 (drop 1 bytes)

-- how many bytes stand at the front of a line up to behind its `\\`: spaces and TABs, and the two
unfoldable pub margin : List ℕ → ℕ
margin [] = 2
margin (b ∷ rest) = if b == 32 || b == 9 then margin rest + 1 else 2

-- Lines, joined by LF: the margin of a line is left out, and a CR directly before LF too; the first `skip`
-- bytes belong to what stands before.
unfoldable pub lines_from : ℕ → List ℕ → List ℕ
lines_from skip [] = []
lines_from (suc skip) (b ∷ rest) = lines_from skip rest
lines_from zero (b ∷ rest) =
    if b == 10 then 10 ∷ lines_from (margin rest) rest
    else (if b == 13 && slice_index rest 0 == 10 then lines_from 0 rest
    else b ∷ lines_from 0 rest)

-- a string of several lines, from the first `\\`
unfoldable pub multiline_value : List ℕ → List ℕ
multiline_value bytes = lines_from 2 bytes
