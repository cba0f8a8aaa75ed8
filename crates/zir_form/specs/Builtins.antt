-- The builtins of the language, each with the number of its arguments.
use Rattle.std.specs.Prelude.{ℕ, List, [], ◌∷◌, codes, map, Option, Some, None, if◌then◌else◌}
use Rattle.std.specs.Borrow.{Bor}
use Rattle.std.specs.Str.{bytes_eq}
use Rattle.zir_form.specs.declared.builtin.Builtin.{Builtin}
use Rattle.zir_form.specs.declared.builtin.Builtin.TheVariants as builtin
use Rattle.zir_form.specs.declared.builtin.BuiltinFn.{BuiltinFn}

-- a row: the name, the builtin, and the number of its arguments
abbrev pub Row : Type 0
Row = List ℕ × Builtin × ℕ

abbrev pub builtins : List Row
builtins =
    (codes "@import", builtin.Import, 1)
    ∷ (codes "@This", builtin.This, 0)
    ∷ (codes "@TypeOf", builtin.TypeOf, 1)
    ∷ (codes "@as", builtin.As, 2)
    ∷ (codes "@sizeOf", builtin.SizeOf, 1)
    ∷ (codes "@alignOf", builtin.AlignOf, 1)
    ∷ (codes "@bitSizeOf", builtin.BitSizeOf, 1)
    ∷ (codes "@hasDecl", builtin.HasDecl, 2)
    ∷ (codes "@hasField", builtin.HasField, 2)
    ∷ (codes "@field", builtin.Field, 2)
    ∷ (codes "@compileError", builtin.CompileError, 1)
    ∷ (codes "@setEvalBranchQuota", builtin.SetEvalBranchQuota, 1)
    ∷ (codes "@panic", builtin.Panic, 1)
    ∷ (codes "@trap", builtin.Trap, 0)
    ∷ (codes "@intFromBool", builtin.IntFromBool, 1)
    ∷ (codes "@intFromEnum", builtin.IntFromEnum, 1)
    ∷ (codes "@divTrunc", builtin.DivTrunc, 2)
    ∷ (codes "@divFloor", builtin.DivFloor, 2)
    ∷ (codes "@rem", builtin.Rem, 2)
    ∷ (codes "@mod", builtin.Mod, 2)
    ∷ (codes "@min", builtin.Min, 2)
    ∷ (codes "@max", builtin.Max, 2)
    ∷ (codes "@clz", builtin.Clz, 1)
    ∷ (codes "@ctz", builtin.Ctz, 1)
    ∷ (codes "@popCount", builtin.PopCount, 1)
    ∷ (codes "@intCast", builtin.IntCast, 1)
    ∷ (codes "@truncate", builtin.Truncate, 1)
    ∷ (codes "@bitCast", builtin.BitCast, 1)
    ∷ (codes "@enumFromInt", builtin.EnumFromInt, 1)
    ∷ []

-- the rows of the program's table, as rows of this one
abbrev pub written : List (Bor (List ℕ) × Builtin × ℕ) → List Row
written rows = map (λ row. (row.0.now, row.1, row.2)) rows

-- the builtin that the row of a name has
unfoldable pub found_in : List Row → List ℕ → Option BuiltinFn
found_in [] name = None
found_in (row ∷ more) name = if bytes_eq row.0 name then Some (record { builtin = row.1; parameters = row.2 }) else found_in more name

-- the builtin of a name
unfoldable pub builtin_fn : List ℕ → Option BuiltinFn
builtin_fn name = found_in builtins name
