-- Exported functions, and a name that stands twice.
use Rattle.std.specs.Prelude.{ℕ, suc, ◌%◌, ◌^◌, ◌||◌, if◌then◌else◌, Bool, false, List, [], ◌∷◌, ◌++◌, Option, Some, None, codes}
use Rattle.std.specs.Str.{bytes_eq}
use Rattle.wasm_link.specs.declared.named.Function.{Function}
use Rattle.wasm_link.specs.declared.named.NamedExport.{NamedExport}
use Rattle.wasm_link.specs.declared.named.Place.{Place}

-- the name of the memory
abbrev pub memory_name : List ℕ
memory_name = codes "memory"

-- a function's export, where it has one
abbrev pub function_export : ℕ → Option (List ℕ) → List NamedExport
function_export number None = []
function_export number (Some name) = record { name = name; function = number } ∷ []

-- the exports of functions, the first with this number
abbrev pub exports_from : ℕ → List Function → List NamedExport
exports_from number [] = []
exports_from number (f ∷ functions) = function_export (number % 2 ^ 32) f.export ++ exports_from (suc number) functions

abbrev pub begins_with : List ℕ → List NamedExport → Bool
begins_with name [] = false
begins_with name (e ∷ exports) = bytes_eq e.name name

abbrev pub is_memory : List ℕ → Bool
is_memory name = bytes_eq name memory_name

-- The first name of sorted exports that stands twice, where the memory's name stands once before them.
abbrev pub double_name : List NamedExport → Option (List ℕ)
double_name [] = None
double_name (e ∷ exports) =
    if is_memory e.name || begins_with e.name exports then Some e.name else double_name exports

abbrev pub has_name : List ℕ → Option (List ℕ) → Bool
has_name name None = false
has_name name (Some own) = bytes_eq own name

-- where the functions of a name are declared
abbrev pub places_of : List ℕ → List Function → List Place
places_of name [] = []
places_of name (f ∷ functions) =
    if has_name name f.export then f.place ∷ places_of name functions else places_of name functions
