-- Lists in an order.
use Rattle.std.specs.Prelude.{ℕ, if◌then◌else◌, List, [], ◌∷◌, map}
use Rattle.std.specs.declared.cmp.Ordering.{Ordering}
use Rattle.std.specs.Ordering.{nat_cmp, on, then_cmp, is_lt}
use Rattle.std.specs.Cmp.Lexicographic.{slice_cmp}
use Rattle.wasm_form.specs.declared.linked.ExternFunction.{ExternFunction}
use Rattle.wasm_link.specs.declared.named.Function.{Function}
use Rattle.wasm_link.specs.declared.named.Item.{Item}
use Rattle.wasm_link.specs.declared.named.NamedExport.{NamedExport}

abbrev pub bytes_cmp : List ℕ → List ℕ → Ordering
bytes_cmp = slice_cmp nat_cmp

-- before the first that isn't less
unfoldable pub insert_by : {T : Type 0} → (T → T → Ordering) → T → List T → List T
insert_by cmp x [] = x ∷ []
insert_by cmp x (y ∷ ys) = if is_lt (cmp y x) then y ∷ insert_by cmp x ys else x ∷ y ∷ ys

-- the list in this order; those that are equal in it keep the order in which they stand
unfoldable pub in_order : {T : Type 0} → (T → T → Ordering) → List T → List T
in_order cmp [] = []
in_order cmp (x ∷ xs) = insert_by cmp x (in_order cmp xs)

abbrev pub function_cmp : Function → Function → Ordering
function_cmp = on (λ (f : Function). f.spelling) bytes_cmp

abbrev pub item_cmp : Item → Item → Ordering
item_cmp = on (λ (i : Item). i.spelling) bytes_cmp

-- functions of the host's: by module, name and spelling
abbrev pub extern_cmp : ExternFunction → ExternFunction → Ordering
extern_cmp =
    then_cmp (on (λ (e : ExternFunction). e.module_name) bytes_cmp)
    (then_cmp (on (λ (e : ExternFunction). e.name) bytes_cmp)
    (on (λ (e : ExternFunction). e.spelling) bytes_cmp))

-- exports: by name, then by the function's number
abbrev pub export_cmp : NamedExport → NamedExport → Ordering
export_cmp =
    then_cmp (on (λ (e : NamedExport). e.name) bytes_cmp)
    (on (λ (e : NamedExport). e.function) nat_cmp)

abbrev pub function_spellings : List Function → List (List ℕ)
function_spellings functions = map (λ (f : Function). f.spelling) functions

abbrev pub item_spellings : List Item → List (List ℕ)
item_spellings items = map (λ (i : Item). i.spelling) items

abbrev pub extern_spellings : List ExternFunction → List (List ℕ)
extern_spellings externs = map (λ (e : ExternFunction). e.spelling) externs
