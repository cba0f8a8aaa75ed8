-- The functions of the host's that code calls.
use Rattle.std.specs.Prelude.{List, [], ◌∷◌}
use Rattle.std.specs.List.{flat_map, fold}
use Rattle.wasm_form.specs.declared.linked.ExternFunction.{ExternFunction}
use Rattle.wasm_form.specs.declared.linked.Reloc.{Reloc}
use Rattle.wasm_form.specs.declared.linked.Symbol.{Symbol}
use Rattle.wasm_form.specs.declared.linked.Symbol.TheVariants as symbol
use Rattle.wasm_link.specs.declared.named.Function.{Function}
use Rattle.wasm_link.specs.Names.{with_new}
use Rattle.wasm_link.specs.Order.{extern_cmp, in_order}

abbrev pub symbol_externs : Symbol → List ExternFunction
symbol_externs (symbol.Extern e) = e ∷ []
symbol_externs other = []

abbrev pub reloc_externs : Reloc → List ExternFunction
reloc_externs r = symbol_externs r.symbol

abbrev pub function_externs : Function → List ExternFunction
function_externs f = flat_map reloc_externs f.code.relocs

-- functions of the host's with one more, unless its spelling is there
abbrev pub with_extern : List ExternFunction → ExternFunction → List ExternFunction
with_extern = with_new (λ (e : ExternFunction). e.spelling)

-- those that code calls, one of each spelling
abbrev pub called_externs : List Function → List ExternFunction
called_externs functions = fold with_extern [] (flat_map function_externs functions)

-- sorted by module, then name, then spelling
abbrev pub imported : List Function → List ExternFunction
imported functions = in_order extern_cmp (called_externs functions)
