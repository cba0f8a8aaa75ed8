use Rattle.std.proofs.Common.{◌≡◌, [], sym, ap, ◌∙◌, subst}
use Rattle.std.specs.List.{IsDistinct, flat_map, fold}
use Rattle.std.specs.Str.{bytes_eq}
use Rattle.wasm_form.specs.declared.linked.ExternFunction.{ExternFunction}
use Rattle.wasm_link.specs.Imports.{function_externs, with_extern}
use Rattle.wasm_link.specs.Order.{extern_spellings}
use Rattle.wasm_link.proofs.Steps.{none_left}
use Rattle.wasm_link.proofs.DistinctLemmas.{fold_distinct, none_distinct}
use Rattle.wasm_link.proofs.imports.imported.Goals as goal

pub sort_externs-requires : goal.sort_externs-requires
sort_externs-requires c =
    let functions = c.args.functions.now in
    let all : c.loop-function.called ≡ fold with_extern [] (flat_map function_externs functions) =
    sym (ap (λ fs. fold with_extern c.loop-function.called (flat_map function_externs fs)) (none_left functions c.loop-function.function-index c.loop-function-test.false))
    ∙ c.loop-function.invariant in
    subst (λ externs. IsDistinct bytes_eq (extern_spellings externs)) (sym (c.into_parts-externs.ensures.values ∙ all))
    (fold_distinct (λ (e : ExternFunction). e.spelling) [] (flat_map function_externs functions) none_distinct)
