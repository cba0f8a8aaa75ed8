use Rattle.std.proofs.Common.{◌≡◌, ◌∷◌, [], map, ap, ◌∙◌}
use Rattle.wasm_form.specs.Binary.{fn_type_bytes}
use Rattle.wasm_form.specs.declared.module.Global.{Global}
use Rattle.wasm_form.specs.declared.module.Memory.{Memory}
use Rattle.wasm_link.specs.declared.named.Function.{Function}
use Rattle.wasm_link.specs.declared.operands.Targets.{Targets}
use Rattle.wasm_link.specs.Layout.{pages_to}
use Rattle.wasm_link.specs.Link.{exports_of, import_of, kinds_of, linked_code, segments_of, targets_of, type_index, types_of}
use Rattle.wasm_link.specs.Operands.{data_bytes}
use Rattle.wasm_link.proofs.Modules.{same_parts}
use Rattle.wasm_link.proofs.linking.module_of.Goals as goal

pub returns : goal.returns
returns c =
    let imports = c.args.imports.items in
    let functions = c.args.functions.items in
    let items = c.args.items.items in
    let types = types_of (kinds_of imports functions) in
    let targets : c.in_ok-targets.targets ≡ targets_of imports functions items c.args.errors.now =
    c.in_ok-targets.ensures
    ∙ ap (λ is. targets_of is c.deref-2.result.now c.deref-3.result.now c.args.errors.now) c.deref.ensures.value
    ∙ ap (λ fs. targets_of imports fs c.deref-3.result.now c.args.errors.now) c.deref-2.ensures.value
    ∙ ap (λ is. targets_of imports functions is c.args.errors.now) c.deref-3.ensures.value in
    let kinds : c.in_ok-types_of.field-0 ≡ types =
    c.in_ok-types_of.ensures
    ∙ ap (λ is. types_of (kinds_of is c.deref-5.result.now)) c.deref-4.ensures.value
    ∙ ap (λ fs. types_of (kinds_of imports fs)) c.deref-5.ensures.value in
    let names : c.into_parts-names.result.0 ≡ map fn_type_bytes types = c.into_parts-names.ensures.names ∙ ap (map fn_type_bytes) kinds in
    same_parts
    (c.of.ensures ∙ c.into_parts-names.ensures.values ∙ kinds)
    (c.of-2.ensures ∙ c.in_ok-imports_of.ensures ∙ ap (λ ns. map (import_of ns) imports) names)
    (c.of-3.ensures ∙ c.in_ok-type_indices.ensures
    ∙ ap (λ fs. map (λ (f : Function). type_index c.into_parts-names.result.0 f.code.kind) fs) c.deref-6.ensures.value
    ∙ ap (λ ns. map (λ (f : Function). type_index ns f.code.kind) functions) names)
    (c.of-4.ensures ∙ c.in_ok-vec.ensures.items ∙ ap (λ end. let m : Memory = record { min_pages = pages_to end } in m ∷ []) c.requires.laid.end)
    (c.of-5.ensures ∙ c.in_ok-vec-2.ensures.items ∙ ap (λ (g : Global). g ∷ []) c.in_ok-stack_pointer.ensures)
    (c.of-6.ensures ∙ c.in_ok-exports_of.ensures ∙ ap exports_of c.requires.exports)
    (c.of-7.ensures ∙ c.in_ok-codes_of.ensures ∙ ap (λ (t : Targets). map (λ (f : Function). linked_code t f.code) functions) targets)
    (c.of-8.ensures ∙ c.in_ok-segments_of.ensures ∙ ap segments_of (c.in_ok-data_bytes.ensures ∙ ap (λ (t : Targets). data_bytes t items) targets))
