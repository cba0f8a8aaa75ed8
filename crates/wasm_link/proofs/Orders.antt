-- The orders in which things stand are total, and how a sort by one of them is the list in order.
use Rattle.std.proofs.Common.{◌≡◌, ℕ, Bool, List, refl, ap, ◌∙◌}
use Rattle.std.specs.List.{IsDistinct}
use Rattle.std.specs.Cmp.{IsTotalOrder, IsStrictWeakOrder}
use Rattle.std.specs.declared.cmp.Ordering.{Ordering}
use Rattle.std.specs.declared.cmp.Ordering.TheVariants.{Less, Equal, Greater}
use Rattle.std.specs.Ordering.{is_lt, nat_cmp, ordering_then}
use Rattle.std.specs.Str.{bytes_eq}
use Rattle.std.proofs.lemmas.Cmp.{nat_list_cmp_total, nat_cmp_total, on_total, then_total}
use Rattle.std.proofs.lemmas.List.Sorted.{ranks_by}
use Rattle.std.proofs.lemmas.Map.Lookups.{exact_bytes, exact_unsigned}
use Rattle.wasm_form.specs.declared.linked.ExternFunction.{ExternFunction}
use Rattle.wasm_link.specs.declared.named.Function.{Function}
use Rattle.wasm_link.specs.declared.named.Item.{Item}
use Rattle.wasm_link.specs.declared.named.NamedExport.{NamedExport}
use Rattle.wasm_link.specs.Order.{bytes_cmp, function_cmp, item_cmp, extern_cmp, export_cmp, extern_spellings}
use Rattle.wasm_link.proofs.InOrder.{AreTold, told_by_key}

pub function_total : IsTotalOrder function_cmp
function_total = on_total (λ (f : Function). f.spelling) nat_list_cmp_total

pub item_total : IsTotalOrder item_cmp
item_total = on_total (λ (i : Item). i.spelling) nat_list_cmp_total

pub extern_total : IsTotalOrder extern_cmp
extern_total =
    then_total (on_total (λ (e : ExternFunction). e.module_name) nat_list_cmp_total)
    (then_total (on_total (λ (e : ExternFunction). e.name) nat_list_cmp_total)
    (on_total (λ (e : ExternFunction). e.spelling) nat_list_cmp_total))

pub export_total : IsTotalOrder export_cmp
export_total = then_total (on_total (λ (e : NamedExport). e.name) nat_list_cmp_total) (on_total (λ (e : NamedExport). e.function) nat_cmp_total)

both_equal : (r s : Ordering) → ordering_then r s ≡ Equal → (r ≡ Equal) × (s ≡ Equal)
both_equal Less s e = cc
both_equal Equal s e = (refl, e)
both_equal Greater s e = cc

abbrev named : List ℕ → ℕ → NamedExport
named name function = record { name = name; function = function }

same_export : (x y : NamedExport) → x.name ≡ y.name → x.function ≡ y.function → x ≡ y
same_export x y e f = ap (λ name. named name x.function) e ∙ ap (λ function. named y.name function) f

-- two exports that are equal in their order are one
pub told_exports : (exports : List NamedExport) → AreTold export_cmp exports
told_exports exports = record {
  apart = λ x y a b e.
      let both = both_equal (bytes_cmp x.name y.name) (nat_cmp x.function y.function) e in
      same_export x y (exact_bytes x.name y.name both.0) (exact_unsigned x.function y.function both.1);
}

pub told_externs : (externs : List ExternFunction) → IsDistinct bytes_eq (extern_spellings externs) → AreTold extern_cmp externs
told_externs externs d = record {
  apart = λ x y a b e.
      let rest = both_equal (bytes_cmp x.module_name y.module_name) (ordering_then (bytes_cmp x.name y.name) (bytes_cmp x.spelling y.spelling)) e in
      let last = both_equal (bytes_cmp x.name y.name) (bytes_cmp x.spelling y.spelling) rest.1 in
      (told_by_key (λ (x : ExternFunction). x.spelling) externs d).apart x y a b last.1;
}

-- the test of an order
abbrev pub less_by : {T : Type 0} → (T → T → Ordering) → T → T → Bool
less_by cmp a b = is_lt (cmp a b)

pub ranked : {T : Type 0} (cmp : T → T → Ordering) → IsTotalOrder cmp → IsStrictWeakOrder (less_by cmp)
ranked cmp o = ranks_by o (λ a. a)
