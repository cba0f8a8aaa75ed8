-- Sorted lines without repeats: which they are, and that they rise.
use Rattle.std.proofs.Common.{◌≡◌, ℕ, true, List, map, reverse, refl, sym, subst, ◌∙◌, ◌↔◌}
use Rattle.std.specs.Prelude.{Contains}
use Rattle.std.specs.List.{dedup}
use Rattle.std.specs.List.Sorted.{IsPermutation, IsSorted, IsStrictlySortedBy}
use Rattle.std.specs.Cmp.{eq_by_cmp_equiv, unsigned_ties}
use Rattle.std.specs.Cmp.Lexicographic.{texts_ties}
use Rattle.std.specs.declared.cmp.Ordering.{Ordering}
use Rattle.std.specs.declared.cmp.Ordering.TheVariants.{Less, Equal, Greater}
use Rattle.std.specs.Ordering.{nat_cmp, ordering_then, is_eq}
use Rattle.std.proofs.lemmas.Bool.{eqb-true}
use Rattle.std.proofs.lemmas.Slice.Eq.{bytes_eq-Decides}
use Rattle.std.proofs.lemmas.List.Sorted.{IsPermutation-map, IsPermutation-trans, IsPermutation-reverse, IsPermutation-sym, Contains-permutation}
use Rattle.std.proofs.lemmas.List.Kept.{Contains-dedup, Contains-from_dedup, IsStrictlySortedBy-dedup}
use Rattle.zw_base.specs.DiagCode.{code_name}
use Rattle.diag_order.specs.declared.line.Line.{Line}
use Rattle.diag_order.specs.Order.{bytes_cmp, line_cmp, same_line}
use Rattle.diag_order.specs.LineOrder.{line_cmp_total}
use Rattle.diag_order.proofs.Codes.{same_code}

both_tied : (o p : Ordering) → is_eq (ordering_then o p) ≡ true → (is_eq o ≡ true) × (is_eq p ≡ true)
both_tied Less p h = absurd cc
both_tied Equal p h = (refl, h)
both_tied Greater p h = absurd cc

same_bytes : (xs ys : List ℕ) → is_eq (bytes_cmp xs ys) ≡ true → xs ≡ ys
same_bytes xs ys h = (bytes_eq-Decides xs ys).0 (texts_ties xs ys ∙ h)

same_number : (x y : ℕ) → is_eq (nat_cmp x y) ≡ true → x ≡ y
same_number x y h = eqb-true x y (unsigned_ties x y ∙ h)

-- two lines that tie are one line
pub same_means : (a b : Line) → same_line a b ≡ true → a ≡ b
same_means a b h =
    let p = both_tied (bytes_cmp a.path b.path) _ h in
    let l = both_tied (nat_cmp a.line b.line) _ p.1 in
    let k = both_tied (nat_cmp a.col b.col) _ l.1 in
    let m = both_tied (bytes_cmp (code_name a.code) (code_name b.code)) _ k.1 in
    let path = same_bytes a.path b.path p.0 in
    let line = same_number a.line b.line l.0 in
    let col = same_number a.col b.col k.0 in
    let code = same_code a.code b.code (same_bytes (code_name a.code) (code_name b.code) m.0) in
    let text = same_bytes a.text b.text m.1 in
    λ i. record { path = path i; line = line i; col = col i; code = code i; text = text i }

module _ {D : Type 0} (f : D → Line) (diags moved : List D) (lines ordered last : List Line) (sorted_diags : IsPermutation diags moved) (placed : lines ≡ map f (reverse moved)) (sorted_lines : IsPermutation lines ordered) (distinct : last ≡ dedup same_line ordered) where
  moved_all : IsPermutation (map f diags) ordered
  moved_all =
      let turned = IsPermutation-trans diags moved (reverse moved) sorted_diags (IsPermutation-reverse moved) in
      let mapped = IsPermutation-map f diags (reverse moved) turned in
      IsPermutation-trans (map f diags) (map f (reverse moved)) ordered mapped (subst (λ ls. IsPermutation ls ordered) placed sorted_lines)

  -- the lines are those of the diagnostics
  pub same_lines : (line : Line) → Contains last line ↔ Contains (map f diags) line
  same_lines line = (
    λ has. Contains-permutation ordered (map f diags) line (IsPermutation-sym (map f diags) ordered moved_all) (Contains-from_dedup same_line ordered line (subst (λ ls. Contains ls line) distinct has)),
    λ has. subst (λ ls. Contains ls line) (sym distinct) (Contains-dedup (eq_by_cmp_equiv line_cmp_total) same_means ordered line (Contains-permutation (map f diags) ordered line moved_all has)),
  )

  -- each line is before the next
  pub rising : IsSorted line_cmp ordered → IsStrictlySortedBy line_cmp last
  rising in_order = subst (IsStrictlySortedBy line_cmp) (sym distinct) (IsStrictlySortedBy-dedup line_cmp_total (λ _ _. refl) ordered in_order)
