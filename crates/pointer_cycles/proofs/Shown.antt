-- The plain function `is_shown` tells the places of least text of the cycles.
use Rattle.std.proofs.Common.{◌≡◌, ℕ, zero, suc, ◌<◌, ◌≤◌, ◌==◌, ◌↔◌, inl, inr, List, [], ◌∷◌, Option, Some, None, Bool, true, false, not, ◌&&◌, length, refl, sym, ap, subst, ◌∙◌, arith}
use Rattle.std.specs.List.{list_any, list_all}
use Rattle.std.proofs.lemmas.Bool.{cases_lt, or_left, or_right, or_cases, and_parts, and_from}
use Rattle.std.proofs.lemmas.Bool.Decides.{eqb_tells}
use Rattle.pointer_cycles.specs.Cycles.{PointsTo, is_before, IsLeastOfCycle}
use Rattle.pointer_cycles.specs.Walks.{after, times}
use Rattle.pointer_cycles.specs.Shown.{behind, behind_some, is_shown}
use Rattle.pointer_cycles.proofs.Order.{not-before-itself}
use Rattle.pointer_cycles.proofs.Steps.{within-round}
use Rattle.pointer_cycles.proofs.Pointers.{after-low, after-end, after-points, points-after, leads-times, times-leads, led-within-all, told-least}
use Rattle.pointer_cycles.proofs.Rounds.{comes-back}

-- a step taken first
first-step : (f : ℕ → ℕ) (n u : ℕ) → times f n (f u) ≡ times f (suc n) u
first-step f zero u = refl
first-step f (suc n) u = ap f (first-step f n u)

some-apart : (j : ℕ) → None ≡ Some j → ⊥
some-apart j e = cc

same-number : (j k : ℕ) → Some j ≡ Some k → j ≡ k
same-number j k e = cc

is-same : (a b : ℕ) → (a == b) ≡ true → a ≡ b
is-same a b e = elim (eqb_tells a b) [ inl yes_ ↦ yes_.1 | inr no_ ↦ (let n = no_.0 in cc) ]

same-is : (a b : ℕ) → a ≡ b → (a == b) ≡ true
same-is a b e = elim (eqb_tells a b) [ inl yes_ ↦ yes_.0 | inr no_ ↦ absurd (no_.1 e) ]

from-not : (b : Bool) → not b ≡ true → b ≡ false
from-not true e = cc
from-not false e = refl

-- what next tells of places, and the place after one within the table
module _ (table : List (Option ℕ)) (next : ℕ → Option ℕ) (told : (i j : ℕ) → i < length table → (next i ≡ Some j) ↔ PointsTo table i j) (q : ℕ → Bool) where
  -- the place after so many steps and one more
  abbrev there : ℕ → ℕ → ℕ
  there k u = times (after table) (suc k) u

  after-told : (u v : ℕ) → u < length table → next u ≡ Some v → (after table u ≡ v) × (v < length table)
  after-told u v low e = let p = (told u v low).0 e in (points-after table u v p, p.1)

  -- behind a place that points at none there is no place
  ends-told : (u k : ℕ) → u < length table → next u ≡ None → there k u < length table → ⊥
  ends-told u k low e fits =
      elim (cases_lt (after table u) (length table)) [
        | inl lt ↦ some-apart (after table u) (sym e ∙ (told u (after table u) low).1 (after-points table u (after table u) refl lt))
        | inr ge ↦
            let l = after-low table u in
            let is : after table u ≡ length table = omega (arith, l, ge) in
            let still = ends-still k in
            let past : there k u ≡ length table = sym (first-step (after table) k u) ∙ ap (times (after table) k) is ∙ still in
            omega (arith, past, fits)
      ]
    where
      ends-still : (k : ℕ) → times (after table) k (length table) ≡ length table
      ends-still zero = refl
      ends-still (suc k) = ap (after table) (ends-still k) ∙ after-end table

  onward : (u v k : ℕ) → after table u ≡ v → there k v ≡ there (suc k) u
  onward u v k e = ap (λ j. times (after table) (suc k) j) (sym e) ∙ first-step (after table) (suc k) u

  -- ---- some place behind passes the test
  abbrev SomeBehind : ℕ → ℕ → Type 0
  SomeBehind n u = (k : ℕ) × (k < n) × (there k u < length table) × (q (there k u) ≡ true)

  some-told : (n : ℕ) → ((u : ℕ) → u < length table → list_any q (behind next n u) ≡ true → SomeBehind n u)
      → (u : ℕ) (o : Option ℕ) → u < length table → next u ≡ o → list_any q (behind_some (behind next n) o) ≡ true → SomeBehind (suc n) u
  some-told n more u None low e h = cc
  some-told n more u (Some v) low e h =
      let a = after-told u v low e in
      elim (or_cases (q v) (list_any q (behind next n v)) h) [
        | inl here ↦ (0, omega arith, subst (λ j. j < length table) (sym a.0) a.1, ap q a.0 ∙ here)
        | inr later ↦
            let r = more v a.1 later in
            let way = onward u v r.0 a.0 in
            (suc r.0, (let low = r.1 in omega (arith, low)), subst (λ j. j < length table) way r.2, ap q (sym way) ∙ r.3)
      ]

  some-behind : (n u : ℕ) → u < length table → list_any q (behind next n u) ≡ true → SomeBehind n u
  some-behind zero u low h = cc
  some-behind (suc n) u low h = some-told n (some-behind n) u (next u) low refl h

  any-told : (n : ℕ) → ((u k : ℕ) → u < length table → k < n → there k u < length table → q (there k u) ≡ true → list_any q (behind next n u) ≡ true)
      → (u k : ℕ) (o : Option ℕ) → u < length table → next u ≡ o → k < suc n → there k u < length table → q (there k u) ≡ true → list_any q (behind_some (behind next n) o) ≡ true
  any-told n more u k None low e h fits passes = absurd (ends-told u k low e fits)
  any-told n more u zero (Some v) low e h fits passes =
      let a = after-told u v low e in
      or_left (q v) (list_any q (behind next n v)) (ap q (sym a.0) ∙ passes)
  any-told n more u (suc k) (Some v) low e h fits passes =
      let a = after-told u v low e in
      let way = onward u v k a.0 in
      or_right (q v) (list_any q (behind next n v)) (more v k a.1 (omega arith) (subst (λ j. j < length table) (sym way) fits) (ap q way ∙ passes))

  any-behind : (n u k : ℕ) → u < length table → k < n → there k u < length table → q (there k u) ≡ true → list_any q (behind next n u) ≡ true
  any-behind zero u k low h fits passes = absurd (omega arith)
  any-behind (suc n) u k low h fits passes = any-told n (any-behind n) u k (next u) low refl h fits passes

  -- ---- each place behind passes the test
  each-told : (n : ℕ) → ((u k : ℕ) → u < length table → list_all q (behind next n u) ≡ true → k < n → there k u < length table → q (there k u) ≡ true)
      → (u k : ℕ) (o : Option ℕ) → u < length table → next u ≡ o → list_all q (behind_some (behind next n) o) ≡ true → k < suc n → there k u < length table → q (there k u) ≡ true
  each-told n more u k None low e all h fits = absurd (ends-told u k low e fits)
  each-told n more u zero (Some v) low e all h fits =
      let a = after-told u v low e in
      ap q a.0 ∙ (and_parts (q v) (list_all q (behind next n v)) all).0
  each-told n more u (suc k) (Some v) low e all h fits =
      let a = after-told u v low e in
      let way = onward u v k a.0 in
      ap q (sym way) ∙ more v k a.1 (and_parts (q v) (list_all q (behind next n v)) all).1 (omega arith) (subst (λ j. j < length table) (sym way) fits)

  each-behind : (n u k : ℕ) → u < length table → list_all q (behind next n u) ≡ true → k < n → there k u < length table → q (there k u) ≡ true
  each-behind zero u k low all h fits = absurd (omega arith)
  each-behind (suc n) u k low all h fits = each-told n (each-behind n) u k (next u) low refl all h fits

  all-told : (n : ℕ) → ((u : ℕ) → u < length table → ((k : ℕ) → k < n → there k u < length table → q (there k u) ≡ true) → list_all q (behind next n u) ≡ true)
      → (u : ℕ) (o : Option ℕ) → u < length table → next u ≡ o → ((k : ℕ) → k < suc n → there k u < length table → q (there k u) ≡ true) → list_all q (behind_some (behind next n) o) ≡ true
  all-told n more u None low e each = refl
  all-told n more u (Some v) low e each =
      let a = after-told u v low e in
      and_from (q v) (list_all q (behind next n v))
      (ap q (sym a.0) ∙ each 0 (omega arith) (subst (λ j. j < length table) (sym a.0) a.1))
      (more v a.1 (λ k h fits. let way = onward u v k a.0 in ap q way ∙ each (suc k) (omega arith) (subst (λ j. j < length table) way fits)))

  all-behind : (n u : ℕ) → u < length table → ((k : ℕ) → k < n → there k u < length table → q (there k u) ≡ true) → list_all q (behind next n u) ≡ true
  all-behind zero u low each = refl
  all-behind (suc n) u low each = all-told n (all-behind n) u (next u) low refl each

module _ (table : List (Option ℕ)) (next : ℕ → Option ℕ) (text : ℕ → List ℕ) (told : (i j : ℕ) → i < length table → (next i ≡ Some j) ↔ PointsTo table i j) (u : ℕ) (low : u < length table) where
  abbrev not-earlier : ℕ → Bool
  not-earlier v = not (is_before (text v) (text u))

  shown-least : is_shown next text (length table) u ≡ true → IsLeastOfCycle table text u
  shown-least h =
      let both = and_parts (list_any (λ v. u == v) (behind next (length table) u)) (list_all not-earlier (behind next (length table) u)) h in
      let r = some-behind table next told (λ v. u == v) (length table) u low both.0 in
      let round : times (after table) (suc r.0) u ≡ u = sym (is-same u (times (after table) (suc r.0) u) r.3) in (
        (r.0, times-leads table (suc r.0) u u round low),
        λ n j leads.
            let w = within-round (after table) r.0 u round n in
            let to : times (after table) w.0 u ≡ j = w.2 ∙ leads-times table n u j leads in
            let fits : times (after table) w.0 u < length table = subst (λ k. k < length table) (sym to) (led-within-all table n u j low leads) in
            subst (λ k. is_before (text k) (text u) ≡ false) to (met both.1 r.0 r.1 w.0 w.1 fits),
      )
    where
      met : list_all not-earlier (behind next (length table) u) ≡ true → (most : ℕ) → most < length table → (k : ℕ) → k ≤ most → times (after table) k u < length table → is_before (text (times (after table) k u)) (text u) ≡ false
      met all most few zero h fits = not-before-itself (text u)
      met all most few (suc k) h fits =
          from-not (is_before (text (times (after table) (suc k) u)) (text u))
          (each-behind table next told not-earlier (length table) u k low all (omega arith) fits)

  least-shown : IsLeastOfCycle table text u → is_shown next text (length table) u ≡ true
  least-shown t =
      let l = told-least table text u t in
      let back = comes-back (after table) u (length table) (after-end table) (after-low table) low l.others l.returns in
      and_from (list_any (λ v. u == v) (behind next (length table) u)) (list_all not-earlier (behind next (length table) u))
      (any-behind table next told (λ v. u == v) (length table) u back.0 low back.1
      (subst (λ k. k < length table) (sym back.2) low) (same-is u (times (after table) (suc back.0) u) (sym back.2)))
      (all-behind table next told not-earlier (length table) u low (λ k h fits. ap not (l.least (suc k) fits)))

  -- a place is shown, where one looks as far as the table has places, exactly where it lies on a cycle and no place that it leads to has a text that comes before its own
  pub shown-decides : (is_shown next text (length table) u ≡ true) ↔ IsLeastOfCycle table text u
  shown-decides = (shown-least, least-shown)

-- another list of the places behind a place, which goes on from place to place as `behind` does
pub record GoesBehind (next : ℕ → Option ℕ) (listed : ℕ → ℕ → List ℕ) : Type 0 where
  pub none : (u : ℕ) → listed zero u ≡ []
  pub ends : (n u : ℕ) → next u ≡ None → listed (suc n) u ≡ []
  pub leads : (n u v : ℕ) → next u ≡ Some v → listed (suc n) u ≡ v ∷ listed n v

module _ (next : ℕ → Option ℕ) (listed : ℕ → ℕ → List ℕ) (g : GoesBehind next listed) where
  listed-some : (n : ℕ) → ((u : ℕ) → listed n u ≡ behind next n u) → (u : ℕ) (o : Option ℕ) → next u ≡ o → listed (suc n) u ≡ behind_some (behind next n) o
  listed-some n more u None e = g.ends n u e
  listed-some n more u (Some v) e = g.leads n u v e ∙ ap (λ vs. v ∷ vs) (more v)

  pub listed-behind : (n u : ℕ) → listed n u ≡ behind next n u
  listed-behind zero u = g.none u
  listed-behind (suc n) u = listed-some n (listed-behind n) u (next u) refl

  -- the same law over such a list
  pub listed-decides : (table : List (Option ℕ)) (text : ℕ → List ℕ) → ((i j : ℕ) → i < length table → (next i ≡ Some j) ↔ PointsTo table i j) → (u : ℕ) → u < length table
      → ((list_any (λ v. u == v) (listed (length table) u) && list_all (λ v. not (is_before (text v) (text u))) (listed (length table) u)) ≡ true) ↔ IsLeastOfCycle table text u
  listed-decides table text told u low =
      subst (λ vs. ((list_any (λ v. u == v) vs && list_all (λ v. not (is_before (text v) (text u))) vs) ≡ true) ↔ IsLeastOfCycle table text u)
      (sym (listed-behind (length table) u)) (shown-decides table next text told u low)
