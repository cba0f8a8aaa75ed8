-- Lines in order, each once: they rise, they are the lines that were given, and no other list of these
-- lines rises.
use Rattle.std.proofs.Common.{◌≡◌, List, [], ◌∷◌, refl, sym, ap, subst, ◌∙◌, ◌↔◌, arith, ◌⊎◌, inl, inr, ⊎_elim}
use Rattle.std.specs.Prelude.{Contains}
use Rattle.std.specs.List.{AllByRecursion}
use Rattle.std.specs.List.Sorted.{IsStrictlySortedBy}
use Rattle.std.specs.Cmp.{IsTotalOrder, tied_itself}
use Rattle.std.specs.declared.cmp.Ordering.{Ordering}
use Rattle.std.specs.declared.cmp.Ordering.TheVariants.{Less, Equal, Greater}
use Rattle.std.specs.Ordering.{match_ordering, ordering_reverse, is_eq}
use Rattle.std.proofs.lemmas.List.Elements.{All-contains, All-from_recursion, Contains-append_right, Contains-append_cases, Contains-push_cases}
use Rattle.diag_order.specs.declared.line.Line.{Line}
use Rattle.diag_order.specs.Order.{line_cmp}
use Rattle.diag_order.specs.LineOrder.{line_cmp_total}
use Rattle.diag_order.proofs.Outcome.{same_means}
use Rattle.watch_core.specs.InOrder.{inserted, in_order}

-- ---- of a list with one element in front

module _ {K : Type 0} where
  none : (k : K) → Contains [] k → ⊥
  none k has = omega (arith, has.1)

  here : (k : K) (ks : List K) → Contains (k ∷ ks) k
  here k ks = (0, omega arith, refl)

  further : (x k : K) (ks : List K) → Contains ks k → Contains (x ∷ ks) k
  further x k ks has = Contains-append_right (x ∷ []) ks k has

  cases : (x k : K) (ks : List K) → Contains (x ∷ ks) k → (x ≡ k) ⊎ Contains ks k
  cases x k ks has = ⊎_elim
      (λ front. ⊎_elim (λ h. absurd (none k h)) inl (Contains-push_cases [] x k front))
      inr
      (Contains-append_cases (x ∷ []) ks k has)

  every : (P Q : K → Type 0) → ((k : K) → P k → Q k) → (ks : List K) → AllByRecursion P ks → AllByRecursion Q ks
  every P Q step [] all = tt
  every P Q step (k ∷ ks) all = (step k all.0, every P Q step ks all.1)

  each : (P : K → Type 0) (ks : List K) (k : K) → AllByRecursion P ks → Contains ks k → P k
  each P ks k all has = All-contains P ks k (All-from_recursion P ks all) has

-- ---- of one step of an insertion, whatever the order of new and x is

module _ {K : Type 0} (new x : K) (ks more : List K) where
  step_all : (P : K → Type 0) (r : Ordering) → P new → P x → AllByRecursion P ks → AllByRecursion P more → AllByRecursion P (match_ordering r (new ∷ x ∷ ks) (x ∷ ks) (x ∷ more))
  step_all P Less n f all longer = (n, (f, all))
  step_all P Equal n f all longer = (f, all)
  step_all P Greater n f all longer = (f, longer)

  step_only : (k : K) (r : Ordering) → (Contains more k → (new ≡ k) ⊎ Contains ks k) → Contains (match_ordering r (new ∷ x ∷ ks) (x ∷ ks) (x ∷ more)) k → (new ≡ k) ⊎ Contains (x ∷ ks) k
  step_only k Less only has = cases new k (x ∷ ks) has
  step_only k Equal only has = inr has
  step_only k Greater only has = ⊎_elim
      (λ e. inr (subst (Contains (x ∷ ks)) e (here x ks)))
      (λ h. ⊎_elim inl (λ old. inr (further x k ks old)) (only h))
      (cases x k more has)

  step_kept : (k : K) (r : Ordering) → (Contains ks k → Contains more k) → Contains (x ∷ ks) k → Contains (match_ordering r (new ∷ x ∷ ks) (x ∷ ks) (x ∷ more)) k
  step_kept k Less kept has = further new k (x ∷ ks) has
  step_kept k Equal kept has = has
  step_kept k Greater kept has = ⊎_elim
      (λ e. subst (Contains (x ∷ more)) e (here x more))
      (λ old. further x k more (kept old))
      (cases x k ks has)

-- ---- of any total order that ties only what is the same

module _ {K : Type 0} (R : K → K → Ordering) (o : IsTotalOrder R) (tied : (x y : K) → R x y ≡ Equal → x ≡ y) where
  turned : (x y : K) → R x y ≡ Greater → R y x ≡ Less
  turned x y after = o.antisymm y x ∙ ap ordering_reverse after

  never : (x y : K) → R x y ≡ Less → R y x ≡ Less → ⊥
  never x y before after =
      let back : R x y ≡ Greater = o.antisymm x y ∙ ap ordering_reverse after in
      cc

  -- one step of an insertion, where the order of new and x is known
  module _ (new x : K) (ks more : List K) where
    step_rises : (r : Ordering) → R new x ≡ r → IsStrictlySortedBy R (x ∷ ks) → IsStrictlySortedBy R more → (R x new ≡ Less → AllByRecursion (λ y. R x y ≡ Less) more) → IsStrictlySortedBy R (match_ordering r (new ∷ x ∷ ks) (x ∷ ks) (x ∷ more))
    unfolding IsStrictlySortedBy
    step_rises Less e rises longer above = ((e, every (λ y. R x y ≡ Less) (λ y. R new y ≡ Less) (λ y. o.trans new x y e) ks rises.0), rises)
    step_rises Equal e rises longer above = rises
    step_rises Greater e rises longer above = (above (turned new x e), longer)

    step_new : (r : Ordering) → R new x ≡ r → Contains more new → Contains (match_ordering r (new ∷ x ∷ ks) (x ∷ ks) (x ∷ more)) new
    step_new Less e added = here new (x ∷ ks)
    step_new Equal e added = subst (Contains (x ∷ ks)) (sym (tied new x e)) (here x ks)
    step_new Greater e added = further x new more added

  -- lists that rise begin with the same element, where each has all that the other has
  module _ (x y : K) (xs ys : List K) (above_x : AllByRecursion (λ k. R x k ≡ Less) xs) (above_y : AllByRecursion (λ k. R y k ≡ Less) ys) where
    same_first : Contains (y ∷ ys) x → Contains (x ∷ xs) y → x ≡ y
    same_first of_x of_y = ⊎_elim
        (λ e. sym e)
        (λ in_ys. ⊎_elim
        (λ e. e)
        (λ in_xs. absurd (never x y (each (λ k. R x k ≡ Less) xs y above_x in_xs) (each (λ k. R y k ≡ Less) ys x above_y in_ys)))
        (cases x y xs of_y))
        (cases y x ys of_x)

    -- what stands behind the first of one list stands behind the first of the other
    behind : x ≡ y → (k : K) → Contains (y ∷ ys) k → Contains xs k → Contains ys k
    behind first k of_ys of_xs = ⊎_elim
        (λ e.
        let below : R x k ≡ Less = each (λ k. R x k ≡ Less) xs k above_x of_xs in
        let level : R x x ≡ Equal = tied_itself o x in
        let same : R x k ≡ R x x = ap (R x) (sym (first ∙ e)) in
        absurd cc)
        (λ h. h)
        (cases y k ys of_ys)

  same_rising : (xs ys : List K) → IsStrictlySortedBy R xs → IsStrictlySortedBy R ys → ((k : K) → Contains xs k ↔ Contains ys k) → xs ≡ ys
  unfolding IsStrictlySortedBy
  same_rising [] [] rise_x rise_y same = refl
  same_rising [] (y ∷ ys) rise_x rise_y same = absurd (none y ((same y).1 (here y ys)))
  same_rising (x ∷ xs) [] rise_x rise_y same = absurd (none x ((same x).0 (here x xs)))
  same_rising (x ∷ xs) (y ∷ ys) rise_x rise_y same =
      let first = same_first x y xs ys rise_x.0 rise_y.0 ((same x).0 (here x xs)) ((same y).1 (here y ys)) in
      let rest : xs ≡ ys = same_rising xs ys rise_x.1 rise_y.1 (λ k. (
        λ h. behind x y xs ys rise_x.0 rise_y.0 first k ((same k).0 (further x k xs h)) h,
        λ h. behind y x ys xs rise_y.0 rise_x.0 (sym first) k ((same k).1 (further y k ys h)) h,
      )) in
      λ i. first i ∷ rest i

-- ---- of lines

one_line : (a b : Line) → line_cmp a b ≡ Equal → a ≡ b
one_line a b e = same_means a b (ap is_eq e)

inserted_all : (P : Line → Type 0) (new : Line) (ls : List Line) → P new → AllByRecursion P ls → AllByRecursion P (inserted new ls)
unfolding inserted
inserted_all P new [] n all = (n, tt)
inserted_all P new (l ∷ ls) n all = step_all new l ls (inserted new ls) P (line_cmp new l) n all.0 all.1 (inserted_all P new ls n all.1)

inserted_rises : (new : Line) (ls : List Line) → IsStrictlySortedBy line_cmp ls → IsStrictlySortedBy line_cmp (inserted new ls)
unfolding inserted IsStrictlySortedBy
inserted_rises new [] rises = (tt, tt)
inserted_rises new (l ∷ ls) rises =
    step_rises line_cmp line_cmp_total one_line new l ls (inserted new ls) (line_cmp new l) refl rises (inserted_rises new ls rises.1) (λ before. inserted_all (λ k. line_cmp l k ≡ Less) new ls before rises.0)

inserted_only : (new : Line) (ls : List Line) (k : Line) → Contains (inserted new ls) k → (new ≡ k) ⊎ Contains ls k
unfolding inserted
inserted_only new [] k has = cases new k [] has
inserted_only new (l ∷ ls) k has = step_only new l ls (inserted new ls) k (line_cmp new l) (inserted_only new ls k) has

inserted_kept : (new : Line) (ls : List Line) (k : Line) → Contains ls k → Contains (inserted new ls) k
unfolding inserted
inserted_kept new [] k has = absurd (none k has)
inserted_kept new (l ∷ ls) k has = step_kept new l ls (inserted new ls) k (line_cmp new l) (inserted_kept new ls k) has

inserted_new : (new : Line) (ls : List Line) → Contains (inserted new ls) new
unfolding inserted
inserted_new new [] = here new []
inserted_new new (l ∷ ls) = step_new line_cmp line_cmp_total one_line new l ls (inserted new ls) (line_cmp new l) refl (inserted_new new ls)

-- lines in order rise
pub in_order_sorted : (ls : List Line) → IsStrictlySortedBy line_cmp (in_order ls)
unfolding in_order IsStrictlySortedBy
in_order_sorted [] = tt
in_order_sorted (l ∷ ls) = inserted_rises l (in_order ls) (in_order_sorted ls)

in_order_only : (ls : List Line) (l : Line) → Contains (in_order ls) l → Contains ls l
unfolding in_order
in_order_only [] l has = has
in_order_only (x ∷ ls) l has = ⊎_elim
    (λ e. subst (Contains (x ∷ ls)) e (here x ls))
    (λ h. further x l ls (in_order_only ls l h))
    (inserted_only x (in_order ls) l has)

in_order_every : (ls : List Line) (l : Line) → Contains ls l → Contains (in_order ls) l
unfolding in_order
in_order_every [] l has = has
in_order_every (x ∷ ls) l has = ⊎_elim
    (λ e. subst (Contains (inserted x (in_order ls))) e (inserted_new x (in_order ls)))
    (λ h. inserted_kept x (in_order ls) l (in_order_every ls l h))
    (cases x l ls has)

-- lines in order are the lines that were given
pub in_order_same : (ls : List Line) (l : Line) → Contains (in_order ls) l ↔ Contains ls l
in_order_same ls l = (in_order_only ls l, in_order_every ls l)

-- lines that rise are known by which they are
pub sorted_lines_same : (xs ys : List Line) → IsStrictlySortedBy line_cmp xs → IsStrictlySortedBy line_cmp ys → ((l : Line) → Contains xs l ↔ Contains ys l) → xs ≡ ys
sorted_lines_same = same_rising line_cmp line_cmp_total one_line

-- lines that rise and are those given are the given lines in order
pub lines_in_order : (xs ls : List Line) → IsStrictlySortedBy line_cmp xs → ((l : Line) → Contains xs l ↔ Contains ls l) → xs ≡ in_order ls
lines_in_order xs ls rises same = sorted_lines_same xs (in_order ls) rises (in_order_sorted ls) (λ l. (
  λ h. in_order_every ls l ((same l).0 h),
  λ h. (same l).1 (in_order_only ls l h),
))
