-- A list that is sorted is the list in that order, however it was sorted.
use Rattle.std.proofs.Common.{◌≡◌, ◌⊎◌, inl, inr, ℕ, zero, suc, ◌+◌, ◌<◌, Bool, true, false, cond, if◌then◌else◌, List, [], ◌∷◌, map, length, refl, sym, ap, ◌∙◌, subst, arith, get_or}
use Rattle.std.specs.Prelude.{All, Contains, not, ◌&&◌}
use Rattle.std.specs.List.{sum_by, filter, IsDistinct, AllByRecursion}
use Rattle.std.specs.List.Sorted.{IsPermutation, IsSorted, IsSortedBy, IsStable, ties}
use Rattle.std.specs.Cmp.{IsTotalOrder, IsStrictWeakOrder}
use Rattle.std.specs.declared.cmp.Ordering.{Ordering}
use Rattle.std.specs.declared.cmp.Ordering.TheVariants.{Less, Equal, Greater}
use Rattle.std.specs.Ordering.{is_lt, on, ordering_reverse}
use Rattle.std.specs.Str.{bytes_eq}
use Rattle.std.proofs.lemmas.List.Sorted.{sum_by-IsPermutation, All-permutation, sorted_far, ranks_by}
use Rattle.std.proofs.lemmas.List.Sums.{sum_by-cons}
use Rattle.std.proofs.lemmas.List.Elements.{All-head, All-tail, All-cons, All-nil, All-contains_itself}
use Rattle.std.proofs.lemmas.Cmp.{tied_itself}
use Rattle.std.proofs.lemmas.Map.Keys.{IsDistinct-head, IsDistinct-tail}
use Rattle.std.proofs.lemmas.Map.Lookups.{exact_bytes}
use Rattle.std.proofs.lemmas.Slice.Eq.{bytes_eq-Decides}
use Rattle.wasm_link.specs.Order.{bytes_cmp, insert_by, in_order}

-- no two elements of a list are equal in the order, unless they are one
pub record AreTold {T : Type 0} (cmp : T → T → Ordering) (xs : List T) : Type 0 where
  pub apart : (x y : T) → Contains xs x → Contains xs y → cmp x y ≡ Equal → x ≡ y

-- nothing in the list is less
abbrev NoneLess : {T : Type 0} → (T → T → Ordering) → T → List T → Type 0
NoneLess cmp x ys = All (λ y. is_lt (cmp y x) ≡ false) ys

-- nothing is less than what stands before it
abbrev Rising : {T : Type 0} → (T → T → Ordering) → List T → Type 0
Rising cmp [] = Unit {0}
Rising cmp (x ∷ xs) = NoneLess cmp x xs × Rising cmp xs

sum_inserted : {T : Type 0} (cmp : T → T → Ordering) (f : T → ℕ) (x : T) (ys : List T) → sum_by f (insert_by cmp x ys) ≡ f x + sum_by f ys
unfolding insert_by
sum_inserted cmp f x [] = sum_by-cons f x []
sum_inserted cmp f x (y ∷ ys) = by_test (is_lt (cmp y x)) (sum_inserted cmp f x ys)
  where
    by_test : (b : Bool) → sum_by f (insert_by cmp x ys) ≡ f x + sum_by f ys → sum_by f (if b then y ∷ insert_by cmp x ys else x ∷ y ∷ ys) ≡ f x + sum_by f (y ∷ ys)
    by_test true h = omega (arith, sum_by-cons f y (insert_by cmp x ys), sum_by-cons f y ys, h)
    by_test false h = sum_by-cons f x (y ∷ ys)

sum_ordered : {T : Type 0} (cmp : T → T → Ordering) (f : T → ℕ) (xs : List T) → sum_by f (in_order cmp xs) ≡ sum_by f xs
unfolding in_order
sum_ordered cmp f [] = refl
sum_ordered cmp f (x ∷ xs) = omega (arith, sum_inserted cmp f x (in_order cmp xs), sum_ordered cmp f xs, sum_by-cons f x xs)

all_inserted : {T : Type 0} (cmp : T → T → Ordering) (P : T → Type 0) (x : T) (ys : List T) → P x → All P ys → All P (insert_by cmp x ys)
unfolding insert_by
all_inserted cmp P x [] p all = All-cons P x [] p all
all_inserted cmp P x (y ∷ ys) p all = by_test (is_lt (cmp y x)) (all_inserted cmp P x ys p (All-tail P y ys all))
  where
    by_test : (b : Bool) → All P (insert_by cmp x ys) → All P (if b then y ∷ insert_by cmp x ys else x ∷ y ∷ ys)
    by_test true h = All-cons P y (insert_by cmp x ys) (All-head P y ys all) h
    by_test false h = All-cons P x (y ∷ ys) p all

all_ordered : {T : Type 0} (cmp : T → T → Ordering) (P : T → Type 0) (xs : List T) → All P xs → All P (in_order cmp xs)
unfolding in_order
all_ordered cmp P [] all = all
all_ordered cmp P (x ∷ xs) all = all_inserted cmp P x (in_order cmp xs) (All-head P x xs all) (all_ordered cmp P xs (All-tail P x xs all))

less_back : {T : Type 0} (cmp : T → T → Ordering) → IsTotalOrder cmp → (x y : T) → is_lt (cmp y x) ≡ true → is_lt (cmp x y) ≡ false
less_back cmp o x y t = by_order (cmp y x) (o.antisymm x y) t
  where
    by_order : (r : Ordering) → cmp x y ≡ ordering_reverse r → is_lt r ≡ true → is_lt (cmp x y) ≡ false
    by_order Less e t = ap is_lt e
    by_order Equal e t = cc
    by_order Greater e t = cc

is_less : (r : Ordering) → is_lt r ≡ true → r ≡ Less
is_less Less t = refl
is_less Equal t = cc
is_less Greater t = cc

-- what isn't less than one isn't less than what isn't greater
not_less : {T : Type 0} (cmp : T → T → Ordering) → IsTotalOrder cmp → (x y z : T) → is_lt (cmp z y) ≡ false → is_lt (cmp y x) ≡ false → is_lt (cmp z x) ≡ false
not_less cmp o x y z zy yx = by_order (cmp z y) refl zy
  where
    greater : cmp y z ≡ Less → (b : Bool) → is_lt (cmp z x) ≡ b → b ≡ false
    greater yz true t =
        let e : cmp y x ≡ Less = o.trans y z x yz (is_less (cmp z x) t) in
        sym (ap is_lt e) ∙ yx
    greater yz false t = refl

    by_order : (r : Ordering) → cmp z y ≡ r → is_lt r ≡ false → is_lt (cmp z x) ≡ false
    by_order Less e f = cc
    by_order Equal e f = ap is_lt (o.congr z y x e) ∙ yx
    by_order Greater e f = let yz : cmp y z ≡ Less = o.antisymm y z ∙ ap ordering_reverse e in greater yz (is_lt (cmp z x)) refl

rising_inserted : {T : Type 0} (cmp : T → T → Ordering) → IsTotalOrder cmp → (x : T) (ys : List T) → Rising cmp ys → Rising cmp (insert_by cmp x ys)
unfolding insert_by
rising_inserted cmp o x [] h = (All-nil _, tt)
rising_inserted cmp o x (y ∷ ys) h = by_test (is_lt (cmp y x)) refl (rising_inserted cmp o x ys h.1)
  where
    by_test : (b : Bool) → is_lt (cmp y x) ≡ b → Rising cmp (insert_by cmp x ys) → Rising cmp (if b then y ∷ insert_by cmp x ys else x ∷ y ∷ ys)
    by_test true t r = (all_inserted cmp (λ z. is_lt (cmp z y) ≡ false) x ys (less_back cmp o x y t) h.0, r)
    by_test false t r = (All-cons (λ z. is_lt (cmp z x) ≡ false) y ys t (λ k d lt. not_less cmp o x y (get_or ys k d) (h.0 k d lt) t), h)

rising_ordered : {T : Type 0} (cmp : T → T → Ordering) → IsTotalOrder cmp → (xs : List T) → Rising cmp (in_order cmp xs)
unfolding in_order
rising_ordered cmp o [] = tt
rising_ordered cmp o (x ∷ xs) = rising_inserted cmp o x (in_order cmp xs) (rising_ordered cmp o xs)

sorted_rest : {T : Type 0} (lt : T → T → Bool) (x : T) (xs : List T) → IsSortedBy lt (x ∷ xs) → IsSortedBy lt xs
sorted_rest lt x xs s = λ k d low high.
    let e : suc k + 1 ≡ suc (k + 1) = omega arith in
    let here : lt (get_or (x ∷ xs) (suc k + 1) d) (get_or xs k d) ≡ false = s (suc k) d (omega arith) (omega (arith, high)) in
    subst (λ i. lt (get_or (x ∷ xs) i d) (get_or xs k d) ≡ false) e here

rising_sorted : {T : Type 0} (cmp : T → T → Ordering) → IsTotalOrder cmp → (xs : List T) → IsSorted cmp xs → Rising cmp xs
rising_sorted cmp o [] s = tt
rising_sorted cmp o (x ∷ xs) s = (
  (λ k d lt. sorted_far (λ a b. is_lt (cmp a b)) (ranks_by o (λ a. a)) (x ∷ xs) s zero (suc k) d (omega arith) (omega (arith, lt))),
  rising_sorted cmp o xs (sorted_rest (λ a b. is_lt (cmp a b)) x xs s),
)

-- how many of a list are less than an element
abbrev less_count : {T : Type 0} → (T → T → Ordering) → T → T → ℕ
less_count cmp x y = cond (is_lt (cmp y x)) 1 0

none_counted : {T : Type 0} (cmp : T → T → Ordering) (x : T) (ys : List T) → NoneLess cmp x ys → sum_by (less_count cmp x) ys ≡ 0
none_counted cmp x [] all = refl
none_counted cmp x (y ∷ ys) all =
    let h : less_count cmp x y ≡ 0 = ap (λ b. cond b 1 0) (All-head (λ z. is_lt (cmp z x) ≡ false) y ys all) in
    omega (arith, h, sum_by-cons (less_count cmp x) y ys, none_counted cmp x ys (All-tail (λ z. is_lt (cmp z x) ≡ false) y ys all))

-- of two rising lists with the same sums, neither begins with less
no_less_head : {T : Type 0} (cmp : T → T → Ordering) → IsTotalOrder cmp → (x y : T) (xs ys : List T) → Rising cmp (y ∷ ys)
    → ((f : T → ℕ) → sum_by f (x ∷ xs) ≡ sum_by f (y ∷ ys)) → is_lt (cmp x y) ≡ false
no_less_head cmp o x y xs ys rising same = by_test (is_lt (cmp x y)) refl
  where
    itself : is_lt (cmp y y) ≡ false
    itself = ap is_lt (tied_itself o y)

    by_test : (b : Bool) → is_lt (cmp x y) ≡ b → b ≡ false
    by_test true t =
        let one : less_count cmp y x ≡ 1 = ap (λ b. cond b 1 0) t in
        let none = none_counted cmp y (y ∷ ys) (All-cons (λ z. is_lt (cmp z y) ≡ false) y ys itself rising.0) in
        absurd (omega (arith, one, none, sum_by-cons (less_count cmp y) x xs, same (less_count cmp y)))
    by_test false t = refl

neither : {T : Type 0} (cmp : T → T → Ordering) → IsTotalOrder cmp → (x y : T) → is_lt (cmp x y) ≡ false → is_lt (cmp y x) ≡ false → cmp x y ≡ Equal
neither cmp o x y xy yx = by_order (cmp x y) refl xy (o.antisymm y x)
  where
    by_order : (r : Ordering) → cmp x y ≡ r → is_lt r ≡ false → cmp y x ≡ ordering_reverse (cmp x y) → cmp x y ≡ Equal
    by_order Less e f g = cc
    by_order Equal e f g = e
    by_order Greater e f g = let h : cmp y x ≡ Less = g ∙ ap ordering_reverse e in let k : true ≡ false = sym (ap is_lt h) ∙ yx in cc

-- rising lists of the same elements are one list
one_rising : {T : Type 0} (cmp : T → T → Ordering) → IsTotalOrder cmp → (P : T → Type 0) → ((x y : T) → P x → P y → cmp x y ≡ Equal → x ≡ y)
    → (xs ys : List T) → Rising cmp xs → Rising cmp ys → ((f : T → ℕ) → sum_by f xs ≡ sum_by f ys) → All P xs → All P ys → xs ≡ ys
one_rising cmp o P told [] [] rx ry same px py = refl
one_rising cmp o P told [] (y ∷ ys) rx ry same px py = absurd (omega (arith, sum_by-cons (λ _. 1) y ys, same (λ _. 1)))
one_rising cmp o P told (x ∷ xs) [] rx ry same px py = absurd (omega (arith, sum_by-cons (λ _. 1) x xs, same (λ _. 1)))
one_rising cmp o P told (x ∷ xs) (y ∷ ys) rx ry same px py =
    let xy = no_less_head cmp o x y xs ys ry same in
    let yx = no_less_head cmp o y x ys xs rx (λ f. sym (same f)) in
    let e : x ≡ y = told x y (All-head P x xs px) (All-head P y ys py) (neither cmp o x y xy yx) in
    let rest : xs ≡ ys =
    one_rising cmp o P told xs ys rx.1 ry.1 (λ f. omega (arith, sum_by-cons f x xs, sum_by-cons f y ys, same f, ap f e)) (All-tail P x xs px) (All-tail P y ys py) in
    cc

-- a sorted list of the same elements is the list in order
pub sorted_in_order : {T : Type 0} (cmp : T → T → Ordering) → IsTotalOrder cmp → (xs ys : List T) → IsPermutation xs ys → IsSorted cmp ys → AreTold cmp xs → ys ≡ in_order cmp xs
sorted_in_order cmp o xs ys moved sorted told =
    one_rising cmp o (Contains xs) told.apart ys (in_order cmp xs) (rising_sorted cmp o ys sorted) (rising_ordered cmp o xs)
    (λ f. sum_by-IsPermutation f xs ys moved ∙ sym (sum_ordered cmp f xs))
    (All-permutation (Contains xs) xs ys moved (All-contains_itself xs)) (all_ordered cmp (Contains xs) xs (All-contains_itself xs))

-- ---- where elements are equal in the order

abbrev tie : {T : Type 0} → (T → T → Ordering) → T → T → Bool
tie cmp = ties (λ a b. is_lt (cmp a b))

differs : true ≡ false → ⊥
differs e = cc

tie_parts : (a b : Bool) → (not a && not b) ≡ true → (a ≡ false) × (b ≡ false)
tie_parts true b h = cc
tie_parts false true h = cc
tie_parts false false h = (refl, refl)

-- what ties with both of two elements makes them tie
no_third : {T : Type 0} (cmp : T → T → Ordering) → IsTotalOrder cmp → (x y z : T) → is_lt (cmp y x) ≡ true → tie cmp z x ≡ true → tie cmp z y ≡ true → ⊥
no_third cmp o x y z h p q =
    let order : IsStrictWeakOrder (λ a b. is_lt (cmp a b)) = ranks_by o (λ a. a) in
    let zy = tie_parts (is_lt (cmp z y)) (is_lt (cmp y z)) q in
    let zx = tie_parts (is_lt (cmp z x)) (is_lt (cmp x z)) p in
    differs (sym h ∙ order.chain y z x zy.1 zx.0)

both_kept : {T : Type 0} (x y : T) (l : List T) (a b : Bool) → (a ≡ true → b ≡ true → ⊥) → cond b (y ∷ cond a (x ∷ l) l) (cond a (x ∷ l) l) ≡ cond a (x ∷ cond b (y ∷ l) l) (cond b (y ∷ l) l)
both_kept x y l true true h = absurd (h refl refl)
both_kept x y l true false h = refl
both_kept x y l false true h = refl
both_kept x y l false false h = refl

kept_inserted : {T : Type 0} (cmp : T → T → Ordering) → IsTotalOrder cmp → (z x : T) (ys : List T) → filter (tie cmp z) (insert_by cmp x ys) ≡ filter (tie cmp z) (x ∷ ys)
unfolding insert_by
kept_inserted cmp o z x [] = refl
kept_inserted cmp o z x (y ∷ ys) = by_test (is_lt (cmp y x)) refl (kept_inserted cmp o z x ys)
  where
    by_test : (b : Bool) → is_lt (cmp y x) ≡ b → filter (tie cmp z) (insert_by cmp x ys) ≡ filter (tie cmp z) (x ∷ ys)
        → filter (tie cmp z) (if b then y ∷ insert_by cmp x ys else x ∷ y ∷ ys) ≡ filter (tie cmp z) (x ∷ y ∷ ys)
    by_test true h rest =
        ap (λ l. cond (tie cmp z y) (y ∷ l) l) rest
        ∙ both_kept x y (filter (tie cmp z) ys) (tie cmp z x) (tie cmp z y) (no_third cmp o x y z h)
    by_test false h rest = refl

kept_ordered : {T : Type 0} (cmp : T → T → Ordering) → IsTotalOrder cmp → (z : T) (xs : List T) → filter (tie cmp z) (in_order cmp xs) ≡ filter (tie cmp z) xs
unfolding in_order
kept_ordered cmp o z [] = refl
kept_ordered cmp o z (x ∷ xs) = kept_inserted cmp o z x (in_order cmp xs) ∙ ap (λ l. cond (tie cmp z x) (x ∷ l) l) (kept_ordered cmp o z xs)

head_kept : {T : Type 0} (x y : T) (a b : Bool) (xs ys : List T) → a ≡ true → b ≡ true → cond a (x ∷ xs) xs ≡ cond b (y ∷ ys) ys → (x ≡ y) × (xs ≡ ys)
head_kept x y true true xs ys p q e = (cc, cc)
head_kept x y true false xs ys p q e = cc
head_kept x y false b xs ys p q e = cc

rest_kept : {T : Type 0} (x : T) (b : Bool) (xs ys : List T) → cond b (x ∷ xs) xs ≡ cond b (x ∷ ys) ys → xs ≡ ys
rest_kept x true xs ys e = cc
rest_kept x false xs ys e = e

tied : (a b : Bool) → a ≡ false → b ≡ false → (not a && not b) ≡ true
tied a b p q = rw p (rw q refl)

-- rising lists of the same elements, of which those that tie stand in the same order, are one list
one_stable : {T : Type 0} (cmp : T → T → Ordering) → IsTotalOrder cmp → (xs ys : List T) → Rising cmp xs → Rising cmp ys
    → ((f : T → ℕ) → sum_by f xs ≡ sum_by f ys) → ((z : T) → filter (tie cmp z) xs ≡ filter (tie cmp z) ys) → xs ≡ ys
one_stable cmp o [] [] rx ry same kept = refl
one_stable cmp o [] (y ∷ ys) rx ry same kept = absurd (omega (arith, sum_by-cons (λ _. 1) y ys, same (λ _. 1)))
one_stable cmp o (x ∷ xs) [] rx ry same kept = absurd (omega (arith, sum_by-cons (λ _. 1) x xs, same (λ _. 1)))
one_stable cmp o (x ∷ xs) (y ∷ ys) rx ry same kept =
    let xy = no_less_head cmp o x y xs ys ry same in
    let yx = no_less_head cmp o y x ys xs rx (λ f. sym (same f)) in
    let itself : is_lt (cmp x x) ≡ false = ap is_lt (tied_itself o x) in
    let heads = head_kept x y (tie cmp x x) (tie cmp x y) (filter (tie cmp x) xs) (filter (tie cmp x) ys) (tied _ _ itself itself) (tied _ _ xy yx) (kept x) in
    let e : x ≡ y = heads.0 in
    let rest : xs ≡ ys =
    one_stable cmp o xs ys rx.1 ry.1 (λ f. omega (arith, sum_by-cons f x xs, sum_by-cons f y ys, same f, ap f e))
    (λ z. rest_kept x (tie cmp z x) (filter (tie cmp z) xs) (filter (tie cmp z) ys)
    (kept z ∙ ap (λ w. cond (tie cmp z w) (w ∷ filter (tie cmp z) ys) (filter (tie cmp z) ys)) (sym e))) in
    cc

-- a list that is sorted so that elements that tie keep their order is the list in order
pub stable_in_order : {T : Type 0} (cmp : T → T → Ordering) → IsTotalOrder cmp → (xs ys : List T) → IsPermutation xs ys → IsSorted cmp ys → IsStable cmp xs ys → ys ≡ in_order cmp xs
stable_in_order cmp o xs ys moved sorted stable =
    one_stable cmp o ys (in_order cmp xs) (rising_sorted cmp o ys sorted) (rising_ordered cmp o xs)
    (λ f. sum_by-IsPermutation f xs ys moved ∙ sym (sum_ordered cmp f xs))
    (λ z. stable z ∙ sym (kept_ordered cmp o z xs))

-- the order of the elements before doesn't matter
pub in_order-permutation : {T : Type 0} (cmp : T → T → Ordering) → IsTotalOrder cmp → (xs ys : List T) → IsPermutation xs ys → AreTold cmp xs → in_order cmp ys ≡ in_order cmp xs
in_order-permutation cmp o xs ys moved told =
    one_rising cmp o (Contains xs) told.apart (in_order cmp ys) (in_order cmp xs) (rising_ordered cmp o ys) (rising_ordered cmp o xs)
    (λ f. sum_ordered cmp f ys ∙ sum_by-IsPermutation f xs ys moved ∙ sym (sum_ordered cmp f xs))
    (all_ordered cmp (Contains xs) ys (All-permutation (Contains xs) xs ys moved (All-contains_itself xs))) (all_ordered cmp (Contains xs) xs (All-contains_itself xs))

-- is one of a list
Among : {T : Type 0} → List T → T → Type 0
Among [] x = ⊥
Among (y ∷ ys) x = (y ≡ x) ⊎ Among ys x

among : {T : Type 0} (ys : List T) (x : T) (k : ℕ) → k < length ys → get_or ys k x ≡ x → Among ys x
unfolding Among
among [] x k lt e = absurd (omega (arith, lt))
among (y ∷ ys) x zero lt e = inl e
among (y ∷ ys) x (suc k) lt e = inr (among ys x k (omega (arith, lt)) e)

key_among : {T : Type 0} (key : T → List ℕ) (P : List ℕ → Type 0) (ys : List T) (x : T) → Among ys x → AllByRecursion P (map key ys) → P (key x)
unfolding Among
key_among key P [] x a all = absurd a
key_among key P (y ∷ ys) x a all = elim a [ inl e ↦ subst (λ z. P (key z)) e all.0 | inr b ↦ key_among key P ys x b all.1 ]

differ : (a b : List ℕ) → bytes_eq a b ≡ false → a ≡ b → ⊥
differ a b f e = let t : true ≡ false = sym ((bytes_eq-Decides a b).1 e) ∙ f in cc

one_of_key : {T : Type 0} (key : T → List ℕ) (zs : List T) → IsDistinct bytes_eq (map key zs) → (x y : T) → Among zs x → Among zs y → key x ≡ key y → x ≡ y
unfolding Among
one_of_key key [] d x y a b e = absurd a
one_of_key key (z ∷ zs) d x y a b e =
    let head = IsDistinct-head bytes_eq (key z) (map key zs) d in
    elim a [
      | inl zx ↦ elim b [
        | inl zy ↦ sym zx ∙ zy
        | inr by ↦ absurd (differ (key z) (key y) (key_among key (λ k. bytes_eq (key z) k ≡ false) zs y by head) (ap key zx ∙ e))
      ]
      | inr ax ↦ elim b [
        | inl zy ↦ absurd (differ (key z) (key x) (key_among key (λ k. bytes_eq (key z) k ≡ false) zs x ax head) (ap key zy ∙ sym e))
        | inr by ↦ one_of_key key zs (IsDistinct-tail bytes_eq (key z) (map key zs) d) x y ax by e
      ]
    ]

-- elements whose keys differ are told apart by them
pub told_by_key : {T : Type 0} (key : T → List ℕ) (xs : List T) → IsDistinct bytes_eq (map key xs) → AreTold (on key bytes_cmp) xs
told_by_key key xs d = record {
  apart = λ x y a b e. one_of_key key xs d x y (among xs x a.0 a.1 a.2) (among xs y b.0 b.1 b.2) (exact_bytes (key x) (key y) e);
}
