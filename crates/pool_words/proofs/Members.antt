-- What stands in a list, in a part of it, and among the rows of a shard.
use Rattle.std.proofs.Common.{◌≡◌, ◌⊎◌, inl, inr, ⊎_elim, ℕ, zero, suc, ◌+◌, ◌≤◌, ◌==◌, Bool, true, false, cond, List, [], ◌∷◌, ◌++◌, length, take, refl, sym, ap, ◌∙◌, subst, arith}
use Rattle.std.proofs.lemmas.Bool.{eqb-true, eq-eqb, ne_eqb}
use Rattle.std.proofs.lemmas.List.{append-nil, append_assoc, take-append-le}
use Rattle.std.proofs.lemmas.List.Elements.{filter-append}
use Rattle.std.proofs.lemmas.List.Sums.{sum_by_push, sum_by-cons, sum_by-append}
use Rattle.std.specs.List.{filter}
use Rattle.pool_words.specs.declared.view.Layout.{Layout}
use Rattle.pool_words.specs.Layout.{Row, rows_of, shard_of, used}
use Rattle.pool_words.specs.Rule.{In, Extends, Laid}

module _ {X : Type 0} where
  pub In-left : (x : X) (xs ys : List X) → In x xs → In x (xs ++ ys)
  In-left x [] ys h = absurd h
  In-left x (y ∷ xs) ys h = ⊎_elim (λ e. inl e) (λ t. inr (In-left x xs ys t)) h

  pub In-last : (x : X) (xs : List X) → In x (xs ++ x ∷ [])
  In-last x [] = inl refl
  In-last x (y ∷ xs) = inr (In-last x xs)

  pub In-push : (x y : X) (xs : List X) → In x (xs ++ y ∷ []) → In x xs ⊎ (x ≡ y)
  In-push x y [] h = ⊎_elim (λ e. inr e) (λ t. absurd t) h
  In-push x y (z ∷ xs) h = ⊎_elim (λ e. inl (inl e)) (λ t. ⊎_elim (λ a. inl (inr a)) (λ b. inr b) (In-push x y xs t)) h

  pub In-take : (x : X) (n : ℕ) (xs : List X) → In x (take n xs) → In x xs
  In-take x zero xs h = absurd h
  In-take x (suc n) [] h = absurd h
  In-take x (suc n) (y ∷ xs) h = ⊎_elim (λ e. inl e) (λ t. inr (In-take x n xs t)) h

  pub In-take_more : (x : X) (n m : ℕ) (xs : List X) → n ≤ m → In x (take n xs) → In x (take m xs)
  In-take_more x zero m xs le h = absurd h
  In-take_more x (suc n) m [] le h = absurd h
  In-take_more x (suc n) zero (y ∷ xs) le h = absurd (omega arith)
  In-take_more x (suc n) (suc m) (y ∷ xs) le h = ⊎_elim (λ e. inl e) (λ t. inr (In-take_more x n m xs (omega arith) t)) h

  kept : (b : Bool) (x y : X) (ys : List X) → b ≡ true → x ≡ y → In x (cond b (y ∷ ys) ys)
  kept true x y ys t e = inl e
  kept false x y ys t e = cc

  passed : (b : Bool) (x y : X) (ys : List X) → In x ys → In x (cond b (y ∷ ys) ys)
  passed true x y ys h = inr h
  passed false x y ys h = h

  pub In-filter : (p : X → Bool) (x : X) (xs : List X) → p x ≡ true → In x xs → In x (filter p xs)
  In-filter p x [] t h = h
  In-filter p x (y ∷ xs) t h = ⊎_elim (λ e. kept (p y) x y (filter p xs) (ap p (sym e) ∙ t) e) (λ i. passed (p y) x y (filter p xs) (In-filter p x xs t i)) h

  from_kept : (b : Bool) (p : X → Bool) (x y : X) (xs ys : List X) → p y ≡ b → (In x ys → In x xs × (p x ≡ true)) → In x (cond b (y ∷ ys) ys) → (x ≡ y) ⊎ In x xs
  from_kept true p x y xs ys e f h = ⊎_elim (λ a. inl a) (λ t. inr (f t).0) h
  from_kept false p x y xs ys e f h = inr (f h).0

  from_test : (b : Bool) (p : X → Bool) (x y : X) (xs ys : List X) → p y ≡ b → (In x ys → In x xs × (p x ≡ true)) → In x (cond b (y ∷ ys) ys) → p x ≡ true
  from_test true p x y xs ys e f h = ⊎_elim (λ a. ap p a ∙ e) (λ t. (f t).1) h
  from_test false p x y xs ys e f h = (f h).1

  pub filter-In : (p : X → Bool) (x : X) (xs : List X) → In x (filter p xs) → In x xs × (p x ≡ true)
  filter-In p x [] h = absurd h
  filter-In p x (y ∷ xs) h = (from_kept (p y) p x y xs (filter p xs) refl (filter-In p x xs) h, from_test (p y) p x y xs (filter p xs) refl (filter-In p x xs) h)

pub rows_of-In : (z : Layout) (s : ℕ) (r : Row) (log : List Row) → In r (rows_of z s log) → In r log × (shard_of z r.1 ≡ s)
unfolding rows_of
rows_of-In z s r log h = let f = filter-In (λ (q : Row). shard_of z q.1 == s) r log h in (f.0, eqb-true (shard_of z r.1) s f.1)

pub In-rows_of : (z : Layout) (s : ℕ) (r : Row) (log : List Row) → shard_of z r.1 ≡ s → In r log → In r (rows_of z s log)
unfolding rows_of
In-rows_of z s r log e h = In-filter (λ (q : Row). shard_of z q.1 == s) r log (eq-eqb (shard_of z r.1) s e) h

pub rows_of-append : (z : Layout) (s : ℕ) (log more : List Row) → rows_of z s (log ++ more) ≡ rows_of z s log ++ rows_of z s more
unfolding rows_of
rows_of-append z s log more = filter-append (λ (q : Row). shard_of z q.1 == s) log more

one_of : (z : Layout) (s : ℕ) (r : Row) → shard_of z r.1 ≡ s → rows_of z s (r ∷ []) ≡ r ∷ []
unfolding rows_of
one_of z s r e = ap (λ b. cond b (r ∷ []) []) (eq-eqb (shard_of z r.1) s e)

none_of : (z : Layout) (s : ℕ) (r : Row) → (shard_of z r.1 ≡ s → ⊥) → rows_of z s (r ∷ []) ≡ []
unfolding rows_of
none_of z s r e = ap (λ b. cond b (r ∷ []) []) (ne_eqb (shard_of z r.1) s e)

pub rows_of-push : (z : Layout) (s : ℕ) (log : List Row) (r : Row) → shard_of z r.1 ≡ s → rows_of z s (log ++ r ∷ []) ≡ rows_of z s log ++ r ∷ []
rows_of-push z s log r e = rows_of-append z s log (r ∷ []) ∙ ap (λ (l : List Row). rows_of z s log ++ l) (one_of z s r e)

pub rows_of-other : (z : Layout) (s : ℕ) (log : List Row) (r : Row) → (shard_of z r.1 ≡ s → ⊥) → rows_of z s (log ++ r ∷ []) ≡ rows_of z s log
rows_of-other z s log r e = rows_of-append z s log (r ∷ []) ∙ ap (λ (l : List Row). rows_of z s log ++ l) (none_of z s r e) ∙ append-nil (rows_of z s log)

pub used-push : (rows : List Row) (r : Row) → used (rows ++ r ∷ []) ≡ used rows + (length r.1 + 1)
unfolding used
used-push rows r = sum_by_push (λ (q : Row). length q.1 + 1) rows r

pub used-nil : used [] ≡ 0
unfolding used
used-nil = refl

pub Extends-refl : (log : List Row) → Extends log log
Extends-refl log = ([], sym (append-nil log))

pub Extends-trans : (a b c : List Row) → Extends a b → Extends b c → Extends a c
Extends-trans a b c f g = (f.0 ++ g.0, g.1 ∙ ap (λ (l : List Row). l ++ g.0) f.1 ∙ append_assoc a f.0 g.0)

pub Extends-push : (log : List Row) (r : Row) → Extends log (log ++ r ∷ [])
Extends-push log r = (r ∷ [], refl)

pub In-extends : (r : Row) (log log' : List Row) → Extends log log' → In r log → In r log'
In-extends r log log' f h = subst (λ (l : List Row). In r l) (sym f.1) (In-left r log f.0 h)

-- the first rows of a longer list
pub take-push : (n : ℕ) (rows : List Row) (r : Row) → n ≤ length rows → take n (rows ++ r ∷ []) ≡ take n rows
take-push n rows r h = take-append-le n rows (r ∷ []) h

pub used-cons : (r : Row) (rows : List Row) → used (r ∷ rows) ≡ length r.1 + 1 + used rows
unfolding used
used-cons r rows = sum_by-cons (λ (q : Row). length q.1 + 1) r rows

pub Laid-push : (place : ℕ) (rows : List Row) (r : Row) → Laid place rows → r.0 ≡ place + used rows → Laid place (rows ++ r ∷ [])
Laid-push place [] r h e = let u = used-nil in (omega arith, tt)
Laid-push place (q ∷ rows) r h e = let u = used-cons q rows in (h.0, Laid-push (place + (length q.1 + 1)) rows r h.1 (omega arith))

pub used-append : (rows more : List Row) → used (rows ++ more) ≡ used rows + used more
unfolding used
used-append rows more = sum_by-append (λ (q : Row). length q.1 + 1) rows more
