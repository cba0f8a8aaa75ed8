-- A cycle within a table has no more places than the table.
use Rattle.std.proofs.Common.{◌≡◌, ℕ, zero, suc, ◌+◌, ◌-◌, ◌<◌, ◌≤◌, ◌⊎◌, inl, inr, cond, nat_eq, sym, ap, ◌∙◌, arith}
use Rattle.std.proofs.lemmas.Bool.{cases_lt, cases_eq}
use Rattle.std.proofs.lemmas.Bool.Decides.{eqb_tells}
use Rattle.pointer_cycles.specs.Walks.{times}
use Rattle.pointer_cycles.proofs.Steps.{times-add}
use Rattle.pointer_cycles.proofs.Walking.{times-low, never-ends}

-- ---- as many different numbers below a bound are no more than the bound
abbrev Into : (ℕ → ℕ) → ℕ → ℕ → Type 0
Into g n m = (i : ℕ) → i < n → g i < m

abbrev OneToOne : (ℕ → ℕ) → ℕ → Type 0
OneToOne g n = (i j : ℕ) → i < n → j < n → g i ≡ g j → i ≡ j

-- the value of g, with the last one in place of m
abbrev avoiding : (ℕ → ℕ) → ℕ → ℕ → ℕ → ℕ
avoiding g m last i = cond (nat_eq (g i) m) (g last) (g i)

abbrev Avoids : ℕ → ℕ → ℕ → ℕ → Type 0
Avoids x m y r = ((x ≡ m) × (r ≡ y)) ⊎ ((x ≡ m → ⊥) × (r ≡ x))

avoids : (x m y : ℕ) → Avoids x m y (cond (nat_eq x m) y x)
avoids x m y = elim (eqb_tells x m) [
  | inl is ↦ inl (is.1, ap (λ b. cond b y x) is.0)
  | inr no_ ↦ inr (no_.1, ap (λ b. cond b y x) no_.0)
]

into-less : (g : ℕ → ℕ) (n m : ℕ) → Into g (suc n) (suc m) → OneToOne g (suc n) → Into (avoiding g m n) n m
into-less g n m into one i p =
    let a = into i (omega arith) in
    let b = into n (omega arith) in
    let ne : g i ≡ g n → ⊥ = λ e. let z = one i n (omega arith) (omega arith) e in omega arith in
    elim (avoids (g i) m (g n)) [ inl w ↦ omega (arith, w.0, w.1) | inr w ↦ omega (arith, w.0, w.1) ]

one-less : (g : ℕ → ℕ) (n m : ℕ) → OneToOne g (suc n) → OneToOne (avoiding g m n) n
one-less g n m one i j p q e =
    elim (avoids (g i) m (g n)) [
      | inl v ↦ elim (avoids (g j) m (g n)) [
        | inl w ↦ one i j (omega arith) (omega arith) (v.0 ∙ sym w.0)
        | inr w ↦ let z = one n j (omega arith) (omega arith) (sym v.1 ∙ e ∙ w.1) in absurd (omega arith)
      ]
      | inr v ↦ elim (avoids (g j) m (g n)) [
        | inl w ↦ let z = one i n (omega arith) (omega arith) (sym v.1 ∙ e ∙ w.1) in absurd (omega arith)
        | inr w ↦ one i j (omega arith) (omega arith) (sym v.1 ∙ e ∙ w.1)
      ]
    ]

pigeonhole : (n m : ℕ) (g : ℕ → ℕ) → Into g n m → OneToOne g n → n ≤ m
pigeonhole zero m g into one = omega arith
pigeonhole (suc n) zero g into one = absurd (omega (arith, into n (omega arith)))
pigeonhole (suc n) (suc m) g into one = omega (arith, pigeonhole n m (avoiding g m n) (into-less g n m into one) (one-less g n m one))

-- ---- the first return
module _ (f : ℕ → ℕ) (i : ℕ) where
  abbrev NoReturn : ℕ → Type 0
  NoReturn n = (q : ℕ) → q < n → times f (suc q) i ≡ i → ⊥

  abbrev FirstReturn : ℕ → Type 0
  FirstReturn n = (p : ℕ) × (p < n) × (times f (suc p) i ≡ i) × NoReturn p

  first-below : (n : ℕ) → NoReturn n ⊎ FirstReturn n
  first-below zero = inl (λ q h e. omega arith)
  first-below (suc n) = elim (first-below n) [
    | inr r ↦ inr (r.0, (let low = r.1 in omega (arith, low)), r.2, r.3)
    | inl none ↦ elim (cases_eq (times f (suc n) i) i) [
      | inl e ↦ inr (n, omega arith, e, none)
      | inr ne ↦ inl (λ q h e. elim (cases_lt q n) [
        | inl lt ↦ none q lt e
        | inr ge ↦ ne (ap (λ k. times f (suc k) i) (let z : n ≡ q = omega arith in z) ∙ e)
      ])
    ]
  ]

  first-return : (d : ℕ) → times f (suc d) i ≡ i → FirstReturn (suc d)
  first-return d e = elim (first-below (suc d)) [ inl none ↦ absurd (none d (omega arith) e) | inr r ↦ r ]

  -- the places up to the first return differ
  apart-by : (p a b : ℕ) → times f (suc p) i ≡ i → NoReturn p → a < b → b < suc p → times f a i ≡ times f b i → ⊥
  apart-by p a b round none lt low same =
      none (p - b + a) (omega arith)
      (ap (λ k. times f k i) (let z : suc (p - b + a) ≡ suc (p - b) + a = omega arith in z)
      ∙ times-add f (suc (p - b)) a i ∙ ap (times f (suc (p - b))) same ∙ sym (times-add f (suc (p - b)) b i)
      ∙ ap (λ k. times f k i) (let z : suc (p - b) + b ≡ suc p = omega arith in z) ∙ round)

  apart : (p : ℕ) → times f (suc p) i ≡ i → NoReturn p → OneToOne (λ k. times f k i) (suc p)
  apart p round none a b la lb same = elim (cases_lt a b) [
    | inl lt ↦ absurd (apart-by p a b round none lt lb same)
    | inr ge ↦ elim (cases_lt b a) [
      | inl gt ↦ absurd (apart-by p b a round none gt la (sym same))
      | inr le ↦ omega arith
    ]
  ]

  -- a place on a cycle within a table comes back within so many steps as the table has places
  pub comes-back : (len : ℕ) → f len ≡ len → ((j : ℕ) → f j ≤ len) → i < len → (d : ℕ) → times f (suc d) i ≡ i → (p : ℕ) × (p < len) × (times f (suc p) i ≡ i)
  comes-back len f-end f-low low d round =
      let r = first-return d round in
      let into : Into (λ k. times f k i) (suc r.0) len = λ k h. elim (cases_lt (times f k i) len) [
        | inl lt ↦ lt
        | inr ge ↦ absurd (never-ends f len f-end f-low d i k round low (let l = times-low f len f-end f-low k i (let z : i ≤ len = omega arith in z) in omega (arith, l, ge)))
      ] in
      let few = pigeonhole (suc r.0) len (λ k. times f k i) into (apart r.0 r.2 r.3) in
      (r.0, omega (arith, few), r.2)
