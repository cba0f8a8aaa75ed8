-- Falling lists of numbers.
use Rattle.std.proofs.Common.{◌≡◌, ◌⊎◌, inl, inr, ⊎_elim, ℕ, zero, suc, ◌<◌, ◌≤◌, Bool, true, false, nat_lt, if◌then◌else◌, List, [], ◌∷◌, length, refl, sym, ap, subst, arith}
use Rattle.std.proofs.lemmas.Bool.{ltb-true, ltb-false, cases_lt}
use Rattle.pool_words.specs.Rule.{In}
use Rattle.pool_words.specs.Views.{below, Falls, put_in}

pub below_in : (n s : ℕ) → In s (below n) → s < n
below_in zero s h = absurd h
below_in (suc n) s h = ⊎_elim (λ e. omega arith) (λ t. let l = below_in n s t in omega arith) h

pub Falls-below : (n : ℕ) → Falls (below n)
Falls-below zero = tt
Falls-below (suc n) = (below_in n, Falls-below n)

-- what stands in a list with one number more
put_cases : (b : Bool) (x s t : ℕ) (ts : List ℕ) → (In x (put_in s ts) → (x ≡ s) ⊎ In x ts) → In x (if b then s ∷ t ∷ ts else t ∷ put_in s ts) → (x ≡ s) ⊎ In x (t ∷ ts)
put_cases true x s t ts rest h = h
put_cases false x s t ts rest h = ⊎_elim (λ e. inr (inl e)) (λ i. ⊎_elim (λ e. inl e) (λ j. inr (inr j)) (rest i)) h

pub In-put_in : (x s : ℕ) (ts : List ℕ) → In x (put_in s ts) → (x ≡ s) ⊎ In x ts
In-put_in x s [] h = h
In-put_in x s (t ∷ ts) h = put_cases (nat_lt t s) x s t ts (In-put_in x s ts) h

here_cases : (b : Bool) (s t : ℕ) (ts : List ℕ) → In s (put_in s ts) → In s (if b then s ∷ t ∷ ts else t ∷ put_in s ts)
here_cases true s t ts rest = inl refl
here_cases false s t ts rest = inr rest

pub put_in-here : (s : ℕ) (ts : List ℕ) → In s (put_in s ts)
put_in-here s [] = inl refl
put_in-here s (t ∷ ts) = here_cases (nat_lt t s) s t ts (put_in-here s ts)

there_cases : (b : Bool) (x s t : ℕ) (ts : List ℕ) → (In x ts → In x (put_in s ts)) → In x (t ∷ ts) → In x (if b then s ∷ t ∷ ts else t ∷ put_in s ts)
there_cases true x s t ts rest h = inr h
there_cases false x s t ts rest h = ⊎_elim (λ e. inl e) (λ i. inr (rest i)) h

pub put_in-there : (x s : ℕ) (ts : List ℕ) → In x ts → In x (put_in s ts)
put_in-there x s [] h = absurd h
put_in-there x s (t ∷ ts) h = there_cases (nat_lt t s) x s t ts (put_in-there x s ts) h

length_cases : (b : Bool) (s t : ℕ) (ts : List ℕ) → length (put_in s ts) ≡ suc (length ts) → length (if b then s ∷ t ∷ ts else t ∷ put_in s ts) ≡ suc (suc (length ts))
length_cases true s t ts rest = refl
length_cases false s t ts rest = ap suc rest

pub length-put_in : (s : ℕ) (ts : List ℕ) → length (put_in s ts) ≡ suc (length ts)
length-put_in s [] = refl
length-put_in s (t ∷ ts) = length_cases (nat_lt t s) s t ts (length-put_in s ts)

falls_cases : (b : Bool) (s t : ℕ) (ts : List ℕ) → nat_lt t s ≡ b → Falls (t ∷ ts) → (In s (t ∷ ts) → ⊥) → Falls (put_in s ts) → Falls (if b then s ∷ t ∷ ts else t ∷ put_in s ts)
falls_cases true s t ts e f none rest = let l = ltb-true t s e in (λ x i. ⊎_elim (λ c. omega arith) (λ j. let m = f.0 x j in omega arith) i, f)
falls_cases false s t ts e f none rest =
    let l = ltb-false t s e in
    let m : s < t = lower s t l (λ c. none (inl c)) in
    (λ x i. ⊎_elim (λ c. subst (λ n. n < t) (sym c) m) (λ j. f.0 x j) (In-put_in x s ts i), rest)
  where
    lower : (s t : ℕ) → s ≤ t → (s ≡ t → ⊥) → s < t
    lower s t l n = ⊎_elim (λ g. g) (λ g. absurd (n (omega arith))) (cases_lt s t)

pub Falls-put_in : (s : ℕ) (ts : List ℕ) → Falls ts → (In s ts → ⊥) → Falls (put_in s ts)
Falls-put_in s [] f none = (λ t i. absurd i, tt)
Falls-put_in s (t ∷ ts) f none = falls_cases (nat_lt t s) s t ts refl f none (Falls-put_in s ts f.1 (λ i. none (inr i)))

new_cases : (b : Bool) (s t : ℕ) (ts : List ℕ) → Falls (if b then s ∷ t ∷ ts else t ∷ put_in s ts) → (Falls (put_in s ts) → In s ts → ⊥) → In s (t ∷ ts) → ⊥
new_cases true s t ts f rest i = let l = f.0 s i in absurd (omega arith)
new_cases false s t ts f rest i = ⊎_elim (λ e. let l = f.0 s (put_in-here s ts) in absurd (omega arith)) (λ j. rest f.1 j) i

-- a number that was put in, and left the list falling, was not there
pub put_in-new : (s : ℕ) (ts : List ℕ) → Falls (put_in s ts) → In s ts → ⊥
put_in-new s [] f i = i
put_in-new s (t ∷ ts) f i = new_cases (nat_lt t s) s t ts f (put_in-new s ts) i

pub Falls-few : (n : ℕ) (ts : List ℕ) → Falls ts → ((t : ℕ) → In t ts → t < n) → length ts ≤ n
Falls-few n [] f b = omega arith
Falls-few n (t ∷ ts) f b = let l = Falls-few t ts f.1 f.0 in let m = b t (inl refl) in omega arith

-- a falling list of n numbers below n has them all
pub Falls-whole : (n : ℕ) (ts : List ℕ) → Falls ts → ((t : ℕ) → In t ts → t < n) → length ts ≡ n → ts ≡ below n
Falls-whole zero [] f b l = refl
Falls-whole zero (t ∷ ts) f b l = absurd (omega arith)
Falls-whole (suc n) [] f b l = absurd (omega arith)
Falls-whole (suc n) (t ∷ ts) f b l =
    let c = Falls-few t ts f.1 f.0 in
    let m = b t (inl refl) in
    let e : t ≡ n = omega arith in
    let rest : ts ≡ below n = Falls-whole n ts f.1 (λ x i. subst (λ k. x < k) e (f.0 x i)) (omega arith) in
    λ k. e k ∷ rest k
