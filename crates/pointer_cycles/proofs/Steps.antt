-- Many steps of one function, and cycles of it.
use Rattle.std.proofs.Common.{◌≡◌, ℕ, zero, suc, ◌+◌, ◌*◌, ◌≤◌, inl, inr, refl, sym, ap, ◌∙◌, arith}
use Rattle.std.proofs.lemmas.Bool.{cases_lt}
use Rattle.pointer_cycles.specs.Walks.{times}

module _ (f : ℕ → ℕ) where
  pub times-add : (m n i : ℕ) → times f (m + n) i ≡ times f m (times f n i)
  times-add zero n i = ap (λ k. times f k i) (let e : 0 + n ≡ n = omega arith in e)
  times-add (suc m) n i = ap (λ k. times f k i) (let e : suc m + n ≡ suc (m + n) = omega arith in e) ∙ ap f (times-add m n i)

  pub step-at : (n start place : ℕ) → times f n start ≡ place → times f (n + 1) start ≡ f place
  step-at n start place e = ap (λ k. times f k start) (let z : n + 1 ≡ suc n = omega arith in z) ∙ ap f e

  -- rounds of a cycle lead back
  pub times-rounds : (p i : ℕ) → times f p i ≡ i → (c : ℕ) → times f (c * p) i ≡ i
  times-rounds p i e zero = ap (λ k. times f k i) (let z : 0 * p ≡ 0 = omega arith in z)
  times-rounds p i e (suc c) =
      ap (λ k. times f k i) (let z : suc c * p ≡ p + c * p = omega arith in z)
      ∙ times-add p (c * p) i ∙ ap (times f p) (times-rounds p i e c) ∙ e

  -- from a place that a place on a cycle leads to, there is a way back
  pub way-back : (p i m j : ℕ) → times f (suc p) i ≡ i → times f m i ≡ j → times f (m * p) j ≡ i
  way-back p i m j e there =
      ap (times f (m * p)) (sym there) ∙ sym (times-add (m * p) m i)
      ∙ ap (λ k. times f k i) (let z : m * p + m ≡ m * suc p = omega arith in z) ∙ times-rounds (suc p) i e m

  -- what is on a cycle stays on one
  pub also-returns : (p i m j : ℕ) → times f p i ≡ i → times f m i ≡ j → times f p j ≡ j
  also-returns p i m j e there =
      ap (times f p) (sym there) ∙ sym (times-add p m i)
      ∙ ap (λ k. times f k i) (let z : p + m ≡ m + p = omega arith in z) ∙ times-add m p i ∙ ap (times f m) e ∙ there

  -- each place behind one on a cycle is behind it by no more steps than the cycle has
  pub within-round : (d i : ℕ) → times f (suc d) i ≡ i → (n : ℕ) → (k : ℕ) × (k ≤ d) × (times f k i ≡ times f n i)
  within-round d i e zero = (0, omega arith, refl)
  within-round d i e (suc n) =
      let before = within-round d i e n in
      elim (cases_lt before.0 d) [
        | inl lt ↦ (suc before.0, omega arith, ap f before.2)
        | inr ge ↦ (0, omega arith, sym e ∙ ap (λ k. f (times f k i)) (let z : d ≡ before.0 = omega (arith, before.1) in z) ∙ ap f before.2)
      ]

  module _ (P : ℕ → Type 0) (keeps : (i : ℕ) → P i → P (f i)) where
    pub all-behind : (n i : ℕ) → P i → P (times f n i)
    all-behind zero i h = h
    all-behind (suc n) i h = keeps (times f n i) (all-behind n i h)
