-- Items one behind the other: a function that passes over each passes over all.
use Rattle.std.proofs.Common.{◌≡◌, ℕ, zero, suc, ◌+◌, ◌<◌, ◌≤◌, ◌⊎◌, inl, inr, refl, ◌∙◌, arith}
use Rattle.zig_tree.specs.Tokens.{Run, none, more}

pub run_passes : {R : Type 0} {item : ℕ → ℕ → Type 0} (f : ℕ → R) → ((a b : ℕ) → item a b → f a ≡ f b) → {a b : ℕ} → Run item a b → f a ≡ f b
run_passes f pass none = refl
run_passes f pass (more i r) = pass _ _ i ∙ run_passes f pass r

pub run_rises : {item : ℕ → ℕ → Type 0} → ((a b : ℕ) → item a b → a < b) → {a b : ℕ} → Run item a b → a ≤ b
run_rises rises none = omega arith
run_rises rises (more i r) = omega (arith, rises _ _ i, run_rises rises r)

-- where an item begins or a stop is at each place up to a limit, a run ends at a stop
module _ {item : ℕ → ℕ → Type 0} {Stop : ℕ → Type 0} (limit : ℕ) (decide : (a : ℕ) → a ≤ limit → ((b : ℕ) × item a b × (a < b) × (b ≤ limit)) ⊎ Stop a) where
  step : (n a : ℕ) → limit ≤ a + n → a ≤ limit → (b : ℕ) × Run item a b × (b ≤ limit) × Stop b
  step zero a far le =
      elim (decide a le) [
        | inl found ↦ absurd (omega (arith, found.2, found.3))
        | inr stop ↦ (a, none, le, stop)
      ]
  step (suc n) a far le =
      elim (decide a le) [
        | inl found ↦ let rest = step n found.0 (omega (arith, found.2)) found.3 in (rest.0, more found.1 rest.1, rest.2, rest.3)
        | inr stop ↦ (a, none, le, stop)
      ]

  pub run_stops : (a : ℕ) → a ≤ limit → (b : ℕ) × Run item a b × (b ≤ limit) × Stop b
  run_stops a le = step limit a (omega arith) le
