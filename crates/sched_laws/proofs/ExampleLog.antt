-- The small update is one, and its log is honest.
use Rattle.std.proofs.Common.{◌≡◌, ℕ, Bool, true, false, List, [], ◌∷◌, ◌⊎◌, Option, Some, refl, ap, ◌∙◌, subst, inl, inr, arith, nat_eq}
use Rattle.std.specs.Prelude.{if◌then◌else◌}
use Rattle.sched_core.specs.declared.event.Kind.TheVariants as kind
use Rattle.sched_core.specs.declared.event.Event.{Event}
use Rattle.sched_core.specs.declared.event.Stand.{Stand}
use Rattle.sched_core.specs.declared.event.Event.TheVariants as event
use Rattle.sched_core.specs.declared.event.Stand.TheVariants as at
use Rattle.sched_core.specs.Machine.{Schedule, is_claimed_by, stand, IsKnown, replay, IsLog}
use Rattle.sched_core.proofs.Entries.{nat_eq-self, nat_eq-sameness, same-or-other}
use Rattle.sched_laws.specs.Honest.{KindFits, as_root, by_run, ran, IsHonest}
use Rattle.sched_laws.specs.Example.{example, example_log, ExampleHolds}
use Rattle.sched_laws.proofs.Bounds.{Contains-cases, nothing-in}

-- a schedule none of whose entries stands so
abbrev NoneStands : (Stand ℕ ℕ → Bool) → Schedule ℕ ℕ → Type 0
NoneStands test [] = Unit {0}
NoneStands test (p ∷ s) = (test p.1 ≡ false) × NoneStands test s

none-if : (test : Stand ℕ ℕ → Bool) (b : Bool) (x y : Stand ℕ ℕ) (rest : Option (Stand ℕ ℕ)) → test x ≡ false → test y ≡ true → (rest ≡ Some y → ⊥) → (if b then Some x else rest) ≡ Some y → ⊥
none-if test true x y rest no_x is_y later e = let one : x ≡ y = cc in let so : test x ≡ true = ap test one ∙ is_y in cc
none-if test false x y rest no_x is_y later e = later e

none-stands : (test : Stand ℕ ℕ → Bool) (s : Schedule ℕ ℕ) (v : ℕ) (y : Stand ℕ ℕ) → NoneStands test s → test y ≡ true → stand nat_eq s v ≡ Some y → ⊥
none-stands test [] v y none is e = cc
none-stands test (p ∷ s) v y none is e = none-if test (nat_eq p.0 v) p.1 y (stand nat_eq s v) none.0 is (none-stands test s v y none.1 is) e

idle : (w : ℕ) (s : Schedule ℕ ℕ) → NoneStands (is_claimed_by w) s → (v : ℕ) → stand nat_eq s v ≡ Some (at.Claimed w) → ⊥
idle w s none v = none-stands (is_claimed_by w) s v (at.Claimed w) none (nat_eq-self w)

-- the first so many events
abbrev first_1 : List (Event ℕ ℕ)
first_1 = event.Demand 0 ∷ []

abbrev first_5 : List (Event ℕ ℕ)
first_5 = event.Need 1 0 1 ∷ event.Demand 1 ∷ event.Demand 2 ∷ event.Claim 1 0 kind.Work ∷ first_1

abbrev first_7 : List (Event ℕ ℕ)
first_7 = event.Finish 1 1 5 ∷ event.Claim 1 1 kind.Work ∷ first_5

abbrev first_8 : List (Event ℕ ℕ)
first_8 = event.Claim 1 0 kind.Work ∷ first_7

abbrev first_12 : List (Event ℕ ℕ)
first_12 = event.Need 2 2 3 ∷ event.Demand 3 ∷ event.Finish 1 0 5 ∷ event.Claim 2 2 kind.Work ∷ first_8

possible_5 : IsLog nat_eq first_5
possible_5 = ((refl, refl), ((refl, omega arith), ((refl, omega arith), ((refl, idle 1 (replay nat_eq first_1) (refl, tt)), ((refl, omega arith), tt)))))

possible_8 : IsLog nat_eq first_8
possible_8 = ((refl, idle 1 (replay nat_eq first_7) (refl, (refl, (refl, tt)))), (refl, ((refl, idle 1 (replay nat_eq first_5) (refl, (refl, (refl, tt)))), possible_5)))

possible : IsLog nat_eq example_log
possible =
    ((refl, refl), ((refl, idle 2 (replay nat_eq first_12) (refl, (refl, (refl, (refl, tt))))), ((refl, refl), ((refl, omega arith), (refl, ((refl, idle 2 (replay nat_eq first_8) (refl, (refl, (refl, tt)))), possible_8))))))

-- nothing is kept, so every claim is for work
for-work : (s : Schedule ℕ ℕ) (u : ℕ) → KindFits example (λ q. 0) [] s u kind.Work
for-work s u = record {
  clean = (λ is. absurd (cc), λ w. absurd (nothing-in w.0 w.1.0.among));
  check = λ is. absurd (cc);
  work = λ is. inl (λ k among. absurd (nothing-in k among));
}

-- of a known unit, another name
known-as : (s : Schedule ℕ ℕ) (u v : ℕ) → IsKnown nat_eq s u → u ≡ v → IsKnown nat_eq s v
known-as s u v known is = subst (IsKnown nat_eq s) is known

some-as : (s : Schedule ℕ ℕ) (u v : ℕ) → IsKnown nat_eq s u → Some u ≡ Some v → IsKnown nat_eq s v
some-as s u v known is = let one : u ≡ v = cc in known-as s u v known one

honest_5 : IsHonest example (λ q. 0) [] (0 ∷ []) first_5
honest_5 = (
  ((refl, refl), (λ w is. cc, (λ w is. cc, (λ w is. cc, (λ w is. cc, tt))))),
  (
    by_run 0 refl (inr refl),
    (
      by_run 0 refl (inl refl),
      (
        for-work (replay nat_eq first_1) 0,
        (as_root (0, omega arith, refl), tt),
      ),
    ),
  ),
)

honest_8 : IsHonest example (λ q. 0) [] (0 ∷ []) first_8
honest_8 = (
  for-work (replay nat_eq first_7) 0,
  (
    ran refl (λ u meets. absurd meets),
    (for-work (replay nat_eq first_5) 1, honest_5),
  ),
)

-- the claim of the second worker, and what follows
abbrev first_9 : List (Event ℕ ℕ)
first_9 = event.Claim 2 2 kind.Work ∷ first_8

met_0 : (u : ℕ) → (2 ≡ u) ⊎ ((Some 1 ≡ Some u) ⊎ ⊥) → IsKnown nat_eq (replay nat_eq first_9) u
met_0 u (inl is) = known-as (replay nat_eq first_9) 2 u refl is
met_0 u (inr (inl is)) = some-as (replay nat_eq first_9) 1 u refl is
met_0 u (inr (inr none)) = absurd none

honest_12 : IsHonest example (λ q. 0) [] (0 ∷ []) first_12
honest_12 = (
  (refl, (λ w is. cc, (λ w is. cc, (λ w is. cc, (λ w is. cc, (λ w is. cc, (λ w is. cc, (λ w is. cc, (λ w is. cc, (λ w is. cc, (λ w is. cc, (λ w is. cc, tt)))))))))))),
  (
    by_run 2 refl refl,
    (
      ran refl met_0,
      (for-work (replay nat_eq first_8) 2, honest_8),
    ),
  ),
)

honest : IsHonest example (λ q. 0) [] (0 ∷ []) example_log
honest = (
  (refl, (λ w is. cc, (λ w is. cc, (λ w is. cc, (λ w is. cc, (λ w is. cc, (λ w is. cc, (λ w is. cc, (λ w is. cc, (λ w is. cc, (λ w is. cc, (λ w is. cc, (λ w is. cc, (λ w is. cc, tt)))))))))))))),
  (for-work (replay nat_eq first_12) 3, honest_12),
)

queued : Stand ℕ ℕ → Bool
queued at.Queued = true
queued _ = false

pub example-holds : ExampleHolds
unfolding queued
example-holds = record {
  update = record {
    lawful = record { units = nat_eq-sameness; answers = same-or-other };
    is_kept = inl refl;
    possible = possible;
    honest = honest;
  };
  at_rest = record {
    roots_known = λ u among. elim (Contains-cases 0 [] u among) [ inl is ↦ known-as (replay nat_eq example_log) 0 u refl is | inr none ↦ absurd (nothing-in u none) ];
    none_queued = λ u is. none-stands queued (replay nat_eq example_log) u at.Queued (refl, (refl, (refl, (refl, tt)))) refl is;
    none_claimed = λ u w is. none-stands (is_claimed_by w) (replay nat_eq example_log) u (at.Claimed w) (refl, (refl, (refl, (refl, tt)))) (nat_eq-self w) is;
  };
  ends = refl;
}
