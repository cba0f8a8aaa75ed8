-- Cycles of stuck units: each points to the one that it needs.
--
-- Q are questions, A answers, U units and R results.
use Rattle.std.specs.Prelude.{◌≡◌, ℕ, zero, suc, Bool, true, false, List}
use Rattle.question_runs.specs.Rounds.{Language, Stuck}
use Rattle.question_runs.specs.Kept.{KeptUnit}
use Rattle.sched_core.specs.declared.event.Event.{Event}
use Rattle.sched_core.specs.Machine.{replay}
use Rattle.sched_laws.specs.Laws.{IsUpdate, IsAtRest}

module _ {Q A U R : Type 0} (l : Language Q A U R) (files : Q → A) (roots : List U) where
  -- the second unit is so many pointers behind the first
  abbrev pub Leads : ℕ → U → U → Type 0
  Leads zero u v = u ≡ v
  Leads (suc n) u v = (w : U) × (Stuck l files roots u w × Leads n w v)

  -- a unit that its pointers lead back to
  abbrev pub IsOnCycle : U → Type 0
  IsOnCycle u = (n : ℕ) × Leads (suc n) u u

  -- the unit at which a cycle is shown: no unit of the cycle comes before it
  pub record IsShown (before : U → U → Bool) (u : U) : Type 0 where
    pub on_cycle : IsOnCycle u
    pub first : (n : ℕ) (v : U) → Leads n u v → before v u ≡ false

-- of two units of which neither comes before the other each is the other
abbrev pub IsAntisymmetric : {U : Type 0} → (U → U → Bool) → Type 0
IsAntisymmetric {U} before = (u v : U) → before u v ≡ false → before v u ≡ false → u ≡ v

-- which unit comes before which: none before itself, of two at most one before the other, and what does not come before a later one does not before an earlier one
pub record IsOrder {U : Type 0} (before : U → U → Bool) : Type 0 where
  pub not_self : (u : U) → before u u ≡ false
  pub one_way : (u v : U) → before u v ≡ true → before v u ≡ false
  pub after_all : (u v w : U) → before u v ≡ true → before w v ≡ false → before w u ≡ false

module _ (Q A U R : Type 0) where
  -- a cycle is shown at one unit at most
  abbrev pub CyclesShowOnce : Type 0
  CyclesShowOnce = (l : Language Q A U R) (files : Q → A) (roots : List U) (before : U → U → Bool) → IsAntisymmetric before → (u v : U) (n : ℕ) → IsShown l files roots before u → IsShown l files roots before v → Leads l files roots n u v → u ≡ v

  -- and each cycle is shown at one of its units
  abbrev pub CyclesAreShown : Type 0
  CyclesAreShown = (l : Language Q A U R) (files : Q → A) (roots : List U) (before : U → U → Bool) → IsOrder before → (u : U) → IsOnCycle l files roots u → (w : U) × (((n : ℕ) × Leads l files roots n u w) × IsShown l files roots before w)

  -- at rest each stuck unit leads into a cycle
  abbrev pub StuckLeadIntoCycles : Type 0
  StuckLeadIntoCycles = (l : Language Q A U R) (files : Q → A) (roots : List U) (kept : List (KeptUnit Q A U R)) (log : List (Event U R)) → IsUpdate l files roots kept log → IsAtRest l files roots (replay l.same_unit log) → (u v : U) → Stuck l files roots u v → (w : U) × ((n : ℕ) × (Leads l files roots n u w × IsOnCycle l files roots w))
