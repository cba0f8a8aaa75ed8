-- The law of schedules: whatever order units are claimed, answered and finished in, and whatever was kept, what is done is what the plain definition gives.
--
-- Q are questions, A answers, U units and R results.
use Rattle.std.specs.Prelude.{◌≡◌, ℕ, ◌<◌, ◌≤◌, List, ◌∷◌, length, map, ◌↔◌, Some, None}
use Rattle.std.specs.List.{Contains, IsDistinct}
use Rattle.question_runs.specs.Rounds.{Language, round, Demanded, Stuck}
use Rattle.question_runs.specs.Kept.{KeptUnit, KeptAfter, IsKept, Clean}
use Rattle.question_runs.specs.KeptLaws.{IsCompared}
use Rattle.sched_core.specs.declared.event.TheConstants.{MOST_UNITS}
use Rattle.sched_core.specs.declared.event.Event.{Event}
use Rattle.sched_core.specs.declared.event.Stand.TheVariants as at
use Rattle.sched_core.specs.Machine.{Schedule, IsSameness, stand, IsKnown, replay, IsLog}
use Rattle.sched_laws.specs.Honest.{run_in, Wanted, IsHonest}

-- what the laws ask of a language: its tests tell which units and which answers are one
pub record IsLawful {Q A U R : Type 0} (l : Language Q A U R) : Type 0 where
  pub units : IsSameness l.same_unit
  pub answers : IsCompared A

module _ {Q A U R : Type 0} (l : Language Q A U R) (files : Q → A) (roots : List U) where
  -- a log of an update of these files, with these roots and these kept units
  pub record IsUpdate (kept : List (KeptUnit Q A U R)) (log : List (Event U R)) : Type 0 where
    pub lawful : IsLawful l
    pub is_kept : IsKept l kept
    pub possible : IsLog l.same_unit log
    pub honest : IsHonest l files kept roots log

  -- at every moment each result that is done is that of some round, and each known unit is demanded
  pub record IsSound (s : Schedule U R) : Type 0 where
    pub done : (u : U) (r : R) → stand l.same_unit s u ≡ Some (at.Done r) → (n : ℕ) × (round l files n u ≡ Some r)
    pub demanded : (u : U) → IsKnown l.same_unit s u → Demanded l files roots u

  -- nothing is left to do: the roots are known, and no unit is queued or claimed
  pub record IsAtRest (s : Schedule U R) : Type 0 where
    pub roots_known : (u : U) → Contains roots u → IsKnown l.same_unit s u
    pub none_queued : (u : U) → stand l.same_unit s u ≡ Some at.Queued → ⊥
    pub none_claimed : (u : U) (w : ℕ) → stand l.same_unit s u ≡ Some (at.Claimed w) → ⊥

  -- then the known units are exactly the demanded ones, those that are done exactly those with a result, and those that wait exactly the stuck ones, each for the unit that it needs
  pub record IsComplete (s : Schedule U R) : Type 0 where
    pub known : (u : U) → IsKnown l.same_unit s u ↔ Demanded l files roots u
    pub done : (u : U) (r : R) → (stand l.same_unit s u ≡ Some (at.Done r)) ↔ (Demanded l files roots u × ((n : ℕ) × (round l files n u ≡ Some r)))
    pub waiting : (u v : U) → (stand l.same_unit s u ≡ Some (at.Waiting v)) ↔ Stuck l files roots u v

  -- what a session may keep then: each unit that is done, with its result and its run
  pub record IsKeptOf (s : Schedule U R) (kept : List (KeptUnit Q A U R)) : Type 0 where
    pub done : (k : KeptUnit Q A U R) → Contains kept k → stand l.same_unit s k.unit ≡ Some (at.Done k.result)
    pub ran : (k : KeptUnit Q A U R) → Contains kept k → run_in l files s k.unit ≡ k.ran
    pub all : (u : U) (r : R) → stand l.same_unit s u ≡ Some (at.Done r) → (k : KeptUnit Q A U R) × Contains kept k × (k.unit ≡ u)

  -- the known units, in the order of their demands
  abbrev pub units_of : Schedule U R → List U
  units_of s = map (λ p. p.0) s

  -- at most so many units are demanded
  abbrev pub AtMostDemanded : ℕ → Type 0
  AtMostDemanded n = (us : List U) → IsDistinct l.same_unit us → ((u : U) → Contains us u → Demanded l files roots u) → length us ≤ n

  -- a further unit that an honest demand could name, with the known ones, is as many different demanded units
  pub record IsOneMore (s : Schedule U R) (u : U) : Type 0 where
    pub distinct : IsDistinct l.same_unit (u ∷ units_of s)
    pub demanded : (v : U) → Contains (u ∷ units_of s) v → Demanded l files roots v

module _ (Q A U R : Type 0) where
  abbrev pub EveryMoment : Type 0
  EveryMoment = (l : Language Q A U R) (files : Q → A) (roots : List U) (kept : List (KeptUnit Q A U R)) (log : List (Event U R)) → IsUpdate l files roots kept log → IsSound l files roots (replay l.same_unit log)

  abbrev pub LastMoment : Type 0
  LastMoment = (l : Language Q A U R) (files : Q → A) (roots : List U) (kept : List (KeptUnit Q A U R)) (log : List (Event U R)) → IsUpdate l files roots kept log → IsAtRest l files roots (replay l.same_unit log) → IsComplete l files roots (replay l.same_unit log)

  -- so the next update begins with units that an update kept
  abbrev pub KeptAgain : Type 0
  KeptAgain = (l : Language Q A U R) (files : Q → A) (roots : List U) (kept : List (KeptUnit Q A U R)) (log : List (Event U R)) → IsUpdate l files roots kept log → IsAtRest l files roots (replay l.same_unit log) → (new : List (KeptUnit Q A U R)) → IsKeptOf l files roots (replay l.same_unit log) new → KeptAfter l files roots new

  -- a clean unit that is known has its kept run again, and may be kept with it as it is
  abbrev pub CleanRunsStay : Type 0
  CleanRunsStay = (l : Language Q A U R) (files : Q → A) (roots : List U) (kept : List (KeptUnit Q A U R)) (log : List (Event U R)) → IsUpdate l files roots kept log → IsAtRest l files roots (replay l.same_unit log) → (k : KeptUnit Q A U R) → Clean l files kept k → IsKnown l.same_unit (replay l.same_unit log) k.unit → (run_in l files (replay l.same_unit log) k.unit ≡ k.ran) × (stand l.same_unit (replay l.same_unit log) k.unit ≡ Some (at.Done k.result))

  abbrev pub OneMore : Type 0
  OneMore = (l : Language Q A U R) (files : Q → A) (roots : List U) (kept : List (KeptUnit Q A U R)) (log : List (Event U R)) → IsUpdate l files roots kept log → (u : U) → Wanted l files kept roots (replay l.same_unit log) u → stand l.same_unit (replay l.same_unit log) u ≡ None → IsOneMore l files roots (replay l.same_unit log) u

  -- where few enough units are demanded there is room for each that an honest demand could name
  abbrev pub RoomLeft : Type 0
  RoomLeft = (l : Language Q A U R) (files : Q → A) (roots : List U) (kept : List (KeptUnit Q A U R)) (log : List (Event U R)) → IsUpdate l files roots kept log → AtMostDemanded l files roots MOST_UNITS → (u : U) → Wanted l files kept roots (replay l.same_unit log) u → stand l.same_unit (replay l.same_unit log) u ≡ None → length (replay l.same_unit log) < MOST_UNITS
