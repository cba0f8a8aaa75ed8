-- Honest logs: each event is one that the files, the roots and what was kept give reason for, with the results that are done by then.
--
-- | Event             | Its reason                                                                                                                      |
-- |-------------------|---------------------------------------------------------------------------------------------------------------------------------|
-- | Demand of a unit  | it is a root; or the run of a known unit asks for it or refers to it; or the kept run of a known clean unit does                    |
-- | Claim of a unit   | of kind Kept exactly where it is clean; of kind Check only where it is suspect; of kind Work only where it is not kept, or an answer of its kept run is another one now |
-- | Need of another   | its run asks for the result of the other, all that the run meets up to there is known, and it has not needed that one before        |
-- | Finish of a unit  | its run ends with that result and all that it meets is known; or it is clean, and so for its kept result and kept run               |
-- | Reclaim           | none                                                                                                                            |
--
-- Q are questions, A answers, U units and R results.
use Rattle.std.specs.Prelude.{◌≡◌, ◌≢◌, ℕ, List, [], ◌∷◌, ◌⊎◌, ◌↔◌, Some, ⊤}
use Rattle.std.specs.List.{Contains}
use Rattle.question_runs.specs.Runs.{Run, ends, fails, stops, goes, asked, referred, WasGiven}
use Rattle.question_runs.specs.Rounds.{Language, now, run_by, result_of, Meets}
use Rattle.question_runs.specs.Kept.{KeptUnit, Suspect, Clean}
use Rattle.sched_core.specs.declared.event.Kind.{Kind}
use Rattle.sched_core.specs.declared.event.Kind.TheVariants as kind
use Rattle.sched_core.specs.declared.event.Event.{Event}
use Rattle.sched_core.specs.declared.event.Event.TheVariants as event
use Rattle.sched_core.specs.Machine.{Schedule, IsKnown, done_in, replay}

module _ {Q A U R : Type 0} (l : Language Q A U R) where
  -- all units that the run meets are known
  abbrev pub AllKnown : Schedule U R → Run Q A U R → Type 0
  AllKnown s r = (u : U) → Meets l r u → IsKnown l.same_unit s u

  -- the run asks for the result of the unit, and all that it meets up to there is known
  abbrev pub KnownUpTo : Schedule U R → Run Q A U R → U → Type 0
  KnownUpTo s (ends x) u = ⊥
  KnownUpTo s fails u = ⊥
  KnownUpTo s (stops q) u = l.unit_asked q ≡ Some u
  KnownUpTo s (goes (asked q a) r) u = ((v : U) → l.unit_asked q ≡ Some v → IsKnown l.same_unit s v) × ((l.unit_asked q ≡ Some u) ⊎ KnownUpTo s r u)
  KnownUpTo s (goes (referred v) r) u = IsKnown l.same_unit s v × KnownUpTo s r u

  module _ (files : Q → A) where
    -- the run of a unit by the files and the results that are done, as far as it gets
    abbrev pub run_in : Schedule U R → U → Run Q A U R
    run_in s u = run_by l files (done_in l.same_unit s) u

    -- an answer of the run is another one now
    abbrev pub Differs : Schedule U R → Run Q A U R → Type 0
    Differs s r = (q : Q) × ((a : A) × ((b : A) × (WasGiven r q a × (now l files (done_in l.same_unit s) q ≡ Some b) × (a ≢ b))))

    module _ (kept : List (KeptUnit Q A U R)) where
      -- whether a unit may be claimed for this
      pub record KindFits (s : Schedule U R) (u : U) (purpose : Kind) : Type 0 where
        pub clean : (purpose ≡ kind.Kept) ↔ ((k : KeptUnit Q A U R) × (Clean l files kept k × (k.unit ≡ u)))
        pub check : purpose ≡ kind.Check → Suspect l files kept u
        pub work : purpose ≡ kind.Work → ((k : KeptUnit Q A U R) → Contains kept k → k.unit ≢ u) ⊎ ((k : KeptUnit Q A U R) × (Contains kept k × (k.unit ≡ u) × Differs s k.ran))

      -- why a unit may be demanded
      pub data Wanted (roots : List U) (s : Schedule U R) (u : U) : Type 0 where
        as_root : Contains roots u → Wanted roots s u
        by_run : (v : U) → IsKnown l.same_unit s v → Meets l (run_in s v) u → Wanted roots s u
        by_kept : (k : KeptUnit Q A U R) → Clean l files kept k → IsKnown l.same_unit s k.unit → Meets l k.ran u → Wanted roots s u

      -- why a unit may be finished with a result
      pub data Ended (s : Schedule U R) (u : U) (r : R) : Type 0 where
        ran : result_of l (run_in s u) ≡ Some r → AllKnown s (run_in s u) → Ended s u r
        kept_so : (k : KeptUnit Q A U R) → Clean l files kept k → k.unit ≡ u → k.result ≡ r → AllKnown s k.ran → Ended s u r

      -- the unit has not needed the other one before
      abbrev pub NoNeed : List (Event U R) → U → U → Type 0
      NoNeed [] u on = ⊤
      NoNeed (e ∷ past) u on = ((w : ℕ) → e ≢ event.Need w u on) × NoNeed past u on

      module _ (roots : List U) where
        -- the reason for an event behind those of the past
        abbrev pub HasReason : List (Event U R) → Event U R → Type 0
        HasReason past (event.Demand u) = Wanted roots (replay l.same_unit past) u
        HasReason past (event.Claim w u purpose) = KindFits (replay l.same_unit past) u purpose
        HasReason past (event.Need w u on) = KnownUpTo (replay l.same_unit past) (run_in (replay l.same_unit past) u) on × NoNeed past u on
        HasReason past (event.Finish w u r) = Ended (replay l.same_unit past) u r
        HasReason past (event.Reclaim w) = ⊤

        -- each event of the log, which has the newest first, has its reason
        abbrev pub IsHonest : List (Event U R) → Type 0
        IsHonest [] = ⊤
        IsHonest (e ∷ past) = HasReason past e × IsHonest past
