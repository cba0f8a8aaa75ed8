-- What a board relies on that appends a group of events for one run of a worker: demands of what the run meets, and then a finish or a need.
--
-- Q are questions, A answers, U units and R results.
use Rattle.std.specs.Prelude.{◌≡◌, ◌≢◌, ℕ, Some}
use Rattle.question_runs.specs.Runs.{Run, trace_of, Answers, Gives, IsRunOf}
use Rattle.question_runs.specs.Rounds.{Language, now, needs, Meets}
use Rattle.sched_core.specs.declared.event.Event.{Event}
use Rattle.sched_core.specs.declared.event.Event.TheVariants as event
use Rattle.sched_core.specs.Machine.{Schedule, IsSameness, done_in, Enabled, after}
use Rattle.sched_laws.specs.Honest.{AllKnown, KnownUpTo, run_in}

module _ (Q A U R : Type 0) where
  -- a run of the unit that has the answers which are at hand is the unit's run now
  abbrev pub WholeRuns : Type 0
  WholeRuns = (l : Language Q A U R) (files : Q → A) (s : Schedule U R) (u : U) (r : Run Q A U R) → IsRunOf l.setting (l.elab u) r → Answers (now l files (done_in l.same_unit s)) r → run_in l files s u ≡ r

  -- a run whose answers are at hand, though what it stops for may be done meanwhile: what it meets the unit's run meets
  abbrev pub PartsMeet : Type 0
  PartsMeet = (l : Language Q A U R) (files : Q → A) (s : Schedule U R) (u v : U) (r : Run Q A U R) → IsRunOf l.setting (l.elab u) r → Gives (now l files (done_in l.same_unit s)) (trace_of r) → Meets l r v → Meets l (run_in l files s u) v

  -- and where all that it meets is known, its unit may need the one that it stops for
  abbrev pub PartsNeed : Type 0
  PartsNeed = (l : Language Q A U R) (files : Q → A) (s : Schedule U R) (u v : U) (r : Run Q A U R) → IsRunOf l.setting (l.elab u) r → Gives (now l files (done_in l.same_unit s)) (trace_of r) → needs l r ≡ Some v → AllKnown l s r → KnownUpTo l s (run_in l files s u) v

  -- an event that is no finish changes no run, so one look at the runs serves a whole group
  abbrev pub RunsLast : Type 0
  RunsLast = (l : Language Q A U R) (files : Q → A) (s : Schedule U R) (e : Event U R) → IsSameness l.same_unit → Enabled l.same_unit s e → ((w : ℕ) (u : U) (r : R) → e ≢ event.Finish w u r) → (u : U) → run_in l files (after l.same_unit s e) u ≡ run_in l files s u
