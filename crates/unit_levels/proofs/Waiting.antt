-- The unit that a run stops for, and that the run is the same as long as it has no result.
use Rattle.std.proofs.Common.{◌≡◌, [], Option, Some, None, refl, sym, ap, ◌∙◌, inr}
use Rattle.std.specs.Option.{option_map, option_and_then}
use Rattle.question_runs.specs.Runs.{asked, referred, Run, ends, fails, stops, goes, stop_of}
use Rattle.question_runs.specs.RunLaws.{Continues}
use Rattle.question_runs.specs.Rounds.{Language, answer_by, now, run_by, needs, Meets}
use Rattle.question_runs.proofs.RunSteps.{Answers-run}
use Rattle.question_runs.proofs.GrowingRuns.{continues-stop, Answers-stop}

needs-stop : {Q A U R : Type 0} (l : Language Q A U R) (v : U) (x : Option Q) → option_and_then l.unit_asked x ≡ Some v → (q : Q) × (x ≡ Some q) × (l.unit_asked q ≡ Some v)
needs-stop l v None e = absurd (cc)
needs-stop l v (Some q) e = (q, refl, e)

pub needs-meets : {Q A U R : Type 0} (l : Language Q A U R) (r : Run Q A U R) (v : U) → needs l r ≡ Some v → Meets l r v
needs-meets l (ends x) v e = absurd (cc)
needs-meets l fails v e = absurd (cc)
needs-meets l (stops q) v e = e
needs-meets l (goes (asked q a) r) v e = inr (needs-meets l r v e)
needs-meets l (goes (referred u) r) v e = inr (needs-meets l r v e)

map-none : {A R : Type 0} (f : R → A) (x : Option R) → option_map f x ≡ None → x ≡ None
map-none f None e = refl
map-none f (Some r) e = absurd (cc)

module _ {Q A U R : Type 0} (l : Language Q A U R) (files : Q → A) (results : U → Option R) (u v : U) (need : needs l (run_by l files results u) ≡ Some v) where
  stop-at : (q : Q) × (stop_of (run_by l files results u) ≡ Some q) × (l.unit_asked q ≡ Some v)
  stop-at = needs-stop l v (stop_of (run_by l files results u)) need

  -- it has no result
  pub needs-none : results v ≡ None
  needs-none = map-none l.answer_of (results v) (ap (answer_by (files stop-at.0) l.answer_of results) (sym stop-at.2) ∙ Answers-stop (now l files results) (run_by l files results u) stop-at.0 (Answers-run l.setting (now l files results) (l.elab u) []) stop-at.1)

  -- a run that goes on in these moves is the same, as long as it has none
  pub stays : (more : U → Option R) → Continues (run_by l files results u) (run_by l files more u) → more v ≡ None → run_by l files more u ≡ run_by l files results u
  stays more c none = continues-stop (now l files more) (run_by l files results u) (run_by l files more u) stop-at.0 c (Answers-run l.setting (now l files more) (l.elab u) []) stop-at.1 (ap (answer_by (files stop-at.0) l.answer_of more) stop-at.2 ∙ ap (option_map l.answer_of) none)
