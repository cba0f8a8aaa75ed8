-- What is sound and at rest is whole, and how soundness is kept.
use Rattle.std.proofs.Common.{◌≡◌, ℕ, zero, suc, List, [], Option, Some, None, refl, sym, ap, ◌∙◌, subst, inl, inr, arith}
use Rattle.std.specs.List.{Contains}
use Rattle.std.specs.Option.{option_map}
use Rattle.question_runs.specs.Runs.{Run, IsOver, stop_of}
use Rattle.question_runs.specs.RunLaws.{Lower, Continues}
use Rattle.question_runs.specs.Rounds.{Language, answer_by, now, run_by, result_of, needs, Meets, round, run_at, Demanded, root, met, Stuck}
use Rattle.question_runs.specs.RestLaws.{IsSound, IsAtRest, IsWhole, OneMoreKnown, OneMoreDone}
use Rattle.question_runs.proofs.RunSteps.{Answers-run, run-more}
use Rattle.question_runs.proofs.GrowingRuns.{continues-run, continues-stop, Answers-stop}
use Rattle.question_runs.proofs.GrowingRounds.{now-lower, run_by-continues, continues-result, continues-meets, round-grows}
use Rattle.question_runs.proofs.Needs.{needs-stop, map-none, Asks-meets, stop-meets, answer_by-known}

-- a run that stops for a unit without a result is the same with more answers
stays : {Q A U R : Type 0} (l : Language Q A U R) (files : Q → A) (few more : U → Option R) (u v : U) → Continues (run_by l files few u) (run_by l files more u) → needs l (run_by l files few u) ≡ Some v → more v ≡ None → run_by l files more u ≡ run_by l files few u
stays l files few more u v c e none =
    let at = needs-stop l (run_by l files few u) v (stop_of (run_by l files few u)) refl e in
    let no_answer : now l files more at.0 ≡ None = ap (answer_by (files at.0) l.answer_of more) at.2 ∙ ap (option_map l.answer_of) none in
    continues-stop (now l files more) (run_by l files few u) (run_by l files more u) at.0 c (Answers-run l.setting (now l files more) (l.elab u) []) at.1 no_answer

pub waiting-stays : {Q A U R : Type 0} (l : Language Q A U R) (files : Q → A) (few more : U → Option R) (u v : U) → Lower few more → needs l (run_by l files few u) ≡ Some v → more v ≡ None → run_by l files more u ≡ run_by l files few u
waiting-stays l files few more u v up e none = stays l files few more u v (run_by-continues l files few more up u) e none

pub ended-stays : {Q A U R : Type 0} (l : Language Q A U R) (files : Q → A) (few more : U → Option R) (u : U) → Lower few more → IsOver (run_by l files few u) → run_by l files more u ≡ run_by l files few u
ended-stays l files few more u up over = run-more l.setting (now l files few) (now l files more) (l.elab u) [] (now-lower l files few more up) over

-- the unit that a run needs has no result
needs-none : {Q A U R : Type 0} (l : Language Q A U R) (files : Q → A) (results : U → Option R) (u v : U) → needs l (run_by l files results u) ≡ Some v → results v ≡ None
needs-none l files results u v e =
    let at = needs-stop l (run_by l files results u) v (stop_of (run_by l files results u)) refl e in
    let stop : now l files results at.0 ≡ None = Answers-stop (now l files results) (run_by l files results u) at.0 (Answers-run l.setting (now l files results) (l.elab u) []) at.1 in
    map-none l.answer_of (results v) (ap (answer_by (files at.0) l.answer_of results) (sym at.2) ∙ stop)

needs-meets : {Q A U R : Type 0} (l : Language Q A U R) (r : Run Q A U R) (v : U) → needs l r ≡ Some v → Meets l r v
needs-meets l r v e = let at = needs-stop l r v (stop_of r) refl e in stop-meets l r at.0 v at.1 at.2

module _ {Q A U R : Type 0} (l : Language Q A U R) (files : Q → A) (roots : List U) (known : List U) (done : U → Option R) (sound : IsSound l files roots known done) (rest : IsAtRest l files roots known done) where
  -- where what a round gives known units is done, a known unit's run of the round goes on in its run now
  goes_on : (n : ℕ) → ((v : U) (r : R) → Contains known v → round l files n v ≡ Some r → done v ≡ Some r) → (u : U) → Contains known u → Continues (run_at l files n u) (run_by l files done u)
  goes_on n up u k = continues-run l.setting (now l files (round l files n)) (now l files done) (l.elab u) []
      (λ q a asks e. answer_by-known (files q) a l.answer_of (round l files n) done (l.unit_asked q) (λ v is r at. up v r (rest.met u v k (Asks-meets l (run_by l files done u) q v asks is)) at) e)

  given : (n : ℕ) (u : U) (r : R) → Contains known u → round l files n u ≡ Some r → done u ≡ Some r
  given zero u r k e = absurd (cc)
  given (suc n) u r k e = rest.finished u k ∙ continues-result l (run_at l files n u) (run_by l files done u) r (goes_on n (λ v x. given n v x) u k) e

  continues : (n : ℕ) (u : U) → Contains known u → Continues (run_at l files n u) (run_by l files done u)
  continues n u k = goes_on n (λ v x. given n v x) u k

  known-demanded : (u : U) → Demanded l files roots u → Contains known u
  known-demanded u (root is) = rest.begun u is
  known-demanded u (met {u = v} d n m) =
      let k = known-demanded v d in
      rest.met v u k (continues-meets l (run_at l files n v) (run_by l files done v) u (continues n v k) m)

  none-in_rounds : (u : U) (n : ℕ) (x : Option R) → Contains known u → round l files n u ≡ x → done u ≡ None → x ≡ None
  none-in_rounds u n None k is none = refl
  none-in_rounds u n (Some r) k is none = let there : done u ≡ Some r = given n u r k is in absurd (cc)

  none-now : (u : U) (x : Option R) → done u ≡ x → ((n : ℕ) → round l files n u ≡ None) → x ≡ None
  none-now u None is none = refl
  none-now u (Some r) is none = let there : round l files sound.below.0 u ≡ Some r = sound.below.1 u r is in let here = none sound.below.0 in absurd (cc)

  stuck-known : (u v : U) → Stuck l files roots u v → Contains known u × (done u ≡ None) × (needs l (run_by l files done u) ≡ Some v)
  stuck-known u v w =
      let k = known-demanded u w.demanded in
      let n : ℕ = w.needs_it.0 in
      let same : run_by l files done u ≡ run_at l files n u = stays l files (round l files n) done u v (continues n u k) w.needs_it.1 (none-now v (done v) refl w.it_has_none) in
      (k, none-now u (done u) refl w.none, ap (needs l) same ∙ w.needs_it.1)

  known-stuck : (u v : U) → Contains known u × (done u ≡ None) × (needs l (run_by l files done u) ≡ Some v) → Stuck l files roots u v
  known-stuck u v (k, none, e) =
      let v_known : Contains known v = rest.met u v k (needs-meets l (run_by l files done u) v e) in
      let v_none : done v ≡ None = needs-none l files done u v e in
      let n : ℕ = sound.below.0 in
      let in_round : round l files n v ≡ None = none-in_rounds v n (round l files n v) v_known refl v_none in
      let same : run_at l files n u ≡ run_by l files done u = waiting-stays l files done (round l files n) u v sound.below.1 e in_round in
      record {
        demanded = sound.demanded u k;
        none = λ m. none-in_rounds u m (round l files m u) k refl none;
        needs_it = (n, ap (needs l) same ∙ e);
        it_has_none = λ m. none-in_rounds v m (round l files m v) v_known refl v_none;
      }

  pub whole : IsWhole l files roots known done
  whole = record {
    demanded = λ u. (sound.demanded u, known-demanded u);
    results = λ u r k. (λ e. (sound.below.0, sound.below.1 u r e), λ w. given w.0 u r k w.1);
    stuck = λ u v. (stuck-known u v, known-stuck u v);
  }

-- ---- how soundness is kept

pub begins-sound : {Q A U R : Type 0} (l : Language Q A U R) (files : Q → A) (roots : List U) (known : List U) (done : U → Option R) → ((u : U) → Contains known u → Contains roots u) → ((u : U) → done u ≡ None) → IsSound l files roots known done
begins-sound l files roots known done first none = record {
  demanded = λ u k. root (first u k);
  below = (0, λ u r e. let n : done u ≡ None = none u in absurd (cc));
}

pub knows-soundly : {Q A U R : Type 0} (l : Language Q A U R) (files : Q → A) (roots : List U) (known known' : List U) (done : U → Option R) (u v : U) → IsSound l files roots known done → Contains known u → Meets l (run_by l files done u) v → OneMoreKnown known v known' → IsSound l files roots known' done
knows-soundly {Q} {A} {U} {R} l files roots known known' done u v sound k m more =
    let n : ℕ = sound.below.0 in
    let there : Meets l (run_at l files n u) v = continues-meets l (run_by l files done u) (run_at l files n u) v (run_by-continues l files done (round l files n) sound.below.1 u) m in
    let new : Demanded l files roots v = met (sound.demanded u k) n there in
    record {
      demanded = λ w k'. elim (more w k') [
        | inl old ↦ sound.demanded w old
        | inr is ↦ subst (λ x. Demanded l files roots x) (sym is) new
      ];
      below = sound.below;
    }

pub finishes-soundly : {Q A U R : Type 0} (l : Language Q A U R) (files : Q → A) (roots : List U) (known : List U) (done done' : U → Option R) (u : U) (r : R) → IsSound l files roots known done → result_of l (run_by l files done u) ≡ Some r → OneMoreDone done u r done' → IsSound l files roots known done'
finishes-soundly l files roots known done done' u r sound e more =
    let n : ℕ = sound.below.0 in
    let here : round l files (suc n) u ≡ Some r = continues-result l (run_by l files done u) (run_at l files n u) r (run_by-continues l files done (round l files n) sound.below.1 u) e in
    record {
      demanded = sound.demanded;
      below = (
        suc n,
        λ w x at. elim (more w x at) [
          | inl old ↦ round-grows l files n (suc n) (omega arith) w x (sound.below.1 w x old)
          | inr is ↦ ap (round l files (suc n)) is.0 ∙ here ∙ ap Some (sym is.1)
        ],
      );
    }
