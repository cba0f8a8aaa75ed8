-- What is sound and at rest has all demanded units and results, so it is whole.
use Rattle.std.proofs.Common.{◌≡◌, ℕ, zero, suc, List, [], Option, Some, None, refl, ap, ◌∙◌}
use Rattle.std.specs.List.{Contains}
use Rattle.question_runs.specs.RunLaws.{Continues}
use Rattle.question_runs.specs.Rounds.{Language, now, run_by, needs, round, run_at, Demanded, root, met, Stuck}
use Rattle.question_runs.specs.RestLaws.{IsSound, IsAtRest, IsWhole}
use Rattle.question_runs.proofs.GrowingRuns.{continues-run}
use Rattle.question_runs.proofs.GrowingRounds.{run_by-continues, continues-result, continues-meets, answer-again}
use Rattle.question_runs.proofs.KeptRuns.{Asks-Meets}
use Rattle.unit_levels.proofs.Waiting.{needs-meets, needs-none, stays}

module _ {Q A U R : Type 0} (l : Language Q A U R) (files : Q → A) (roots : List U) (known : List U) (done : U → Option R) (rest : IsAtRest l files roots known done) where
  -- where what a round gives known units is done, a known unit's run of the round goes on in its run now
  goes-on : (n : ℕ) → ((v : U) (r : R) → Contains known v → round l files n v ≡ Some r → done v ≡ Some r) → (u : U) → Contains known u → Continues (run_at l files n u) (run_by l files done u)
  goes-on n up u k = continues-run l.setting (now l files (round l files n)) (now l files done) (l.elab u) []
      (λ q a asks e. answer-again (files q) (files q) a l.answer_of (round l files n) done (l.unit_asked q) (λ none same. same) (λ v r is at. up v r (rest.met u v k (Asks-Meets l (run_by l files done u) q v asks is)) at) e)

  -- what any round gives a known unit is done
  pub given-done : (n : ℕ) (u : U) (r : R) → Contains known u → round l files n u ≡ Some r → done u ≡ Some r
  given-done zero u r k e = absurd (cc)
  given-done (suc n) u r k e = rest.finished u k ∙ continues-result l (run_at l files n u) (run_by l files done u) r (goes-on n (λ v x. given-done n v x) u k) e

  pub run-goes_on : (n : ℕ) (u : U) → Contains known u → Continues (run_at l files n u) (run_by l files done u)
  run-goes_on n u k = goes-on n (λ v x. given-done n v x) u k

  -- each demanded unit is known
  pub demanded-known : (u : U) → Demanded l files roots u → Contains known u
  demanded-known u (root is) = rest.begun u is
  demanded-known u (met {u = v} d n m) =
      let k = demanded-known v d in
      rest.met v u k (continues-meets l (run_at l files n v) (run_by l files done v) u (run-goes_on n v k) m)

  -- a known unit without a result has none in any round
  none-given : (u : U) (n : ℕ) (x : Option R) → Contains known u → done u ≡ None → round l files n u ≡ x → x ≡ None
  none-given u n None k none is = refl
  none-given u n (Some r) k none is = let there : done u ≡ Some r = given-done n u r k is in absurd (cc)

module _ {Q A U R : Type 0} (l : Language Q A U R) (files : Q → A) (roots : List U) (known : List U) (done : U → Option R) (sound : IsSound l files roots known done) (rest : IsAtRest l files roots known done) where
  -- a unit that no round gives a result has none
  none-done : (u : U) (x : Option R) → done u ≡ x → ((n : ℕ) → round l files n u ≡ None) → x ≡ None
  none-done u None is none = refl
  none-done u (Some r) is none = let there : round l files sound.below.0 u ≡ Some r = sound.below.1 u r is in let here = none sound.below.0 in absurd (cc)

  stuck-known : (u v : U) → Stuck l files roots u v → Contains known u × (done u ≡ None) × (needs l (run_by l files done u) ≡ Some v)
  stuck-known u v w =
      let k = demanded-known l files roots known done rest u w.demanded in
      let m : ℕ = w.needs_it.0 in
      let same : run_by l files done u ≡ run_at l files m u = stays l files (round l files m) u v w.needs_it.1 done (run-goes_on l files roots known done rest m u k) (none-done v (done v) refl w.it_has_none) in
      (k, none-done u (done u) refl w.none, ap (needs l) same ∙ w.needs_it.1)

  known-stuck : (u v : U) → Contains known u × (done u ≡ None) × (needs l (run_by l files done u) ≡ Some v) → Stuck l files roots u v
  known-stuck u v (k, none, need) =
      let n : ℕ = sound.below.0 in
      let v_known : Contains known v = rest.met u v k (needs-meets l (run_by l files done u) v need) in
      let v_none : (m : ℕ) → round l files m v ≡ None = λ m. none-given l files roots known done rest v m (round l files m v) v_known (needs-none l files done u v need) refl in
      let same : run_at l files n u ≡ run_by l files done u = stays l files done u v need (round l files n) (run_by-continues l files done (round l files n) sound.below.1 u) (v_none n) in
      record {
        demanded = sound.demanded u k;
        none = λ m. none-given l files roots known done rest u m (round l files m u) k none refl;
        needs_it = (n, ap (needs l) same ∙ need);
        it_has_none = v_none;
      }

  pub whole : IsWhole l files roots known done
  whole = record {
    demanded = λ u. (sound.demanded u, demanded-known l files roots known done rest u);
    results = λ u r k. (λ e. (sound.below.0, sound.below.1 u r e), λ w. given-done l files roots known done rest w.0 u r k w.1);
    stuck = λ u v. (stuck-known u v, known-stuck u v);
  }
