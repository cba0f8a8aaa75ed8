-- The rounds, read as one function of results.
use Rattle.std.proofs.Common.{◌≡◌, ℕ, suc, ◌≤◌, max, List, [], Option, Some, None, refl, sym, ap, ◌∙◌, subst, arith}
use Rattle.std.proofs.Math.Nat.{le-max_left, le-max_right}
use Rattle.std.specs.Option.{option_map}
use Rattle.question_runs.specs.Runs.{asked, referred, Run, ends, fails, stops, goes, Answers, stop_of}
use Rattle.question_runs.specs.RunLaws.{Lower}
use Rattle.question_runs.specs.Rounds.{Language, answer_by, now, run_by, result_of, needs, Meets, round, run_at, Demanded, root, met, Stuck}
use Rattle.question_runs.specs.RoundLaws.{HasAllResults, DemandedBy, by_root, by_run, Together}
use Rattle.question_runs.proofs.RunSteps.{Answers-run, run-same}
use Rattle.question_runs.proofs.GrowingRuns.{continues-stop, Answers-stop}
use Rattle.question_runs.proofs.Needs.{needs-stop, map-none}
use Rattle.question_runs.proofs.GrowingRounds.{now-lower, run_by-continues, continues-meets, round-grows}

-- an answer that is there with all results is there at some round, and one that is not is there at none
option_map-some : {A R : Type 0} (a : A) (f : R → A) (x : Option R) (at : ℕ → Option R) → ((r : R) → x ≡ Some r → (n : ℕ) × (at n ≡ Some r)) → option_map f x ≡ Some a → (n : ℕ) × (option_map f (at n) ≡ Some a)
option_map-some a f None at up e = absurd (cc)
option_map-some a f (Some r) at up e = let w : (n : ℕ) × (at n ≡ Some r) = up r refl in (w.0, ap (option_map f) w.1 ∙ e)

answer_by-some : {A U R : Type 0} (of_files a : A) (f : R → A) (results : U → Option R) (at : ℕ → U → Option R) (o : Option U) → ((u : U) (r : R) → results u ≡ Some r → (n : ℕ) × (at n u ≡ Some r)) → answer_by of_files f results o ≡ Some a → (n : ℕ) × (answer_by of_files f (at n) o ≡ Some a)
answer_by-some of_files a f results at None up e = (0, e)
answer_by-some of_files a f results at (Some u) up e = option_map-some a f (results u) (λ n. at n u) (up u) e

option_map-none : {A R : Type 0} (f : R → A) (x y : Option R) → ((r : R) → y ≡ Some r → x ≡ Some r) → option_map f x ≡ None → option_map f y ≡ None
option_map-none f x None up e = refl
option_map-none f x (Some r) up e = let is : x ≡ Some r = up r refl in let there : option_map f (Some r) ≡ None = ap (option_map f) (sym is) ∙ e in absurd (cc)

answer_by-none : {A U R : Type 0} (of_files : A) (f : R → A) (results few : U → Option R) (o : Option U) → Lower few results → answer_by of_files f results o ≡ None → answer_by of_files f few o ≡ None
answer_by-none of_files f results few None up e = e
answer_by-none of_files f results few (Some u) up e = option_map-none f (results u) (few u) (up u) e

module _ {Q A U R : Type 0} (l : Language Q A U R) (files : Q → A) (results : U → Option R) (all : HasAllResults l files results) where
  up : (n : ℕ) → Lower (round l files n) results
  up n u r e = (all u r).1 (n, e)

  -- from some round on, a run with all results is the run of the round
  from : (r : Run Q A U R) → Answers (now l files results) r → (n : ℕ) × ((m : ℕ) → n ≤ m → Answers (now l files (round l files m)) r)
  from (ends x) w = (0, λ m below. tt)
  from fails w = (0, λ m below. tt)
  from (stops q) w = (0, λ m below. answer_by-none (files q) l.answer_of results (round l files m) (l.unit_asked q) (up m) w)
  from (goes (asked q a) r) w =
      let here : (n : ℕ) × (now l files (round l files n) q ≡ Some a) = answer_by-some (files q) a l.answer_of results (round l files) (l.unit_asked q) (λ u x e. (all u x).0 e) w.0 in
      let there : (n : ℕ) × ((m : ℕ) → n ≤ m → Answers (now l files (round l files m)) r) = from r w.1 in (
        max here.0 there.0,
        λ m below.
            let low : here.0 ≤ m = omega (arith, le-max_left here.0 there.0) in
            let high : there.0 ≤ m = omega (arith, le-max_right here.0 there.0) in
            (now-lower l files (round l files here.0) (round l files m) (round-grows l files here.0 m low) q a here.1, there.1 m high),
      )
  from (goes (referred u) r) w = from r w

  run-from : (u : U) → (n : ℕ) × ((m : ℕ) → n ≤ m → run_at l files m u ≡ run_by l files results u)
  run-from u =
      let w : (n : ℕ) × ((m : ℕ) → n ≤ m → Answers (now l files (round l files m)) (run_by l files results u)) = from (run_by l files results u) (Answers-run l.setting (now l files results) (l.elab u) []) in
      (w.0, λ m below. run-same l.setting (now l files results) (now l files (round l files m)) (l.elab u) [] (w.1 m below))

  result-at : (u : U) (x y : Option R) → result_of l (run_by l files results u) ≡ x → results u ≡ y → y ≡ x
  result-at u (Some r) y is is' = sym is' ∙ (all u r).1 (suc (run-from u).0, ap (result_of l) ((run-from u).1 (run-from u).0 (omega arith)) ∙ is)
  result-at u None None is is' = refl
  result-at u None (Some r) is is' =
      let w : (k : ℕ) × (round l files k u ≡ Some r) = (all u r).0 is' in
      let m : ℕ = max (run-from u).0 w.0 in
      let there : round l files (suc m) u ≡ Some r = round-grows l files w.0 (suc m) (omega (arith, le-max_right (run-from u).0 w.0)) u r w.1 in
      let here : round l files (suc m) u ≡ None = ap (result_of l) ((run-from u).1 m (le-max_left (run-from u).0 w.0)) ∙ is in
      absurd (cc)

  demanded-by : (roots : List U) (u : U) → Demanded l files roots u → DemandedBy l files results roots u
  demanded-by roots u (root is) = by_root is
  demanded-by roots u (met {u = v} d n m) = by_run (demanded-by roots v d) (continues-meets l (run_at l files n v) (run_by l files results v) u (run_by-continues l files (round l files n) results (up n) v) m)

  demanded-at : (roots : List U) (u : U) → DemandedBy l files results roots u → Demanded l files roots u
  demanded-at roots u (by_root is) = root is
  demanded-at roots u (by_run {u = v} d m) = met (demanded-at roots v d) (run-from v).0 (subst (λ x. Meets l x u) (sym ((run-from v).1 (run-from v).0 (omega arith))) m)

  -- a unit has no result where no round gives it one
  none-at : (u : U) (x : Option R) → results u ≡ x → ((n : ℕ) → round l files n u ≡ None) → x ≡ None
  none-at u None is none = refl
  none-at u (Some r) is none = let w : (n : ℕ) × (round l files n u ≡ Some r) = (all u r).0 is in let here : round l files w.0 u ≡ None = none w.0 in let there : round l files w.0 u ≡ Some r = w.1 in absurd (cc)

  none-by : (u : U) (n : ℕ) (x : Option R) → round l files n u ≡ x → results u ≡ None → x ≡ None
  none-by u n None is none = refl
  none-by u n (Some r) is none = let there : results u ≡ Some r = up n u r is in absurd (cc)

  stuck-by : (roots : List U) (u v : U) → Stuck l files roots u v → DemandedBy l files results roots u × (results u ≡ None) × (needs l (run_by l files results u) ≡ Some v)
  stuck-by roots u v w =
      let n : ℕ = w.needs_it.0 in
      let at : (q : Q) × (stop_of (run_at l files n u) ≡ Some q) × (l.unit_asked q ≡ Some v) = needs-stop l (run_at l files n u) v (stop_of (run_at l files n u)) refl w.needs_it.1 in
      let none : now l files results at.0 ≡ None = ap (answer_by (files at.0) l.answer_of results) at.2 ∙ ap (option_map l.answer_of) (none-at v (results v) refl w.it_has_none) in
      let is : run_by l files results u ≡ run_at l files n u = continues-stop (now l files results) (run_at l files n u) (run_by l files results u) at.0 (run_by-continues l files (round l files n) results (up n) u) (Answers-run l.setting (now l files results) (l.elab u) []) at.1 none in
      (demanded-by roots u w.demanded, none-at u (results u) refl w.none, ap (needs l) is ∙ w.needs_it.1)

  stuck-at : (roots : List U) (u v : U) → DemandedBy l files results roots u × (results u ≡ None) × (needs l (run_by l files results u) ≡ Some v) → Stuck l files roots u v
  stuck-at roots u v (d, none, e) =
      let n : ℕ = (run-from u).0 in
      let at : (q : Q) × (stop_of (run_by l files results u) ≡ Some q) × (l.unit_asked q ≡ Some v) = needs-stop l (run_by l files results u) v (stop_of (run_by l files results u)) refl e in
      let stop : now l files results at.0 ≡ None = Answers-stop (now l files results) (run_by l files results u) at.0 (Answers-run l.setting (now l files results) (l.elab u) []) at.1 in
      let v_none : results v ≡ None = map-none l.answer_of (results v) (ap (answer_by (files at.0) l.answer_of results) (sym at.2) ∙ stop) in
      record {
        demanded = demanded-at roots u d;
        none = λ k. none-by u k (round l files k u) refl none;
        needs_it = (n, ap (needs l) ((run-from u).1 n (omega arith)) ∙ e);
        it_has_none = λ k. none-by v k (round l files k v) refl v_none;
      }

  pub together : Together l files results
  together = record {
    fixed = λ u. result-at u (result_of l (run_by l files results u)) (results u) refl refl;
    demanded = λ roots u. (demanded-by roots u, demanded-at roots u);
    stuck = λ roots u v. (stuck-by roots u v, stuck-at roots u v);
  }
