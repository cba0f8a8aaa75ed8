-- How whoever takes up units one after the other comes to the demanded units and their results, in whatever order. Q are questions, A answers, U units and R results.
use Rattle.std.specs.Prelude.{◌≡◌, ℕ, List, ◌↔◌, ◌⊎◌, Option, Some, None}
use Rattle.std.specs.List.{Contains}
use Rattle.question_runs.specs.Runs.{IsOver}
use Rattle.question_runs.specs.RunLaws.{Lower}
use Rattle.question_runs.specs.Rounds.{Language, run_by, result_of, needs, Meets, round, Demanded, Stuck}

module _ {Q A U R : Type 0} (l : Language Q A U R) (files : Q → A) (roots : List U) where
  -- what is known is demanded, and all results that are there are those of one round
  pub record IsSound (known : List U) (done : U → Option R) : Type 0 where
    pub demanded : (u : U) → Contains known u → Demanded l files roots u
    pub below : (n : ℕ) × Lower done (round l files n)

  -- Nothing is left to do: the roots are known, and what the runs of known units meet; each known unit has the result that its run gives, if any.
  pub record IsAtRest (known : List U) (done : U → Option R) : Type 0 where
    pub begun : (u : U) → Contains roots u → Contains known u
    pub met : (u v : U) → Contains known u → Meets l (run_by l files done u) v → Contains known v
    pub finished : (u : U) → Contains known u → done u ≡ result_of l (run_by l files done u)

  -- the known units are the demanded ones, with the results that the rounds give, and those without are the stuck ones
  pub record IsWhole (known : List U) (done : U → Option R) : Type 0 where
    pub demanded : (u : U) → Contains known u ↔ Demanded l files roots u
    pub results : (u : U) (r : R) → Contains known u → (done u ≡ Some r) ↔ ((n : ℕ) × (round l files n u ≡ Some r))
    pub stuck : (u v : U) → Stuck l files roots u v ↔ (Contains known u × (done u ≡ None) × (needs l (run_by l files done u) ≡ Some v))

-- all that is known after a unit has become known
abbrev pub OneMoreKnown : {U : Type 0} → List U → U → List U → Type 0
OneMoreKnown {U} known v known' = (u : U) → Contains known' u → Contains known u ⊎ (u ≡ v)

-- all that is done after a unit has its result
abbrev pub OneMoreDone : {U R : Type 0} → (U → Option R) → U → R → (U → Option R) → Type 0
OneMoreDone {U} {R} done v r done' = (u : U) (x : R) → done' u ≡ Some x → (done u ≡ Some x) ⊎ ((u ≡ v) × (x ≡ r))

module _ (Q A U R : Type 0) where
  -- at the beginning roots alone are known, and nothing is done
  abbrev pub BeginsSound : Type 0
  BeginsSound = (l : Language Q A U R) (files : Q → A) (roots : List U) (known : List U) (done : U → Option R) → ((u : U) → Contains known u → Contains roots u) → ((u : U) → done u ≡ None) → IsSound l files roots known done

  -- a unit that the run of a known one meets may become known
  abbrev pub KnowsSoundly : Type 0
  KnowsSoundly = (l : Language Q A U R) (files : Q → A) (roots : List U) (known known' : List U) (done : U → Option R) (u v : U) → IsSound l files roots known done → Contains known u → Meets l (run_by l files done u) v → OneMoreKnown known v known' → IsSound l files roots known' done

  -- the result that the run of a unit gives may be its result
  abbrev pub FinishesSoundly : Type 0
  FinishesSoundly = (l : Language Q A U R) (files : Q → A) (roots : List U) (known : List U) (done done' : U → Option R) (u : U) (r : R) → IsSound l files roots known done → result_of l (run_by l files done u) ≡ Some r → OneMoreDone done u r done' → IsSound l files roots known done'

  -- a run that was over stays as it was as more is done
  abbrev pub EndedStays : Type 0
  EndedStays = (l : Language Q A U R) (files : Q → A) (few more : U → Option R) (u : U) → Lower few more → IsOver (run_by l files few u) → run_by l files more u ≡ run_by l files few u

  -- and so does one that waits for a unit, as long as that has no result
  abbrev pub WaitingStays : Type 0
  WaitingStays = (l : Language Q A U R) (files : Q → A) (few more : U → Option R) (u v : U) → Lower few more → needs l (run_by l files few u) ≡ Some v → more v ≡ None → run_by l files more u ≡ run_by l files few u

  -- what is sound and at rest is whole
  abbrev pub RestIsWhole : Type 0
  RestIsWhole = (l : Language Q A U R) (files : Q → A) (roots : List U) (known : List U) (done : U → Option R) → IsSound l files roots known done → IsAtRest l files roots known done → IsWhole l files roots known done
