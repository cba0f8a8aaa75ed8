-- Results by rounds: what units give where each round knows the results of the round before it. From them, which units are demanded and which are stuck.
--
-- Q are questions, A answers, U units and R results.
use Rattle.std.specs.Prelude.{◌≡◌, ℕ, zero, suc, Bool, List, [], ◌⊎◌, Option, Some, None}
use Rattle.std.specs.List.{Contains}
use Rattle.std.specs.Option.{option_map, option_and_then}
use Rattle.question_runs.specs.Programs.{Prog}
use Rattle.question_runs.specs.Runs.{Run, ends, fails, stops, goes, asked, referred, Setting, run, stop_of}

-- what the definitions below ask of a language
pub record Language (Q A U R : Type 0) : Type 0 where
  pub setting : Setting Q A
  -- what a unit does
  pub elab : U → Prog Q A U R
  -- the unit whose result a question asks for; none where it asks about the files
  pub unit_asked : Q → Option U
  -- a result, as an answer to such a question
  pub answer_of : R → A
  -- the result of a unit that an answer failed
  pub failed : R
  -- whether two units are one
  pub same_unit : U → U → Bool

-- the answer to a question: of the files, or the result of the unit that it asks for
abbrev pub answer_by : {A U R : Type 0} → A → (R → A) → (U → Option R) → Option U → Option A
answer_by of_files answer_of results None = Some of_files
answer_by of_files answer_of results (Some u) = option_map answer_of (results u)

module _ {Q A U R : Type 0} (l : Language Q A U R) where
  -- what the files answer; only questions about the files are put to them
  abbrev pub Files : Type 0
  Files = Q → A

  -- the results that are there so far
  abbrev pub Results : Type 0
  Results = U → Option R

  -- the answers at hand, with these files and results
  abbrev pub now : (Q → A) → (U → Option R) → Q → Option A
  now files results q = answer_by (files q) l.answer_of results (l.unit_asked q)

  -- the run of a unit, with these files and results
  abbrev pub run_by : (Q → A) → (U → Option R) → U → Run Q A U R
  run_by files results u = run l.setting (now files results) [] (l.elab u)

  -- the result of a unit whose run this is
  abbrev pub result_of : Run Q A U R → Option R
  result_of (ends r) = Some r
  result_of fails = Some l.failed
  result_of (stops q) = None
  result_of (goes m r) = result_of r

  -- the unit whose result the run stops for
  abbrev pub needs : Run Q A U R → Option U
  needs r = option_and_then l.unit_asked (stop_of r)

  -- whether the run asks for the result of the unit, or refers to it
  abbrev pub Meets : Run Q A U R → U → Type 0
  Meets (ends r) u = ⊥
  Meets fails u = ⊥
  Meets (stops q) u = l.unit_asked q ≡ Some u
  Meets (goes (asked q a) r) u = (l.unit_asked q ≡ Some u) ⊎ Meets r u
  Meets (goes (referred v) r) u = (v ≡ u) ⊎ Meets r u

  -- the results that the first so many rounds give
  abbrev pub round : (Q → A) → ℕ → U → Option R
  round files zero u = None
  round files (suc n) u = result_of (run_by files (round files n) u)

  -- the run of a unit with the results of so many rounds
  abbrev pub run_at : (Q → A) → ℕ → U → Run Q A U R
  run_at files n u = run_by files (round files n) u

  -- the demanded units: the roots, and each that the run of a demanded one meets, in whichever round
  pub data Demanded (files : Q → A) (roots : List U) : U → Type 0 where
    root : {u : U} → Contains roots u → Demanded files roots u
    met : {u v : U} → Demanded files roots u → (n : ℕ) → Meets (run_at files n u) v → Demanded files roots v

  -- a demanded unit that no round gives a result, and the unit that it needs: the first that its run asks for and no round gives a result
  pub record Stuck (files : Q → A) (roots : List U) (u needed : U) : Type 0 where
    pub demanded : Demanded files roots u
    pub none : (n : ℕ) → round files n u ≡ None
    pub needs_it : (n : ℕ) × (needs (run_at files n u) ≡ Some needed)
    pub it_has_none : (n : ℕ) → round files n needed ≡ None
