-- The results of a snapshot, in plain units.
use Rattle.std.proofs.Common.{◌≡◌, Bool, true, false, Option, Some, None, refl, sym, ap, ap₂, ◌∙◌, subst, if◌then◌else◌}
use Rattle.std.specs.Option.{option_map, option_and_then}
use Rattle.std.proofs.Math.Path.{fun_ext}
use Rattle.zir_form.specs.Front.{front_in}
use Rattle.type_form.specs.declared.index.Index.{Index}
use Rattle.type_form.specs.declared.unit.Unit.{Unit as AnyUnit}
use Rattle.type_form.specs.Known.{Known, IsInjective}
use Rattle.elab_form.specs.Questions as plain
use Rattle.elab_form.proofs.Sameness.{same_unit-true as plain-true}
use Rattle.trace_log.specs.declared.answers.Answers.{Answers}
use Rattle.trace_log.specs.declared.question.UnitIndex.{UnitIndex}
use Rattle.trace_log.specs.declared.result.UnitResult.{UnitResult}
use Rattle.trace_log.specs.Attempts.{file_answers}
use Rattle.trace_log.specs.Files.{file_answer}
use Rattle.trace_log.specs.Indices.{bytes_index, unit_index}
use Rattle.trace_log.specs.Readings.{IsUnit, IsUnitResult, unit_at, unit_result_at}
use Rattle.trace_log.specs.Snapshots.{AreAnswers, file_get, files_at, front_get, result_get, results_at}
use Rattle.trace_log.specs.TableStates.{same_unit, PutsUnit}
use Rattle.trace_log.proofs.IndexLemmas.{unit_index-at, unit_index-is}
use Rattle.trace_log.proofs.Sameness.{same_unit-true}
use Rattle.unit_rounds.specs.Standing.{SameFiles}
use Rattle.unit_rounds.proofs.IndexSteps.{same_unit-at}

-- what a snapshot has of a unit that an index stands for
pub results-at : (k : Known) (a : Answers) (u : UnitIndex) → IsInjective k → IsUnit k u → results_at k a (unit_at k u) ≡ option_map (unit_result_at k) (result_get a u)
results-at k a u g h = ap (λ o. option_map (unit_result_at k) (option_and_then (result_get a) o)) (unit_index-at k g u h)

-- ---- one result more

map-put : {X Y : Type 0} (f : X → Y) (b : Bool) (x : X) (o : Option X) → option_map f (if b then Some x else o) ≡ (if b then Some (f x) else option_map f o)
map-put f true x o = refl
map-put f false x o = refl

module _ (k : Known) (old new : Answers) (u : UnitIndex) (r : UnitResult) (g : IsInjective k) (h : IsUnit k u) (puts : PutsUnit (result_get old) (result_get new) u r) where
  not-there : (x : AnyUnit) → unit_index k x ≡ None → plain.same_unit x (unit_at k u) ≡ true → ⊥
  not-there x none same =
      let there : unit_index k x ≡ Some u = ap (unit_index k) (plain-true x (unit_at k u) same) ∙ unit_index-at k g u h in
      cc

  at-none : (x : AnyUnit) (b : Bool) → unit_index k x ≡ None → plain.same_unit x (unit_at k u) ≡ b → None ≡ (if b then Some (unit_result_at k r) else None)
  at-none x true none same = absurd (not-there x none same)
  at-none x false none same = refl

  by-index : (x : AnyUnit) (o : Option UnitIndex) → unit_index k x ≡ o
      → option_map (unit_result_at k) (option_and_then (result_get new) o) ≡ (if plain.same_unit x (unit_at k u) then Some (unit_result_at k r) else option_map (unit_result_at k) (option_and_then (result_get old) o))
  by-index x None e = at-none x (plain.same_unit x (unit_at k u)) e refl
  by-index x (Some v) e =
      let t = unit_index-is k x v e in
      let same : plain.same_unit x (unit_at k u) ≡ same_unit v u = ap (λ y. plain.same_unit y (unit_at k u)) (sym t.is) ∙ same_unit-at k g v u t.known h in
      ap (option_map (unit_result_at k)) (puts v)
      ∙ map-put (unit_result_at k) (same_unit v u) r (result_get old v)
      ∙ ap (λ (b : Bool). if b then Some (unit_result_at k r) else option_map (unit_result_at k) (result_get old v)) (sym same)

  pub results-put : (x : AnyUnit) → results_at k new x ≡ (if plain.same_unit x (unit_at k u) then Some (unit_result_at k r) else results_at k old x)
  results-put x = by-index x (unit_index k x) refl

  put-unit : (v : UnitIndex) (s : UnitResult) (b : Bool) → same_unit v u ≡ b → (if b then Some r else result_get old v) ≡ Some s → AreAnswers k old → IsUnit k v
  put-unit v s true same e a = subst (IsUnit k) (sym (same_unit-true v u same)) h
  put-unit v s false same e a = a.units v s e

  put-result : (v : UnitIndex) (s : UnitResult) (b : Bool) → (if b then Some r else result_get old v) ≡ Some s → IsUnitResult k r → AreAnswers k old → IsUnitResult k s
  put-result v s true e i a = let one : r ≡ s = cc in subst (IsUnitResult k) one i
  put-result v s false e i a = a.results v s e

  pub answers-put : IsUnitResult k r → ((path : Index) → file_get new path ≡ file_get old path) → AreAnswers k old → AreAnswers k new
  answers-put i files a = record {
    files = λ path n e. a.files path n (sym (files path) ∙ e);
    units = λ v s e. put-unit v s (same_unit v u) refl (sym (puts v) ∙ e) a;
    results = λ v s e. put-result v s (same_unit v u) (sym (puts v) ∙ e) i a;
  }

-- ---- the same snapshot

module _ (k : Known) (old new : Answers) where
  pub files-same : SameFiles old new → files_at k new ≡ files_at k old
  files-same s =
      let fronts : front_get new ≡ front_get old = fun_ext s.fronts in
      let files : file_get new ≡ file_get old = fun_ext s.files in
      fun_ext (λ path. ap₂ (λ f g. option_map front_in (option_and_then (λ i. option_and_then f (g i)) (bytes_index k path))) fronts files)

  pub file_answers-same : SameFiles old new → file_answers k new ≡ file_answers k old
  file_answers-same s = ap file_answer (files-same s)

  pub results-same : ((u : UnitIndex) → result_get new u ≡ result_get old u) → results_at k new ≡ results_at k old
  results-same s =
      let results : result_get new ≡ result_get old = fun_ext s in
      fun_ext (λ x. ap (λ f. option_map (unit_result_at k) (option_and_then f (unit_index k x))) results)

  pub answers-same : SameFiles old new → ((u : UnitIndex) → result_get new u ≡ result_get old u) → AreAnswers k old → AreAnswers k new
  answers-same s t a = record {
    files = λ path n e. a.files path n (sym (s.files path) ∙ e);
    units = λ u r e. a.units u r (sym (t u) ∙ e);
    results = λ u r e. a.results u r (sym (t u) ∙ e);
  }

pub SameFiles-trans : (a b c : Answers) → SameFiles a b → SameFiles b c → SameFiles a c
SameFiles-trans a b c s t = record { fronts = λ n. t.fronts n ∙ s.fronts n; files = λ path. t.files path ∙ s.files path }
