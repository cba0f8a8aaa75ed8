-- What the units of a settled level tell is the analysis of the root.
use Rattle.std.proofs.Common.{◌≡◌, ℕ, suc, ◌<◌, ◌≤◌, Bool, true, false, List, [], ◌∷◌, Option, Some, None, length, map, get_or, refl, sym, ap, ap₂, ◌∙◌, subst, arith, if◌then◌else◌}
use Rattle.std.specs.Prelude.{nat_lt, slice_get, IsSome}
use Rattle.std.specs.List.{Contains, IsDistinct, position_or_len}
use Rattle.std.proofs.Math.Path.{fun_ext}
use Rattle.std.proofs.lemmas.Bool.Decides.{nat_tests}
use Rattle.std.proofs.lemmas.List.{length-map}
use Rattle.std.proofs.lemmas.List.Sums.{position_or_len_is}
use Rattle.std.proofs.lemmas.Map.Keys.{apart_from_distinct}
use Rattle.std.proofs.lemmas.Option.{get_or_from_slice_get, slice_get_within}
use Rattle.zw_base.specs.declared.diag.DiagCode.TheVariants as code
use Rattle.zir_form.specs.Front.{FileFront}
use Rattle.type_form.specs.declared.unit.Unit.{Unit as AnyUnit}
use Rattle.type_form.specs.Known.{Known}
use Rattle.question_runs.specs.Rounds.{result_of, run_by, needs}
use Rattle.elab_form.specs.Questions as plain
use Rattle.elab_form.specs.Questions.{same_unit}
use Rattle.elab_form.specs.Units.{language, elab, failed_with, is_too_long}
use Rattle.trace_log.specs.declared.answers.Answers.{Answers}
use Rattle.trace_log.specs.Files.{Files}
use Rattle.trace_log.specs.Readings.{unit_at}
use Rattle.trace_log.specs.Snapshots.{files_at, results_at}
use Rattle.unit_levels.specs.Levels.{units_at, run_at_level, last_level}
use Rattle.unit_levels.specs.LevelLaws.{SameLevel}
use Rattle.unit_levels.proofs.Growth.{known-distinct, known-result}
use Rattle.unit_levels.proofs.Laws.{levels-meet, many-show}
use Rattle.unit_rounds.specs.Analyses.{IsMany, IsRest, WaitsFor}
use Rattle.unit_rounds.specs.declared.analyse.Rest.{Rest}
use Rattle.unit_rounds.proofs.IndexSteps.{tells-units}
use Rattle.unit_reports.specs.declared.report.UnitReport.{UnitReport}
use Rattle.unit_reports.specs.Told.{told_founds, told_functions}
use Rattle.unit_outcomes.specs.Reports.{AreSpelled, report_by, reports_by}
use Rattle.root_analysis.specs.declared.analysis.RootAnalysis.TheVariants as outcome
use Rattle.root_analysis.specs.Analysis.{analysis, demanded_units, files_of, needed_unit, number_of, unit_report, unit_reports, unit_result}
use Rattle.root_analysis.specs.Roots.{root_files, root_units}
use Rattle.root_analysis.specs.Telling.{told_by}

-- ---- places in a list without repeats

place-of : (us : List AnyUnit) (j : ℕ) (v : AnyUnit) → IsDistinct same_unit us → j < length us → get_or us j v ≡ v → position_or_len (same_unit v) us ≡ j
place-of us j v distinct below is = position_or_len_is (same_unit v) us j v (omega (arith, below)) earlier here
  where
    other : (k : ℕ) (b : Bool) → k < j → same_unit v (get_or us k v) ≡ b → b ≡ false
    other k false low e = refl
    other k true low e =
        let one : v ≡ get_or us k v = (tells-units v (get_or us k v)).0 e in
        let apart : same_unit (get_or us k v) (get_or us j v) ≡ false = apart_from_distinct same_unit us k j v distinct low below in
        let self : same_unit (get_or us k v) (get_or us j v) ≡ true = (tells-units (get_or us k v) (get_or us j v)).1 (sym one ∙ sym is) in
        sym self ∙ apart

    earlier : (k : ℕ) → k < j → same_unit v (get_or us k v) ≡ false
    earlier k low = let e = other k (same_unit v (get_or us k v)) low refl in e

    here : j < length us → same_unit v (get_or us j v) ≡ true
    here low = (tells-units v (get_or us j v)).1 (sym is)

-- ---- reports one by one

-- where there is a result, what the unit waits for does not matter
any-wait : (root : List ℕ) (files : Files) (u : AnyUnit) (result : Option plain.UnitResult) (v w : Option ℕ) → IsSome result → report_by root files u result v ≡ report_by root files u result w
any-wait root files u (Some (plain.good value)) v w some = refl
any-wait root files u (Some (plain.failed d)) v w some = refl
any-wait root files u None v w some = absurd (cc)

module _ (root : List ℕ) (files : Files) (results : AnyUnit → Option plain.UnitResult) (report : AnyUnit → UnitReport) where
  -- each unit has its report
  abbrev Fits : List AnyUnit → List (Option ℕ) → Type 0
  Fits us ws = (i : ℕ) (u : AnyUnit) → slice_get us i ≡ Some u → (w : Option ℕ) × (slice_get ws i ≡ Some w) × (report_by root files u (results u) w ≡ report u)

  reports-are : (us : List AnyUnit) (ws : List (Option ℕ)) → Fits us ws → reports_by root files results us ws ≡ map report us
  reports-are [] ws fits = refl
  reports-are (u ∷ us) [] fits = let first = fits 0 u refl in let low = slice_get_within [] 0 first.0 first.1 in absurd (omega (arith, low))
  reports-are (u ∷ us) (w ∷ ws) fits =
      let first = fits 0 u refl in
      let same : w ≡ first.0 = one w first.0 first.1 in
      ap₂ (λ r rs. r ∷ rs) (ap (report_by root files u (results u)) same ∙ first.2) (reports-are us ws (λ i x e. fits (suc i) x e))
    where
      one : (w x : Option ℕ) → slice_get (w ∷ ws) 0 ≡ Some x → w ≡ x
      one w x e = cc

-- ---- a settled level

-- a unit whose spelling is too long asks nothing
long-run : (files : plain.Question → plain.Answer) (roots : List AnyUnit) (n : ℕ) (u : AnyUnit) → is_too_long u ≡ true → result_of language (run_at_level language files roots n u) ≡ Some (failed_with u code.NameTooLong)
unfolding elab
long-run files roots n u long = rw long refl

few-test : (m n : ℕ) → m ≤ n → nat_lt n m ≡ false
few-test m n le = grind (arith, nat_tests)

many-test : (m n : ℕ) → n < m → nat_lt n m ≡ true
many-test m n lt = grind (arith, nat_tests)

module _ (root : List ℕ) (front : FileFront) where
  abbrev asked : plain.Question → plain.Answer
  asked = files_of root front

  abbrev roots : List AnyUnit
  roots = root_units root front

  -- more units than may be
  pub many-told : IsMany asked roots → outcome.TooMany ≡ analysis root front
  unfolding analysis demanded_units
  many-told h =
      let more = many-show language asked roots 65536 h.level tells-units h.many in
      sym (ap (λ b. if b then outcome.TooMany else outcome.Told (length (demanded_units root front)) (told_founds (unit_reports root front)) (told_functions (unit_reports root front)))
      (many-test (length (units_at language asked roots (last_level 65536))) 65536 more))

  module _ (k : Known) (start : Answers) (r : Rest) (h : IsRest k asked roots start r) where
    abbrev units : List AnyUnit
    units = map (unit_at k) r.units.items

    same-level : SameLevel language asked roots (last_level 65536) h.level
    same-level = levels-meet language asked roots 65536 h.level tells-units h.settled (subst (λ n. n ≤ 65536) (few-units h.few) h.few)
      where
        few-units : length r.units.items ≤ 65536 → length r.units.items ≡ length (units_at language asked roots h.level)
        few-units few = sym (length-map r.units.items (unit_at k)) ∙ ap (λ us. length us) h.units

    -- the units of the rest are the demanded ones
    units-are : demanded_units root front ≡ units
    unfolding demanded_units
    units-are = same-level.known ∙ sym h.units

    results-are : unit_result root front ≡ results_at k r.answers
    unfolding unit_result
    results-are = fun_ext (λ u. same-level.results u ∙ sym (h.results u))

    needed-is : (u : AnyUnit) → needed_unit root front u ≡ needs language (run_at_level language asked roots h.level u)
    unfolding needed_unit
    needed-is u = ap (λ f. needs language (run_by language asked f u)) (fun_ext same-level.results)

    -- a unit's report, by what it waits for
    report-is : (u : AnyUnit) (w : Option ℕ) → WaitsFor asked roots h.level u w → report_by root (root_files root front) u (results_at k r.answers u) w ≡ unit_report root front u
    unfolding unit_report
    report-is u None some =
        any-wait root (root_files root front) u (results_at k r.answers u) None (number_of (demanded_units root front) (needed_unit root front u))
        (subst (λ o. IsSome o) (sym (h.results u)) some)
        ∙ ap (λ f. report_by root (root_files root front) u (f u) (number_of (demanded_units root front) (needed_unit root front u))) (sym results-are)
    report-is u (Some j) waits =
        let low = slice_get_within (units_at language asked roots h.level) j waits.0 waits.1 in
        let there = get_or_from_slice_get (units_at language asked roots h.level) j waits.0 waits.0 waits.1 in
        let place = place-of (units_at language asked roots h.level) j waits.0 (known-distinct language tells-units asked roots h.level) low there in
        let number : number_of (demanded_units root front) (needed_unit root front u) ≡ Some j =
        ap₂ number_of (units-are ∙ h.units) (needed-is u ∙ waits.3) ∙ ap Some place in
        ap₂ (λ o w. report_by root (root_files root front) u o w) (ap (λ f. f u) (sym results-are)) (sym number)

    reports-fit : reports_by root (root_files root front) (results_at k r.answers) units r.waits.items ≡ unit_reports root front
    unfolding unit_reports
    reports-fit =
        reports-are root (root_files root front) (results_at k r.answers) (unit_report root front) units r.waits.items
        (λ i u e. let w = h.waits i u (subst (λ us. slice_get us i ≡ Some u) h.units e) in (w.0, w.1, report-is u w.0 w.2))
        ∙ ap (map (unit_report root front)) (sym units-are)

    -- what is told of the rest is the analysis
    pub rest-told : told_by root (root_files root front) (results_at k r.answers) units r.waits.items ≡ analysis root front
    unfolding analysis
    rest-told =
        let count : length units ≡ length (demanded_units root front) = ap (λ us. length us) (sym units-are) in
        let few : length (demanded_units root front) ≤ 65536 = subst (λ n. n ≤ 65536) (sym (length-map r.units.items (unit_at k)) ∙ count) h.few in
        ap₂ (λ n rs. outcome.Told n (told_founds rs) (told_functions rs)) count reports-fit
        ∙ sym (ap (λ b. if b then outcome.TooMany else outcome.Told (length (demanded_units root front)) (told_founds (unit_reports root front)) (told_functions (unit_reports root front)))
        (few-test (length (demanded_units root front)) 65536 few))

    -- and units whose spelling is too long have failed for that
    pub rest-spelled : AreSpelled (results_at k r.answers) units
    rest-spelled u among long =
        let known : Contains (units_at language asked roots h.level) u = subst (λ us. Contains us u) h.units among in
        h.results u ∙ sym (h.settled.finished u known) ∙ known-result language tells-units asked roots h.level u known ∙ long-run asked roots h.level u long

-- ---- the analysis of a root that came to rest

-- there are as many reports as units, at most
pub reports-few : (root : List ℕ) (files : Files) (results : AnyUnit → Option plain.UnitResult) (us : List AnyUnit) (ws : List (Option ℕ)) → length (reports_by root files results us ws) ≤ length us
reports-few root files results [] ws = omega arith
reports-few root files results (u ∷ us) [] = omega arith
reports-few root files results (u ∷ us) (w ∷ ws) = let more = reports-few root files results us ws in omega (arith, more)

-- files and roots by other names
pub rest-by : (k : Known) (files asked : plain.Question → plain.Answer) (roots known : List AnyUnit) (start : Answers) (r : Rest) → files ≡ asked → roots ≡ known → IsRest k files roots start r → IsRest k asked known start r
rest-by k files asked roots known start r e f h = subst (λ us. IsRest k asked us start r) f (subst (λ g. IsRest k g roots start r) e h)

pub many-by : (files asked : plain.Question → plain.Answer) (roots known : List AnyUnit) → files ≡ asked → roots ≡ known → IsMany files roots → IsMany asked known
many-by files asked roots known e f h = subst (λ us. IsMany asked us) f (subst (λ g. IsMany g roots) e h)

-- what is told of the rest, by the files of its snapshot
pub told-at-rest : (root : List ℕ) (front : FileFront) (k : Known) (start : Answers) (r : Rest) → files_at k r.answers ≡ root_files root front → IsRest k (files_of root front) (root_units root front) start r
    → told_by root (files_at k r.answers) (results_at k r.answers) (map (unit_at k) r.units.items) r.waits.items ≡ analysis root front
told-at-rest root front k start r files h = ap (λ f. told_by root f (results_at k r.answers) (map (unit_at k) r.units.items) r.waits.items) files ∙ rest-told root front k start r h
