-- The reports of units in a row.
use Rattle.std.proofs.Common.{◌≡◌, ℕ, zero, suc, ◌+◌, ◌<◌, List, [], ◌∷◌, ◌++◌, map, length, drop, get_or, refl, sym, ap, ap₂, ◌∙◌, Option, Some, None, append_assoc, arith, add-one, true, false, Bool}
use Rattle.std.specs.Prelude.{slice_get}
use Rattle.std.specs.List.{Contains}
use Rattle.std.specs.Option.{option_map, option_and_then}
use Rattle.zw_base.specs.declared.diag.DiagCode.TheVariants as code
use Rattle.type_form.specs.declared.unit.Unit.{Unit as AnyUnit}
use Rattle.type_form.specs.Known.{Known, IsInjective}
use Rattle.elab_form.specs.Questions as plain
use Rattle.elab_form.specs.Units.{failed_with, is_too_long}
use Rattle.trace_log.specs.declared.answers.Answers.{Answers}
use Rattle.trace_log.specs.declared.question.UnitIndex.{UnitIndex}
use Rattle.trace_log.specs.declared.result.UnitResult.{UnitResult}
use Rattle.trace_log.specs.Files.{Files}
use Rattle.trace_log.specs.Readings.{IsUnit, unit_at, unit_result_at}
use Rattle.trace_log.specs.Snapshots.{result_get, results_at}
use Rattle.trace_log.proofs.IndexLemmas.{unit_index-at}
use Rattle.unit_reports.specs.declared.report.UnitReport.{UnitReport}
use Rattle.unit_outcomes.specs.Reports.{IsSpelled, report_by, reports_by}

-- ---- results

-- what a snapshot has of a unit that an index stands for
pub results-at : (k : Known) (a : Answers) (u : UnitIndex) → IsInjective k → IsUnit k u → results_at k a (unit_at k u) ≡ option_map (unit_result_at k) (result_get a u)
results-at k a u g h = ap (λ o. option_map (unit_result_at k) (option_and_then (result_get a) o)) (unit_index-at k g u h)

pub result-is : (k : Known) (a : Answers) (u : UnitIndex) (o : Option UnitResult) → IsInjective k → IsUnit k u → result_get a u ≡ o → results_at k a (unit_at k u) ≡ option_map (unit_result_at k) o
result-is k a u o g h e = results-at k a u g h ∙ ap (option_map (unit_result_at k)) e

-- a unit without a result is not too long
pub none-short : (u : AnyUnit) → IsSpelled None u → is_too_long u ≡ false
none-short u h = by_test (is_too_long u) refl
  where
    by_test : (b : Bool) → is_too_long u ≡ b → b ≡ false
    by_test true e = let f : None ≡ Some (failed_with u code.NameTooLong) = h e in absurd (cc)
    by_test false e = refl

-- ---- reports

module _ (root : List ℕ) (files : Files) (results : AnyUnit → Option plain.UnitResult) (at : UnitIndex → AnyUnit) where
  -- the reports from a unit on
  abbrev pub from : List UnitIndex → List (Option ℕ) → ℕ → List UnitReport
  from units waits n = reports_by root files results (map at (drop n units)) (drop n waits)

  pub next-report : (units : List UnitIndex) (waits : List (Option ℕ)) (n : ℕ) (u : UnitIndex) (w : Option ℕ) → slice_get units n ≡ Some u → slice_get waits n ≡ Some w
      → from units waits n ≡ report_by root files (at u) (results (at u)) w ∷ from units waits (suc n)
  next-report [] waits n u w e f = absurd (cc)
  next-report (x ∷ xs) [] n u w e f = absurd (cc)
  next-report (x ∷ xs) (y ∷ ys) zero u w e f =
      let one : x ≡ u = cc in
      let two : y ≡ w = cc in
      ap₂ (λ (v : UnitIndex) (o : Option ℕ). report_by root files (at v) (results (at v)) o ∷ reports_by root files results (map at xs) ys) one two
  next-report (x ∷ xs) (y ∷ ys) (suc n) u w e f = next-report xs ys n u w e f

  -- one report more is told
  pub told-more : (units : List UnitIndex) (waits : List (Option ℕ)) (n : ℕ) (u : UnitIndex) (w : Option ℕ) (told now : List UnitReport) (r : UnitReport)
      → slice_get units n ≡ Some u → slice_get waits n ≡ Some w → r ≡ report_by root files (at u) (results (at u)) w → now ≡ told ++ r ∷ []
      → told ++ from units waits n ≡ from units waits 0 → now ++ from units waits (n + 1) ≡ from units waits 0
  told-more units waits n u w told now r e f is push so_far =
      ap₂ (λ (xs : List UnitReport) (m : ℕ). xs ++ from units waits m) push (add-one n)
      ∙ append_assoc told (r ∷ []) (from units waits (suc n))
      ∙ ap (λ (x : UnitReport). told ++ x ∷ from units waits (suc n)) is
      ∙ ap (λ (xs : List UnitReport). told ++ xs) (sym (next-report units waits n u w e f))
      ∙ so_far

-- ---- one unit of a row

pub contains-at : {A B : Type 0} (f : A → B) (xs : List A) (n : ℕ) (d : A) → n < length xs → Contains (map f xs) (f (get_or xs n d))
contains-at f [] n d h = absurd (omega arith)
contains-at f (y ∷ ys) zero d h = (0, omega arith, refl)
contains-at f (y ∷ ys) (suc n) d h =
    let c = contains-at f ys n d (omega arith) in
    (suc c.0, omega (arith, c.1), c.2)
