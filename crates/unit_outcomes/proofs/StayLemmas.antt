-- What is told of units stays as an interner comes to know more.
use Rattle.std.proofs.Common.{◌≡◌, ℕ, List, Option, sym, ap, ap₂, ◌∙◌, subst}
use Rattle.type_form.specs.declared.index.Index.{Index}
use Rattle.type_form.specs.declared.tree.DeclPath.{DeclPath}
use Rattle.type_form.specs.declared.unit.Unit.{Unit as AnyUnit}
use Rattle.type_form.specs.Known.{Known, IsInjective}
use Rattle.type_form.specs.Means.{Grows, DenotesDecl, decl_at}
use Rattle.elab_form.specs.Questions as plain
use Rattle.elab_form.specs.Units.{name_of}
use Rattle.trace_log.specs.declared.answers.Answers.{Answers}
use Rattle.trace_log.specs.declared.question.UnitIndex.{UnitIndex}
use Rattle.trace_log.specs.Files.{Files, text_in}
use Rattle.trace_log.specs.Readings.{IsUnit, unit_at}
use Rattle.trace_log.specs.Snapshots.{AreAnswers, files_at, results_at}
use Rattle.trace_log.proofs.Growing.{unit-grows}
use Rattle.trace_log.proofs.SnapshotLemmas.{files-grow, results-grow}
use Rattle.unit_outcomes.specs.Reports.{IsSpelled, export_by, loop_found, report_by, spot_at}

module _ (k l : Known) (a : Answers) (g : Grows k l) (before : IsInjective k) (after : IsInjective l) (h : AreAnswers k a) where
  pub files-stay : files_at l a ≡ files_at k a
  files-stay i b = files-grow k l a g before after h b i

  pub results-stay : results_at l a ≡ results_at k a
  results-stay i x = results-grow k l a g before after h x i

  -- where a declaration is shown
  pub spot-stays : (d : Index) (x : DeclPath) → DenotesDecl l d x → spot_at (files_at l a) (plain.named (decl_at l d)) ≡ spot_at (files_at k a) (plain.named x)
  spot-stays d x is = ap₂ (λ (f : Files) (y : DeclPath). spot_at f (plain.named y)) files-stay is.is

  -- and under which name it is exported
  pub export-stays : (d : Index) (x : DeclPath) → DenotesDecl l d x
      → export_by (name_of (decl_at l d)) (text_in (files_at l a) (plain.head (decl_at l d))) ≡ export_by (name_of x) (text_in (files_at k a) (plain.head x))
  export-stays d x is = ap₂ (λ (f : Files) (y : DeclPath). export_by (name_of y) (text_in f (plain.head y))) files-stay is.is

  -- the report of a unit
  pub report-stays : (root : List ℕ) (u : UnitIndex) (w : Option ℕ) → IsUnit k u
      → report_by root (files_at l a) (unit_at l u) (results_at l a (unit_at l u)) w ≡ report_by root (files_at k a) (unit_at k u) (results_at k a (unit_at k u)) w
  report-stays root u w is =
      ap₂ (λ (f : Files) (r : AnyUnit → Option plain.UnitResult). report_by root f (unit_at l u) (r (unit_at l u)) w) files-stay results-stay
      ∙ ap (λ (x : AnyUnit). report_by root (files_at k a) x (results_at k a x) w) (unit-grows k l u g is)

  -- that it is in a cycle
  pub loop-stays : (u : UnitIndex) → IsUnit k u → loop_found (files_at l a) (unit_at l u) ≡ loop_found (files_at k a) (unit_at k u)
  loop-stays u is = ap₂ (λ (f : Files) (x : AnyUnit). loop_found f x) files-stay (unit-grows k l u g is)

  -- that it fails where its spelling is too long
  pub spelled-stays : (u : UnitIndex) → IsUnit k u → IsSpelled (results_at k a (unit_at k u)) (unit_at k u) → IsSpelled (results_at l a (unit_at l u)) (unit_at l u)
  spelled-stays u is h =
      subst (λ (x : AnyUnit). IsSpelled (results_at l a x) x) (sym (unit-grows k l u g is))
      (subst (λ (r : AnyUnit → Option plain.UnitResult). IsSpelled (r (unit_at k u)) (unit_at k u)) (sym results-stay) h)
