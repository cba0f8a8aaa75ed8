use Rattle.std.proofs.Common.{◌∙◌, ap₂, List, ℕ}
use Rattle.zw_base.specs.declared.diag.DiagCode.TheVariants as code
use Rattle.trace_log.proofs.SnapshotLemmas.{AreAnswers-grows}
use Rattle.unit_outcomes.specs.Reports.{found_at}
use Rattle.unit_outcomes.proofs.StayLemmas.{spot-stays}
use Rattle.unit_outcomes.proofs.places.loop_found.Goals as goal

pub spot_at-requires-clause-answers : goal.spot_at-requires-clause-answers
spot_at-requires-clause-answers g c = AreAnswers-grows _ _ _ c.decl_of.ensures.interns.grows c.requires.answers

pub returns-clause-found : goal.returns-clause-found
returns-clause-found g c =
    let at = c.in_ok-offset.ensures.offset
    ∙ spot-stays _ _ c.args.answers.now c.decl_of.ensures.interns.grows c.requires.one c.decl_of.ensures.agrees c.requires.answers
    c.in_ok-decl.decl _ c.in_ok-decl.ensures.decl in
    let text = c.of.ensures ∙ c.new.ensures.items in
    c.found_at.ensures ∙ ap₂ (λ (n : ℕ) (t : List ℕ). found_at code.DeclarationLoop n t) at text
