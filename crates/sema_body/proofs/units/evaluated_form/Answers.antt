use Rattle.std.proofs.Common.{ap, ◌∙◌}
use Rattle.sema_body.specs.Meets.{halts_full}
use Rattle.sema_body.specs.Trees.{child_at}
use Rattle.sema_body.proofs.AttemptLemmas.{as-full}
use Rattle.sema_body.proofs.UnitLemmas.{comptime-frame, kept-full, known_of, meets-evaluated}
use Rattle.sema_body.proofs.units.evaluated_form.Goals as goal

pub returns-clause-interns : goal.returns-clause-interns
returns-clause-interns g c = as-full (ap halts_full c.kept.ensures ∙ kept-full c.args.f.now c.child_place-place.result c.expression-given.result) c.expression-given.ensures.interns

pub returns-clause-meets : goal.returns-clause-meets
returns-clause-meets g c =
    let begun = comptime-frame (known_of c.requires.stands) c.args.s.now c.args.f.now c.at_comptime.result c.args.want (child_at c.args.cx.now c.args.parent c.args.line) c.at_comptime.ensures c.expression-given.ensures.meets in
    meets-evaluated _ _ c.args.cx.now c.args.s.now _ c.args.f.now c.child_place-place.result _ _ _ _ c.expression-given.ensures.interns.grows c.requires.stands c.requires.frame begun c.child_place-place.ensures c.kept.ensures
