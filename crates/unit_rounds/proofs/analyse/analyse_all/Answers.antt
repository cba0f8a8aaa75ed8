use Rattle.std.proofs.Common.{[], length, refl, ap, arith, rules}
use Rattle.std.proofs.lemmas.Result.{err_from_is_err_and}
use Rattle.type_form.proofs.MeansLemmas.{Grows-refl}
use Rattle.type_form.proofs.PoolLemmas.{Interns-then}
use Rattle.trace_log.proofs.AttemptLemmas.{results-same}
use Rattle.trace_log.proofs.SnapshotLemmas.{AreAnswers-grows}
use Rattle.unit_rounds.proofs.LevelSteps.{level-begins, level-ends, level-next, level-rests, many-first, many-next}
use Rattle.unit_rounds.proofs.analyse.analyse_all.Goals as goal

pub returns-in_err-note_all-clause-interns : goal.returns-in_err-note_all-clause-interns
returns-in_err-note_all-clause-interns g c =
    let p = err_from_is_err_and c.from_residual.result c.from_residual.ensures.1 in
    rw (p.1, p.2) (record { grows = Grows-refl _; same_home = refl; counts = refl })

pub returns-then-units-gt-MOST-clause-comes : goal.returns-then-units-gt-MOST-clause-comes
returns-then-units-gt-MOST-clause-comes g c =
    let e = ap (λ us. length us) c.units.ensures in
    many-first _ _ _ c.note_all.new.self [] c.requires.one c.requires.roots c.requires.answers c.requires.no_results (search rules) (omega (arith, e, c.if-units-gt-MOST.true))

pub loop-level-init : goal.loop-level-init
loop-level-init g c =
    let e = ap (λ us. length us) c.units.ensures in
    let f = ap (λ us. length us) c.units-2.ensures in
    record {
      interns = record { grows = Grows-refl _; same_home = refl; counts = refl };
      at = level-begins _ _ _ c.note_all.new.self _ c.requires.one c.requires.roots c.requires.answers c.requires.no_results (search rules) _ (search rules) (omega (arith, e, c.if-units-gt-MOST.false)) c.in_ok-fill.ensures.filled (search rules);
    }

pub returns-in_err-fill-clause-interns : goal.returns-in_err-fill-clause-interns
returns-in_err-fill-clause-interns g c =
    let p = err_from_is_err_and c.from_residual-in_err-fill.result c.from_residual-in_err-fill.ensures.1 in
    rw (p.1, p.2) (record { grows = Grows-refl _; same_home = refl; counts = refl })

pub returns-in-Err-clause-interns : goal.returns-in-Err-clause-interns
returns-in-Err-clause-interns g c = Interns-then c.loop-level.invariant.interns c.in-Err.ensures.interns

pub returns-in-Settled-clause-interns : goal.returns-in-Settled-clause-interns
returns-in-Settled-clause-interns g c = Interns-then c.loop-level.invariant.interns c.in-Ok.ensures.interns

pub returns-in-Settled-clause-comes : goal.returns-in-Settled-clause-comes
returns-in-Settled-clause-comes g c =
    let at = c.loop-level.invariant.at in
    level-rests _ _ _ _ _ _ _ _ at _ _ _ _ (rw c.in-Settled.is at c.in-Ok.ensures.round) c.one_round.ensures.interns.grows c.one_round.ensures.agrees
    (results-same _ _ _ c.one_round.ensures.interns.grows at.begun.one c.one_round.ensures.agrees at.begun.answers)
    (AreAnswers-grows _ _ _ c.one_round.ensures.interns.grows at.begun.answers) (search rules) refl refl

pub returns-in-TooMany-clause-interns : goal.returns-in-TooMany-clause-interns
returns-in-TooMany-clause-interns g c = Interns-then c.loop-level.invariant.interns c.in-Ok.ensures.interns

pub returns-in-TooMany-clause-comes : goal.returns-in-TooMany-clause-comes
returns-in-TooMany-clause-comes g c = many-next _ _ _ _ _ _ _ _ c.loop-level.invariant.at (rw c.in-TooMany.is at c.in-Ok.ensures.round)

pub loop-level-preserved : goal.loop-level-preserved
loop-level-preserved g c =
    record {
      interns = Interns-then c.loop-level.invariant.interns c.in-Ok.ensures.interns;
      at = level-next _ _ _ _ _ _ _ _ c.loop-level.invariant.at _ _ _ _ (rw c.in-Moved.is at c.in-Ok.ensures.round) c.one_round.ensures.interns.grows c.one_round.ensures.agrees;
    }

pub returns-clause-comes : goal.returns-clause-comes
returns-clause-comes g c = absurd (level-ends _ _ _ _ _ _ _ _ c.loop-level.invariant.at (omega (arith, c.loop-level-test.false, c.loop-level.auto.level-end)))
