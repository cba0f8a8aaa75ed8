use Rattle.std.proofs.Common.{◌≡◌, ◌<◌, length, refl, sym, ap, ◌∙◌, inl, inr, arith}
use Rattle.std.proofs.lemmas.Option.{slice_get_read}
use Rattle.std.proofs.lemmas.Result.{err_from_is_err_and}
use Rattle.type_form.proofs.MeansLemmas.{Grows-refl}
use Rattle.type_form.proofs.PoolLemmas.{Interns-then}
use Rattle.trace_log.specs.declared.question.UnitIndex.{UnitIndex}
use Rattle.trace_log.specs.declared.question.UnitIndex.TheVariants as index
use Rattle.unit_rounds.proofs.InRound.{at-end, place-at, round-answers, round-begins, round-done, round-many, round-rests, round-size, round-unit, round-waits}
use Rattle.unit_rounds.proofs.RoundDone.{brings-false, brings-true, round-moved, round-settled}
use Rattle.unit_rounds.proofs.round.one_round.Goals as goal

abbrev some-unit : UnitIndex
some-unit = index.Decl (record { 0 = 0 })

pub loop-number-init : goal.loop-number-init
loop-number-init g c = record {
  interns = record { grows = Grows-refl _; same_home = refl; counts = refl };
  in_round = round-begins _ c.args.answers.now c.in_ok-next.next c.args.known.now c.args.waits.now.items c.requires (Grows-refl _)
      (record { fronts = c.in_ok-next.ensures.fronts; files = c.in_ok-next.ensures.files }) c.in_ok-next.ensures.results;
}

pub bounds-units-number : goal.bounds-units-number
bounds-units-number g c =
    let size = round-size _ _ _ _ _ _ _ _ _ _ c.loop-number.invariant.in_round in
    let now = ap (λ us. length us) c.units.ensures in
    let before = ap (λ us. length us) c.units-count.ensures in
    omega (arith, size, now, before, c.loop-number-test.true)

pub attempt-requires-clause-unit : goal.attempt-requires-clause-unit
attempt-requires-clause-unit g c =
    let before = ap (λ us. length us) c.units-count.ensures in
    rw c.units.ensures (round-unit _ _ _ _ _ _ _ _ _ _ c.loop-number.invariant.in_round c.loop-number.number _ (omega (arith, before, c.loop-number-test.true)))

pub attempt-requires-clause-answers : goal.attempt-requires-clause-answers
attempt-requires-clause-answers g c = round-answers _ _ _ _ _ _ _ _ _ _ c.loop-number.invariant.in_round c.requires

pub loop-number-preserved-then-needs_none : goal.loop-number-preserved-then-needs_none
loop-number-preserved-then-needs_none g c =
    let inv = c.loop-number.invariant.in_round in
    let size = round-size _ _ _ _ _ _ _ _ _ _ inv in
    let before = ap (λ us. length us) c.units-count.ensures in
    let below : c.loop-number.number < length c.args.known.now = omega (arith, before, c.loop-number-test.true) in
    let at = place-at c.units.result.now c.loop-number.known c.loop-number.number some-unit c.units.ensures (omega (arith, size, below)) in
    let here = slice_get_read c.loop-number.waits.items (length c.loop-number.waits.items) c.loop-number.number c.index-wait.result.now refl (omega (arith, inv.long, below)) c.index-wait.ensures in
    record {
      interns = c.loop-number.invariant.interns;
      in_round = round-rests _ _ _ _ _ _ _ _ _ _ c.requires inv below _ _ at here (sym c.needs_none.ensures ∙ c.if-needs_none.true);
    }

pub returns-in_err-attempt-clause-interns : goal.returns-in_err-attempt-clause-interns
returns-in_err-attempt-clause-interns g c =
    let p = err_from_is_err_and c.from_residual-in_err-attempt.result c.from_residual-in_err-attempt.ensures.1 in
    rw (p.1, p.2) (Interns-then c.loop-number.invariant.interns (rw c.in_err-attempt.was at c.attempt.ensures.interns))

pub returns-in_err-settle-clause-interns : goal.returns-in_err-settle-clause-interns
returns-in_err-settle-clause-interns g c =
    let p = err_from_is_err_and c.from_residual-in_err-settle.result c.from_residual-in_err-settle.ensures.1 in
    rw (p.1, p.2) (Interns-then c.loop-number.invariant.interns (rw c.in_ok-attempt.was at c.attempt.ensures.interns))

pub returns-in_err-fill-clause-interns : goal.returns-in_err-fill-clause-interns
returns-in_err-fill-clause-interns g c =
    let p = err_from_is_err_and c.from_residual-in_err-fill.result c.from_residual-in_err-fill.ensures.1 in
    rw (p.1, p.2) c.loop-number.invariant.interns

pub returns-in-TooMany-clause-interns : goal.returns-in-TooMany-clause-interns
returns-in-TooMany-clause-interns g c = Interns-then c.loop-number.invariant.interns (rw c.in_ok-attempt.was at c.attempt.ensures.interns)

pub returns-in-TooMany-clause-round : goal.returns-in-TooMany-clause-round
returns-in-TooMany-clause-round g c =
    let inv = c.loop-number.invariant.in_round in
    let size = round-size _ _ _ _ _ _ _ _ _ _ inv in
    let before = ap (λ us. length us) c.units-count.ensures in
    let below : c.loop-number.number < length c.args.known.now = omega (arith, before, c.loop-number-test.true) in
    let at = place-at c.units.result.now c.loop-number.known c.loop-number.number some-unit c.units.ensures (omega (arith, size, below)) in
    let here = slice_get_read c.loop-number.waits.items (length c.loop-number.waits.items) c.loop-number.number c.index-wait.result.now refl (omega (arith, inv.long, below)) c.index-wait.ensures in
    round-many _ _ _ _ _ _ _ _ _ _ c.requires inv below _ _ at here _ (rw c.in_ok-attempt.was at c.attempt.ensures.interns).grows c.attempt.ensures.agrees
    c.in_ok-attempt.attempt c.in_ok-attempt.ensures.attempt c.settle.new.known c.in_ok-settle.ensures.known (sym c.needs_none.ensures ∙ c.if-needs_none.false) (rw c.in-TooMany.is at c.in_ok-settle.ensures.settles)

pub loop-number-preserved-in-Done : goal.loop-number-preserved-in-Done
loop-number-preserved-in-Done g c =
    let inv = c.loop-number.invariant.in_round in
    let size = round-size _ _ _ _ _ _ _ _ _ _ inv in
    let before = ap (λ us. length us) c.units-count.ensures in
    let below : c.loop-number.number < length c.args.known.now = omega (arith, before, c.loop-number-test.true) in
    let at = place-at c.units.result.now c.loop-number.known c.loop-number.number some-unit c.units.ensures (omega (arith, size, below)) in
    let here = slice_get_read c.loop-number.waits.items (length c.loop-number.waits.items) c.loop-number.number c.index-wait.result.now refl (omega (arith, inv.long, below)) c.index-wait.ensures in
    let interns = rw c.in_ok-attempt.was at c.attempt.ensures.interns in
    record {
      interns = Interns-then c.loop-number.invariant.interns interns;
      in_round = round-done _ _ _ _ _ _ _ _ _ _ c.requires inv below _ _ at here _ interns.grows c.attempt.ensures.agrees
          c.in_ok-attempt.attempt c.in_ok-attempt.ensures.attempt c.settle.new.known c.in_ok-settle.ensures.known (sym c.needs_none.ensures ∙ c.if-needs_none.false)
          c.settle.new.waits.items c.settle.new.next c.in_ok-settle.ensures.files (rw c.in-Done.is at c.in_ok-settle.ensures.settles);
    }

pub loop-number-preserved : goal.loop-number-preserved
loop-number-preserved g c =
    let inv = c.loop-number.invariant.in_round in
    let size = round-size _ _ _ _ _ _ _ _ _ _ inv in
    let before = ap (λ us. length us) c.units-count.ensures in
    let below : c.loop-number.number < length c.args.known.now = omega (arith, before, c.loop-number-test.true) in
    let at = place-at c.units.result.now c.loop-number.known c.loop-number.number some-unit c.units.ensures (omega (arith, size, below)) in
    let here = slice_get_read c.loop-number.waits.items (length c.loop-number.waits.items) c.loop-number.number c.index-wait.result.now refl (omega (arith, inv.long, below)) c.index-wait.ensures in
    let interns = rw c.in_ok-attempt.was at c.attempt.ensures.interns in
    record {
      interns = Interns-then c.loop-number.invariant.interns interns;
      in_round = round-waits _ _ _ _ _ _ _ _ _ _ c.requires inv below _ _ at here _ interns.grows c.attempt.ensures.agrees
          c.in_ok-attempt.attempt c.in_ok-attempt.ensures.attempt c.settle.new.known c.in_ok-settle.ensures.known (sym c.needs_none.ensures ∙ c.if-needs_none.false)
          c.settle.new.waits.items c.settle.new.next (rw c.in-Waits.is at c.in_ok-settle.ensures.settles);
    }

pub returns-then-not-brings-clause-round : goal.returns-then-not-brings-clause-round
returns-then-not-brings-clause-round g c =
    let before = ap (λ us. length us) c.units-count.ensures in
    let now = ap (λ us. length us) c.units-now.ensures in
    let all : c.loop-number.number ≡ length c.args.known.now = omega (arith, before, c.loop-number-test.false, c.loop-number.auto.number-end) in
    let t = brings-false c.loop-number.moved _ _ (sym c.brings.ensures ∙ c.if-not-brings.true) in
    round-settled _ _ _ c.args.known.now _ _ c.loop-number.known _ _ c.requires (at-end c.loop-number.invariant.in_round all) t.0 (omega (arith, t.1, before, now))

pub fill-requires : goal.fill-requires
fill-requires g c =
    let now = ap (λ us. length us) c.units-now.ensures in
    omega (arith, c.loop-number.waits.ok, c.loop-number.invariant.in_round.long, round-size _ _ _ _ _ _ _ _ _ _ c.loop-number.invariant.in_round, now)

pub returns-clause-round : goal.returns-clause-round
returns-clause-round g c =
    let before = ap (λ us. length us) c.units-count.ensures in
    let now = ap (λ us. length us) c.units-now.ensures in
    let all : c.loop-number.number ≡ length c.args.known.now = omega (arith, before, c.loop-number-test.false, c.loop-number.auto.number-end) in
    let t = brings-true c.loop-number.moved _ _ (sym c.brings.ensures ∙ c.if-not-brings.false) in
    round-moved _ _ _ c.args.known.now _ _ c.loop-number.known _ _ c.requires (at-end c.loop-number.invariant.in_round all) c.fill.new.waits.items c.in_ok-fill.ensures.filled
    (omega (arith, c.in_ok-fill.ensures.long, c.fill.new.waits.ok, now))
    (elim t [ inl is ↦ inl is | inr more ↦ inr (omega (arith, more, before, now)) ])
