use Rattle.std.proofs.Common.{sym, ap, ◌∙◌}
use Rattle.unit_rounds.specs.KnownUnits.{with_indices}
use Rattle.unit_rounds.specs.MetUnits.{unit_of_move}
use Rattle.unit_rounds.proofs.NumberLemmas.{moves-more}
use Rattle.unit_rounds.proofs.known_units.KnownUnits.note_moves.Goals as goal

pub loop-done-preserved : goal.loop-done-preserved
loop-done-preserved c =
    c.in_ok-note_move.ensures ∙ ap (λ k. with_indices k (unit_of_move c.done-item.result)) c.loop-done.invariant
    ∙ sym (moves-more c.args.self.now c.args.moves.now c.loop-done.done-index c.done-item.result c.loop-done-test.true c.done-item.is)
