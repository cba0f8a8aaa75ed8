use Rattle.std.proofs.Common.{false}
use Rattle.type_form.specs.Pool.{Interns}
use Rattle.unit_rounds.proofs.InRound.{InRound}
use Rattle.unit_rounds.proofs.round.one_round.Given as goal

abbrev pub invariant-loop-number : goal.invariant-loop-number
invariant-loop-number g l =
    let known = g.I.Keys.known in
    record {
      interns : Interns known g.I.Keys.home g.I.Keys.fulls l.fn.p l.p false;
      in_round : InRound (known l.fn.p) (known l.p) l.answers l.fn.known l.fn.waits.items l.number l.moved l.known l.waits.items l.next;
    }
