use Rattle.std.proofs.Common.{arith}
use Rattle.watch_core.proofs.LimitLemmas.{total_within}
use Rattle.watch_core.proofs.session.Session.update_sole.Goals as goal

pub answer-requires-clause-total : goal.answer-requires-clause-total
answer-requires-clause-total c = total_within c.self.inside.files.entries c.self.invariant.within
