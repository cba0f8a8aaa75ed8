use Rattle.watch_main.proofs.WriteLemmas.{front_of_first, front_of_second, OnErr-weaken, Rose-later}
use Rattle.watch_main.proofs.answer.write_both.Goals as goal

pub returns-in-Ok-clause-err : goal.returns-in-Ok-clause-err
returns-in-Ok-clause-err g c = OnErr-weaken _ (front_of_second _ _ _ _ _ c.in-Ok.ensures.ok) c.write_all-in-Ok.ensures.err
