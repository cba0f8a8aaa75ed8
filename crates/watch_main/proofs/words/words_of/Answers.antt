use Rattle.watch_main.proofs.WordLemmas.{over_path, no_path}
use Rattle.watch_main.proofs.words.words_of.Goals as goal

pub returns-clause-served : goal.returns-clause-served
returns-clause-served c = over_path c.once_over.result _ c.in_ok-path.path c.in_ok-path.ensures c.once_over.ensures.words c.once_over.ensures.fault
