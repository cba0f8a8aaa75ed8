use Rattle.unit_levels.proofs.Laws.{settled-stays, levels-meet, many-show, levels-are-whole}
use Rattle.unit_levels.proofs.results_by_levels.Goals as goal

pub returns-clause-settled : goal.returns-clause-settled
returns-clause-settled g c = settled-stays

pub returns-clause-meet : goal.returns-clause-meet
returns-clause-meet g c = levels-meet

pub returns-clause-many : goal.returns-clause-many
returns-clause-many g c = many-show

pub returns-clause-whole : goal.returns-clause-whole
returns-clause-whole g c = levels-are-whole
