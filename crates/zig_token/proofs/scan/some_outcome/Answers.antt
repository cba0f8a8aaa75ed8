use Rattle.zig_token.proofs.LawTexts.{outcome_some, outcome_told}
use Rattle.zig_token.proofs.scan.some_outcome.Goals as goal

pub returns-clause-some : goal.returns-clause-some
returns-clause-some c = outcome_some

pub returns-clause-told : goal.returns-clause-told
returns-clause-told c = outcome_told
