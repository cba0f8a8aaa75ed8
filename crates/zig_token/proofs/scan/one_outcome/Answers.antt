use Rattle.zig_token.proofs.LawTexts.{one_outcome}
use Rattle.zig_token.proofs.scan.one_outcome.Goals as goal

pub returns : goal.returns
returns c = one_outcome
