use Rattle.zig_parse.proofs.Refusals.{never_both, one_refusal, one_reason}
use Rattle.zig_parse.proofs.laws.one_answer.Goals as goal

pub returns-clause-apart : goal.returns-clause-apart
returns-clause-apart c = never_both

pub returns-clause-token : goal.returns-clause-token
returns-clause-token c = one_refusal

pub returns-clause-reason : goal.returns-clause-reason
returns-clause-reason c = one_reason
