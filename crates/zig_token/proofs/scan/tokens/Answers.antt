use Rattle.zig_token.proofs.LawTexts.{call_found, call_fault, call_only}
use Rattle.zig_token.proofs.scan.tokens.Goals as goal

pub returns-clause-found : goal.returns-clause-found
returns-clause-found c = call_found c.args.text.now c.scan.result c.scan.ensures

pub returns-clause-fault : goal.returns-clause-fault
returns-clause-fault c = call_fault c.args.text.now c.scan.result c.scan.ensures

pub returns-clause-only : goal.returns-clause-only
returns-clause-only c = call_only c.args.text.now c.scan.result c.scan.ensures
