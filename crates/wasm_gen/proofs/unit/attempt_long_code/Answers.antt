use Rattle.std.proofs.Common.{ap}
use Rattle.trace_log.specs.declared.attempt.Outcome.TheVariants as outcome
use Rattle.wasm_gen.proofs.Runs.{attempt-long}
use Rattle.wasm_gen.proofs.unit.attempt_long_code.Goals as goal

pub returns-clause-attempt : goal.returns-clause-attempt
returns-clause-attempt g c = λ a.
    attempt-long _ a c.args.instance c.requires.long _ _ c.declaration_of-decl.ensures.known c.declaration_of-decl.ensures.decl c.new.ensures (ap outcome.Done c.failed_at-failure.ensures)
