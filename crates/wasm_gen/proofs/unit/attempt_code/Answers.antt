use Rattle.trace_log.proofs.SnapshotLemmas.{AreAnswers-grows}
use Rattle.wasm_gen.proofs.Growing.{attempt-grows, if-ok}
use Rattle.wasm_gen.proofs.unit.attempt_code.Goals as goal

pub attempt_spelled_code-requires-clause-answers : goal.attempt_spelled_code-requires-clause-answers
attempt_spelled_code-requires-clause-answers g c = AreAnswers-grows _ _ _ c.is_too_long.ensures.reads.grows c.requires.answers

pub returns-then-branch-clause-attempt : goal.returns-then-branch-clause-attempt
returns-then-branch-clause-attempt g c =
    attempt-grows _ _ _ _ _ _ c.is_too_long.ensures.reads.grows c.attempt_long_code.ensures.reads.grows c.requires.one c.is_too_long.ensures.agrees c.requires.answers c.requires.instance
    (c.attempt_long_code.ensures.attempt c.args.cx.now)

pub returns-else-branch-clause-attempt : goal.returns-else-branch-clause-attempt
returns-else-branch-clause-attempt g c =
    if-ok _ _ _
    (λ a is. attempt-grows _ _ _ _ a _ c.is_too_long.ensures.reads.grows c.attempt_spelled_code.ensures.reads.grows c.requires.one c.is_too_long.ensures.agrees c.requires.answers c.requires.instance is)
    c.attempt_spelled_code.ensures.attempt
