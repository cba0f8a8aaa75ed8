-- The diagnostics at the places so far.
use Rattle.std.proofs.Common.{◌≡◌, map}
use Rattle.unit_reports.specs.LinkAnswers.{diag_at}
use Rattle.unit_reports.proofs.answer.diags_at.Given as goal

abbrev pub invariant-loop-place : goal.invariant-loop-place
invariant-loop-place l = l.diags.items ≡ map (diag_at l.code) l.yielded
