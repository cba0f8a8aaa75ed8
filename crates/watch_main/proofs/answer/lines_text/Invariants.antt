use Rattle.std.proofs.Common.{◌≡◌, take}
use Rattle.std.specs.List.{flat_map}
use Rattle.watch_main.specs.AnswerText.{line_text}
use Rattle.watch_main.proofs.answer.lines_text.Given as goal

-- the lines so far
abbrev pub invariant-loop-line : goal.invariant-loop-line
invariant-loop-line l = l.text.items ≡ flat_map line_text (take l.line-index l.lines)
