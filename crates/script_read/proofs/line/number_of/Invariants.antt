use Rattle.std.proofs.Common.{◌≡◌, take}
use Rattle.script_read.specs.Words.{number_of}
use Rattle.script_read.proofs.line.number_of.Given as goal

-- the number of the digits so far
abbrev pub invariant-loop-digit : goal.invariant-loop-digit
invariant-loop-digit l = l.n ≡ number_of (take l.digit-index l.digits)
