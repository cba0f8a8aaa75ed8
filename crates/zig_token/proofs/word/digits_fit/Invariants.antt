use Rattle.std.proofs.Common.{◌≡◌, false, drop}
use Rattle.zig_tree.specs.TokenNumbers.{digits_fit}
use Rattle.zig_token.proofs.word.digits_fit.Given as goal

abbrev pub invariant-loop-byte : goal.invariant-loop-byte
invariant-loop-byte l = digits_fit l.base l.value l.after_digit (drop l.byte-index l.digits) ≡ digits_fit l.base 0 false l.digits
