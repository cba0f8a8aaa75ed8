use Rattle.std.proofs.Common.{◌≡◌, drop}
use Rattle.diag_order.specs.Sorted.{text_in}
use Rattle.diag_order.proofs.sorting.text_in.Given as goal

abbrev pub invariant-loop-file : goal.invariant-loop-file
invariant-loop-file l = text_in (drop l.file-index l.texts) l.path ≡ text_in l.texts l.path
