use Rattle.std.proofs.lemmas.List.Sorted.{All-permutation}
use Rattle.std.proofs.lemmas.List.Filters.{dedup_is}
use Rattle.diag_order.specs.Order.{same_line}
use Rattle.diag_order.specs.Sorted.{line_of, IsInFile}
use Rattle.diag_order.proofs.Outcome.{same_lines, rising}
use Rattle.diag_order.proofs.sorting.sorted.Goals as goal

pub placed-requires : goal.placed-requires
placed-requires c = All-permutation (IsInFile c.args.texts.now) _ _ c.sort_unstable_by.ensures.permutation c.requires

pub returns-clause-each : goal.returns-clause-each
returns-clause-each c =
    same_lines (line_of c.args.texts.now) _ _ _ _ _ c.sort_unstable_by.ensures.permutation c.in_ok-lines.ensures c.sort_unstable.ensures.permutation (dedup_is same_line _ _ c.dedup.ensures.filtered)

pub returns-clause-order : goal.returns-clause-order
returns-clause-order c =
    rising (line_of c.args.texts.now) _ _ _ _ _ c.sort_unstable_by.ensures.permutation c.in_ok-lines.ensures c.sort_unstable.ensures.permutation (dedup_is same_line _ _ c.dedup.ensures.filtered) c.sort_unstable.ensures.sorted
